-- Stores whose cells have other numbers: the same names have cells, and what is right stays right.
use Rattle.std.proofs.Common.{◌≡◌, ℕ, suc, ◌<◌, List, [], ◌∷◌, length, map, Option, Some, None, option_map, is_some, IsSome, Bool, true, false, slice_get, refl, sym, ap, subst, ◌∙◌, arith}
use Rattle.std.specs.FinMap.{get, len}
use Rattle.std.proofs.lemmas.Option.{same_Some, slice_get_within}
use Rattle.base_values.proofs.Lists.{get_some}
use Rattle.domain_laws.specs.Operations.{Operations}
use Rattle.cell_names.specs.Known.{IsOnce}
use Rattle.cell_names.specs.Paths.{CellName}
use Rattle.daig_graph.specs.Cells.{Filled}
use Rattle.daig_graph.specs.Numbers.{renumbered, AreBelow, AreRising}
use Rattle.daig_graph.specs.Renumbered.{renumbered_cell, Renumbers}
use Rattle.imp_flow.specs.Plans.{Plan}
use Rattle.loop_unroll.specs.Iterates.{state_in}
use Rattle.memo_table.specs.Results.{AreResults}
use Rattle.cell_graph.specs.Named.{filled_at, AreNumbers}
use Rattle.cell_graph.specs.Asked.{inputs}
use Rattle.cell_graph.proofs.Numbers.{filled_named, filled_number, numbers_get}
use Rattle.daig_query.specs.declared.held.Held.{Held}
use Rattle.daig_query.specs.declared.store.Store.{Store}
use Rattle.daig_query.specs.Kept.{kept, IsValue}
use Rattle.daig_query.specs.Renamed.{AreNamedAnew, Renames}
use Rattle.daig_query.specs.Right.{found, IsCellOf, IsRight}
use Rattle.daig_query.specs.Swept.{held_by, most_held, IsInTables, IsWithin, StaysRight}
use Rattle.daig_query.specs.Stale.{IsFresh}
use Rattle.daig_query.proofs.StaleGrowth.{none_stale}
use Rattle.daig_query.proofs.Stacked.{cell_kept, input_kept}
use Rattle.daig_query.proofs.Sweeping.{holder}

some_of : {A : Type 0} (o : Option A) → IsSome o → (a : A) × (o ≡ Some a)
some_of None h = absurd cc
some_of (Some a) h = (a, refl)

same_tests : (a b : Bool) → (a ≡ true → b ≡ true) → (b ≡ true → a ≡ true) → b ≡ a
same_tests true b there back = there refl
same_tests false true there back = sym (back refl)
same_tests false false there back = refl

-- without new numbers all stay
map-none : (ns : List ℕ) → map (renumbered []) ns ≡ ns
map-none [] = refl
map-none (n ∷ ns) = ap (λ l. n ∷ l) (map-none ns)

pub renames-refl : {S : Type 0} (store : Store S) → Renames store store
renames-refl store = record {
  new_of = [];
  cells = record { there = λ n f e. e ∙ ap (λ l. Some (record f { inputs = l })) (sym (map-none f.inputs)); back = λ q g e. (q, g, e, refl) };
  same_len = refl;
  named = λ n s. refl;
  kept = λ x. refl;
  root = λ e. e;
  once = λ h. h;
  states = refl;
  operations = refl;
  memo = refl;
  recent = refl;
  stale = refl;
}

-- the cell that a cell was
cell-was : {S : Type 0} (new_of : List ℕ) (old new : Store S) → Renumbers new_of old.graph.cells new.graph.cells → (q : ℕ) (g : Filled Held) → get new.graph.cells q ≡ Some g →
    (n : ℕ) × (f : Filled Held) × (get old.graph.cells n ≡ Some f) × (renumbered new_of n ≡ q) × (renumbered_cell new_of f ≡ g)
cell-was new_of old new moves q g e =
    let b = moves.back q g e in
    (b.0, b.1, b.2, b.3, same_Some _ _ (sym (moves.there b.0 b.1 b.2) ∙ ap (get new.graph.cells) b.3 ∙ e))

-- the same names have cells
module _ {S : Type 0} (old new : Store S) (new_of : List ℕ) (moves : Renumbers new_of old.graph.cells new.graph.cells)
    (named : (n : ℕ) → IsSome (get old.graph.cells n) → slice_get new.names.names (renumbered new_of n) ≡ slice_get old.names.names n)
    (once : IsOnce old.names.names) (later : IsOnce new.names.names) (x : CellName) where
  kept-there : kept old x ≡ true → kept new x ≡ true
  kept-there h =
      let f = some_of (filled_at old.graph.cells old.names.names x) h in
      let p = filled_named old.graph.cells old.names.names x f.0 f.1 in
      let here = named p.0 (ap is_some p.2) ∙ p.1 in
      ap is_some (filled_number new.graph.cells new.names.names later x (renumbered new_of p.0) here ∙ moves.there p.0 f.0 p.2)

  kept-back : kept new x ≡ true → kept old x ≡ true
  kept-back h =
      let g = some_of (filled_at new.graph.cells new.names.names x) h in
      let p = filled_named new.graph.cells new.names.names x g.0 g.1 in
      let w = cell-was new_of old new moves p.0 g.0 p.2 in
      let here = sym (named w.0 (ap is_some w.2)) ∙ ap (slice_get new.names.names) w.3 ∙ p.1 in
      ap is_some (filled_number old.graph.cells old.names.names once x w.0 here ∙ w.2)

  pub kept-renamed : kept new x ≡ kept old x
  kept-renamed = same_tests (kept old x) (kept new x) kept-there kept-back

-- the new numbers are those of the same names
numbers-renamed : (new_of : List ℕ) (old new : List CellName) (ns : List ℕ) (xs : List CellName) → AreNumbers old ns xs →
    ((i m : ℕ) → slice_get ns i ≡ Some m → slice_get new (renumbered new_of m) ≡ slice_get old m) → AreNumbers new (map (renumbered new_of) ns) xs
numbers-renamed new_of old new [] [] e same = refl
numbers-renamed new_of old new [] (x ∷ xs) e same = absurd cc
numbers-renamed new_of old new (n ∷ ns) [] e same = absurd cc
numbers-renamed new_of old new (n ∷ ns) (x ∷ xs) e same =
    let a : slice_get old n ≡ Some x = cc in
    let rest : AreNumbers old ns xs = cc in
    let b : slice_get new (renumbered new_of n) ≡ Some x = same 0 n refl ∙ a in
    let more : AreNumbers new (map (renumbered new_of) ns) xs = numbers-renamed new_of old new ns xs rest (λ i m h. same (suc i) m h) in
    cc

module _ {S : Type 0} (dom : Operations S) (plan : Plan) (old new : Store S) (r : Renames old new) (fresh : IsFresh new.stale) (right : IsRight dom plan old) where
  -- an input of a cell has a cell
  input-there : (n : ℕ) (f : Filled Held) (x : CellName) → get old.graph.cells n ≡ Some f → slice_get old.names.names n ≡ Some x → AreNumbers old.names.names f.inputs (inputs dom plan x) →
      (i m : ℕ) → slice_get f.inputs i ≡ Some m → IsSome (get old.graph.cells m)
  input-there n f x at named numbers i m e =
      let y = numbers_get old.names.names f.inputs (inputs dom plan x) numbers i m e in
      let h = input_kept dom plan old right x y.0 (cell_kept dom plan old right n x named (ap is_some at)) i y.1 in
      sym (ap is_some (filled_number old.graph.cells old.names.names right.once y.0 m y.2)) ∙ h

  cell-renamed : (q : ℕ) (g : Filled Held) → get new.graph.cells q ≡ Some g → (x : CellName) × (slice_get new.names.names q ≡ Some x) × IsCellOf dom plan new x g
  cell-renamed q g e =
      let w = cell-was r.new_of old new r.cells q g e in
      let p = right.cells w.0 w.1 w.2 in (
        p.0,
        ap (slice_get new.names.names) (sym w.3) ∙ r.named w.0 (ap is_some w.2) ∙ p.1,
        subst (λ h. IsCellOf dom plan new p.0 h) w.4 (record {
          value = subst (λ states. IsValue states w.1.value (found dom plan p.0)) (sym r.states) p.2.value;
          inputs = numbers-renamed r.new_of old.names.names new.names.names w.1.inputs (inputs dom plan p.0) p.2.inputs (λ i m h. r.named m (input-there w.0 w.1 p.0 w.2 p.1 p.2.inputs i m h));
          owned = p.2.owned;
        }),
      )

  renamed-right : IsRight dom plan new
  renamed-right = record {
    checked = right.checked;
    root = r.root right.root;
    once = r.once right.once;
    single = subst IsOnce (sym r.states) right.single;
    kept = record { named = λ x h. right.kept.named x (sym (r.kept x) ∙ h); closed = λ x y h m. r.kept y ∙ right.kept.closed x y (sym (r.kept x) ∙ h) m };
    cells = cell-renamed;
    results = subst (λ m. AreResults dom new.operations new.states m.entries) (sym r.memo) (
        subst (λ states. AreResults dom new.operations states old.memo.entries) (sym r.states) (
        subst (λ operations. AreResults dom operations old.states old.memo.entries) (sym r.operations) right.results
        )
        );
    recent = subst (λ m. AreResults dom new.operations new.states m.entries) (sym r.recent) (
        subst (λ states. AreResults dom new.operations states old.recent.entries) (sym r.states) (
        subst (λ operations. AreResults dom operations old.states old.recent.entries) (sym r.operations) right.recent
        )
        );
    stale = none_stale dom plan new.names.names new.states new.stale fresh;
  }

-- what is right stays right where no cell is stale
pub renames-right : {S : Type 0} (dom : Operations S) (old new : Store S) → Renames old new → IsFresh new.stale → StaysRight dom old new
renames-right dom old new r fresh plan right = renamed-right dom plan old new r fresh right

-- each cell stands in the tables still, and as many states and operations are kept for as many cells
module _ {S : Type 0} (old new : Store S) (r : Renames old new) where
  pub renames-in-tables : IsInTables old → IsInTables new
  renames-in-tables held = record { named = named; known = known }
    where
      named : (q : ℕ) (g : Filled Held) → get new.graph.cells q ≡ Some g → q < length new.names.names
      named q g e =
          let w = cell-was r.new_of old new r.cells q g e in
          let x = get_some old.names.names w.0 (held.named w.0 w.1 w.2) in
          slice_get_within new.names.names q x.0 (ap (slice_get new.names.names) (sym w.3) ∙ r.named w.0 (ap is_some w.2) ∙ x.1)

      known : (q : ℕ) (h : Held) → held_by new.graph.cells q ≡ Some h → h.state < length new.states
      known q h e =
          let g = holder new.graph.cells q h e in
          let w = cell-was r.new_of old new r.cells q g.0 g.1 in
          let value = ap (λ (f : Filled Held). f.value) w.4 ∙ g.2 in
          let at = ap (λ o. state_in (option_map (λ (f : Filled Held). f.value) o)) w.2 ∙ ap (λ v. state_in (Some v)) value in
          subst (λ l. h.state < length l) (sym r.states) (held.known w.0 h at)

  pub renames-within : (spare : ℕ) → IsWithin (most_held spare old) old → IsWithin (most_held spare new) new
  renames-within spare h =
      let states : length new.states ≡ length old.states = ap length r.states in
      let operations : length new.operations ≡ length old.operations = ap length r.operations in
      record { states = omega (arith, h.states, states, r.same_len, r.stale); operations = omega (arith, h.operations, operations, r.same_len, r.stale) }

-- where all names of cells are written anew, the cells may be renumbered
module _ {S : Type 0} (old : Store S) (held : IsInTables old) (numbers : List ℕ) (later : List CellName) (anew : AreNamedAnew old.graph.cells old.names.names (length old.names.names) numbers later) where
  pub anew-rising : AreRising (get old.graph.cells) numbers
  anew-rising m n a b l e f = anew.rising m n l (held.named n b f) (ap is_some e) (ap is_some f)

  pub anew-below : AreBelow (get old.graph.cells) numbers
  anew-below n a e = anew.below n (held.named n a e) (ap is_some e)

  pub anew-named : (n : ℕ) → IsSome (get old.graph.cells n) → slice_get later (renumbered numbers n) ≡ slice_get old.names.names n
  anew-named n s = let f = some_of (get old.graph.cells n) s in anew.named n (held.named n f.0 f.1) s

-- what the cells have then
pub renames-all : {S : Type 0} (old new : Store S) (held : IsInTables old) (numbers : List ℕ) → AreNamedAnew old.graph.cells old.names.names (length old.names.names) numbers new.names.names →
    Renumbers numbers old.graph.cells new.graph.cells → len new.graph.cells ≡ len old.graph.cells → slice_get new.names.paths 0 ≡ Some [] → IsOnce old.names.names → IsOnce new.names.names →
    new.states ≡ old.states → new.operations ≡ old.operations → new.memo ≡ old.memo → new.recent ≡ old.recent → new.stale.count ≡ old.stale.count → Renames old new
renames-all old new held numbers anew moves same_len root once later states operations memo recent stale =
    let named = anew-named old held numbers new.names.names anew in
    record {
      new_of = numbers;
      cells = moves;
      same_len = same_len;
      named = named;
      kept = λ x. kept-renamed old new numbers moves named once later x;
      root = λ e. root;
      once = λ h. later;
      states = states;
      operations = operations;
      memo = memo;
      recent = recent;
      stale = stale;
    }
