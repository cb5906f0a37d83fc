-- Stores that are swept: the same names have cells, walks stay good, and what is right stays right.
use Rattle.std.proofs.Common.{◌≡◌, ℕ, suc, ◌<◌, ◌≤◌, Option, Some, None, is_some, length, List, [], ◌⊎◌, inl, inr, refl, sym, ap, subst, ◌∙◌, arith, option_map, slice_get, Bool, true}
use Rattle.std.specs.Option.{option_and_then}
use Rattle.std.specs.FinMap.{get}
use Rattle.domain_laws.specs.Operations.{Operations}
use Rattle.cell_names.specs.Known.{IsOnce, Known}
use Rattle.cell_names.specs.Paths.{CellName}
use Rattle.cell_rows.specs.Cells.{Cell}
use Rattle.cell_rows.specs.Targets.{Target}
use Rattle.daig_graph.specs.Cells.{Filled}
use Rattle.daig_graph.specs.declared.value.Value.{Value}
use Rattle.daig_graph.specs.declared.value.Value.TheVariants.{State, Over}
use Rattle.imp_flow.specs.Plans.{Plan}
use Rattle.loop_unroll.specs.Iterates.{state_in}
use Rattle.memo_table.specs.Results.{AreResults}
use Rattle.memo_table.specs.declared.operation.Operation.{Operation}
use Rattle.state_table.specs.Marks.{marked_states, rank, states_in, IsMarked}
use Rattle.state_table.specs.Numbers.{AreOnce}
use Rattle.state_table.proofs.MarkLemmas.{marked-at}
use Rattle.cell_graph.specs.Named.{AreNumbers, filled_at, number_of}
use Rattle.cell_graph.specs.Asked.{inputs}
use Rattle.daig_query.specs.declared.held.Held.{Held}
use Rattle.daig_query.specs.declared.store.Store.{Store}
use Rattle.daig_query.specs.Kept.{Cells, kept, IsValue, Lasts}
use Rattle.daig_query.specs.Right.{found, IsCellOf, IsRight}
use Rattle.daig_query.specs.Filled.{cells_added, Fills}
use Rattle.daig_query.specs.Claims.{Lessens}
use Rattle.daig_query.specs.Swept.{held_by, most_held, renumbered, renumbered_value, AreKnown, AreMarked, AreRenumbered, FillsFew, IsBounded, IsInTables, IsWithin, StaysRight, Swept}
use Rattle.daig_query.specs.Stale.{IsFresh}
use Rattle.daig_query.proofs.Growing.{few_more, few_same, keeps_same}
use Rattle.daig_query.proofs.StaleGrowth.{none_stale}
use Rattle.std.proofs.lemmas.Bool.{cases_lt}
use Rattle.base_values.proofs.Lists.{get_some}
use Rattle.std.proofs.lemmas.List.{length-map}
use Rattle.std.proofs.lemmas.Option.{same_Some, slice_get_within}
use Rattle.daig_query.proofs.Sweeping.{holder}

some-map : {A B : Type 0} (f : A → B) (o : Option A) → is_some (option_map f o) ≡ is_some o
some-map f None = refl
some-map f (Some a) = refl

-- the same number changes nothing
same-number : (o : Option (Filled Held)) → o ≡ option_map (renumbered (λ n. n)) o
same-number None = refl
same-number (Some f) = by f.value refl
  where
    by : (v : Value Held) → f.value ≡ v → Some f ≡ Some (renumbered (λ n. n) f)
    by (State h) is = ap (λ v. Some (record f { value = v })) is ∙ ap (λ v. Some (record f { value = renumbered_value (λ n. n) v })) (sym is)
    by (Over n chain) is = ap (λ v. Some (record f { value = v })) is ∙ ap (λ v. Some (record f { value = renumbered_value (λ n. n) v })) (sym is)

module _ {S : Type 0} where
  pub swept-refl : (store : Store S) → Swept store store
  swept-refl store = record { names = refl; number = λ n. n; cells = λ n. same-number (get store.graph.cells n); same_len = refl; states = λ n h e. refl; stale = refl }

  module _ (old new : Store S) (swept : Swept old new) where
    same_there : (n : ℕ) → is_some (get new.graph.cells n) ≡ is_some (get old.graph.cells n)
    same_there n = ap is_some (swept.cells n) ∙ some-map (renumbered swept.number) (get old.graph.cells n)

    -- the same names have cells
    pub swept-kept : (x : CellName) → kept new x ≡ kept old x
    swept-kept x = ap (λ (k : Known). is_some (filled_at new.graph.cells k.names x)) swept.names ∙ by (number_of old.names.names x)
      where
        by : (o : Option ℕ) → is_some (option_and_then (get new.graph.cells) o) ≡ is_some (option_and_then (get old.graph.cells) o)
        by None = refl
        by (Some n) = same_there n

    pub swept-lasts : Lasts old new
    swept-lasts = record {
      paths = keeps_same old.names.paths new.names.paths (ap (λ k. k.paths) swept.names);
      names = keeps_same old.names.names new.names.names (ap (λ k. k.names) swept.names);
      there = λ n h. same_there n ∙ h;
    }

-- the cell that stands for another's
moved : (number : ℕ → ℕ) (o : Option (Filled Held)) (f : Filled Held) → option_map (renumbered number) o ≡ Some f → (e : Filled Held) × (o ≡ Some e) × (renumbered number e ≡ f)
moved number None f h = absurd cc
moved number (Some e) f h = (e, refl, same_Some (renumbered number e) f h)

-- and each state stands in the new table
module _ {S : Type 0} (old new : Store S) (swept : Swept old new) (held : IsInTables old) where
  swept-known : (n : ℕ) (h : Held) (e : Filled Held) → get old.graph.cells n ≡ Some e → (v : Value Held) → e.value ≡ v → renumbered_value swept.number v ≡ State h → h.state < length new.states
  swept-known n h e at (State k) is same =
      let holds : held_by old.graph.cells n ≡ Some k = ap (λ o. state_in (option_map (λ (f : Filled Held). f.value) o)) at ∙ ap (λ v. state_in (Some v)) is in
      let s = get_some old.states k.state (held.known n k holds) in
      let there = slice_get_within new.states (swept.number k.state) s.0 (swept.states n k holds ∙ s.1) in
      let number : swept.number k.state ≡ h.state = ap (λ (j : Held). j.state) (same_Some _ _ (ap (λ v. state_in (Some v)) same)) in
      subst (λ m. m < length new.states) number there
  swept-known n h e at (Over m chain) is same = absurd cc

  pub swept-in-tables : IsInTables new
  swept-in-tables = record {
    named = λ n f e.
        let m = moved swept.number (get old.graph.cells n) f (sym (swept.cells n) ∙ e) in
        subst (λ (k : Known). n < length k.names) (sym swept.names) (held.named n m.0 m.1);
    known = λ n h e.
        let f = holder new.graph.cells n h e in
        let m = moved swept.number (get old.graph.cells n) f.0 (sym (swept.cells n) ∙ f.1) in
        swept-known n h m.0 m.1 m.0.value refl (ap (λ (f : Filled Held). f.value) m.2 ∙ f.2);
  }

module _ {S : Type 0} (dom : Operations S) (plan : Plan) (old new : Store S) (swept : Swept old new) (right : IsRight dom plan old) where
  value-stays : (n : ℕ) (f : Filled Held) (c : Cell S) → get old.graph.cells n ≡ Some f → (v : Value Held) → f.value ≡ v → IsValue old.states v c → IsValue new.states (renumbered_value swept.number v) c
  value-stays n f c at (State h) is value =
      let holds : held_by old.graph.cells n ≡ Some h = ap (λ o. state_in (option_map (λ f. f.value) o)) at ∙ ap (λ v. state_in (Some v)) is in
      (value.0, swept.states n h holds ∙ value.1, value.2)
  value-stays n f c at (Over m chain) is value = value

  cell-stays : (n : ℕ) (f : Filled Held) → get new.graph.cells n ≡ Some f → (x : CellName) × (slice_get new.names.names n ≡ Some x) × IsCellOf dom plan new x f
  cell-stays n f e =
      let h = moved swept.number (get old.graph.cells n) f (sym (swept.cells n) ∙ e) in
      let p = right.cells n h.0 h.1 in (
        p.0,
        ap (λ k. slice_get k.names n) swept.names ∙ p.1,
        subst (λ f. IsCellOf dom plan new p.0 f) h.2 (record {
          value = value-stays n h.0 (found dom plan p.0) h.1 h.0.value refl p.2.value;
          inputs = subst (λ (k : Known). AreNumbers k.names h.0.inputs (inputs dom plan p.0)) (sym swept.names) p.2.inputs;
          owned = p.2.owned;
        }),
      )

  -- what is right stays right where states have one number and results are right
  pub swept-right : IsOnce new.states → AreResults dom new.operations new.states new.memo.entries → AreResults dom new.operations new.states new.recent.entries → IsFresh new.stale → IsRight dom plan new
  swept-right single results recent fresh = record {
    checked = right.checked;
    root = ap (λ k. slice_get k.paths 0) swept.names ∙ right.root;
    once = subst (λ (k : Known). IsOnce k.names) (sym swept.names) right.once;
    single = single;
    kept = record { named = λ x h. right.kept.named x (sym (same x) ∙ h); closed = λ x y h m. same y ∙ right.kept.closed x y (sym (same x) ∙ h) m };
    cells = cell-stays;
    results = results;
    recent = recent;
    stale = none_stale dom plan new.names.names new.states new.stale fresh;
  }
    where
      same : (x : CellName) → kept new x ≡ kept old x
      same = swept-kept old new swept

-- what is right stands in the tables
pub right-in-tables : {S : Type 0} (dom : Operations S) (plan : Plan) (store : Store S) → IsRight dom plan store → IsInTables store
right-in-tables dom plan store right = record {
  named = λ n f e. let p = right.cells n f e in slice_get_within store.names.names n p.0 p.1;
  known = λ n h e.
      let f = holder store.graph.cells n h e in
      let p = right.cells n f.0 f.1 in
      let value = subst (λ v. IsValue store.states v (found dom plan p.0)) f.2 p.2.value in
      slice_get_within store.states h.state value.0 value.1;
}

no-results : {S : Type 0} (dom : Operations S) (operations : List Operation) (states : List S) → AreResults dom operations states []
no-results dom operations states key n c = absurd (let l : c.0 < 0 = c.1 in omega arith)

-- All that a sweep does.
module _ {S : Type 0} (old new : Store S) (entries : List (S × ℕ)) (count : ℕ) (held : IsInTables old) (size : count ≡ length old.names.names)
    (names : new.names ≡ old.names) (states_are : states_in entries ≡ old.states) (left : new.states ≡ marked_states entries)
    (marked : AreMarked old.graph.cells count entries) (moves : AreRenumbered (rank entries) count old.graph.cells new.graph.cells) (stale : new.stale.count ≡ old.stale.count) where
  named-below : (n : ℕ) (f : Filled Held) → get old.graph.cells n ≡ Some f → n < count
  named-below n f e = let below = held.named n f e in omega (arith, below, size)

  moved-at : (n : ℕ) (o : Option (Filled Held)) → get old.graph.cells n ≡ o → get new.graph.cells n ≡ option_map (renumbered (rank entries)) (get old.graph.cells n)
  moved-at n None e = by (cases_lt n count)
    where
      by : (n < count) ⊎ (count ≤ n) → get new.graph.cells n ≡ option_map (renumbered (rank entries)) (get old.graph.cells n)
      by (inl below) = moves.first n below
      by (inr above) = moves.others n above ∙ e ∙ ap (option_map (renumbered (rank entries))) (sym e)
  moved-at n (Some f) e = moves.first n (named-below n f e)

  pub sweeps : Swept old new
  sweeps = record {
    names = names;
    number = rank entries;
    cells = λ n. moved-at n (get old.graph.cells n) refl;
    same_len = moves.same_len;
    states = λ n h e.
        let f = holder old.graph.cells n h e in
        let m = marked n h (named-below n f.0 f.1) e in
        ap (λ l. slice_get l (rank entries h.state)) left ∙ marked-at entries h.state m ∙ ap (λ l. slice_get l h.state) states_are;
    stale = stale;
  }

  pub sweeps-right : (eq : S → S → Bool) → ((s : S) → eq s s ≡ true) → AreOnce eq new.states → new.memo.entries ≡ [] → new.recent.entries ≡ [] → IsFresh new.stale → (dom : Operations S) → StaysRight dom old new
  sweeps-right eq same once empty none fresh dom plan right =
      swept-right dom plan old new sweeps right
      (λ m n s e f. once m n s s e f (same s))
      (subst (AreResults dom new.operations new.states) (sym empty) (no-results dom new.operations new.states))
      (subst (AreResults dom new.operations new.states) (sym none) (no-results dom new.operations new.states))
      fresh

-- What is bounded after a sweep is so after a fill.
module _ {S : Type 0} where
  pub swept-bounded : (spare : ℕ) (store : Store S) → IsWithin (most_held spare store) store → IsBounded spare store
  swept-bounded spare store h = record { states = omega (arith, h.states); operations = omega (arith, h.operations) }

  pub empty-bounded : (spare : ℕ) (store : Store S) → store.states ≡ [] → store.operations ≡ [] → IsBounded spare store
  empty-bounded spare store states operations =
      let a : length store.states ≡ 0 = ap length states in
      let b : length store.operations ≡ 0 = ap length operations in
      record { states = omega (arith, a); operations = omega (arith, b) }

  pub filled-bounded : (spare : ℕ) (old new : Store S) → IsWithin (most_held spare old) old → FillsFew old new → IsBounded spare new
  filled-bounded spare old new h f = record {
    states = omega (arith, h.states, f.more, f.few.states, f.few.stale);
    operations = omega (arith, h.operations, f.more, f.few.operations, f.few.stale);
  }

  pub fills-few : (dom : Operations S) (plan : Plan) (ts : List Target) (old new : Store S) → Fills dom plan ts old new (cells_added old new) → FillsFew old new
  fills-few dom plan ts old new fills = record { more = omega (arith, fills.counted); few = fills.few }

  pub few-none : (store : Store S) → FillsFew store store
  few-none store = record { more = omega arith; few = few_more store store 0 (suc (cells_added store store)) (omega arith) (few_same store store refl refl refl) }

  -- a store that has fewer cells is still in the tables
  pub lessens-in-tables : (old new : Store S) → Lessens old new → IsInTables old → IsInTables new
  lessens-in-tables old new less held = record {
    named = λ n f e. subst (λ (k : Known). n < length k.names) (sym less.names) (held.named n f (less.cells n f e));
    known = λ n h e.
        let f = holder new.graph.cells n h e in
        let at = ap (λ o. state_in (option_map (λ (f : Filled Held). f.value) o)) (less.cells n f.0 f.1) ∙ ap (λ v. state_in (Some v)) f.2 in
        subst (λ l. h.state < length l) (sym less.states) (held.known n h at);
  }

module _ {S : Type 0} where
  -- states that stand in a table stand in one with the same states beside marks
  pub known-in : (cells : Cells) (states : List S) (entries : List (S × ℕ)) → states_in entries ≡ states → AreKnown cells (length states) → AreKnown cells (length entries)
  known-in cells states entries is known n h e =
      let k = known n h e in
      let same : length (states_in entries) ≡ length states = ap length is in
      let size : length (states_in entries) ≡ length entries = length-map entries (λ e. e.0) in
      omega (arith, k, same, size)

  -- what is marked is marked still where all marks stay
  pub marked-still : (cells : Cells) (count : ℕ) (old new : List (S × ℕ)) → ((n : ℕ) → IsMarked old n → IsMarked new n) → AreMarked cells count old → AreMarked cells count new
  marked-still cells count old new stay m n h below e = stay h.state (m n h below e)
