-- Stores with more names, and with more cells.
use Rattle.std.proofs.Common.{◌≡◌, ℕ, ◌+◌, arith, ◌<◌, ◌≤◌, List, [], take, length, Option, Some, None, IsSome, slice_get, refl, sym, ap, subst, ◌∙◌}
use Rattle.std.specs.Prelude.{is_some}
use Rattle.std.specs.FinMap.{get}
use Rattle.std.proofs.lemmas.Option.{slice_get_within}
use Rattle.domain_laws.specs.Operations.{Operations}
use Rattle.cell_names.specs.Known.{KeepsNumbers, IsOnce}
use Rattle.cell_names.specs.Paths.{CellName, path_at}
use Rattle.cell_names.proofs.PathLemmas.{path_at-kept}
use Rattle.cell_rows.specs.Names.{name}
use Rattle.cell_rows.specs.Claims.{HasName}
use Rattle.daig_graph.specs.Cells.{Filled}
use Rattle.daig_graph.specs.Cells as graph
use Rattle.imp_flow.specs.Plans.{Plan}
use Rattle.memo_table.specs.Results.{AreResults}
use Rattle.daig_query.specs.declared.held.Held.{Held}
use Rattle.daig_query.specs.declared.opening.Open.{Open}
use Rattle.daig_query.specs.declared.store.Store.{Store}
use Rattle.cell_graph.specs.Named.{filled_at, AreNumbers}
use Rattle.daig_query.specs.Kept.{Cells, kept, IsValue, AddsFew, AddsNoCell, Grows, Lasts, Names}
use Rattle.cell_graph.specs.Asked.{inputs}
use Rattle.daig_query.specs.Right.{found, IsCellOf, IsRight}
use Rattle.daig_query.specs.Opened.{name_of, IsOpen, next_of}
use Rattle.daig_query.specs.Stale.{stale_at}
use Rattle.daig_query.proofs.StaleGrowth.{stale_grows}
use Rattle.cell_graph.proofs.Numbers.{filled_number, filled_named, numbers_grow}
use Rattle.base_values.proofs.Lists.{get_some}

pub keeps_refl : {A : Type 0} (xs : List A) → KeepsNumbers xs xs
keeps_refl xs n x e = e

pub keeps_same : {A : Type 0} (xs ys : List A) → ys ≡ xs → KeepsNumbers xs ys
keeps_same xs ys e n x h = subst (λ zs. slice_get zs n ≡ Some x) (sym e) h

pub keeps_trans : {A : Type 0} (xs ys zs : List A) → KeepsNumbers xs ys → KeepsNumbers ys zs → KeepsNumbers xs zs
keeps_trans xs ys zs h k n x e = k n x (h n x e)

pub keeps_within : {A : Type 0} (xs ys : List A) → KeepsNumbers xs ys → (n : ℕ) → n < length xs → n < length ys
keeps_within xs ys keeps n h = let p = get_some xs n h in slice_get_within ys n p.0 (keeps n p.0 p.1)

-- by options, a name has the same cell
same_option : {A : Type 0} (o p : Option A) → ((a : A) → o ≡ Some a → p ≡ Some a) → ((a : A) → p ≡ Some a → o ≡ Some a) → p ≡ o
same_option None None f g = refl
same_option None (Some a) f g = sym (g a refl)
same_option (Some a) p f g = f a refl

pub filled_same : (cells : Cells) (old new : List CellName) → IsOnce old → IsOnce new → KeepsNumbers old new →
    ((n : ℕ) (f : Filled Held) → get cells n ≡ Some f → (y : CellName) × (slice_get old n ≡ Some y)) → (x : CellName) → filled_at cells new x ≡ filled_at cells old x
filled_same cells old new once later keeps numbered x = same_option (filled_at cells old x) (filled_at cells new x) there back
  where
    there : (f : Filled Held) → filled_at cells old x ≡ Some f → filled_at cells new x ≡ Some f
    there f e = let p = filled_named cells old x f e in filled_number cells new later x p.0 (keeps p.0 x p.1) ∙ p.2

    back : (f : Filled Held) → filled_at cells new x ≡ Some f → filled_at cells old x ≡ Some f
    back f e =
        let p = filled_named cells new x f e in
        let q = numbered p.0 f p.2 in
        let same : Some q.0 ≡ Some x = sym (keeps p.0 q.0 q.1) ∙ p.1 in
        let here : slice_get old p.0 ≡ Some x = q.1 ∙ same in
        filled_number cells old once x p.0 here ∙ p.2

module _ {S : Type 0} where
  pub names_grow : (old new : Store S) → Names old new → Grows old new
  names_grow old new h = record {
    paths = h.paths;
    names = h.names;
    states = keeps_same old.states new.states h.states;
    cells = λ n f e. subst (λ g. get g.cells n ≡ Some f) (sym h.graph) e;
  }

  -- so many more, and so many after them
  pub few_trans : (a b c : Store S) (m n : ℕ) → AddsFew m a b → AddsFew n b c → AddsFew (m + n) a c
  few_trans a b c m n h k = record { states = omega (arith, h.states, k.states); operations = omega (arith, h.operations, k.operations); stale = k.stale ∙ h.stale }

  pub few_more : (a b : Store S) (m n : ℕ) → m ≤ n → AddsFew m a b → AddsFew n a b
  few_more a b m n le h = record { states = omega (arith, h.states, le); operations = omega (arith, h.operations, le); stale = h.stale }

  pub few_same : (a b : Store S) → b.states ≡ a.states → b.operations ≡ a.operations → b.stale.count ≡ a.stale.count → AddsFew 0 a b
  few_same a b states operations stale = let s = ap length states in let o = ap length operations in record { states = omega (arith, s); operations = omega (arith, o); stale = stale }

  pub names_few : (old new : Store S) → Names old new → AddsFew 0 old new
  names_few old new h = few_same old new h.states h.operations (ap (λ s. s.count) h.stale)

  pub names_no_cell : (old new : Store S) → Names old new → AddsNoCell old new
  names_no_cell old new h = record { cells = ap (λ g. g.cells) h.graph; few = few_more old new 0 1 (omega arith) (names_few old new h) }

  pub names_refl : (store : Store S) → Names store store
  names_refl store = record { paths = keeps_refl store.names.paths; names = keeps_refl store.names.names; states = refl; operations = refl; memo = refl; recent = refl; stale = refl; graph = refl }

  pub names_trans : (a b c : Store S) → Names a b → Names b c → Names a c
  names_trans a b c h k = record {
    paths = keeps_trans a.names.paths b.names.paths c.names.paths h.paths k.paths;
    names = keeps_trans a.names.names b.names.names c.names.names h.names k.names;
    states = k.states ∙ h.states;
    operations = k.operations ∙ h.operations;
    memo = k.memo ∙ h.memo;
    recent = k.recent ∙ h.recent;
    stale = k.stale ∙ h.stale;
    graph = k.graph ∙ h.graph;
  }

  pub grows_refl : (store : Store S) → Grows store store
  grows_refl store = names_grow store store (names_refl store)

  pub grows_trans : (a b c : Store S) → Grows a b → Grows b c → Grows a c
  grows_trans a b c h k = record {
    paths = keeps_trans a.names.paths b.names.paths c.names.paths h.paths k.paths;
    names = keeps_trans a.names.names b.names.names c.names.names h.names k.names;
    states = keeps_trans a.states b.states c.states h.states k.states;
    cells = λ n f e. k.cells n f (h.cells n f e);
  }

  -- a path keeps its frames, and so a name
  pub path_stays : (old new : Store S) → KeepsNumbers old.names.paths new.names.paths → (n : ℕ) → n < length old.names.paths → path_at new.names.paths n ≡ path_at old.names.paths n
  path_stays old new keeps n h = sym (path_at-kept old.names.paths new.names.paths keeps n h)

  pub name_stays : (old new : Store S) → KeepsNumbers old.names.paths new.names.paths → (o : Open) → o.name.path < length old.names.paths → name_of new o ≡ name_of old o
  name_stays old new keeps o h = ap (λ w. name w o.name.point) (path_stays old new keeps o.name.path h)

  -- with the same cells and names the same names have cells
  pub kept_alike : (old new : Store S) → new.graph.cells ≡ old.graph.cells → new.names ≡ old.names → (x : CellName) → kept new x ≡ kept old x
  kept_alike old new graph names x = ap (λ m. is_some (filled_at m new.names.names x)) graph ∙ ap (λ k. is_some (filled_at old.graph.cells k.names x)) names

module _ {S : Type 0} (dom : Operations S) (plan : Plan) where
  -- with more names the same names have cells
  pub kept_same : (old new : Store S) → IsRight dom plan old → Names old new → IsOnce new.names.names → (x : CellName) → kept new x ≡ kept old x
  kept_same old new right more once x =
      ap is_some (
      ap (λ g. filled_at g.cells new.names.names x) more.graph
      ∙ filled_same old.graph.cells old.names.names new.names.names right.once once more.names (λ n f e. let p = right.cells n f e in (p.0, p.1)) x
      )

  -- and the store is right
  pub right_named : (old new : Store S) → IsRight dom plan old → Names old new → IsOnce new.names.names → IsRight dom plan new
  right_named old new right more once = record {
    checked = right.checked;
    root = more.paths 0 [] right.root;
    once = once;
    single = subst IsOnce (sym more.states) right.single;
    kept = record { named = λ x h. right.kept.named x (sym (same x) ∙ h); closed = λ x y h m. same y ∙ right.kept.closed x y (sym (same x) ∙ h) m };
    cells = λ n f e. cell n f (subst (λ g. get g.cells n ≡ Some f) more.graph e);
    results = subst (λ m. AreResults dom new.operations new.states m.entries) (sym more.memo) (
        subst (λ states. AreResults dom new.operations states old.memo.entries) (sym more.states) (
        subst (λ operations. AreResults dom operations old.states old.memo.entries) (sym more.operations) right.results
        )
        );
    recent = subst (λ m. AreResults dom new.operations new.states m.entries) (sym more.recent) (
        subst (λ states. AreResults dom new.operations states old.recent.entries) (sym more.states) (
        subst (λ operations. AreResults dom operations old.states old.recent.entries) (sym more.operations) right.recent
        )
        );
    stale = stale_grows dom plan old.names.names new.names.names old.states new.states more.names (keeps_same old.states new.states more.states) old.stale new.stale (λ n. ap (λ s. stale_at s n) more.stale) right.stale;
  }
    where
      same : (x : CellName) → kept new x ≡ kept old x
      same = kept_same old new right more once

      cell : (n : ℕ) (f : Filled Held) → get old.graph.cells n ≡ Some f → (x : CellName) × (slice_get new.names.names n ≡ Some x) × IsCellOf dom plan new x f
      cell n f e =
          let p = right.cells n f e in (
            p.0,
            more.names n p.0 p.1,
            record {
              value = subst (λ states. IsValue states f.value (found dom plan p.0)) (sym more.states) p.2.value;
              inputs = numbers_grow old.names.names new.names.names more.names f.inputs (inputs dom plan p.0) p.2.inputs;
              owned = p.2.owned;
            },
          )

  -- what has a cell keeps it where cells are only added
  pub grows_last : (old new : Store S) → Grows old new → Lasts old new
  grows_last old new grows = record {
    paths = grows.paths;
    names = grows.names;
    there = λ n h. by n (get old.graph.cells n) refl h;
  }
    where
      by : (n : ℕ) (o : Option (Filled Held)) → get old.graph.cells n ≡ o → IsSome o → IsSome (get new.graph.cells n)
      by n None e h = absurd cc
      by n (Some f) e h = subst IsSome (sym (grows.cells n f e)) refl

  pub cells_last : (old new : Store S) → Lasts old new → (ns : List ℕ) → graph.AreCells old.graph.cells ns → graph.AreCells new.graph.cells ns
  cells_last old new lasts ns h i n e = lasts.there n (h i n e)

  -- what is open stays open
  pub open_lasts : (old new : Store S) → Lasts old new → (o : Open) → IsOpen dom plan old o → IsOpen dom plan new o
  open_lasts old new lasts o opened =
      let same : name_of new o ≡ name_of old o = name_stays old new lasts.paths o opened.path in
      record {
        path = keeps_within old.names.paths new.names.paths lasts.paths o.name.path opened.path;
        number = lasts.names o.cell (name_of old o) opened.number ∙ ap Some (sym same);
        named = subst (λ x. HasName plan.engine plan.program x) (sym same) opened.named;
        within = subst (λ x. length o.inputs ≤ length (inputs dom plan x)) (sym same) opened.within;
        numbers = subst (λ x. AreNumbers new.names.names o.inputs (take (length o.inputs) (inputs dom plan x))) (sym same) (
            numbers_grow old.names.names new.names.names lasts.names o.inputs (take (length o.inputs) (inputs dom plan (name_of old o))) opened.numbers
            );
        cells = cells_last old new lasts o.inputs opened.cells;
      }

  pub open_grows : (old new : Store S) → Grows old new → (o : Open) → IsOpen dom plan old o → IsOpen dom plan new o
  open_grows old new grows = open_lasts old new (grows_last old new grows)

  pub next_lasts : (old new : Store S) → Lasts old new → (o : Open) → IsOpen dom plan old o → next_of dom plan new o ≡ next_of dom plan old o
  next_lasts old new lasts o opened = ap (λ x. slice_get (inputs dom plan x) (length o.inputs)) (name_stays old new lasts.paths o opened.path)

  pub next_grows : (old new : Store S) → Grows old new → (o : Open) → IsOpen dom plan old o → next_of dom plan new o ≡ next_of dom plan old o
  next_grows old new grows = next_lasts old new (grows_last old new grows)
