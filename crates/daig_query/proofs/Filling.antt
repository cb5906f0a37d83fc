-- One cell more.
use Rattle.std.proofs.Common.{◌≡◌, ◌≢◌, ℕ, suc, ◌+◌, ◌≤◌, ◌||◌, [], take, length, Option, Some, None, true, false, cond, slice_get, refl, sym, ap, subst, ◌∙◌, inl, inr, arith}
use Rattle.std.specs.Prelude.{is_some, IsSome, Result, Ok, Err, IfOk, OnOk, OnErr}
use Rattle.std.proofs.Math.Seq.{take-length}
use Rattle.std.specs.Option.{option_and_then}
use Rattle.std.specs.Cmp.{nat_cmp_total}
use Rattle.std.specs.FinMap.{get, insert, len, len-insert, contains_key}
use Rattle.base_values.proofs.Cases.{by_bool}
use Rattle.domain_laws.specs.Operations.{Operations}
use Rattle.daig_order.specs.Order.{member}
use Rattle.cell_names.specs.Known.{IsOnce}
use Rattle.cell_names.specs.Paths.{CellName}
use Rattle.cell_rows.specs.Claims.{HasName}
use Rattle.cell_kept_set.specs.Touched as touched
use Rattle.imp_flow.specs.Plans.{Plan}
use Rattle.memo_table.specs.Results.{AreResults}
use Rattle.daig_graph.specs.Cells.{AreCells, Filled}
use Rattle.daig_graph.proofs.Maps.{get-insert-here, get-insert-other}
use Rattle.daig_query.specs.declared.held.Held.{Held}
use Rattle.imp_flow_rows.specs.declared.row.Row.{Row}
use Rattle.daig_query.specs.declared.opening.Open.{Open}
use Rattle.daig_query.specs.declared.store.Store.{Store}
use Rattle.cell_graph.specs.Same.{same_name}
use Rattle.cell_graph.specs.Named.{filled_at, number_of, AreNumbers}
use Rattle.daig_query.specs.Kept.{kept, IsValue, Grows}
use Rattle.cell_graph.specs.Asked.{inputs}
use Rattle.daig_query.specs.Right.{found, IsCellOf, IsRight}
use Rattle.daig_query.specs.Opened.{name_of, next_of, IsOpen, IsReady, Puts, Computes}
use Rattle.daig_query.specs.Stale.{stale_at}
use Rattle.cell_graph.proofs.Same.{same_is}
use Rattle.daig_query.proofs.Growing.{few_more, few_same, few_trans, keeps_refl, keeps_same, grows_trans, kept_alike}
use Rattle.daig_query.proofs.StaleGrowth.{stale_grows}
use Rattle.cell_graph.proofs.Numbers.{number_there, filled_number, numbers_of, member_at}
use Rattle.std.proofs.lemmas.Bool.{or_cases, or_right, or_left, cases_eq as same_number}
use Rattle.std.proofs.lemmas.Option.{same_Some}
use Rattle.base_values.proofs.Lists.{none_past}
use mathlib.Core.Bool.{or-false}

pub on_ok : {A E P Q : Type 0} (r : Result A E) → OnOk r P → (P → Q) → OnOk r Q
on_ok (Ok a) h f = f h
on_ok (Err e) h f = tt

pub if_ok : {A E : Type 0} {P Q : A → Type 0} (r : Result A E) → IfOk r P → ((x : A) → P x → Q x) → IfOk r Q
if_ok (Ok a) h f = f a h
if_ok (Err e) h f = tt

pub ok_always : {A E P : Type 0} (r : Result A E) → P → OnOk r P
ok_always (Ok a) h = h
ok_always (Err e) h = tt

pub err_always : {A E P : Type 0} (r : Result A E) → P → OnErr r P
err_always (Ok a) h = tt
err_always (Err e) h = h

pub on_err : {A E P Q : Type 0} (r : Result A E) → OnErr r P → (P → Q) → OnErr r Q
on_err (Ok a) h f = tt
on_err (Err e) h f = f h

module _ {S : Type 0} (dom : Operations S) (plan : Plan) where
  module _ (store : Store S) (o : Open) (opened : IsOpen dom plan store o) (complete : next_of dom plan store o ≡ None) where
    -- all inputs are found
    complete_found : length o.inputs ≡ length (inputs dom plan (name_of store o))
    complete_found =
        let all = inputs dom plan (name_of store o) in
        let within : length o.inputs ≤ length all = opened.within in
        let past : length all ≤ length o.inputs = none_past all (length o.inputs) complete in
        omega arith

    complete_front : take (length o.inputs) (inputs dom plan (name_of store o)) ≡ inputs dom plan (name_of store o)
    complete_front = let all = inputs dom plan (name_of store o) in ap (λ m. take m all) complete_found ∙ take-length all

    -- so these are their numbers
    pub complete_numbers : AreNumbers store.names.names o.inputs (inputs dom plan (name_of store o))
    complete_numbers = subst (λ xs. AreNumbers store.names.names o.inputs xs) complete_front opened.numbers

  -- the same where its row is known
  pub all_found : (store : Store S) (row : Row) (o : Open) → IsReady dom plan store row o → length o.inputs ≡ length (inputs dom plan (name_of store o))
  all_found store row o ready = complete_found store o ready.at.entry ready.complete

  pub front_is_all : (store : Store S) (row : Row) (o : Open) → IsReady dom plan store row o → take (length o.inputs) (inputs dom plan (name_of store o)) ≡ inputs dom plan (name_of store o)
  front_is_all store row o ready = complete_front store o ready.at.entry ready.complete

  pub ready_numbers : (store : Store S) (row : Row) (o : Open) → IsReady dom plan store row o → AreNumbers store.names.names o.inputs (inputs dom plan (name_of store o))
  ready_numbers store row o ready = complete_numbers store o ready.at.entry ready.complete

  -- a name that has no cell has none under its number
  pub absent_get : (store : Store S) → IsRight dom plan store → (n : ℕ) (x : CellName) → slice_get store.names.names n ≡ Some x → kept store x ≡ false → get store.graph.cells n ≡ None
  absent_get store right n x e h = go (get store.graph.cells n) refl
    where
      go : (o : Option (Filled Held)) → get store.graph.cells n ≡ o → o ≡ None
      go None k = refl
      go (Some f) k =
          let a : kept store x ≡ true = ap is_some (filled_number store.graph.cells store.names.names right.once x n e ∙ k) in
          let c : true ≡ false = sym a ∙ h in
          absurd cc

  -- a store that stays computes nothing
  pub computes_refl : (store : Store S) → IsRight dom plan store → Computes dom plan store store
  computes_refl store right = record { cells = refl; names = refl; states = keeps_refl store.states; right = right; few = few_more store store 0 1 (omega arith) (few_same store store refl refl refl) }

  pub computes_grow : (old new : Store S) → Computes dom plan old new → Grows old new
  computes_grow old new h = record {
    paths = keeps_same old.names.paths new.names.paths (ap (λ k. k.paths) h.names);
    names = keeps_same old.names.names new.names.names (ap (λ k. k.names) h.names);
    states = h.states;
    cells = λ n f e. subst (λ m. get m n ≡ Some f) (sym h.cells) e;
  }

  pub computes_kept : (old new : Store S) → Computes dom plan old new → (y : CellName) → kept new y ≡ kept old y
  computes_kept old new h = kept_alike old new h.cells h.names

  module _ (mid new : Store S) (right : IsRight dom plan mid) (n : ℕ) (x : CellName) (f : Filled Held)
      (number : slice_get mid.names.names n ≡ Some x) (absent : get mid.graph.cells n ≡ None) (has : HasName plan.engine plan.program x) (is : IsCellOf dom plan mid x f) (there : AreCells mid.graph.cells f.inputs)
      (names : new.names ≡ mid.names) (states : new.states ≡ mid.states) (operations : new.operations ≡ mid.operations) (memo : new.memo ≡ mid.memo) (recent : new.recent ≡ mid.recent) (stale : (q : ℕ) → stale_at new.stale q ≡ stale_at mid.stale q) (count : new.stale.count ≡ mid.stale.count) (cells : new.graph.cells ≡ insert mid.graph.cells n f) where
    here : get new.graph.cells n ≡ Some f
    here = ap (λ m. get m n) cells ∙ get-insert-here mid.graph.cells n f

    other : (q : ℕ) → q ≢ n → get new.graph.cells q ≡ get mid.graph.cells q
    other q h = ap (λ m. get m q) cells ∙ get-insert-other mid.graph.cells n f q h

    same_names : (y : CellName) → filled_at new.graph.cells new.names.names y ≡ filled_at new.graph.cells mid.names.names y
    same_names y = ap (λ k. filled_at new.graph.cells k.names y) names

    adds : (y : CellName) → kept new y ≡ (kept mid y || same_name y x)
    adds y = ap is_some (same_names y) ∙ by_bool (same_name y x) is_it is_not
      where
        P : Type 0
        P = is_some (filled_at new.graph.cells mid.names.names y) ≡ (kept mid y || same_name y x)

        is_it : same_name y x ≡ true → P
        is_it h =
            let e : y ≡ x = same_is.same_true y x h in
            let a : filled_at new.graph.cells mid.names.names y ≡ Some f = filled_number new.graph.cells mid.names.names right.once y n (number ∙ ap Some (sym e)) ∙ here in
            ap is_some a ∙ sym (or_right (kept mid y) (same_name y x) h)

        is_not : same_name y x ≡ false → P
        is_not h = ap is_some (by (number_of mid.names.names y) refl) ∙ sym (ap (λ b. kept mid y || b) h ∙ or-false (kept mid y))
          where
            by : (o : Option ℕ) → number_of mid.names.names y ≡ o → option_and_then (get new.graph.cells) o ≡ option_and_then (get mid.graph.cells) o
            by None e = refl
            by (Some m) e = other m (λ q.
                let a : slice_get mid.names.names m ≡ Some y = number_there mid.names.names y m e in
                let b : Some y ≡ Some x = sym a ∙ (ap (slice_get mid.names.names) q ∙ number) in
                let c : y ≡ x = same_Some y x b in
                let d : same_name y x ≡ true = subst (λ z. same_name y z ≡ true) c (same_is.same_refl y) in
                let k : true ≡ false = sym d ∙ h in
                cc)

    stays : (y : CellName) → kept mid y ≡ true → kept new y ≡ true
    stays y h = adds y ∙ or_left (kept mid y) (same_name y x) h

    grows : Grows mid new
    grows = record {
      paths = keeps_same mid.names.paths new.names.paths (ap (λ k. k.paths) names);
      names = keeps_same mid.names.names new.names.names (ap (λ k. k.names) names);
      states = keeps_same mid.states new.states states;
      cells = λ q g e. elim (same_number q n) [
        | inl h ↦ (let c : None ≡ Some g = sym (ap (get mid.graph.cells) h ∙ absent) ∙ e in absurd cc)
        | inr h ↦ other q h ∙ e
      ];
    }

    cell_of : (y : CellName) (g : Filled Held) → IsCellOf dom plan mid y g → IsCellOf dom plan new y g
    cell_of y g c = record {
      value = subst (λ s. IsValue s g.value (found dom plan y)) (sym states) c.value;
      inputs = subst (λ k. AreNumbers k.names g.inputs (inputs dom plan y)) (sym names) c.inputs;
      owned = c.owned;
    }

    named : (y : CellName) → kept new y ≡ true → HasName plan.engine plan.program y
    named y h = elim (or_cases (kept mid y) (same_name y x) (sym (adds y) ∙ h)) [
      | inl a ↦ right.kept.named y a
      | inr a ↦ subst (λ z. HasName plan.engine plan.program z) (sym (same_is.same_true y x a)) has
    ]

    input_kept : (z : CellName) → member same_name (inputs dom plan x) z ≡ true → kept new z ≡ true
    input_kept z m =
        let p = member_at (inputs dom plan x) z m in
        let q = numbers_of mid.names.names f.inputs (inputs dom plan x) is.inputs p.0 z p.1 in
        let s : IsSome (get mid.graph.cells q.0) = there p.0 q.0 q.1 in
        stays z (ap is_some (filled_number mid.graph.cells mid.names.names right.once z q.0 q.2) ∙ s)

    closed : (y z : CellName) → kept new y ≡ true → member same_name (inputs dom plan y) z ≡ true → kept new z ≡ true
    unfolding inputs
    closed y z h m = elim (or_cases (kept mid y) (same_name y x) (sym (adds y) ∙ h)) [
      | inl a ↦ stays z (right.kept.closed y z a m)
      | inr a ↦ input_kept z (subst (λ v. member same_name (inputs dom plan v) z ≡ true) (same_is.same_true y x a) m)
    ]

    at_cell : (q : ℕ) (g : Filled Held) → get new.graph.cells q ≡ Some g → (y : CellName) × (slice_get new.names.names q ≡ Some y) × IsCellOf dom plan new y g
    at_cell q g e = elim (same_number q n) [
      | inl h ↦ (
          let k : f ≡ g = same_Some f g (sym here ∙ (ap (get new.graph.cells) (sym h) ∙ e)) in
          (x, ap (λ k. slice_get k.names q) names ∙ (ap (slice_get mid.names.names) h ∙ number), cell_of x g (subst (IsCellOf dom plan mid x) k is)))
      | inr h ↦ (
          let p = right.cells q g (sym (other q h) ∙ e) in
          (p.0, ap (λ k. slice_get k.names q) names ∙ p.1, cell_of p.0 g p.2))
    ]

    set : touched.AreCells dom plan.engine plan.program same_name (kept new)
    unfolding inputs
    set = record { named = named; closed = closed }

    results : AreResults dom new.operations new.states new.memo.entries
    results = subst (λ m. AreResults dom new.operations new.states m.entries) (sym memo) (
        subst (λ s. AreResults dom new.operations s mid.memo.entries) (sym states) (
        subst (λ p. AreResults dom p mid.states mid.memo.entries) (sym operations) right.results
        )
        )

    recent_results : AreResults dom new.operations new.states new.recent.entries
    recent_results = subst (λ m. AreResults dom new.operations new.states m.entries) (sym recent) (
        subst (λ s. AreResults dom new.operations s mid.recent.entries) (sym states) (
        subst (λ p. AreResults dom p mid.states mid.recent.entries) (sym operations) right.recent
        )
        )

    right_new : IsRight dom plan new
    right_new = record {
      checked = right.checked;
      root = subst (λ k. slice_get k.paths 0 ≡ Some []) (sym names) right.root;
      once = subst (λ k. IsOnce k.names) (sym names) right.once;
      single = subst IsOnce (sym states) right.single;
      kept = set;
      cells = at_cell;
      results = results;
      recent = recent_results;
      stale = stale_grows dom plan mid.names.names new.names.names mid.states new.states grows.names grows.states mid.stale new.stale stale right.stale;
    }

    one_more : len new.graph.cells ≡ suc (len mid.graph.cells)
    one_more =
        let a : contains_key mid.graph.cells n ≡ false = ap is_some absent in
        ap len cells ∙ len-insert nat_cmp_total mid.graph.cells n f ∙ ap (λ b. cond b (len mid.graph.cells) (len mid.graph.cells + 1)) a ∙ (let h : len mid.graph.cells + 1 ≡ suc (len mid.graph.cells) = omega arith in h)

    pub puts : (old : Store S) → Computes dom plan old mid → Puts dom plan old new x
    puts old c = record {
      right = right_new;
      grows = grows_trans old mid new (computes_grow old mid c) grows;
      adds = λ y. adds y ∙ ap (λ b. b || same_name y x) (computes_kept old mid c y);
      count = one_more ∙ ap (λ m. suc (len m)) c.cells;
      few = few_trans old mid new 1 0 c.few (few_same mid new states operations count);
    }
