-- Stacks of names: their names, and the first name without a cell that each waits for.
use Rattle.std.proofs.Common.{◌≡◌, ℕ, zero, suc, ◌+◌, ◌-◌, ◌<◌, ◌≤◌, ◌⊎◌, Bool, true, false, cond, not, List, [], ◌∷◌, ◌++◌, take, reverse, length, Option, Some, None, IsSome, is_some, option_map, slice_get, refl, sym, ap, subst, ◌∙◌, inl, inr, arith, length-append, append-nil}
use Rattle.std.specs.FinMap.{get}
use Rattle.std.proofs.lemmas.List.{reverse-append}
use Rattle.std.proofs.lemmas.Option.{slice_get_within, slice_get-map, same_Some}
use Rattle.base_values.proofs.Cases.{by_bool}
use Rattle.base_values.proofs.Lists.{get_last, get_some, take_next}
use Rattle.domain_laws.specs.Operations.{Operations}
use Rattle.daig_order.specs.Order.{System}
use Rattle.daig_order.specs.Store.{has, Holds, first_absent}
use Rattle.daig_order.specs.Machine.{waits}
use Rattle.cell_names.specs.Paths.{CellName}
use Rattle.cell_rows.specs.Cells.{Cell}
use Rattle.cell_rows.specs.Targets.{Target, demanded}
use Rattle.daig_demands.specs.Claims.{names_of}
use Rattle.daig_demands.specs.Walks.{asks, names_left}
use Rattle.daig_demands.specs.Walks as law
use Rattle.daig_demands.proofs.Walking.{walk_asks}
use Rattle.imp_flow.specs.Plans.{Plan}
use Rattle.cell_graph.specs.Same.{same_name}
use Rattle.cell_graph.specs.Asked.{inputs}
use Rattle.cell_graph.proofs.Numbers.{filled_number, numbers_of, member_at, at_member}
use Rattle.daig_query.specs.declared.opening.Open.{Open}
use Rattle.daig_query.specs.declared.store.Store.{Store}
use Rattle.daig_query.specs.Kept.{kept, Grows}
use Rattle.daig_query.specs.Right.{found, IsRight}
use Rattle.daig_query.specs.Opened.{name_of, IsOpen, next_of}
use Rattle.daig_query.specs.Turned.{stacked_names, AreKept}
use Rattle.daig_query.specs.Walked.{AreStacked, Stands}
use Rattle.daig_query.proofs.Growing.{name_stays}
use Rattle.daig_query.proofs.Lists.{get_take, last_view}
use Rattle.imp_flow.proofs.EnteredLemmas.{get_front}

-- the cells of a store as a function of names
abbrev pub held_of : {S : Type 0} → (CellName → Cell S) → (CellName → Bool) → CellName → Option (Cell S)
held_of value keeps x = cond (keeps x) (Some (value x)) None

module _ {S : Type 0} (value : CellName → Cell S) (keeps : CellName → Bool) where
  pub has_kept : (x : CellName) → has (held_of value keeps) x ≡ keeps x
  has_kept x = go (keeps x)
    where
      go : (b : Bool) → is_some (cond b (Some (value x)) None) ≡ b
      go true = refl
      go false = refl

  pub holds_value : Holds value (held_of value keeps)
  holds_value x v e = go (keeps x) e
    where
      go : (b : Bool) → cond b (Some (value x)) None ≡ Some v → v ≡ value x
      go true h = sym (same_Some (value x) v h)
      go false h = absurd cc

  pub held_none : (x : CellName) → held_of value keeps x ≡ None → keeps x ≡ false
  held_none x e = sym (has_kept x) ∙ ap is_some e

  step_on : (x : CellName) (xs : List CellName) → keeps x ≡ true → first_absent (held_of value keeps) (x ∷ xs) ≡ first_absent (held_of value keeps) xs
  step_on x xs h = ap (λ b. cond (not b) (Some x) (first_absent (held_of value keeps) xs)) (has_kept x ∙ h)

  -- the first name without a cell is the one after names that have cells
  pub first_at : (xs : List CellName) (k : ℕ) (x : CellName) → ((i : ℕ) (y : CellName) → i < k → slice_get xs i ≡ Some y → keeps y ≡ true) → slice_get xs k ≡ Some x → keeps x ≡ false → first_absent (held_of value keeps) xs ≡ Some x
  first_at [] k x before e h = absurd cc
  first_at (y ∷ xs) zero x before e h =
      let q : y ≡ x = same_Some y x e in
      ap (λ b. cond (not b) (Some y) (first_absent (held_of value keeps) xs)) (has_kept y ∙ (ap keeps q ∙ h)) ∙ ap Some q
  first_at (y ∷ xs) (suc k) x before e h =
      step_on y xs (before 0 y (omega arith) refl) ∙ first_at xs k x (λ i z l g. before (suc i) z (omega arith) g) e h

  pub first_none : (xs : List CellName) → ((i : ℕ) (y : CellName) → slice_get xs i ≡ Some y → keeps y ≡ true) → first_absent (held_of value keeps) xs ≡ None
  first_none [] all = refl
  first_none (y ∷ xs) all = step_on y xs (all 0 y refl) ∙ first_none xs (λ i z g. all (suc i) z g)

-- names with more names around
pub names_stay : {S : Type 0} (old new : Store S) → Grows old new → (os : List Open) → ((i : ℕ) (o : Open) → slice_get os i ≡ Some o → o.name.path < length old.names.paths) → stacked_names new os ≡ stacked_names old os
names_stay old new grows [] within = refl
names_stay old new grows (o ∷ os) within =
    ap (λ x. x ∷ stacked_names new os) (name_stays old new grows.paths o (within 0 o refl))
    ∙ ap (λ xs. name_of old o ∷ xs) (names_stay old new grows os (λ i u e. within (suc i) u e))

pub get_behind : {A : Type 0} (xs ys : List A) → slice_get (xs ++ ys) (length xs) ≡ slice_get ys 0
get_behind [] ys = refl
get_behind (x ∷ xs) ys = get_behind xs ys

module _ {S : Type 0} (dom : Operations S) (plan : Plan) (store : Store S) (right : IsRight dom plan store) where
  -- a number of a cell is that of a name that has one
  pub cell_kept : (n : ℕ) (x : CellName) → slice_get store.names.names n ≡ Some x → IsSome (get store.graph.cells n) → kept store x ≡ true
  cell_kept n x e s = ap is_some (filled_number store.graph.cells store.names.names right.once x n e) ∙ s

  -- the inputs of an open name that are found have cells
  pub found_kept : (o : Open) → IsOpen dom plan store o → (i : ℕ) (y : CellName) → i < length o.inputs → slice_get (inputs dom plan (name_of store o)) i ≡ Some y → kept store y ≡ true
  found_kept o opened i y l e =
      let p = numbers_of store.names.names o.inputs (take (length o.inputs) (inputs dom plan (name_of store o))) opened.numbers i y (get_take (inputs dom plan (name_of store o)) (length o.inputs) i l ∙ e) in
      cell_kept p.0 y p.2 (opened.cells i p.0 p.1)

  -- an open name whose next input is there waits for it
  pub open_waits : (o : Open) (x : CellName) → IsOpen dom plan store o → next_of dom plan store o ≡ Some x → kept store x ≡ false → first_absent (held_of (found dom plan) (kept store)) (inputs dom plan (name_of store o)) ≡ Some x
  open_waits o x opened next absent = first_at (found dom plan) (kept store) (inputs dom plan (name_of store o)) (length o.inputs) x (found_kept o opened) next absent

  -- where none is left, all have cells
  pub open_ready : (o : Open) → IsOpen dom plan store o → next_of dom plan store o ≡ None → AreKept store (inputs dom plan (name_of store o))
  open_ready o opened none x m =
      let p = member_at (inputs dom plan (name_of store o)) x m in
      let w : p.0 < length (inputs dom plan (name_of store o)) = slice_get_within (inputs dom plan (name_of store o)) p.0 x p.1 in
      found_kept o opened p.0 x (subst (λ n. p.0 < n) (complete o opened none) w) p.1
    where
      complete : (o : Open) → IsOpen dom plan store o → next_of dom plan store o ≡ None → length (inputs dom plan (name_of store o)) ≡ length o.inputs
      complete o opened none =
          let w : length o.inputs ≤ length (inputs dom plan (name_of store o)) = opened.within in
          grind (arith, beyond)
        where
          beyond : length o.inputs < length (inputs dom plan (name_of store o)) → ⊥
          beyond l =
              let q = get_some (inputs dom plan (name_of store o)) (length o.inputs) l in
              let c : Some q.0 ≡ None = sym q.1 ∙ none in
              cc

  -- with a name its inputs have cells
  pub input_kept : (x y : CellName) → kept store x ≡ true → (i : ℕ) → slice_get (inputs dom plan x) i ≡ Some y → kept store y ≡ true
  unfolding inputs
  input_kept x y h i e = right.kept.closed x y h (at_member (inputs dom plan x) i y e)

  module _ (ts : List Target) (k : law.Walk) (cells : List ℕ) (stands : Stands dom plan ts store k cells) where
    -- the targets wait for the name that is asked for
    pub targets_wait : (x : CellName) → asks k ≡ Some x → kept store x ≡ false → first_absent (held_of (found dom plan) (kept store)) (demanded (found dom plan) ts) ≡ Some x
    targets_wait x e absent =
        subst (λ xs. first_absent (held_of (found dom plan) (kept store)) xs ≡ Some x) (sym stands.names) (
        first_at (found dom plan) (kept store) (stands.asked ++ names_left (found dom plan) k) (length stands.asked) x
        (λ i y l g. stands.asked_kept y (at_member stands.asked i y (sym (get_front stands.asked (names_left (found dom plan) k) i l) ∙ g)))
        (get_behind stands.asked (names_left (found dom plan) k) ∙ (sym (walk_asks (found dom plan) k) ∙ e)) absent
        )

    none_left : (xs : List CellName) → slice_get xs 0 ≡ None → xs ≡ []
    none_left [] e = refl
    none_left (x ∷ xs) e = absurd cc

    -- where it asks for none, all demanded names have cells
    pub targets_kept : asks k ≡ None → (i : ℕ) (y : CellName) → slice_get (demanded (found dom plan) ts) i ≡ Some y → kept store y ≡ true
    targets_kept e i y g =
        let left : names_left (found dom plan) k ≡ [] = none_left (names_left (found dom plan) k) (sym (walk_asks (found dom plan) k) ∙ e) in
        let all : demanded (found dom plan) ts ≡ stands.asked = stands.names ∙ (ap (λ xs. stands.asked ++ xs) left ∙ append-nil stands.asked) in
        stands.asked_kept y (at_member stands.asked i y (subst (λ xs. slice_get xs i ≡ Some y) all g))

    module _ (os : List Open) (stacked : AreStacked dom plan store k os) where
      abbrev names : List CellName
      names = stacked_names store os

      pub name_at : (i : ℕ) (o : Open) → slice_get os i ≡ Some o → slice_get names i ≡ Some (name_of store o)
      name_at i o e = slice_get-map (name_of store) os i ∙ ap (option_map (name_of store)) e

      abbrev system : System CellName
      system = names_of dom plan.engine plan.program same_name

      -- each name on the stack is what those under it wait for
      pub stack_waits : (i : ℕ) (o : Open) → slice_get os i ≡ Some o → kept store (name_of store o) ≡ false →
          first_absent (held_of (found dom plan) (kept store)) (waits system (demanded (found dom plan) ts) (reverse (take i names))) ≡ Some (name_of store o)
      unfolding inputs
      stack_waits zero o e absent = targets_wait (name_of store o) (stacked.bottom o e) absent
      stack_waits (suc i) o e absent =
          let l : suc i < length os = slice_get_within os (suc i) o e in
          let p = get_some os i (omega arith) in
          let x : CellName = name_of store p.0 in
          let front : reverse (take (suc i) names) ≡ x ∷ reverse (take i names) = ap reverse (take_next names i x (name_at i p.0 p.1)) ∙ reverse-append (take i names) (x ∷ []) in
          let u = open_waits p.0 (name_of store o) (stacked.opens i p.0 p.1) (stacked.chained i p.0 o p.1 e) absent in
          ap (λ st. first_absent (held_of (found dom plan) (kept store)) (waits system (demanded (found dom plan) ts) st)) front ∙ u

      -- with a name on the stack each one above it has a cell
      kept_above : (d i : ℕ) (o u : Open) → slice_get os i ≡ Some o → slice_get os (d + i) ≡ Some u → kept store (name_of store o) ≡ true → kept store (name_of store u) ≡ true
      kept_above zero i o u e f h =
          let g : slice_get os i ≡ Some u = ap (slice_get os) (let q : i ≡ 0 + i = omega arith in q) ∙ f in
          let q : o ≡ u = same_Some o u (sym e ∙ g) in
          subst (λ v. kept store (name_of store v) ≡ true) q h
      kept_above (suc d) i o u e f h =
          let s : suc d + i ≡ suc (d + i) = omega arith in
          let f2 : slice_get os (suc (d + i)) ≡ Some u = ap (slice_get os) (sym s) ∙ f in
          let l : suc (d + i) < length os = slice_get_within os (suc (d + i)) u f2 in
          let p = get_some os (d + i) (omega arith) in
          let hp = kept_above d i o p.0 e p.1 h in
          input_kept (name_of store p.0) (name_of store u) hp (length p.0.inputs) (stacked.chained (d + i) p.0 u p.1 f2)

      -- so where the top has none, no name has one
      pub all_absent : ((rest : List Open) (u : Open) → os ≡ rest ++ u ∷ [] → kept store (name_of store u) ≡ false) → (i : ℕ) (o : Open) → slice_get os i ≡ Some o → kept store (name_of store o) ≡ false
      all_absent top i o e = by_bool (kept store (name_of store o)) (λ h. absurd (no h (last_view os))) (λ h. h)
        where
          no : kept store (name_of store o) ≡ true → (os ≡ []) ⊎ ((us : List Open) × (u : Open) × (os ≡ us ++ u ∷ [])) → ⊥
          no h (inl q) = let c : None ≡ Some o = sym (ap (λ xs. slice_get xs i) q) ∙ e in absurd cc
          no h (inr (us, u, q)) =
              let l : i < length os = slice_get_within os i o e in
              let n : length os ≡ suc (length us) = ap length q ∙ (length-append us (u ∷ []) ∙ (let m : length us + 1 ≡ suc (length us) = omega arith in m)) in
              let j : (length us - i) + i ≡ length us = omega arith in
              let f : slice_get os ((length us - i) + i) ≡ Some u = ap (slice_get os) j ∙ (ap (λ xs. slice_get xs (length us)) q ∙ get_last us u) in
              let a : kept store (name_of store u) ≡ true = kept_above (length us - i) i o u e f h in
              let c : true ≡ false = sym a ∙ top us u q in
              absurd cc
