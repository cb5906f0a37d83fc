-- What a name stores one of whose inputs is an Over.
use Rattle.std.proofs.Common.{◌≡◌, ◌≢◌, ℕ, zero, suc, ◌<◌, ◌≤◌, List, [], ◌∷◌, map, length, Option, Some, None, true, option_map, slice_get, refl, sym, ap, ap₂, subst, ◌∙◌, arith}
use Rattle.std.specs.Prelude.{◌↔◌, reverse, Result, Ok, Err, IfOk}
use Rattle.std.specs.Option.{option_and_then}
use Rattle.std.proofs.lemmas.Option.{slice_get_within, slice_get-map, same_Some}
use Rattle.domain_laws.specs.Operations.{Operations}
use Rattle.batch_meaning.specs.Values as batch
use Rattle.batch_meaning.specs.Values.{lift, lift2}
use Rattle.batch_meaning.specs.Batch.{LoopOptions}
use Rattle.cell_names.specs.declared.frame.NameFrame.{NameFrame}
use Rattle.cell_names.specs.declared.frame.Point.{Point}
use Rattle.cell_names.specs.Paths.{CellName}
use Rattle.cell_rows.specs.Cells.{Cell, asks_row, operation_row, most_row}
use Rattle.imp_flow_rows.specs.Near.{row_in}
use Rattle.imp_flow.specs.Plans.{Plan}
use Rattle.imp_flow_rows.specs.declared.input.Input.{Input}
use Rattle.imp_flow_rows.specs.declared.row.Unary.{Unary}
use Rattle.imp_flow_rows.specs.declared.row.Unary.TheVariants as one
use Rattle.imp_flow_rows.specs.declared.row.Binary.{Binary}
use Rattle.imp_flow_rows.specs.declared.row.Binary.TheVariants as two
use Rattle.imp_flow_rows.specs.declared.row.Row.{Row}
use Rattle.imp_flow_rows.specs.declared.row.Row.TheVariants.{Init, One, Two, Fixed, Joins}
use Rattle.daig_graph.specs.declared.value.Value.{Value}
use Rattle.daig_graph.specs.declared.value.Value.TheVariants.{State, Over}
use Rattle.loop_unroll.specs.Iterates.{iterate_of, value_at}
use Rattle.daig_query.specs.declared.held.Held.{Held}
use Rattle.daig_query.specs.declared.opening.Open.{Open}
use Rattle.daig_query.specs.declared.store.Store.{Store}
use Rattle.daig_query.specs.Kept.{Cells, IsValue}
use Rattle.daig_query.specs.Overs.{HasNoOver, HasNoOverAt, IsFirstOver, IsOverAt}
use Rattle.cell_graph.specs.Asked.{inputs}
use Rattle.daig_query.specs.Right.{found}
use Rattle.daig_query.specs.Opened.{IsReady}
use Rattle.daig_query.proofs.Found.{Input as Found, input_found, input_value}
use Rattle.daig_query.proofs.Fixes.{overs}
use Rattle.daig_query.proofs.Asked.{X, I, F, r, law, asks, most_inputs}
use Rattle.daig_query.proofs.Filling.{all_found, front_is_all}

abbrev IsState : {S : Type 0} → Cell S → Type 0
IsState {S} c = (s : S) × (c.value ≡ batch.State s)

module _ {S : Type 0} (dom : Operations S) (engine : LoopOptions) (n : ℕ) (z : List ℕ) where
  one_over : (op : Unary) (a : Input) (w : List NameFrame) (v : Cell S) (vs : List (Cell S)) → v.value ≡ batch.Over n z → (operation_row dom engine (row_in w (One op a)) (v ∷ vs)).value ≡ batch.Over n z
  one_over (one.Post s) a w v vs e = ap (lift _) e
  one_over (one.Assume c b) a w v vs e = ap (lift _) e
  one_over (one.Enter call) a w v vs e = ap (lift _) e
  one_over (one.Exit c) a w v vs e = ap (lift _) e

  left_over : (f : S → S → S) (a b : batch.Value S) → a ≡ batch.Over n z → lift2 f a b ≡ batch.Over n z
  left_over f a b e = ap (λ x. lift2 f x b) e

  right_over : (f : S → S → S) (a b : batch.Value S) (s : S) → a ≡ batch.State s → b ≡ batch.Over n z → lift2 f a b ≡ batch.Over n z
  right_over f a b s e h = ap₂ (lift2 f) e h

  two_left : (op : Binary) (a b : Input) (w : List NameFrame) (v u : Cell S) (vs : List (Cell S)) → v.value ≡ batch.Over n z → (operation_row dom engine (row_in w (Two op a b)) (v ∷ u ∷ vs)).value ≡ batch.Over n z
  two_left two.Join a b w v u vs e = left_over dom.join v.value u.value e
  two_left (two.Leave call) a b w v u vs e = left_over (dom.leave call.now.returning) v.value u.value e
  two_left (two.Widen thresholds) a b w v u vs e = left_over (dom.widen thresholds.now) v.value u.value e

  two_right : (op : Binary) (a b : Input) (w : List NameFrame) (v u : Cell S) (vs : List (Cell S)) → IsState v → u.value ≡ batch.Over n z → (operation_row dom engine (row_in w (Two op a b)) (v ∷ u ∷ vs)).value ≡ batch.Over n z
  two_right two.Join a b w v u vs (s, e) h = right_over dom.join v.value u.value s e h
  two_right (two.Leave call) a b w v u vs (s, e) h = right_over (dom.leave call.now.returning) v.value u.value s e h
  two_right (two.Widen thresholds) a b w v u vs (s, e) h = right_over (dom.widen thresholds.now) v.value u.value s e h

  -- The first Over among the values, at place i.
  pub over_row : (row : Row) → ((m : ℕ) (p : Point) → row ≢ Fixed m p) → (w : List NameFrame) (vs : List (Cell S)) (i : ℕ) (v : Cell S) → slice_get vs i ≡ Some v → v.value ≡ batch.Over n z →
      ((j : ℕ) (u : Cell S) → j < i → slice_get vs j ≡ Some u → IsState u) → i < most_row dom engine (row_in w row) → asks_row dom engine (row_in w row) vs ≡ None → (operation_row dom engine (row_in w row) vs).value ≡ batch.Over n z
  over_row (Init layout) f w vs i v at e before few none = absurd (omega arith)
  over_row (One op a) f w [] i v at e before few none = absurd cc
  over_row (One op a) f w (u ∷ vs) zero v at e before few none = one_over op a w u vs (subst (λ (c : Cell S). c.value ≡ batch.Over n z) (sym (same_Some u v at)) e)
  over_row (One op a) f w (u ∷ vs) (suc i) v at e before few none = absurd (omega arith)
  over_row (Two op a b) f w [] i v at e before few none = absurd cc
  over_row (Two op a b) f w (u ∷ []) i v at e before few none = absurd cc
  over_row (Two op a b) f w (u ∷ t ∷ vs) zero v at e before few none = two_left op a b w u t vs (subst (λ (c : Cell S). c.value ≡ batch.Over n z) (sym (same_Some u v at)) e)
  over_row (Two op a b) f w (u ∷ t ∷ vs) (suc zero) v at e before few none = two_right op a b w u t vs (before 0 u (omega arith) refl) (subst (λ (c : Cell S). c.value ≡ batch.Over n z) (sym (same_Some t v at)) e)
  over_row (Two op a b) f w (u ∷ t ∷ vs) (suc (suc i)) v at e before few none = absurd (omega arith)
  over_row (Fixed m p) f w vs i v at e before few none = absurd (f m p refl)
  over_row (Joins s l m p) f w [] i v at e before few none = absurd cc
  over_row (Joins s l m p) f w (u ∷ []) zero v at e before few none = subst (λ (c : Cell S). c.value ≡ batch.Over n z) (sym (same_Some u v at)) e
  over_row (Joins s l m p) f w (u ∷ []) (suc i) v at e before few none = absurd cc
  over_row (Joins s l m p) f w (u ∷ t ∷ vs) zero v at e before few none = left_over dom.join u.value t.value (subst (λ (c : Cell S). c.value ≡ batch.Over n z) (sym (same_Some u v at)) e)
  over_row (Joins s l m p) f w (u ∷ t ∷ vs) (suc zero) v at e before few none =
      let first = before 0 u (omega arith) refl in
      right_over dom.join u.value t.value first.0 first.1 (subst (λ (c : Cell S). c.value ≡ batch.Over n z) (sym (same_Some t v at)) e)
  over_row (Joins s l m p) f w (u ∷ t ∷ vs) (suc (suc i)) v at e before few none = absurd (omega arith)

-- an iterate that has a value is among the numbers
within : (cells : Cells) (numbers : List ℕ) (i : ℕ) (u : Value Held) → iterate_of cells numbers i ≡ Some u → i < length numbers
within cells numbers i u e = by (slice_get numbers i) refl e
  where
    by : (o : Option ℕ) → slice_get numbers i ≡ o → option_and_then (value_at cells) o ≡ Some u → i < length numbers
    by None h k = absurd cc
    by (Some n) h k = slice_get_within numbers i n h

module _ {S : Type 0} (dom : Operations S) (plan : Plan) (store : Store S) (row : Row) (o : Open) (ready : IsReady dom plan store row o) (same : (s t : S) → (dom.same s t ≡ true) ↔ (s ≡ t)) where
  abbrev all : List CellName
  all = I dom plan store row o ready.at

  abbrev value : CellName → Cell S
  value = F dom plan store row o ready.at

  abbrev named : CellName
  named = X dom plan store row o ready.at

  asks_none : asks_row dom plan.engine (r dom plan store row o ready.at) (map value all) ≡ None
  asks_none =
      ap (λ xs. asks_row dom plan.engine (r dom plan store row o ready.at) (map value xs)) (sym (front_is_all dom plan store row o ready))
      ∙ asks dom plan store row o ready.at (length o.inputs) ready.at.entry.within
      ∙ ready.complete

  value_is : value named ≡ operation_row dom plan.engine (r dom plan store row o ready.at) (map value all)
  unfolding inputs found
  value_is = (law dom plan store row o ready.at).value

  -- the name has the first Over among its inputs
  pub over_value : (n : ℕ) (chain : List ℕ) → IsFirstOver store.graph.cells o.inputs n chain → (value named).value ≡ batch.Over n (reverse chain)
  over_value n chain h = by row refl
    where
      i : ℕ
      i = h.place

      there : i < length o.inputs
      there = within store.graph.cells o.inputs i (Over n chain) h.here

      plain : ((m : ℕ) (p : Point) → row ≢ Fixed m p) → (value named).value ≡ batch.Over n (reverse chain)
      plain f =
          let q = input_found dom plan store ready.at.right o ready.at.entry i there in
          let w : q.2.cell.value ≡ Over n chain = same_Some q.2.cell.value (Over n chain) (sym (input_value dom plan store ready.at.right o i q.0 q.2) ∙ h.here) in
          let v : (value q.0).value ≡ batch.Over n (reverse chain) = subst (λ u. IsValue store.states u (value q.0)) w q.2.value in
          let few : length all ≤ most_row dom plan.engine (r dom plan store row o ready.at) = most_inputs dom plan store row o ready.at in
          let same_length : length o.inputs ≡ length all = all_found dom plan store row o ready in
          ap (λ (c : Cell S). c.value) value_is
          ∙ over_row dom plan.engine n (reverse chain) row f named.path (map value all) i (value q.0) (slice_get-map value all i ∙ ap (option_map value) q.1) v before (let t : i < length o.inputs = there in omega arith) asks_none
        where
          before : (j : ℕ) (u : Cell S) → j < i → slice_get (map value all) j ≡ Some u → IsState u
          before j u l e = of_value p.2.cell.value refl p.2.value
            where
              p : (x : CellName) × (slice_get all j ≡ Some x) × Found dom plan store ready.at.right o j x
              p = input_found dom plan store ready.at.right o ready.at.entry j (let t : i < length o.inputs = there in omega arith)

              is : value p.0 ≡ u
              is = same_Some (value p.0) u (sym (slice_get-map value all j ∙ ap (option_map value) p.1) ∙ e)

              of_value : (t : Value Held) → p.2.cell.value ≡ t → IsValue store.states t (value p.0) → IsState u
              of_value (Over m w) k v = absurd (h.before j m w l (input_value dom plan store ready.at.right o j p.0 p.2 ∙ ap Some k))
              of_value (State g) k (s, a, v) = (s, ap (λ (c : Cell S). c.value) (sym is ∙ v))

      by : (q : Row) → row ≡ q → (value named).value ≡ batch.Over n (reverse chain)
      by (Fixed m p) e = overs dom plan store row o ready same m p e i there n chain h.here
      by (Init layout) e = plain (λ m p k. let c : Init layout ≡ Fixed m p = sym e ∙ k in absurd cc)
      by (One op a) e = plain (λ m p k. let c : One op a ≡ Fixed m p = sym e ∙ k in absurd cc)
      by (Two op a b) e = plain (λ m p k. let c : Two op a b ≡ Fixed m p = sym e ∙ k in absurd cc)
      by (Joins s l m p) e = plain (λ k q t. let c : Joins s l m p ≡ Fixed k q = sym e ∙ t in absurd cc)

pub first_along : {cells : Cells} {xs ys : List ℕ} {n : ℕ} {chain : List ℕ} → xs ≡ ys → IsFirstOver cells xs n chain → IsFirstOver cells ys n chain
first_along {cells} {xs} {ys} {n} {chain} e h = subst (λ zs. IsFirstOver cells zs n chain) e h

pub over_passed : {S E : Type 0} (states : List S) (r : Result (Value Held) E) (n : ℕ) (chain : List ℕ) (c : Cell S) → IfOk r (λ v. v ≡ Over n chain) → c.value ≡ batch.Over n (reverse chain) → IfOk r (λ v. IsValue states v c)
over_passed states (Ok v) n chain c e h = subst (λ u. IsValue states u c) (sym e) h
over_passed states (Err x) n chain c e h = tt

-- Of two values read from left to right.
pub none_of_two : (cells : Cells) (numbers : List ℕ) → HasNoOverAt cells numbers 0 → HasNoOverAt cells numbers 1 → HasNoOver cells numbers 2
none_of_two cells numbers left right zero n chain h = left n chain
none_of_two cells numbers left right (suc zero) n chain h = right n chain
none_of_two cells numbers left right (suc (suc i)) n chain h = absurd (omega arith)

pub first_left : (cells : Cells) (numbers : List ℕ) (n : ℕ) (chain : List ℕ) → IsOverAt cells numbers 0 n chain → IsFirstOver cells numbers n chain
first_left cells numbers n chain h = record { place = 0; here = h; before = λ i m z l e. absurd (omega arith) }

pub first_right : (cells : Cells) (numbers : List ℕ) (n : ℕ) (chain : List ℕ) → HasNoOverAt cells numbers 0 → IsOverAt cells numbers 1 n chain → IsFirstOver cells numbers n chain
first_right cells numbers n chain left h = record { place = 1; here = h; before = before }
  where
    before : HasNoOver cells numbers 1
    before zero m z l = left m z
    before (suc i) m z l = absurd (omega arith)

-- A row that is no fixed point has at most two inputs.
pub two_inputs : {S : Type 0} (dom : Operations S) (plan : Plan) (store : Store S) (row : Row) (o : Open) (ready : IsReady dom plan store row o) → ((m : ℕ) (p : Point) → row ≢ Fixed m p) → length o.inputs ≤ 2
two_inputs dom plan store row o ready plain =
    let few = most_inputs dom plan store row o ready.at in
    let same = all_found dom plan store row o ready in
    let two = at_most (X dom plan store row o ready.at).path row plain in
    omega arith
  where
    at_most : (w : List NameFrame) (q : Row) → ((m : ℕ) (p : Point) → q ≢ Fixed m p) → most_row dom plan.engine (row_in w q) ≤ 2
    at_most w (Init layout) f = omega arith
    at_most w (One op a) f = omega arith
    at_most w (Two op a b) f = omega arith
    at_most w (Fixed m p) f = absurd (f m p refl)
    at_most w (Joins s l m p) f = omega arith

pub none_of_all : {S : Type 0} (dom : Operations S) (plan : Plan) (store : Store S) (row : Row) (o : Open) → IsReady dom plan store row o → ((m : ℕ) (p : Point) → row ≢ Fixed m p) → HasNoOver store.graph.cells o.inputs 2 → HasNoOver store.graph.cells o.inputs (length o.inputs)
none_of_all dom plan store row o ready plain none i n chain h = let few = two_inputs dom plan store row o ready plain in none i n chain (omega arith)
