-- The iterates that a fixed point asks for, by what the cells of those so far store.
use Rattle.std.proofs.Common.{◌≡◌, ℕ, zero, suc, ◌<◌, ◌≤◌, List, [], length, Option, Some, None, true, false, if◌then◌else◌, option_map, slice_get, refl, sym, ap, subst, ◌∙◌, inl, arith}
use Rattle.std.specs.Prelude.{◌↔◌, reverse}
use Rattle.base_values.proofs.Cases.{by_bool, given_test}
use Rattle.domain_laws.specs.Operations.{Operations}
use Rattle.batch_meaning.specs.Values as batch
use Rattle.daig_order.specs.Asking.{inputs_of, value_of}
use Rattle.cell_names.specs.declared.frame.Point.{Point}
use Rattle.cell_names.specs.declared.frame.Point.TheVariants.{Fix}
use Rattle.cell_names.specs.Paths.{CellName}
use Rattle.cell_rows.specs.Names.{name, bare, iterate_point}
use Rattle.cell_rows.specs.Rows as plain
use Rattle.cell_rows.specs.Rows.{sites_of}
use Rattle.cell_rows.specs.Cells.{Cell, asks_row, most_row, by_row, wants_first}
use Rattle.cell_rows.specs.Claims.{rows_of}
use Rattle.cell_rows.proofs.FlatShapes.{Shaped, flat_shaped}
use Rattle.daig_demands.specs.Stops.{state_of, last_state, goes_on}
use Rattle.daig_demands.proofs.Indexing.{iterates_none}
use Rattle.daig_demands.proofs.Stopping.{wants_by_last}
use Rattle.imp_flow_rows.specs.Near.{row_in, input_name}
use Rattle.imp_flow_rows.specs.declared.input.Input.{Input}
use Rattle.imp_flow_rows.specs.Inputs.{iterate_of as iterate_in}
use Rattle.imp_flow.specs.Plans.{Plan}
use Rattle.imp_flow_rows.specs.declared.row.Row.{Row}
use Rattle.imp_flow_rows.specs.declared.row.Row.TheVariants.{Fixed}
use Rattle.daig_graph.specs.declared.value.Value.{Value}
use Rattle.daig_graph.specs.declared.value.Value.TheVariants.{State, Over}
use Rattle.loop_unroll.specs.Iterates.{iterate_of, Stops, GoesOnTo, StopsWithin}
use Rattle.daig_query.specs.declared.held.Held.{Held}
use Rattle.daig_query.specs.declared.opening.Open.{Open}
use Rattle.daig_query.specs.declared.store.Store.{Store}
use Rattle.cell_graph.specs.Same.{same_name}
use Rattle.daig_query.specs.Kept.{IsValue}
use Rattle.cell_graph.specs.Asked.{inputs}
use Rattle.daig_query.specs.Right.{found}
use Rattle.daig_query.specs.Opened.{IsAt, next_of}
use Rattle.cell_graph.proofs.Same.{same_is}
use Rattle.daig_query.proofs.Lists.{map_next}
use Rattle.daig_query.proofs.Found.{Input as Found, input_found, input_value}
use Rattle.daig_query.proofs.Stopping.{Before, nothing, some, last_snoc, goes_state, stops_state}
use Rattle.daig_query.proofs.Asked.{gather_length, same_iterate, X, I, F, r, front, asks, front_length}
use Rattle.cell_graph.proofs.Numbers.{at_member}

module _ {S : Type 0} (dom : Operations S) (plan : Plan) (store : Store S) (row : Row) (o : Open) (at : IsAt dom plan store row o) (same : (s t : S) → (dom.same s t ≡ true) ↔ (s ≡ t))
    (n : ℕ) (p : Point) (fixed : row ≡ Fixed n p) where
  abbrev pub N : CellName
  N = X dom plan store row o at

  abbrev pub J : List CellName
  J = I dom plan store row o at

  abbrev pub G : CellName → Cell S
  G = F dom plan store row o at

  abbrev pub first : ℕ → List (Cell S)
  first j = front dom plan store row o at j

  abbrev pub iterate : ℕ → Option (Value Held)
  iterate = iterate_of store.graph.cells o.inputs

  abbrev pub k : ℕ
  k = length o.inputs

  abbrev pub fix : plain.Row
  fix = plain.Fixed n (sites_of N.path) N.path p

  pub row_is : r dom plan store row o at ≡ fix
  row_is = ap (λ q. row_in N.path q) fixed

  -- the name is that of the fixed point
  point_is : N.point ≡ Fix n
  point_is = let h : Shaped N.path N.point (Some fix) = subst (λ q. Shaped N.path N.point q) (at.its_row ∙ ap Some row_is) (flat_shaped plan.engine (reverse plan.program) N.path N.point) in h.0

  pub asks_fix : (j : ℕ) → j ≤ length J → asks_row dom plan.engine fix (first j) ≡ slice_get J j
  asks_fix j h = ap (λ q. asks_row dom plan.engine q (first j)) (sym row_is) ∙ asks dom plan store row o at j h

  pub wants_before : (j : ℕ) → j < k → wants_first dom plan.engine (first j) ≡ true
  wants_before j h =
      let within : k ≤ length J = at.entry.within in
      let q = input_found dom plan store at.right o at.entry j h in
      given_test (wants_first dom plan.engine (first j)) (name N.path (iterate_point plan.engine bare n p (length (first j)))) q.0 (asks_fix j (omega arith) ∙ q.1)

  most : length J ≤ suc plan.engine.budget
  unfolding inputs inputs_of
  most =
      let t = rows_of dom plan.engine plan.program same_name in
      let h : length J ≤ t.most N = gather_length (value_of t) (t.asks N) (t.most N) [] in
      let e : t.most N ≡ suc plan.engine.budget = ap (λ q. by_row dom plan.engine q 0 (most_row dom plan.engine)) (at.its_row ∙ ap Some row_is) in
      omega arith

  pub many_inputs : k ≤ suc plan.engine.budget
  many_inputs =
      let a : k ≤ length J = at.entry.within in
      let b : length J ≤ suc plan.engine.budget = most in
      omega arith

  pub within_budget : (j : ℕ) → j < k → j ≤ plan.engine.budget
  within_budget j h =
      let a : k ≤ length J = at.entry.within in
      let b : length J ≤ suc plan.engine.budget = most in
      omega arith

  -- inputs have no index
  pub index_none : (j : ℕ) (y : CellName) → slice_get J j ≡ Some y → (G y).index ≡ 0
  unfolding inputs found
  index_none j y e =
      let named : N ≡ name N.path (Fix n) = ap (λ q. name N.path q) point_is in
      let m = at_member (inputs dom plan (name N.path (Fix n))) j y (subst (λ x. slice_get (inputs dom plan x) j ≡ Some y) named e) in
      iterates_none dom plan.engine plan.program same_name same_is at.right.checked N.path n y m

  abbrev pub B : ℕ → Option S → Type 0
  B j q = Before dom store.states at.right.single (λ s t. (same s t).0) (λ s. (same s s).1 refl) plan.engine.budget iterate j q

  -- what is before an iterate
  pub before : (j : ℕ) → j < k → B j (last_state None (first j))
  before zero h = nothing (λ i g e q. absurd (omega arith))
  before (suc i) h =
      let q = input_found dom plan store at.right o at.entry i (omega arith) in
      subst (λ v. B (suc i) v) (sym (ap (last_state None) (map_next G J i q.0 q.1) ∙ last_snoc None (first i) (G q.0))) (by q.0 q.1 q.2 q.2.cell.value refl q.2.value)
    where
      by : (y : CellName) (e : slice_get J i ≡ Some y) (q : Found dom plan store at.right o i y) (u : Value Held) → q.cell.value ≡ u → IsValue store.states u (G y) → B (suc i) (state_of (G y).value)
      by y e q (Over m chain) w v = subst (λ c. B (suc i) (state_of c)) (sym v) (nothing (λ j g a b.
          let c : j ≡ i = omega arith in
          let d : Some (Over m chain) ≡ Some (State g) = sym (input_value dom plan store at.right o i y q ∙ ap Some w) ∙ subst (λ x. iterate x ≡ Some (State g)) c b in
          absurd cc))
      by y e q (State g) w (s, a, v) =
          subst (λ c. B (suc i) (state_of c.value)) (sym v) (some i g s refl (input_value dom plan store at.right o i y q ∙ ap Some w) a (
          let z : (G y).index ≡ 0 = index_none i y e in
          sym (ap (λ (c : Cell S). c.index) v) ∙ z
          ))

  -- the next one is wanted exactly where they do not stop
  record Told (j : ℕ) : Type 0 where
    goes : wants_first dom plan.engine (first (suc j)) ≡ true → Stops plan.engine.budget iterate j → ⊥
    stops : wants_first dom plan.engine (first (suc j)) ≡ false → Stops plan.engine.budget iterate j

  told : (j : ℕ) → j < k → Told j
  told j h = by (input_found dom plan store at.right o at.entry j h)
    where
      long : length (first j) ≡ j
      long = front_length dom plan store row o at j (let w : k ≤ length J = at.entry.within in omega arith)

      step : (y : CellName) → slice_get J j ≡ Some y → wants_first dom plan.engine (first (suc j)) ≡ goes_on dom plan.engine.budget j (last_state None (first j)) (G y).value
      step y e =
          ap (wants_first dom plan.engine) (map_next G J j y e)
          ∙ wants_by_last dom plan.engine (first j) (G y) (wants_before j h)
          ∙ ap (λ m. goes_on dom plan.engine.budget m (last_state None (first j)) (G y).value) long

      of_value : (y : CellName) (e : slice_get J j ≡ Some y) (q : Found dom plan store at.right o j y) (u : Value Held) → q.cell.value ≡ u → IsValue store.states u (G y) → Told j
      of_value y e q (Over m chain) w v =
          let none : wants_first dom plan.engine (first (suc j)) ≡ false = step y e ∙ ap (λ c. goes_on dom plan.engine.budget j (last_state None (first j)) c) v in
          record {
            goes = λ a b. let c : true ≡ false = sym a ∙ none in absurd cc;
            stops = λ a. inl (Over m chain, input_value dom plan store at.right o j y q ∙ ap Some w, tt);
          }
      of_value y e q (State g) w (s, a, v) =
          let here : iterate j ≡ Some (State g) = input_value dom plan store at.right o j y q ∙ ap Some w in
          let zeroed : g.index ≡ 0 = let z : (G y).index ≡ 0 = index_none j y e in sym (ap (λ (c : Cell S). c.index) v) ∙ z in
          let next : wants_first dom plan.engine (first (suc j)) ≡ goes_on dom plan.engine.budget j (last_state None (first j)) (batch.State s) = step y e ∙ ap (λ (c : Cell S). goes_on dom plan.engine.budget j (last_state None (first j)) c.value) v in
          record {
            goes = λ b c. goes_state dom store.states at.right.single (λ s t. (same s t).0) (λ s. (same s s).1 refl) plan.engine.budget iterate j (last_state None (first j)) (before j h) g s here a zeroed (sym next ∙ b) c;
            stops = λ b. stops_state dom store.states at.right.single (λ s t. (same s t).0) (λ s. (same s s).1 refl) plan.engine.budget iterate j (last_state None (first j)) (before j h) (within_budget j h) g s here a zeroed (sym next ∙ b);
          }

      by : (y : CellName) × (slice_get J j ≡ Some y) × Found dom plan store at.right o j y → Told j
      by (y, e, q) = of_value y e q q.cell.value refl q.value

  -- none of the iterates so far but the last is where they stop
  pub going : GoesOnTo plan.engine.budget iterate k
  going i h s = (told i (omega arith)).goes (wants_before (suc i) h) s

  -- which stops they are
  pub stopped : (j : ℕ) → j < k → Stops plan.engine.budget iterate j → (suc j ≡ k) × (wants_first dom plan.engine (first k) ≡ false)
  stopped j h s =
      let last : suc j ≡ k = grind (arith, going j) in
      (last, by_bool (wants_first dom plan.engine (first (suc j))) (λ e. absurd ((told j h).goes e s)) (λ e. subst (λ m. wants_first dom plan.engine (first m) ≡ false) last e))

  pub stops_next : StopsWithin plan.engine.budget iterate k → next_of dom plan store o ≡ None
  stops_next (j, h, s) =
      let e = (stopped j h s).1 in
      sym (asks_fix k at.entry.within) ∙ ap (λ b. if b then Some (name N.path (iterate_point plan.engine bare n p (length (first k)))) else None) e

  wanted : (StopsWithin plan.engine.budget iterate k → ⊥) → (j : ℕ) → k ≡ j → wants_first dom plan.engine (first j) ≡ true
  wanted none zero e = refl
  wanted none (suc j) e = by_bool (wants_first dom plan.engine (first (suc j))) (λ h. h) (λ h.
      let w : j < k = omega arith in
      absurd (none (j, w, (told j w).stops h)))

  pub goes_next : (StopsWithin plan.engine.budget iterate k → ⊥) → iterate_in k (r dom plan store row o at) ≡ next_of dom plan store o
  goes_next none =
      ap (iterate_in k) row_is
      ∙ ap (λ q. Some (name N.path q)) (same_iterate plan.engine n p k)
      ∙ ap (λ m. Some (name N.path (iterate_point plan.engine bare n p m))) (sym (front_length dom plan store row o at k at.entry.within))
      ∙ sym (ap (λ b. if b then Some (name N.path (iterate_point plan.engine bare n p (length (first k)))) else None) (wanted none k refl))
      ∙ asks_fix k at.entry.within

  stops_where : (j : ℕ) → k ≡ j → wants_first dom plan.engine (first j) ≡ false → StopsWithin plan.engine.budget iterate k
  stops_where zero e h = absurd cc
  stops_where (suc j) e h = let w : j < k = omega arith in (j, w, (told j w).stops h)

  -- what the next one is, by whether they stop
  pub next_is : (answer : Option Input) → (StopsWithin plan.engine.budget iterate k → answer ≡ None) → ((StopsWithin plan.engine.budget iterate k → ⊥) → option_map (input_name N.path) answer ≡ iterate_in k (r dom plan store row o at)) →
      option_map (input_name N.path) answer ≡ next_of dom plan store o
  next_is answer f g = by_bool (wants_first dom plan.engine (first k)) more none
    where
      more : wants_first dom plan.engine (first k) ≡ true → option_map (input_name N.path) answer ≡ next_of dom plan store o
      more h =
          let apart : StopsWithin plan.engine.budget iterate k → ⊥ = λ (q : StopsWithin plan.engine.budget iterate k). (let c : true ≡ false = sym h ∙ (stopped q.0 q.1 q.2).1 in cc) in
          g apart ∙ goes_next apart

      none : wants_first dom plan.engine (first k) ≡ false → option_map (input_name N.path) answer ≡ next_of dom plan store o
      none h = let s = stops_where k refl h in ap (option_map (input_name N.path)) (f s) ∙ sym (stops_next s)
