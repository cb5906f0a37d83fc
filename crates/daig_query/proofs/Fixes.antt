-- What a fixed point stores, by what the cells of all its iterates store.
use Rattle.std.proofs.Common.{◌≡◌, ℕ, zero, suc, ◌-◌, ◌<◌, ◌≤◌, List, [], ◌∷◌, ◌++◌, map, take, length, Option, Some, None, Bool, true, false, if◌then◌else◌, slice_get, refl, sym, ap, subst, ◌∙◌, inl, inr, arith}
use Rattle.std.specs.Prelude.{◌↔◌, reverse, pred, IsSome, IfSome}
use Rattle.std.specs.FinMap.{get}
use Rattle.std.proofs.Math.Seq.{take-length}
use Rattle.std.proofs.lemmas.List.{reverse-reverse}
use Rattle.domain_laws.specs.Operations.{Operations}
use Rattle.batch_meaning.specs.Values as batch
use Rattle.cell_names.specs.declared.frame.Point.{Point}
use Rattle.cell_names.specs.Paths.{CellName}
use Rattle.cell_rows.specs.Names.{name, bare, iterate_point}
use Rattle.cell_rows.specs.Rows.{sites_of}
use Rattle.cell_rows.specs.Cells.{Cell, cell, plain, operation_row, ends_first, wants_first}
use Rattle.daig_demands.specs.Stops.{last_state, stops_with}
use Rattle.daig_demands.proofs.Stopping.{ends_by_last}
use Rattle.imp_flow.specs.Plans.{Plan}
use Rattle.imp_flow_rows.specs.declared.row.Row.{Row}
use Rattle.imp_flow_rows.specs.declared.row.Row.TheVariants.{Fixed}
use Rattle.daig_graph.specs.Cells.{AreCells, Filled}
use Rattle.daig_graph.specs.declared.value.Value.{Value}
use Rattle.daig_graph.specs.declared.value.Value.TheVariants.{State, Over}
use Rattle.loop_unroll.specs.Iterates.{iterate_of, value_at, state_in, IsEqual, StopsWithin, ConvergesWithin}
use Rattle.daig_query.specs.declared.held.Held.{Held}
use Rattle.daig_query.specs.declared.opening.Open.{Open}
use Rattle.daig_query.specs.declared.store.Store.{Store}
use Rattle.daig_query.specs.Kept.{Cells, IsValue}
use Rattle.cell_graph.specs.Asked.{inputs}
use Rattle.daig_query.specs.Right.{found}
use Rattle.daig_query.specs.Overs.{HasNoOver}
use Rattle.daig_query.specs.Opened.{IsReady}
use Rattle.daig_query.proofs.Lists.{map_next}
use Rattle.daig_query.proofs.Found.{Input, input_found, input_value}
use Rattle.daig_query.proofs.Stopping.{Before, nothing, some, held_state, held_same}
use Rattle.daig_query.proofs.Asked.{law, front_length}
use Rattle.daig_query.proofs.Iterates.{N, J, G, first, row_is, asks_fix, wants_before, before, index_none, going}
use Rattle.std.proofs.lemmas.Option.{same_Some}
use Rattle.base_values.proofs.Lists.{get_some}

data Side : ℕ → ℕ → Type 0 where
  low : {a b : ℕ} → a ≤ b → Side a b
  high : {a b : ℕ} → b < a → Side a b

get_or_past : (a b : ℕ) → Side a b
get_or_past zero b = low (omega arith)
get_or_past (suc a) zero = high (omega arith)
get_or_past (suc a) (suc b) = elim (get_or_past a b) [ low h ↦ low (omega arith) | high h ↦ high (omega arith) ]

-- after iterates of which none is where they stop, at most the budget
pub not_many : (cells : Cells) (numbers : List ℕ) (budget : ℕ) → AreCells cells numbers → (StopsWithin budget (iterate_of cells numbers) (length numbers) → ⊥) → length numbers ≤ budget
not_many cells numbers budget there none = by (get_or_past (length numbers) budget)
  where
    at_budget : budget < length numbers → (v : Value Held) → iterate_of cells numbers budget ≡ Some v → ⊥
    at_budget h (Over n chain) e = none (budget, h, inl (Over n chain, e, tt))
    at_budget h (State s) e = none (budget, h, inr (inr (refl, s, e, λ q. none (budget, h, inr (inl q)))))

    cell_at : (n : ℕ) (o : Option (Filled Held)) → get cells n ≡ o → IsSome o → (v : Value Held) × (value_at cells n ≡ Some v)
    cell_at n None e s = absurd cc
    cell_at n (Some f) e s = (f.value, rw e refl)

    by : Side (length numbers) budget → length numbers ≤ budget
    by (low h) = h
    by (high h) =
        let n = get_some numbers budget h in
        let v = cell_at n.0 (get cells n.0) refl (there budget n.0 n.1) in
        absurd (at_budget h v.0 (rw n.1 v.1))

module _ {S : Type 0} (dom : Operations S) (plan : Plan) (store : Store S) (row : Row) (o : Open) (ready : IsReady dom plan store row o) (same : (s t : S) → (dom.same s t ≡ true) ↔ (s ≡ t))
    (n : ℕ) (p : Point) (fixed : row ≡ Fixed n p) where
  abbrev M : CellName
  M = N dom plan store row o ready.at same n p fixed

  abbrev K : List CellName
  K = J dom plan store row o ready.at same n p fixed

  abbrev H : CellName → Cell S
  H = G dom plan store row o ready.at same n p fixed

  abbrev begin : ℕ → List (Cell S)
  begin j = first dom plan store row o ready.at same n p fixed j

  abbrev at_place : ℕ → Option (Value Held)
  at_place = iterate_of store.graph.cells o.inputs

  abbrev count : ℕ
  count = length o.inputs

  abbrev over : batch.Value S
  over = batch.Over n (sites_of M.path)

  complete : count ≡ length K
  complete = by (length K) refl ready.at.entry.within
    where
      by : (m : ℕ) → length K ≡ m → count ≤ m → count ≡ m
      by m e h = grind (arith, beyond)
        where
          beyond : count < m → ⊥
          beyond l =
              let q = get_some K count (omega arith) in
              let c : Some q.0 ≡ None = sym q.1 ∙ ready.complete in
              cc

  all : begin count ≡ map H K
  all = ap (λ m. map H (take m K)) complete ∙ ap (map H) (take-length K)

  -- the value of the fixed point, by all its iterates
  value_is : H M ≡ ends_first dom plan.engine over (map H K)
  unfolding inputs found
  value_is =
      let v = (law dom plan store row o ready.at).value in
      v ∙ ap (λ q. operation_row dom plan.engine q (map H K)) (row_is dom plan store row o ready.at same n p fixed)

  -- its iterates are one at least
  some_iterate : (m : ℕ) → count ≡ m → (j : ℕ) × (count ≡ suc j)
  some_iterate zero e =
      let a : Some (name M.path (iterate_point plan.engine bare n p 0)) ≡ slice_get K 0 = asks_fix dom plan store row o ready.at same n p fixed 0 (omega arith) in
      let b : slice_get K 0 ≡ None = subst (λ i. slice_get K i ≡ None) e ready.complete in
      let c : Some (name M.path (iterate_point plan.engine bare n p 0)) ≡ None = a ∙ b in
      absurd cc
  some_iterate (suc j) e = (j, e)

  if_none : {A : Type 0} (b : Bool) (a : A) → (if b then Some a else None) ≡ None → b ≡ false
  if_none true a e = absurd cc
  if_none false a e = refl

  -- what the last two say of it
  by_last : (j : ℕ) → count ≡ suc j → (y : CellName) → slice_get K j ≡ Some y → H M ≡ stops_with dom over j (last_state None (begin j)) (H y).value
  by_last j e y q =
      let within : count ≤ length K = ready.at.entry.within in
      let front : begin (suc j) ≡ begin j ++ H y ∷ [] = map_next H K j y q in
      let here : begin count ≡ begin j ++ H y ∷ [] = ap begin e ∙ front in
      let more : wants_first dom plan.engine (begin j) ≡ true = wants_before dom plan store row o ready.at same n p fixed j (omega arith) in
      let none : wants_first dom plan.engine (begin count) ≡ false = if_none (wants_first dom plan.engine (begin count)) (name M.path (iterate_point plan.engine bare n p (length (begin count)))) (asks_fix dom plan store row o ready.at same n p fixed count within ∙ ready.complete) in
      value_is
      ∙ ap (ends_first dom plan.engine over) (sym all ∙ here)
      ∙ ends_by_last dom plan.engine over (begin j) (H y) more (ap (wants_first dom plan.engine) (sym here) ∙ none)
      ∙ ap (λ m. stops_with dom over m (last_state None (begin j)) (H y).value) (front_length dom plan store row o ready.at j (omega arith))

  same_at_end : (j m : ℕ) → count ≡ suc j → m < count → IsEqual at_place m → m ≡ j
  same_at_end j m e h q =
      let go = going dom plan store row o ready.at same n p fixed in
      grind (arith, λ (l : suc m < count). go m l (inr (inl q)))

  -- an Over among them is the last, and the fixed point's
  pub overs : (i : ℕ) → i < count → (m : ℕ) (chain : List ℕ) → at_place i ≡ Some (Over m chain) → (H M).value ≡ batch.Over m (reverse chain)
  overs i h m chain e =
      let go = going dom plan store row o ready.at same n p fixed in
      let last : suc i ≡ count = grind (arith, λ (l : suc i < count). go i l (inl (Over m chain, e, tt))) in
      let q = input_found dom plan store ready.at.right o ready.at.entry i h in
      let value : q.2.cell.value ≡ Over m chain = same_Some q.2.cell.value (Over m chain) (sym (input_value dom plan store ready.at.right o i q.0 q.2) ∙ e) in
      let v : (H q.0).value ≡ batch.Over m (reverse chain) = subst (λ u. IsValue store.states u (H q.0)) value q.2.value in
      ap (λ (c : Cell S). c.value) (by_last i (sym last) q.0 q.1 ∙ ap (λ c. stops_with dom over i (last_state None (begin i)) c) v)

  -- of iterates that converge: the one before the last
  pub converges : ConvergesWithin at_place count → IsEqual at_place (count - 1)
  converges (m, h, q) =
      let l = some_iterate count refl in
      let e : m ≡ l.0 = same_at_end l.0 m l.1 h q in
      let d : m ≡ count - 1 = omega arith in
      subst (IsEqual at_place) d q

  stops_equal : (j : ℕ) (q : Option S) → Before dom store.states ready.at.right.single (λ s t. (same s t).0) (λ s. (same s s).1 refl) plan.engine.budget at_place j q →
      (i : ℕ) (f : Held) (s : S) → j ≡ suc i → at_place i ≡ Some (State f) → slice_get store.states f.state ≡ Some s → stops_with dom over j q (batch.State s) ≡ cell (batch.State s) i
  stops_equal j q (nothing none) i f s e a b = absurd (none i f e a)
  stops_equal j q (some m g t d c u z) i f s e a b =
      let mi : m ≡ i = omega arith in
      let gf : g ≡ f = held_state g f (same_Some (State g) (State f) (sym c ∙ subst (λ x. at_place x ≡ Some (State f)) (sym mi) a)) in
      let ts : t ≡ s = same_Some t s (sym u ∙ (ap (λ (x : Held). slice_get store.states x.state) gf ∙ b)) in
      let yes : dom.same s t ≡ true = (same s t).1 (sym ts) in
      let down : pred j ≡ i = ap pred e in
      ap (λ b. if b then cell (batch.State t) (pred j) else plain over) yes ∙ ap (λ x. cell (batch.State x) (pred j)) ts ∙ ap (cell (batch.State s)) down

  pub settles : IsEqual at_place (count - 1) → (f : Held) → state_in (at_place (count - 2)) ≡ Some f → IsValue store.states (State (record { state = f.state; index = count - 2 })) (H M)
  settles (i, f, e, a, b) g h =
      let l = some_iterate count refl in
      let last : l.0 ≡ suc i = omega arith in
      let down : count - 2 ≡ i = omega arith in
      let fg : f ≡ g = same_Some f g (sym (ap state_in (subst (λ x. at_place x ≡ Some (State f)) (sym down) a)) ∙ h) in
      let q = input_found dom plan store ready.at.right o ready.at.entry l.0 (omega arith) in
      by l.0 l.1 last down fg q
    where
      by : (j : ℕ) → count ≡ suc j → j ≡ suc i → count - 2 ≡ i → f ≡ g → (y : CellName) × (slice_get K j ≡ Some y) × Input dom plan store ready.at.right o j y → IsValue store.states (State (record { state = g.state; index = count - 2 })) (H M)
      by j last e down fg (y, at, q) =
          let here : at_place j ≡ Some (State f) = subst (λ x. at_place x ≡ Some (State f)) (let w : count - 1 ≡ j = omega arith in w) b in
          let value : q.cell.value ≡ State f = same_Some q.cell.value (State f) (sym (input_value dom plan store ready.at.right o j y q) ∙ here) in
          let v : IsValue store.states (State f) (H y) = subst (λ u. IsValue store.states u (H y)) value q.value in
          let s = v.0 in
          let done : H M ≡ cell (batch.State s) i =
          by_last j last y at
          ∙ ap (λ (c : Cell S). stops_with dom over j (last_state None (begin j)) c.value) v.2
          ∙ stops_equal j (last_state None (begin j)) (before dom plan store row o ready.at same n p fixed j (omega arith)) i f s e a v.1
          in (
            s,
            ap (λ (x : Held). slice_get store.states x.state) (sym fg) ∙ v.1,
            done ∙ ap (cell (batch.State s)) (sym down),
          )

  stops_over : (j : ℕ) (q : Option S) → Before dom store.states ready.at.right.single (λ s t. (same s t).0) (λ s. (same s s).1 refl) plan.engine.budget at_place j q →
      (IsEqual at_place j → ⊥) → (f : Held) (s : S) → at_place j ≡ Some (State f) → slice_get store.states f.state ≡ Some s → f.index ≡ 0 → stops_with dom over j q (batch.State s) ≡ plain over
  stops_over j q (nothing none) apart f s a b z = refl
  stops_over j q (some m g t d c u w) apart f s a b z = by (dom.same s t) refl
    where
      by : (b : Bool) → dom.same s t ≡ b → stops_with dom over j (Some t) (batch.State s) ≡ plain over
      by true e =
          let st : s ≡ t = (same s t).0 e in
          let numbers : f.state ≡ g.state = ready.at.right.single f.state g.state s b (u ∙ ap Some (sym st)) in
          let fg : f ≡ g = held_same f g numbers z w in
          absurd (apart (m, g, d, c, a ∙ ap (λ x. Some (State x)) fg))
      by false e = ap (λ b. if b then cell (batch.State t) (pred j) else plain over) e

  pub spends : HasNoOver store.graph.cells o.inputs (length o.inputs) → (ConvergesWithin at_place count → ⊥) → IsValue store.states (Over n (reverse (sites_of M.path))) (H M)
  spends states apart =
      let l = some_iterate count refl in
      by l.0 l.1 (input_found dom plan store ready.at.right o ready.at.entry l.0 (omega arith))
    where
      by : (j : ℕ) → count ≡ suc j → (y : CellName) × (slice_get K j ≡ Some y) × Input dom plan store ready.at.right o j y → IsValue store.states (Over n (reverse (sites_of M.path))) (H M)
      by j last (y, at, q) = of_value q.cell.value refl q.value
        where
          done : (u : Value Held) → q.cell.value ≡ u → IsValue store.states u (H y) → H M ≡ plain over
          done (Over m chain) e v = absurd (states j m chain (omega arith) (input_value dom plan store ready.at.right o j y q ∙ ap Some e))
          done (State f) e (s, a, v) =
              by_last j last y at
              ∙ ap (λ (c : Cell S). stops_with dom over j (last_state None (begin j)) c.value) v
              ∙ stops_over j (last_state None (begin j)) (before dom plan store row o ready.at same n p fixed j (omega arith)) (λ h. apart (j, omega arith, h)) f s
              (input_value dom plan store ready.at.right o j y q ∙ ap Some e) a
              (let z : (H y).index ≡ 0 = index_none dom plan store row o ready.at same n p fixed j y at in sym (ap (λ (c : Cell S). c.index) v) ∙ z)

          of_value : (u : Value Held) → q.cell.value ≡ u → IsValue store.states u (H y) → IsValue store.states (Over n (reverse (sites_of M.path))) (H M)
          of_value u e v = ap (λ (c : Cell S). c.value) (done u e v) ∙ ap (batch.Over n) (sym (reverse-reverse (sites_of M.path)))

  with_some : {A : Type 0} (o : Option A) (P : A → Type 0) (a : A) → o ≡ Some a → IfSome o P → P a
  with_some None P a e h = absurd cc
  with_some (Some b) P a e h = subst P (same_Some b a e) h

  pub settled_is : IsEqual at_place (count - 1) → (h : Held) → IfSome (state_in (at_place (count - 2))) (λ s. h ≡ record { state = s.state; index = count - 2 }) → IsValue store.states (State h) (H M)
  settled_is equal h told =
      let f : Held = equal.1 in
      let down : count - 2 ≡ equal.0 = let e : count - 1 ≡ suc equal.0 = equal.2 in omega arith in
      let here : state_in (at_place (count - 2)) ≡ Some f = ap state_in (ap at_place down ∙ equal.3) in
      let is : h ≡ record { state = f.state; index = count - 2 } = with_some (state_in (at_place (count - 2))) (λ (s : Held). h ≡ record { state = s.state; index = count - 2 }) f here told in
      subst (λ x. IsValue store.states (State x) (H M)) (sym is) (settles equal f here)
