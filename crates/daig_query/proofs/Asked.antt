-- What a name asks for next, by what its first inputs' cells store.
use Rattle.std.proofs.Common.{◌≡◌, ◌≢◌, ℕ, zero, suc, ◌<◌, ◌≤◌, List, [], ◌∷◌, ◌++◌, map, take, length, Option, Some, None, Bool, true, false, nat_lt, slice_get, refl, sym, ap, subst, ◌∙◌, arith}
use Rattle.std.proofs.lemmas.List.{length-map, length-take-le}
use Rattle.domain_laws.specs.Operations.{Operations}
use Rattle.batch_meaning.specs.Values as batch
use Rattle.batch_meaning.specs.Batch.{LoopOptions}
use Rattle.daig_order.specs.Asking.{gather, gather_next, inputs_of, value_of}
use Rattle.cell_names.specs.declared.frame.NameFrame.{NameFrame}
use Rattle.cell_names.specs.declared.frame.Point.{Point}
use Rattle.cell_names.specs.Paths.{CellName}
use Rattle.cell_rows.specs.Names.{name, bare, iterate_point}
use Rattle.cell_rows.specs.Rows as plain
use Rattle.cell_rows.specs.Cells.{Cell, asks_row, most_row, by_row, right_of}
use Rattle.cell_rows.specs.Claims.{rows_of}
use Rattle.daig_demands.specs.Claims.{Answered}
use Rattle.daig_demands.proofs.Machine.{answered}
use Rattle.imp_flow_rows.specs.Near.{row_in}
use Rattle.imp_flow_rows.specs.NodeRows.{iterate_at}
use Rattle.imp_flow.specs.Plans.{Plan}
use Rattle.imp_flow_rows.specs.declared.input.Input.{Input}
use Rattle.imp_flow_rows.specs.declared.row.Unary.{Unary}
use Rattle.imp_flow_rows.specs.declared.row.Row.{Row}
use Rattle.imp_flow_rows.specs.declared.row.Row.TheVariants.{Init, One, Two, Fixed, Joins}
use Rattle.daig_graph.specs.Cells.{AreCells}
use Rattle.daig_graph.specs.declared.value.Value.{Value}
use Rattle.daig_graph.specs.declared.value.Value.TheVariants.{State, Over}
use Rattle.daig_query.specs.declared.held.Held.{Held}
use Rattle.daig_query.specs.declared.opening.Open.{Open}
use Rattle.daig_query.specs.declared.store.Store.{Store}
use Rattle.cell_graph.specs.Same.{same_name}
use Rattle.cell_graph.specs.Named.{AreNumbers}
use Rattle.daig_query.specs.Kept.{IsValue}
use Rattle.daig_query.specs.Asked.{by_count, round_of, by_round, joined_next}
use Rattle.cell_graph.specs.Asked.{inputs}
use Rattle.daig_query.specs.Right.{found, IsRight}
use Rattle.daig_query.specs.Opened.{name_of, IsAt, next_of}
use Rattle.cell_graph.proofs.Same.{same_is}
use Rattle.cell_graph.proofs.Numbers.{numbers_length}
use Rattle.daig_query.proofs.Found.{stored, is_there}

next_length : {T V : Type 0} (value : T → V) (rest : List V → List T) (n : ℕ) (vs : List V) (o : Option T) → ((us : List V) → length (rest us) ≤ n) → length (gather_next value rest vs o) ≤ suc n
next_length value rest n vs None h = omega arith
next_length value rest n vs (Some y) h = let l : length (rest (vs ++ value y ∷ [])) ≤ n = h (vs ++ value y ∷ []) in omega arith

pub gather_length : {T V : Type 0} (value : T → V) (asks : List V → Option T) (n : ℕ) (vs : List V) → length (gather value asks n vs) ≤ n
unfolding gather
gather_length value asks zero vs = omega arith
gather_length {T} {V} value asks (suc n) vs = next_length value (gather value asks n) n vs (asks vs) (λ us. gather_length value asks n us)

pub same_iterate : (engine : LoopOptions) (n : ℕ) (p : Point) (k : ℕ) → iterate_at n p k ≡ iterate_point engine bare n p k
same_iterate engine n p zero = refl
same_iterate engine n p (suc k) = refl

one_fixed : (op : Unary) (a : Input) (n : ℕ) (p : Point) → One op a ≡ Fixed n p → ⊥
one_fixed op a n p e = cc

one_joins : (op : Unary) (a : Input) (s : Bool) (l : Point) (n : ℕ) (p : Point) → One op a ≡ Joins s l n p → ⊥
one_joins op a s l n p e = cc

by_one : (op : Unary) (a : Input) (w : List NameFrame) (n : ℕ) → 0 < n → by_count n (row_in w (One op a)) ≡ None
by_one op a w zero h = absurd (omega (arith, h))
by_one op a w (suc zero) h = refl
by_one op a w (suc (suc n)) h = refl

module _ {S : Type 0} (dom : Operations S) (engine : LoopOptions) where
  -- an operation on one value or two asks by the count
  pub count_asks : (row : Row) → ((n : ℕ) (p : Point) → row ≢ Fixed n p) → ((s : Bool) (l : Point) (n : ℕ) (p : Point) → row ≢ Joins s l n p) →
      (w : List NameFrame) (vs : List (Cell S)) → by_count (length vs) (row_in w row) ≡ asks_row dom engine (row_in w row) vs
  count_asks (Init layout) f j w [] = refl
  count_asks (Init layout) f j w (v ∷ []) = refl
  count_asks (Init layout) f j w (v ∷ u ∷ vs) = refl
  count_asks (One op a) f j w [] = refl
  count_asks (One op a) f j w (v ∷ []) = refl
  count_asks (One op a) f j w (v ∷ u ∷ vs) = refl
  count_asks (Two op a b) f j w [] = refl
  count_asks (Two op a b) f j w (v ∷ []) = refl
  count_asks (Two op a b) f j w (v ∷ u ∷ vs) = refl
  count_asks (Fixed n p) f j w vs = absurd (f n p refl)
  count_asks (Joins s l n p) f j w vs = absurd (j s l n p refl)

  round_asks : (states : List S) (u : Value Held) (v : Cell S) → IsValue states u v → (stays : Bool) (l : CellName) (n : ℕ) (w : List NameFrame) (p : Point) →
      by_round (round_of engine.budget (Some u)) (plain.Joins stays l n w p) ≡ right_of dom engine n w p v.value v.index
  round_asks states (Over m chain) v e stays l n w p = ap (λ x. right_of dom engine n w p x v.index) (sym e)
  round_asks states (State h) v (s, at, e) stays l n w p = by (nat_lt h.index engine.budget) refl ∙ ap (λ (c : Cell S). right_of dom engine n w p c.value c.index) (sym e)
    where
      by : (b : Bool) → nat_lt h.index engine.budget ≡ b → by_round (round_of engine.budget (Some (State h))) (plain.Joins stays l n w p) ≡ right_of dom engine n w p (batch.State s) h.index
      by true e = rw e refl
      by false e = rw e refl

module _ {S : Type 0} (dom : Operations S) (plan : Plan) (store : Store S) (right : IsRight dom plan store) where
  -- a join after a loop with breaks, after these inputs
  pub joined_asks : (ns : List ℕ) (xs : List CellName) → AreNumbers store.names.names ns xs → AreCells store.graph.cells ns → (stays : Bool) (l : CellName) (n : ℕ) (w : List NameFrame) (p : Point) →
      joined_next plan.engine.budget store.graph.cells ns (plain.Joins stays l n w p) ≡ asks_row dom plan.engine (plain.Joins stays l n w p) (map (found dom plan) xs)
  joined_asks [] [] e c stays l n w p = refl
  joined_asks [] (x ∷ xs) e c stays l n w p = absurd cc
  joined_asks (m ∷ ns) [] e c stays l n w p = absurd cc
  joined_asks (m ∷ []) (x ∷ []) e c stays l n w p =
      let at : slice_get store.names.names m ≡ Some x = cc in
      let f = is_there dom plan store right m (c 0 m refl) in
      let v = (stored dom plan store right m x f.0 at f.1).value in
      rw f.1 (round_asks dom plan.engine store.states f.0.value (found dom plan x) v stays l n w p)
  joined_asks (m ∷ []) (x ∷ y ∷ xs) e c stays l n w p = let h : 1 ≡ suc (suc (length xs)) = numbers_length store.names.names (m ∷ []) (x ∷ y ∷ xs) e in absurd (omega arith)
  joined_asks (m ∷ k ∷ ns) (x ∷ []) e c stays l n w p = let h : suc (suc (length ns)) ≡ 1 = numbers_length store.names.names (m ∷ k ∷ ns) (x ∷ []) e in absurd (omega arith)
  joined_asks (m ∷ k ∷ ns) (x ∷ y ∷ xs) e c stays l n w p = refl

module _ {S : Type 0} (dom : Operations S) (plan : Plan) (store : Store S) (row : Row) (o : Open) (at : IsAt dom plan store row o) where
  abbrev pub X : CellName
  X = name_of store o

  abbrev pub I : List CellName
  I = inputs dom plan X

  abbrev pub F : CellName → Cell S
  F = found dom plan

  abbrev pub r : plain.Row
  r = row_in X.path row

  -- the values of the first j inputs
  abbrev pub front : ℕ → List (Cell S)
  front j = map F (take j I)

  pub law : Answered dom plan.engine plan.program same_name X r
  law = answered dom plan.engine plan.program same_name same_is at.right.checked X r at.its_row

  pub asks : (j : ℕ) → j ≤ length I → asks_row dom plan.engine r (front j) ≡ slice_get I j
  unfolding inputs found
  asks j h = law.next j h

  pub front_length : (j : ℕ) → j ≤ length I → length (front j) ≡ j
  front_length j h = length-map (take j I) F ∙ length-take-le j I h

  pub asked_operation : ((n : ℕ) (p : Point) → row ≢ Fixed n p) → ((s : Bool) (l : Point) (n : ℕ) (p : Point) → row ≢ Joins s l n p) → by_count (length o.inputs) r ≡ next_of dom plan store o
  asked_operation f j =
      ap (λ n. by_count n r) (sym (front_length (length o.inputs) at.entry.within))
      ∙ count_asks dom plan.engine row f j X.path (front (length o.inputs))
      ∙ asks (length o.inputs) at.entry.within

  pub asked_joined : (s : Bool) (l : Point) (n : ℕ) (p : Point) → row ≡ Joins s l n p → joined_next plan.engine.budget store.graph.cells o.inputs r ≡ next_of dom plan store o
  asked_joined s l n p e =
      ap (λ q. joined_next plan.engine.budget store.graph.cells o.inputs (row_in X.path q)) e
      ∙ joined_asks dom plan store at.right o.inputs (take (length o.inputs) I) at.entry.numbers at.entry.cells s (name X.path l) n X.path p
      ∙ ap (λ q. asks_row dom plan.engine (row_in X.path q) (front (length o.inputs))) (sym e)
      ∙ asks (length o.inputs) at.entry.within

  -- an operation on one value that has it asks for no more
  pub asked_one : (op : Unary) (a : Input) → row ≡ One op a → 0 < length o.inputs → next_of dom plan store o ≡ None
  asked_one op a e h =
      sym (asked_operation (λ n p q. absurd (one_fixed op a n p (sym e ∙ q))) (λ t l n p q. absurd (one_joins op a t l n p (sym e ∙ q))))
      ∙ ap (λ q. by_count (length o.inputs) (row_in X.path q)) e
      ∙ by_one op a X.path (length o.inputs) h

  -- at most as many inputs as the row may have
  pub most_inputs : length I ≤ most_row dom plan.engine r
  unfolding inputs inputs_of
  most_inputs =
      let t = rows_of dom plan.engine plan.program same_name in
      let h : length I ≤ t.most X = gather_length (value_of t) (t.asks X) (t.most X) [] in
      let e : t.most X ≡ most_row dom plan.engine r = ap (λ q. by_row dom plan.engine q 0 (most_row dom plan.engine)) at.its_row in
      subst (λ m. length I ≤ m) e h
