-- What rows make of states, and that it is their names' value.
use Rattle.std.proofs.Common.{◌≡◌, ◌≢◌, ℕ, zero, suc, ◌<◌, List, [], ◌∷◌, map, length, Option, Some, None, Bool, true, false, option_map, slice_get, refl, ap, ◌∙◌, arith}
use Rattle.std.specs.Prelude.{IfSome}
use Rattle.std.specs.FinMap.{get}
use Rattle.std.proofs.lemmas.Option.{slice_get_within}
use Rattle.domain_laws.specs.Operations.{Operations}
use Rattle.batch_meaning.specs.Values as batch
use Rattle.batch_meaning.specs.Batch.{LoopOptions}
use Rattle.cell_names.specs.declared.frame.NameFrame.{NameFrame}
use Rattle.cell_names.specs.declared.frame.Point.{Point}
use Rattle.cell_names.specs.Paths.{CellName}
use Rattle.cell_rows.specs.Cells.{Cell, cell, asks_row, operation_row}
use Rattle.imp_flow_rows.specs.Near.{row_in}
use Rattle.imp_flow.specs.Plans.{Plan}
use Rattle.imp_flow_rows.specs.declared.input.Input.{Input}
use Rattle.imp_flow_rows.specs.declared.row.Unary.{Unary}
use Rattle.imp_flow_rows.specs.declared.row.Unary.TheVariants as one
use Rattle.imp_flow_rows.specs.declared.row.Binary.{Binary}
use Rattle.imp_flow_rows.specs.declared.row.Binary.TheVariants as two
use Rattle.imp_flow_rows.specs.declared.row.Row.{Row}
use Rattle.imp_flow_rows.specs.declared.row.Row.TheVariants.{Init, One, Two, Fixed, Joins}
use Rattle.memo_table.specs.declared.operation.Operation.{Operation}
use Rattle.memo_table.specs.Results.{result_of, operand, both}
use Rattle.daig_graph.specs.Cells.{AreCells, Filled}
use Rattle.daig_graph.specs.declared.value.Value.{Value}
use Rattle.daig_graph.specs.declared.value.Value.TheVariants.{State, Over}
use Rattle.loop_unroll.specs.Iterates.{iterate_of, state_in}
use Rattle.daig_query.specs.declared.held.Held.{Held}
use Rattle.daig_query.specs.declared.store.Store.{Store}
use Rattle.cell_graph.specs.Named.{AreNumbers}
use Rattle.daig_query.specs.Kept.{Cells, IsValue}
use Rattle.daig_query.specs.Made.{IsOperationOf, unary_state, binary_state, row_result, index_in, alone_in, number, state_at}
use Rattle.daig_query.specs.Overs.{HasNoOver}
use Rattle.daig_query.specs.Right.{found, IsRight}
use Rattle.daig_query.proofs.Found.{stored, is_there}

module _ {S : Type 0} (dom : Operations S) where
  -- the owned operation of a row makes the same
  pub made : (row : Row) (o : Operation) → IsOperationOf row o → (l r : Option S) → result_of dom o l r ≡ row_result dom row l r
  made (Init layout) o e l r = ap (λ x. result_of dom x l r) e
  made (One (one.Post s) a) o e l r = ap (λ x. result_of dom x l r) e
  made (One (one.Assume c h) a) o e l r = ap (λ x. result_of dom x l r) e
  made (One (one.Enter call) a) o e l r = ap (λ x. result_of dom x l r) e
  made (One (one.Exit c) a) o e l r = ap (λ x. result_of dom x l r) e
  made (Two two.Join a b) o e l r = ap (λ x. result_of dom x l r) e
  made (Two (two.Leave call) a b) o (t, e, k) l r = ap (λ x. result_of dom x l r) e ∙ ap (λ x. both (dom.leave x) l r) k
  made (Two (two.Widen thresholds) a b) o e l r = ap (λ x. result_of dom x l r) e
  made (Fixed n p) o e l r = ap (λ x. result_of dom x l r) e
  made (Joins stays left n right) o e l r = ap (λ x. result_of dom x l r) e

pub operand_is : {S : Type 0} (dom : Operations S) (states : List S) (n : Option ℕ) → operand dom states n ≡ state_at states n
operand_is dom states None = refl
operand_is dom states (Some n) = refl

module _ {S : Type 0} (states : List S) where
  -- these are states, each under its number
  pub data AreHeld : List Held → List (Cell S) → Type 0 where
    none : AreHeld [] []
    more : {hs : List Held} {vs : List (Cell S)} (h : Held) (v : Cell S) (s : S) → slice_get states h.state ≡ Some s → v ≡ cell (batch.State s) h.index → AreHeld hs vs → AreHeld (h ∷ hs) (v ∷ vs)

  -- the numbers are those of states
  pub known : {hs : List Held} {vs : List (Cell S)} → AreHeld hs vs → (i : ℕ) → IfSome (number (slice_get hs i)) (λ n. n < length states)
  known none i = tt
  known (more h v s at e rest) zero = slice_get_within states h.state s at
  known (more h v s at e rest) (suc i) = known rest i

  module _ (dom : Operations S) (engine : LoopOptions) where
    abbrev pub left : List Held → Option S
    left hs = state_at states (number (slice_get hs 0))

    abbrev pub right : List Held → Option S
    right hs = state_at states (number (slice_get hs 1))

    -- where all inputs are found, there is a result, but of a join with its left input alone
    pub data Made (row : Row) (w : List NameFrame) (hs : List Held) (vs : List (Cell S)) : Type 0 where
      result : (t : S) → row_result dom row (left hs) (right hs) ≡ Some t → operation_row dom engine (row_in w row) vs ≡ cell (batch.State t) (index_in row (slice_get hs 0)) → alone_in row (slice_get hs 0) (slice_get hs 1) ≡ None → Made row w hs vs
      alone : (h : Held) (s : S) → alone_in row (slice_get hs 0) (slice_get hs 1) ≡ Some h → slice_get states h.state ≡ Some s → operation_row dom engine (row_in w row) vs ≡ cell (batch.State s) (index_in row (slice_get hs 0)) → Made row w hs vs

    one_row : (op : Unary) (a : Input) (w : List NameFrame) (h : Held) (s : S) (vs : List (Cell S)) → operation_row dom engine (row_in w (One op a)) (cell (batch.State s) h.index ∷ vs) ≡ cell (batch.State (unary_state dom op s)) (index_in (One op a) (Some h))
    one_row (one.Post x) a w h s vs = refl
    one_row (one.Assume c b) a w h s vs = refl
    one_row (one.Enter call) a w h s vs = refl
    one_row (one.Exit c) a w h s vs = refl

    two_row : (op : Binary) (a b : Input) (w : List NameFrame) (s t : S) (i j : ℕ) (vs : List (Cell S)) → operation_row dom engine (row_in w (Two op a b)) (cell (batch.State s) i ∷ cell (batch.State t) j ∷ vs) ≡ cell (batch.State (binary_state dom op s t)) 0
    two_row two.Join a b w s t i j vs = refl
    two_row (two.Leave call) a b w s t i j vs = refl
    two_row (two.Widen thresholds) a b w s t i j vs = refl

    join_row : (b : Bool) (l : Point) (n : ℕ) (q : Point) (w : List NameFrame) (h : Held) (s t : S) (j : ℕ) (vs : List (Cell S)) →
        operation_row dom engine (row_in w (Joins b l n q)) (cell (batch.State s) h.index ∷ cell (batch.State t) j ∷ vs) ≡ cell (batch.State (dom.join s t)) (index_in (Joins b l n q) (Some h))
    join_row true l n q w h s t j vs = refl
    join_row false l n q w h s t j vs = refl

    alone_row : (b : Bool) (l : Point) (n : ℕ) (q : Point) (w : List NameFrame) (h : Held) (s : S) → operation_row dom engine (row_in w (Joins b l n q)) (cell (batch.State s) h.index ∷ []) ≡ cell (batch.State s) (index_in (Joins b l n q) (Some h))
    alone_row true l n q w h s = refl
    alone_row false l n q w h s = refl

    both_there : (f : S → S → S) (m k : ℕ) (s t : S) → slice_get states m ≡ Some s → slice_get states k ≡ Some t → both f (slice_get states m) (slice_get states k) ≡ Some (f s t)
    both_there f m k s t e g = rw (e, g) refl

    pub row_made : (row : Row) → ((n : ℕ) (p : Point) → row ≢ Fixed n p) → (w : List NameFrame) (hs : List Held) (vs : List (Cell S)) → AreHeld hs vs → asks_row dom engine (row_in w row) vs ≡ None → Made row w hs vs
    row_made (Init layout) f w hs vs held e = result (dom.init layout.now) refl refl refl
    row_made (One op x) f w _ _ none e = absurd cc
    row_made (One op x) f w _ _ (more {hs = hs} {vs = vs} h v s at is rest) e =
        result (unary_state dom op s) (ap (option_map (unary_state dom op)) at) (ap (λ c. operation_row dom engine (row_in w (One op x)) (c ∷ vs)) is ∙ one_row op x w h s vs) refl
    row_made (Two op x y) f w _ _ none e = absurd cc
    row_made (Two op x y) f w _ _ (more h v s at is none) e = absurd cc
    row_made (Two op x y) f w _ _ (more h v s at is (more {hs = hs} {vs = vs} g u t bt was rest)) e =
        result (binary_state dom op s t) (both_there (binary_state dom op) h.state g.state s t at bt)
        (ap (λ c. operation_row dom engine (row_in w (Two op x y)) (c ∷ u ∷ vs)) is ∙ ap (λ c. operation_row dom engine (row_in w (Two op x y)) (cell (batch.State s) h.index ∷ c ∷ vs)) was ∙ two_row op x y w s t h.index g.index vs) refl
    row_made (Fixed n p) f w hs vs held e = absurd (f n p refl)
    row_made (Joins b l n q) f w _ _ none e = absurd cc
    row_made (Joins b l n q) f w _ _ (more h v s at is none) e =
        alone h s refl at (ap (λ c. operation_row dom engine (row_in w (Joins b l n q)) (c ∷ [])) is ∙ alone_row b l n q w h s)
    row_made (Joins b l n q) f w _ _ (more h v s at is (more {hs = hs} {vs = vs} g u t bt was rest)) e =
        result (dom.join s t) (both_there dom.join h.state g.state s t at bt)
        (ap (λ c. operation_row dom engine (row_in w (Joins b l n q)) (c ∷ u ∷ vs)) is ∙ ap (λ c. operation_row dom engine (row_in w (Joins b l n q)) (cell (batch.State s) h.index ∷ c ∷ vs)) was ∙ join_row b l n q w h s t g.index vs) refl

-- what the cells of inputs hold, where none is an Over
pub record Holds {S : Type 0} (states : List S) (cells : Cells) (ns : List ℕ) (vs : List (Cell S)) : Type 0 where
  pub held : List Held
  pub are : AreHeld states held vs
  pub at : (i : ℕ) → state_in (iterate_of cells ns i) ≡ slice_get held i

module _ {S : Type 0} (dom : Operations S) (plan : Plan) (store : Store S) (is : IsRight dom plan store) where
  pub holds : (ns : List ℕ) (xs : List CellName) → AreNumbers store.names.names ns xs → AreCells store.graph.cells ns → HasNoOver store.graph.cells ns (length ns) → Holds store.states store.graph.cells ns (map (found dom plan) xs)
  holds [] [] e c o = record { held = []; are = none; at = λ i. refl }
  holds [] (x ∷ xs) e c o = absurd cc
  holds (m ∷ ns) [] e c o = absurd cc
  holds (m ∷ ns) (x ∷ xs) e c o =
      let at : slice_get store.names.names m ≡ Some x = cc in
      let rest : AreNumbers store.names.names ns xs = cc in
      let f = is_there dom plan store is m (c 0 m refl) in
      let tail = holds ns xs rest (λ i n q. c (suc i) n q) (λ i n chain h q. o (suc i) n chain (omega arith) q) in
      of_value f.0 f.1 tail f.0.value refl (stored dom plan store is m x f.0 at f.1).value
    where
      first_is : (f : Filled Held) → get store.graph.cells m ≡ Some f → iterate_of store.graph.cells (m ∷ ns) 0 ≡ Some f.value
      first_is f e = rw e refl

      of_value : (f : Filled Held) → get store.graph.cells m ≡ Some f → Holds store.states store.graph.cells ns (map (found dom plan) xs) → (u : Value Held) → f.value ≡ u → IsValue store.states u (found dom plan x) →
          Holds store.states store.graph.cells (m ∷ ns) (map (found dom plan) (x ∷ xs))
      of_value f e tail (Over n chain) w v = absurd (o 0 n chain (omega arith) (first_is f e ∙ ap Some w))
      of_value f e tail (State h) w (s, a, v) = record { held = h ∷ tail.held; are = more h (found dom plan x) s a v tail.are; at = places }
        where
          places : (i : ℕ) → state_in (iterate_of store.graph.cells (m ∷ ns) i) ≡ slice_get (h ∷ tail.held) i
          places zero = ap state_in (first_is f e ∙ ap Some w)
          places (suc i) = tail.at i
