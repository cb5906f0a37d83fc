-- What is remembered is found.
use Rattle.std.proofs.Common.{◌≡◌, ℕ, List, Option, Some, None, slice_get, refl, sym, ap, ◌∙◌}
use Rattle.std.proofs.lemmas.Option.{none-some}
use Rattle.std.specs.Map.{lookup}
use Rattle.state_table.specs.Numbers.{AreOnce, KeepsNumbers}
use Rattle.imp_slots.specs.CallViews.{taken_of, returning_of, returning_from, returning_from-returning_of}
use Rattle.imp_slots.specs.declared.calls.Returning.{Returning}
use Rattle.imp_flow_rows.specs.declared.row.Unary.{Unary}
use Rattle.imp_flow_rows.specs.declared.row.Unary.TheVariants as one
use Rattle.imp_flow_rows.specs.declared.row.Binary.{Binary}
use Rattle.imp_flow_rows.specs.declared.row.Binary.TheVariants as two
use Rattle.imp_flow_rows.specs.declared.row.Row.{Row}
use Rattle.imp_flow_rows.specs.declared.row.Row.TheVariants.{Init, One, Two, Fixed, Joins}
use Rattle.memo_table.specs.declared.operation.Operation.{Operation}
use Rattle.memo_table.specs.declared.operation.Operation.TheVariants as owned
use Rattle.memo_table.specs.contracts.memo.KeyPartialEq.TheImpl as key_impl
use Rattle.memo_table.specs.contracts.operation.OperationPartialEq.TheImpl as operation_impl
use Rattle.memo_table.proofs.Telling.{operation_decides}
use Rattle.daig_query.specs.declared.store.Store.{Store}
use Rattle.daig_query.specs.Made.{IsUnaryOf, IsBinaryOf, IsOperationOf}
use Rattle.daig_query.specs.Recalled.{IsRemembered}

-- A row has one operation.
one_of : (u : Unary) (o p : Operation) → IsUnaryOf u o → IsUnaryOf u p → o ≡ p
one_of (one.Post s) o p a b = a ∙ sym b
one_of (one.Assume c h) o p a b = a ∙ sym b
one_of (one.Enter call) o p a b = a ∙ sym b
one_of (one.Exit c) o p a b = a ∙ sym b

same_taken : (a b : Option Returning) → taken_of a ≡ taken_of b → a ≡ b
same_taken None None h = refl
same_taken None (Some s) h = cc
same_taken (Some r) None h = cc
same_taken (Some r) (Some s) h =
    let q : returning_of r ≡ returning_of s = cc in
    ap Some (sym (returning_from-returning_of r) ∙ ap returning_from q ∙ returning_from-returning_of s)

two_of : (u : Binary) (o p : Operation) → IsBinaryOf u o → IsBinaryOf u p → o ≡ p
two_of two.Join o p a b = a ∙ sym b
two_of (two.Leave call) o p a b = a.1 ∙ ap owned.Leave (same_taken a.0 b.0 (a.2 ∙ sym b.2)) ∙ sym b.1
two_of (two.Widen thresholds) o p a b = a ∙ sym b

one_operation : (row : Row) (o p : Operation) → IsOperationOf row o → IsOperationOf row p → o ≡ p
one_operation (Init layout) o p a b = a ∙ sym b
one_operation (One op x) o p a b = one_of op o p a b
one_operation (Two op x y) o p a b = two_of op o p a b
one_operation (Fixed n x) o p a b = a ∙ sym b
one_operation (Joins stays x n y) o p a b = a ∙ sym b

-- Where nothing is found of a row's operation it is not remembered.
pub not_remembered : {S : Type 0} (store : Store S) (operations : List Operation) (row : Row) (o : Operation) (n : ℕ) (left right : Option ℕ)
    → IsOperationOf row o → slice_get operations n ≡ Some o → AreOnce operation_impl.ghosts.eq operations → KeepsNumbers store.operations operations
    → None ≡ lookup (key_impl.ghosts.eq (record { operation = n; left = left; right = right })) store.memo.entries
    → IsRemembered store row left right → ⊥
not_remembered store operations row o n left right is at once keeps none r =
    let same : o ≡ r.operation = one_operation row o r.operation is r.of_row in
    let place : n ≡ r.place = once n r.place o r.operation at (keeps r.place r.operation r.there) ((operation_decides o r.operation).1 same) in
    none-some r.state (none ∙ ap (λ (k : ℕ). lookup (key_impl.ghosts.eq (record { operation = k; left = left; right = right })) store.memo.entries) place ∙ r.kept)
