use Rattle.std.proofs.Common.{◌≡◌, Some, slice_get, sym, subst}
use Rattle.memo_table.proofs.Telling.{operation_tells}
use Rattle.daig_query.proofs.operation_table.OperationTable.number_of.Goals as goal

pub returns-clause-is : goal.returns-clause-is
returns-clause-is c =
    let operation = c.in_ok-operation.operation in
    let number = c.in_ok-number.number in
    (operation, c.in_ok-operation.ensures.is, subst (λ table. slice_get table number ≡ Some operation) (sym c.note.ensures.same) (c.in_ok-number.ensures.same operation_tells))
