use Rattle.std.proofs.Common.{sym, subst, ◌∙◌}
use Rattle.daig_query.specs.Made.{IsOperationOf}
use Rattle.daig_query.proofs.Comparing.{init_found}
use Rattle.daig_query.proofs.operation_table.is_of.Goals as goal

pub returns-in-Init-Init : goal.returns-in-Init-Init
returns-in-Init-Init c =
    let arm = c.in-Init-Init in
    record { sound = λ h. subst (λ row. IsOperationOf row c.args.operation.now) (sym arm.is-0) (arm.is-1 ∙ init_found arm.layout.now arm.other (sym c.eq.ensures ∙ h)) }
