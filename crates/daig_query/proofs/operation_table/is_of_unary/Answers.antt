use Rattle.std.proofs.Common.{◌≡◌, true, false, sym, ap, subst, ◌∙◌}
use Rattle.std.specs.Cmp.{booleans_Decides}
use Rattle.base_values.specs.Equal.{same}
use Rattle.imp_slots.specs.PartCodes.{entering_code}
use Rattle.memo_table.specs.declared.operation.Operation.TheVariants.{Assume}
use Rattle.daig_query.specs.Made.{IsUnaryOf}
use Rattle.daig_query.proofs.Comparing.{post_found, assume_found, enter_found}
use Rattle.daig_query.proofs.operation_table.is_of_unary.Goals as goal

pub returns-in-Post-Post : goal.returns-in-Post-Post
returns-in-Post-Post c =
    let arm = c.in-Post-Post in
    record { sound = λ h. subst (λ op. IsUnaryOf op c.args.operation.now) (sym arm.is-0) (arm.is-1 ∙ post_found arm.stmt.now arm.other (sym c.eq.ensures ∙ h)) }

pub returns-then-sense-truth : goal.returns-then-sense-truth
returns-then-sense-truth c =
    let arm = c.in-Assume-Assume in
    record { sound = λ h. subst (λ op. IsUnaryOf op c.args.operation.now) (sym arm.is-0) (arm.is-1 ∙ ap (Assume arm.other) (sym ((booleans_Decides arm.sense arm.truth).0 c.if-sense-truth.true)) ∙ assume_found arm.cond.now arm.other arm.sense (sym c.eq-then-sense-truth.ensures ∙ h)) }

pub returns-in-Enter-Enter : goal.returns-in-Enter-Enter
returns-in-Enter-Enter c =
    let arm = c.in-Enter-Enter in
    record { sound = λ h. subst (λ op. IsUnaryOf op c.args.operation.now) (sym arm.is-0) (arm.is-1 ∙ enter_found arm.call.now.entering arm.other (subst (λ e. same entering_code e arm.other ≡ true) c.entering.ensures.same (sym c.eq-in-Enter-Enter.ensures ∙ h))) }

pub returns-then-not-truth : goal.returns-then-not-truth
returns-then-not-truth c =
    let arm = c.in-Exit-Assume in
    record { sound = λ h. subst (λ op. IsUnaryOf op c.args.operation.now) (sym arm.is-0) (arm.is-1 ∙ ap (Assume arm.other) c.if-not-truth.true ∙ assume_found arm.cond.now arm.other false (sym c.eq-then-not-truth.ensures ∙ h)) }
