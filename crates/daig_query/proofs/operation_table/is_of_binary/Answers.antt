use Rattle.std.proofs.Common.{◌≡◌, true, sym, subst, ◌∙◌}
use Rattle.std.specs.Ordering.{int_eq}
use Rattle.std.specs.Cmp.Lexicographic.{pointwise}
use Rattle.daig_query.specs.Made.{IsBinaryOf}
use Rattle.daig_query.proofs.Comparing.{widen_found}
use Rattle.daig_query.proofs.operation_table.is_of_binary.Goals as goal

pub returns-in-Widen-Widen : goal.returns-in-Widen-Widen
returns-in-Widen-Widen c =
    let arm = c.in-Widen-Widen in
    record { sound = λ h. subst (λ op. IsBinaryOf op c.args.operation.now) (sym arm.is-0) (arm.is-1 ∙ widen_found arm.thresholds.now arm.others (subst (λ xs. pointwise int_eq arm.thresholds.now xs ≡ true) c.as_slice.ensures.same (sym c.eq-in-Widen-Widen.ensures ∙ h))) }
