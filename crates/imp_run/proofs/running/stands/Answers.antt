use Rattle.std.proofs.Common.{◌≡◌, ◌∙◌, ◌-◌, sym, ap, length, Some, None, slice_get}
use Rattle.std.specs.Option.{option_copied}
use Rattle.concrete_sem.specs.Steps.{Ret}
use Rattle.imp_run.specs.Outcome.{same_location, end_location}
use Rattle.imp_run.proofs.StandLemmas.{last_stands, none_stands}
use Rattle.imp_run.proofs.running.stands.Goals as goal

pub returns-in-Some : goal.returns-in-Some
returns-in-Some c =
    let e : slice_get c.args.last.now.work.items (length c.args.last.now.work.items - 1) ≡ Some c.in-Some.item.now = ap (λ v. slice_get v (length v - 1)) (sym c.deref.ensures.value) ∙ sym c.last.ensures.value ∙ ap option_copied c.in-Some.is in
    record { is = c.is_at.ensures.is ∙ ap (λ l. same_location l c.args.location.now) (sym (last_stands c.args.program.now c.args.last.now.work.items c.in-Some.item.now (Ret c.args.last.now.place) e)) }

pub returns-in-None : goal.returns-in-None
returns-in-None c =
    let e : slice_get c.args.last.now.work.items (length c.args.last.now.work.items - 1) ≡ None = ap (λ v. slice_get v (length v - 1)) (sym c.deref.ensures.value) ∙ sym c.last.ensures.value ∙ ap option_copied c.in-None.is in
    record { is = c.is_end.ensures.is ∙ ap (λ r. same_location (end_location r) c.args.location.now) c.routine_at.ensures.at ∙ ap (λ l. same_location l c.args.location.now) (sym (none_stands c.args.program.now c.args.last.now.work.items c.args.last.now.place e)) }
