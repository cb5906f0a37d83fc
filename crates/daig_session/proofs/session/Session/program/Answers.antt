use Rattle.std.proofs.Common.{ap, ◌∙◌}
use Rattle.daig_machine.specs.Machine.{Machine}
use Rattle.daig_session.proofs.session.Session.program.Goals as goal

pub returns : goal.returns
returns g c = rw (← c.self.view_is) (record { is = λ m h. c.table.ensures.is ∙ ap (λ (z : Machine). z.program) h.is })
