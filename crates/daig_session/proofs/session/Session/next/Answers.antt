use Rattle.std.proofs.Common.{refl, ap}
use Rattle.daig_machine.specs.Machine.{Machine}
use Rattle.daig_session.proofs.session.Session.next.Goals as goal

pub returns : goal.returns
returns g c = rw (← c.self.view_is) (record { is = λ m h. ap (λ (z : Machine). z.next) h.is; same = refl })
