use Rattle.std.proofs.Common.{ap, reverse, Some}
use Rattle.batch_interp.specs.Answered.{value_of}
use Rattle.batch_interp.proofs.findings.found_in.Goals as goal

pub returns-in-Over : goal.returns-in-Over
returns-in-Over g c = record { is = (c.in-Over.head, reverse c.in-Over.chain, ap (λ a. Some (value_of a)) c.in-Over.is) }
