use Rattle.std.proofs.Common.{ap}
use Rattle.cert_check.specs.declared.followed.Followed.TheVariants.{Behind}
use Rattle.cert_check.proofs.FollowLemmas.{joined_plain}
use Rattle.cert_check.proofs.behind.behind_loop.Goals as goal

pub returns : goal.returns
returns g c = record { is = ap Behind (joined_plain (g.D.Domain.operations c.args.dom.now) _ c.in_ok-out.out c.in_ok-all.all c.args.leaving.now c.in_ok-out.ensures.value c.in_ok-all.ensures.value) }
