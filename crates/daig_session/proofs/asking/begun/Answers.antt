use Rattle.std.proofs.Common.{map}
use Rattle.imp_flow.specs.Reached.{target_of}
use Rattle.daig_query.proofs.Starting.{new_good}
use Rattle.daig_session.proofs.asking.begun.Goals as goal

pub returns-clause-going : goal.returns-clause-going
returns-clause-going g c = record {
  asked = c.in_ok-targets.ensures.asked;
  good = new_good (g.D.Domain.operations c.args.engine.now.domain) c.args.flow.now (map target_of c.in_ok-targets.targets) c.args.engine.now.store c.new-walk.result c.requires.right c.new-walk.ensures.is;
}
