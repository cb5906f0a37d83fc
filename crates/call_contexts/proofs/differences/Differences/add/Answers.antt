use Rattle.call_contexts.proofs.Differing.{more_both}
use Rattle.call_contexts.proofs.differences.Differences.add.Goals as goal

pub returns : goal.returns
returns c = record { more = more_both c.args.self.now.lost c.args.self.now.gained c.args.goes c.args.comes c.push.new.self c.push-2.new.self c.in_ok-push.ensures.added c.in_ok-push-2.ensures.added }
