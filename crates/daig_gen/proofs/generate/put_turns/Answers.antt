use Rattle.std.proofs.Common.{◌++◌}
use Rattle.daig_gen.specs.Script.{turns}
use Rattle.daig_gen.proofs.Counted.{more_lines}
use Rattle.daig_gen.proofs.generate.put_turns.Goals as goal

pub loop-preserved : goal.loop-preserved
loop-preserved c = let turn_goes = c.in_ok-put_turn.ensures {u = tt} in
    more_lines c.loop.lines.items c.put_turn.new.lines.items (c.args.lines.now.items ++ turns c.args.statements c.args.size c.args.draws.now) c.args.statements c.args.size c.loop.counter c.loop.draws c.put_turn.new.draws c.loop-test.true turn_goes.added turn_goes.state c.loop.invariant
