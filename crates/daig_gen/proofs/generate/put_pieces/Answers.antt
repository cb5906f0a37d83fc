use Rattle.std.proofs.Common.{◌++◌, ◌+◌, ap, arith}
use Rattle.daig_gen.specs.Source.{pieces}
use Rattle.daig_gen.proofs.Counted.{more_bytes, more_statements, more_state}
use Rattle.daig_gen.proofs.generate.put_pieces.Goals as goal

pub loop-preserved : goal.loop-preserved
loop-preserved c = let piece_goes = c.in_ok-count.ensures {u = tt} in record {
  added = more_bytes c.loop.text.items c.put_piece.new.text.items (c.args.text.now.items ++ (pieces c.args.size c.args.draws.now).bytes) c.args.size c.loop.counter c.loop.draws c.put_piece.new.draws c.loop-test.true piece_goes.added piece_goes.state c.loop.invariant.added;
  count = more_statements c.loop.statements (c.loop.statements + c.in_ok-count.count) (pieces c.args.size c.args.draws.now).statements c.args.size c.loop.counter c.loop.draws c.put_piece.new.draws c.loop-test.true (ap (λ n. c.loop.statements + n) piece_goes.count) piece_goes.state c.loop.invariant.count;
  state = more_state (pieces c.args.size c.args.draws.now).state c.args.size c.loop.counter c.loop.draws c.put_piece.new.draws c.loop-test.true piece_goes.state c.loop.invariant.state;
  enough = omega (arith, piece_goes.some);
  few = omega (arith, piece_goes.few);
}
