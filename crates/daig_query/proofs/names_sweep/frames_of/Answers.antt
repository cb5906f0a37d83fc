use Rattle.std.proofs.Common.{arith}
use Rattle.cell_names.specs.Paths.{path_at}
use Rattle.daig_query.proofs.Renaming.{frames-on}
use Rattle.daig_query.proofs.names_sweep.frames_of.Goals as goal

pub loop-before-preserved : goal.loop-before-preserved
loop-before-preserved c =
    let so_far = c.loop-before.invariant in
    record {
      there = omega (arith, c.in-Some.ensures.before, so_far.there);
      split = frames-on c.loop-before.frames.items _ _ (path_at c.args.names.now.paths c.loop-before.rest) _ _ c.in_ok-push.ensures.items c.in-Some.ensures.last so_far.split;
    }
