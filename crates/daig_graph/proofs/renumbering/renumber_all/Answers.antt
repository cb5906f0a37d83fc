use Rattle.std.proofs.Common.{set, get_or, ap, ◌∙◌, arith}
use Rattle.daig_graph.specs.Numbers.{renumbered}
use Rattle.daig_graph.proofs.Moved.{same-default}
use Rattle.daig_graph.proofs.renumbering.renumber_all.Goals as goal
use Rattle.std.proofs.lemmas.List.Edits.{map_over_more}

pub loop-place-preserved : goal.loop-place-preserved
loop-place-preserved c =
    let ys = c.loop-place.numbers in
    let i = c.loop-place.place in
    ap (λ r. set ys i r) c.new_number.ensures.new
    ∙ map_over_more (renumbered c.args.new_of.now) c.args.numbers.now ys i (get_or ys i 0) c.loop-place-test.true c.loop-place.invariant (same-default ys i 0 (get_or ys i 0) (omega (arith, c.loop-place-test.true, c.loop-place.auto.numbers)))
