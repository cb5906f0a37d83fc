use Rattle.dom_octagon.proofs.Bounds.{bounds_close_if}
use Rattle.dom_octagon.proofs.added.close_bounds.Goals as goal

pub returns-then-are_inside : goal.returns-then-are_inside
returns-then-are_inside c = record { exact = bounds_close_if c.args.m.now c.args.bounds.now c.close_after_bounds.result c.requires.tight.closed c.close_after_bounds.ensures.closed }
