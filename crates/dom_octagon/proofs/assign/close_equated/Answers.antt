use Rattle.std.proofs.lemmas.Int.{to_z-of_z}
use mir.Syntax.{w128}
use Rattle.dom_octagon.proofs.Bounds.{equation_close_if}
use Rattle.dom_octagon.proofs.assign.close_equated.Goals as goal

pub returns-then-i-slots : goal.returns-then-i-slots
returns-then-i-slots c = record {
  exact = equation_close_if c.args.m.now c.args.x c.args.i c.args.c c.close_equation.result c.requires.tight.closed (rw (to_z-of_z w128 c.args.c c.ranges.c) at c.close_equation.ensures.closed);
}
