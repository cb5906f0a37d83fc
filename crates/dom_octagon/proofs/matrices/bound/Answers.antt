use Rattle.std.proofs.Common.{◌≡◌, length, arith, ap, inl, inr}
use Rattle.std.proofs.lemmas.Int.{to_z-of_z}
use mir.Syntax.{w128}
use Rattle.dom_octagon_meaning.proofs.Exact.{bound-is, bound-outside}
use Rattle.dom_octagon.proofs.matrices.bound.Goals as goal
use Rattle.dom_octagon.proofs.matrices.bound.Goals.{else-i-nodes-via-then-i-nodes+else-j-nodes, else-i-nodes-via-else-i-nodes}

pub returns-then-j-nodes-clause-value : goal.returns-then-j-nodes-clause-value
returns-then-j-nodes-clause-value c = bound-is c.args.m.now c.set_least.new.self c.args.i c.args.j c.args.c c.kinds.ensures.matrix (rw (to_z-of_z w128 c.args.c c.ranges.c) at c.set_least.ensures.entries)

pub returns-else-i-nodes-clause-value : goal.returns-else-i-nodes-clause-value
returns-else-i-nodes-clause-value c =
    let n : length c.kinds.result.now ≡ length c.args.m.now.kinds = ap length c.kinds.ensures.value in
    elim c.else-i-nodes.branch [
      | else-i-nodes-via-then-i-nodes+else-j-nodes w ↦ bound-outside c.args.m.now c.args.i c.args.j c.args.c c.kinds.ensures.matrix (inr (omega (arith, n, w.if-j-nodes.false)))
      | else-i-nodes-via-else-i-nodes w ↦ bound-outside c.args.m.now c.args.i c.args.j c.args.c c.kinds.ensures.matrix (inl (omega (arith, n, w.if-i-nodes.false)))
    ]
