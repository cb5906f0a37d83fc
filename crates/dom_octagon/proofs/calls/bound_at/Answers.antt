use Rattle.std.proofs.Common.{◌≡◌, sym, ap, length, arith, inl, inr}
use Rattle.dbm_core.proofs.HalfLemmas.{entry-outside}
use Rattle.dom_octagon.proofs.calls.bound_at.Goals as goal
use Rattle.dom_octagon.proofs.calls.bound_at.Goals.{else-i-nodes-via-then-i-nodes+else-j-nodes, else-i-nodes-via-else-i-nodes}

pub returns-else-i-nodes : goal.returns-else-i-nodes
returns-else-i-nodes c =
    let n : length c.kinds.result.now ≡ length c.args.m.now.kinds = ap length c.kinds.ensures.value in
    record {
      exact = elim c.else-i-nodes.branch [
        | else-i-nodes-via-then-i-nodes+else-j-nodes w ↦ sym (entry-outside c.args.m.now c.kinds.ensures.matrix c.args.i c.args.j (inr (omega (arith, n, w.if-j-nodes.false))))
        | else-i-nodes-via-else-i-nodes w ↦ sym (entry-outside c.args.m.now c.kinds.ensures.matrix c.args.i c.args.j (inl (omega (arith, n, w.if-i-nodes.false))))
      ];
    }
