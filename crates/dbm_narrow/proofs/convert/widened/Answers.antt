use Rattle.std.proofs.Common.{arith, ◌∙◌, sym, ap, length}
use Rattle.dbm_narrow.proofs.ConvertLemmas.{same-kept}
use Rattle.dbm_narrow.proofs.convert.widened.Goals as goal

pub from_fn-requires-clause-diagonal : goal.from_fn-requires-clause-diagonal
from_fn-requires-clause-diagonal gen c = λ h a b l p q. p ∙ c.kinds-kinds.ensures.matrix.diagonal h (omega (arith, ap length c.kinds-kinds.ensures.value)) ∙ sym q

pub returns : goal.returns
returns gen c = record {
  same = same-kept gen.W.Width.unit gen.W.Width.positive c.args.narrow.now c.in_ok-made.made c.kinds-kinds.ensures.matrix c.in_ok-made.ensures.matrix (c.in_ok-made.ensures.same_kinds ∙ c.kinds-kinds.ensures.value)
      (λ i j hi w. c.in_ok-made.ensures.kept i j (omega (arith, ap length c.kinds-kinds.ensures.value)) w);
}
