use Rattle.std.proofs.Common.{ap, length, arith}
use Rattle.dom_octagon_meaning.proofs.Exact.{sources-outside}
use Rattle.dom_octagon.proofs.calls.+meet_sources.Goals as goal

pub returns-then-k-kinds-clause-value : goal.returns-then-k-kinds-clause-value
returns-then-k-kinds-clause-value t c = sources-outside c.args.m.now c.args.k c.args.sources.now c.kinds.ensures.matrix (omega (arith, ap length c.kinds.ensures.value, c.if-k-kinds.true))
