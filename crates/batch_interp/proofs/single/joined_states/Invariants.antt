use Rattle.std.proofs.Common.{◌≡◌, drop}
use Rattle.batch_meaning.specs.Values as plain
use Rattle.batch_meaning.specs.Batch.{LoopOptions, joined}
use Rattle.batch_interp.specs.Passing.{states}
use Rattle.batch_interp.proofs.single.joined_states.Given as goal

-- what is left, joined to the state so far, gives what all give
abbrev pub invariant-loop-other : goal.invariant-loop-other
invariant-loop-other g l =
    (e : LoopOptions) → joined (g.D.Domain.operations l.dom) e (plain.State l.all) (states (drop l.other-index l.others)) ≡ joined (g.D.Domain.operations l.dom) e (plain.State l.fn.first) (states l.others)
