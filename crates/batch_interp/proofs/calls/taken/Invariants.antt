use Rattle.std.proofs.Common.{◌≡◌, ◌++◌, length, reverse}
use Rattle.batch_interp.specs.Handing.{handed_to, handed_besides}
use Rattle.batch_interp.proofs.calls.taken.Given as goal

-- what is taken so far, with what is left, is all
abbrev pub invariant-loop-handed : goal.invariant-loop-handed
invariant-loop-handed g l = record {
  entered : l.entered ++ handed_to l.place (reverse l.left) ≡ handed_to l.place l.fn.calls;
  others : l.others ++ handed_besides l.place (reverse l.left) ≡ handed_besides l.place l.fn.calls;
}

abbrev pub decreases-loop-handed : goal.decreases-loop-handed
decreases-loop-handed g l = length l.left
