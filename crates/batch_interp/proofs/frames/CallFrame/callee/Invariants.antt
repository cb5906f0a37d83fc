use Rattle.std.proofs.Common.{◌≡◌, ◌∷◌, take}
use Rattle.batch_interp.proofs.frames.CallFrame.callee.Given as goal

abbrev pub invariant-loop-earlier : goal.invariant-loop-earlier
invariant-loop-earlier l = l.sites ≡ l.site ∷ take l.earlier-index l.earlier-items
