use Rattle.std.proofs.Common.{◌≡◌, take}
use Rattle.serve_replies.proofs.states.numbers_of.Given as goal

-- the numbers so far
abbrev pub invariant-loop-site : goal.invariant-loop-site
invariant-loop-site l = l.numbers ≡ take l.site-index l.string
