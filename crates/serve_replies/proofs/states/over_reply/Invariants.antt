use Rattle.std.proofs.Common.{◌≡◌, take}
use Rattle.serve_replies.proofs.states.over_reply.Given as goal

-- the call statements so far
abbrev pub invariant-loop-site : goal.invariant-loop-site
invariant-loop-site l = l.sites ≡ take l.site-index l.chain
