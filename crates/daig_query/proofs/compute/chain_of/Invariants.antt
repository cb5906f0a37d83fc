use Rattle.std.proofs.Common.{◌≡◌, ◌++◌, length, reverse}
use Rattle.daig_query.proofs.compute.chain_of.Given as goal

abbrev pub invariant-loop-site : goal.invariant-loop-site
invariant-loop-site l = l.sites ++ reverse l.rest ≡ reverse l.initial.rest

abbrev pub decreases-loop-site : goal.decreases-loop-site
decreases-loop-site l = length l.rest
