use Rattle.std.proofs.Common.{◌≡◌, ◌++◌, drop, map, reverse}
use Rattle.imp_chains.specs.Chains.{ending_in}
use Rattle.call_chains.proofs.filtered.ending_in.Given as goal

abbrev pub invariant-loop-chain : goal.invariant-loop-chain
invariant-loop-chain l = l.found ++ map reverse (ending_in l.calls (drop l.chain-index l.chains)) ≡ map reverse (ending_in l.calls l.chains)
