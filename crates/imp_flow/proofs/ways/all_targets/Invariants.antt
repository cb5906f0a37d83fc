use Rattle.std.proofs.Common.{◌≡◌, ◌++◌, drop, map, reverse}
use Rattle.cell_rows.specs.Targets.{target}
use Rattle.imp_flow.specs.Reached.{target_of, those_there}
use Rattle.imp_flow.proofs.ways.all_targets.Given as goal

-- the targets so far, and those of the chains to come
abbrev pub invariant-loop-chain : goal.invariant-loop-chain
invariant-loop-chain l = map target_of l.found ++ those_there (target l.flow.program l.at) (map reverse (drop l.chain-index l.chains)) ≡ those_there (target l.flow.program l.at) (map reverse l.chains)
