use Rattle.std.proofs.Common.{◌≡◌, ℕ, List, true, drop, map, reverse}
use Rattle.std.specs.Prelude.{if◌then◌else◌}
use Rattle.cert_lines.specs.Lines.{is_chain}
use Rattle.cert_reading.proofs.chain_sets.set_of.Given as goal

-- the set so far with the chains to come has what all have
abbrev pub invariant-loop-chain : goal.invariant-loop-chain
invariant-loop-chain l = (z : List ℕ) → (if is_chain z l.set then true else is_chain z (map reverse (drop l.chain-index l.chains))) ≡ is_chain z (map reverse l.chains)
