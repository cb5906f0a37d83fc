use Rattle.std.proofs.Common.{◌≡◌, ◌∷◌, ◌++◌, ℕ, List, take, map}
use Rattle.call_contexts.proofs.table.add_longer.Given as goal

abbrev pub invariant-loop-chain : goal.invariant-loop-chain
invariant-loop-chain l = l.found ≡ l.initial.found ++ map (λ (z : List ℕ). l.site ∷ z) (take l.chain-index l.chains)
