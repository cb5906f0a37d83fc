-- Sets of numbers.
use Rattle.std.specs.Prelude.{ℕ, ◌≢◌, ◌<◌, ◌↔◌, List, [], ◌∷◌, Contains}
use Rattle.base_values.proofs.Members.{Member}

-- one number more is there
pub record Puts (old new : List ℕ) (n : ℕ) : Type 0 where
  pub here : Contains new n
  pub others : (m : ℕ) → m ≢ n → Contains new m ↔ Contains old m

-- a number is below all of these
abbrev pub Above : ℕ → List ℕ → Type 0
Above n ks = (k : ℕ) → Member k ks → n < k

-- numbers rise, each once
abbrev pub Strict : List ℕ → Type 0
Strict [] = Unit {0}
Strict (k ∷ ks) = Above k ks × Strict ks
