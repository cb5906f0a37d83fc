-- How many cells a step fills.
use Rattle.std.proofs.Common.{◌≡◌, ℕ, ◌<◌, ◌≤◌, Bool, true, false, arith}
use Rattle.std.specs.Prelude.{min, ◌↔◌}

pub is_more : (b : Bool) (n m : ℕ) → (b ≡ true) ↔ (n ≤ m) → b ≡ false → m < n
is_more b n m h f = let no : n ≤ m → ⊥ = λ l. (let t = h.1 l in absurd cc) in omega (arith, no)

pub as_many_as : (k most n : ℕ) → k ≡ min most n → most < n → k ≡ most
as_many_as k most n e h = omega arith

pub all_of : (k most n m : ℕ) → k ≡ min most n → n ≤ most → n ≡ m → k ≡ m
all_of k most n m e h q = omega arith
