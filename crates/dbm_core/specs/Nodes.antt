-- Nodes: slot k has the node 2k, which stands for its value, and the node 2k + 1, for its negative.
use Rattle.std.specs.Prelude.{◌≡◌, ℕ, ℤ, Option, Bool, cond, eqb, ◌<◌, ◌+◌, ◌-◌, ◌/◌, ◌%◌, ◌⊎◌}

-- the node of the other sign
abbrev pub flip : ℕ → ℕ
flip i = cond (eqb (i % 2) 0) (i + 1) (i - 1)

-- whether the pair is one slot's two nodes, whose bound is on twice the slot's value
abbrev pub is_single : ℕ → ℕ → Bool
is_single i j = eqb j (flip i)

-- each pair of the n nodes has the bound of its mirror image
abbrev pub IsCoherent : (ℕ → ℕ → Option ℤ) → ℕ → Type 0
IsCoherent w n = (i j : ℕ) → i < n → j < n → w i j ≡ w (flip j) (flip i)

-- one of the pair's nodes is of slot q
abbrev pub IsOfSlot : ℕ → ℕ → ℕ → Type 0
IsOfSlot q i j = (i / 2 ≡ q) ⊎ (j / 2 ≡ q)
