-- Walks over the nodes, and what they weigh: step 1 of closing.
use Rattle.std.specs.Prelude.{◌≡◌, ℕ, ◌<◌, ℤ, pos, negsuc, Option, Some, List, [], ◌∷◌}
use Rattle.dbm_core.specs.Weights.{AtMost, add_weight}

-- each of the nodes is below n
abbrev pub Below : ℕ → List ℕ → Type 0
Below n [] = Unit {0}
Below n (x ∷ xs) = (x < n) × Below n xs

-- where the walk ends that starts at i and goes to each of these nodes in turn
abbrev pub walk_end : ℕ → List ℕ → ℕ
walk_end i [] = i
walk_end i (x ∷ xs) = walk_end x xs

-- what it weighs: 0 where it takes no step, else the sum of its steps' bounds
abbrev pub walk_weight : (ℕ → ℕ → Option ℤ) → ℕ → List ℕ → Option ℤ
walk_weight w i [] = Some (pos 0)
walk_weight w i (x ∷ xs) = add_weight (w i x) (walk_weight w x xs)

-- the walk from i to each of the nodes xs in turn, which are below n, is one to j
pub record IsWalk (n i : ℕ) (xs : List ℕ) (j : ℕ) : Type 0 where
  pub inside : Below n xs
  pub ends : walk_end i xs ≡ j

-- a walk from a node back to itself weighs less than 0
abbrev pub HasNegativeWalk : (ℕ → ℕ → Option ℤ) → ℕ → Type 0
HasNegativeWalk w n = (i : ℕ) × (i < n) × ((xs : List ℕ) × IsWalk n i xs i × AtMost (walk_weight w i xs) (Some (negsuc 0)))

-- no walk from a node back to itself does
abbrev pub HasNoNegativeWalk : (ℕ → ℕ → Option ℤ) → ℕ → Type 0
HasNoNegativeWalk w n = (i : ℕ) (xs : List ℕ) → i < n → IsWalk n i xs i → AtMost (Some (pos 0)) (walk_weight w i xs)

-- each finite entry is the weight of some walk, and no walk weighs less than its entry
pub record AreLeastWeights (w : ℕ → ℕ → Option ℤ) (n : ℕ) (s : ℕ → ℕ → Option ℤ) : Type 0 where
  pub walks : (i j : ℕ) (x : ℤ) → i < n → j < n → s i j ≡ Some x → (xs : List ℕ) × IsWalk n i xs j × (walk_weight w i xs ≡ Some x)
  pub lower : (i j : ℕ) (xs : List ℕ) → i < n → j < n → IsWalk n i xs j → AtMost (s i j) (walk_weight w i xs)
