-- Valuations: an integer for each slot, and what it means that they satisfy a matrix.
use Rattle.std.specs.Prelude.{◌≡◌, ◌≢◌, ◌↔◌, ℕ, ◌<◌, ◌/◌, ◌%◌, ℤ, neg_ℤ, ◌-ℤ◌, ◌≤ℤ◌, Option, Some, cond, eqb}
use Rattle.dbm_core.specs.Weights.{AtMost}
use Rattle.dbm_core.specs.Half.{HalfMatrix, entry, nodes}

-- what node i stands for under the values x: a slot's value, or its negative
unfoldable pub node_value : (ℕ → ℤ) → ℕ → ℤ
node_value x i = cond (eqb (i % 2) 0) (x (i / 2)) (neg_ℤ (x (i / 2)))

-- the values x keep every bound of w, at the n nodes
abbrev pub Meets : ℕ → (ℕ → ℕ → Option ℤ) → (ℕ → ℤ) → Type 0
Meets n w x = (i j : ℕ) → i < n → j < n → AtMost (Some (node_value x j -ℤ node_value x i)) (w i j)

-- the values x satisfy the matrix m
abbrev pub IsSatisfiedBy : HalfMatrix → (ℕ → ℤ) → Type 0
IsSatisfiedBy m x = Meets (nodes m) (entry m) x

-- what satisfies a satisfies m
abbrev pub Covers : HalfMatrix → HalfMatrix → Type 0
Covers a m = (x : ℕ → ℤ) → IsSatisfiedBy a x → IsSatisfiedBy m x

-- x and y differ at slot k at most
abbrev pub AgreeButAt : ℕ → (ℕ → ℤ) → (ℕ → ℤ) → Type 0
AgreeButAt k x y = (q : ℕ) → q ≢ k → x q ≡ y q

-- what satisfies a satisfies m, and still does where slot k is given another value
abbrev pub Frees : HalfMatrix → ℕ → HalfMatrix → Type 0
Frees a k m = (x y : ℕ → ℤ) → IsSatisfiedBy a x → AgreeButAt k x y → IsSatisfiedBy m y

-- what satisfies m is what satisfies a and keeps the bound on the pair (i, j)
abbrev pub AddsBound : HalfMatrix → ℕ → ℕ → ℤ → HalfMatrix → Type 0
AddsBound a i j bound m =
    (x : ℕ → ℤ) → IsSatisfiedBy m x ↔ (IsSatisfiedBy a x × ((node_value x j -ℤ node_value x i) ≤ℤ bound))
