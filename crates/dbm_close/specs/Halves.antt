-- Steps 2 to 5 at one entry, from half of each node's own bound.
use Rattle.std.specs.Prelude.{◌≡◌, ℕ, ◌<◌, ◌+◌, ◌*◌, ◌^◌, ℤ, pos, negsuc, neg_ℤ, Option, Some, None, List, slice_index_or, ◌⊎◌}
use Rattle.dbm_close.specs.Steps.{half}
use Rattle.dbm_core.specs.Nodes.{flip}
use Rattle.dbm_core.specs.Weights.{AtMost, add_weight, least}

-- v has half of the bound from each node to that of the other sign
abbrev pub HasHalves : ℕ → (ℕ → ℕ → Option ℤ) → List (Option ℤ) → Type 0
HasHalves n d v = (i : ℕ) → i < n → slice_index_or v i None ≡ half (d i (flip i))

-- a bound made at most the sum of the halves
abbrev pub halved_bound : List (Option ℤ) → ℕ → ℕ → Option ℤ → Option ℤ
halved_bound v i j bound = least bound (add_weight (slice_index_or v i None) (slice_index_or v (flip j) None))

-- the halves of a slot are below 0 together
abbrev pub HasNegativeHalves : ℕ → List (Option ℤ) → Type 0
HasNegativeHalves n v = (i : ℕ) × ((i < n) × AtMost (add_weight (slice_index_or v i None) (slice_index_or v (flip i) None)) (Some (negsuc 0)))

abbrev pub HasNoNegativeHalves : ℕ → List (Option ℤ) → Type 0
HasNoNegativeHalves n v = (i : ℕ) → i < n → AtMost (Some (pos 0)) (add_weight (slice_index_or v i None) (slice_index_or v (flip i) None))

-- a bound to one of the nodes of slot q is too low
abbrev pub HasLowPair : ℕ → (ℕ → ℕ → Option ℤ) → ℕ → Type 0
HasLowPair n d q = (i : ℕ) × ((i < n) × (AtMost (d i (2 * q)) (Some (negsuc (2 ^ 64))) ⊎ AtMost (d i (2 * q + 1)) (Some (negsuc (2 ^ 64)))))

abbrev pub HasNoLowPair : ℕ → (ℕ → ℕ → Option ℤ) → ℕ → Type 0
HasNoLowPair n d q = (i : ℕ) → i < n → AtMost (Some (neg_ℤ (pos (2 ^ 64)))) (d i (2 * q)) × AtMost (Some (neg_ℤ (pos (2 ^ 64)))) (d i (2 * q + 1))
