-- Entries of a width whose unit is h: a bound, or 32 units for none; what is 16 units or more is none.
use Rattle.std.specs.Prelude.{◌*◌, ◌≡◌, ℕ, ◌+◌, ltb, ◌⊎◌, ℤ, pos, neg_ℤ, ◌+ℤ◌, ◌≤ℤ◌, int_lt, Option, Some, None, Bool, cond, List, map, slice_index_or, eqb, ◌/◌, ◌||◌}
use Rattle.std.specs.Int.{int_min, int_div_euclid}
use Rattle.dbm_core.specs.Half.{HalfMatrix, row_start, row_width}
use Rattle.dbm_core.specs.Nodes.{flip}

-- no bound
abbrev pub none : ℕ → ℤ
none h = pos (32 * h)

-- the bound that an entry stands for
unfoldable pub wide : ℕ → ℤ → Option ℤ
wide h x = cond (int_lt x (pos (16 * h))) (Some x) None

-- a sum as an entry
unfoldable pub settle : ℕ → ℤ → ℤ
settle h x = cond (int_lt x (pos (16 * h))) x (none h)

-- an entry is none, or a bound from -b to b
abbrev pub IsEntry : ℕ → ℕ → ℤ → Type 0
IsEntry h b x = (x ≡ none h) ⊎ ((neg_ℤ (pos b) ≤ℤ x) × (x ≤ℤ pos b))

-- the entry at a place, none beyond
abbrev pub at : ℕ → List ℤ → ℕ → ℤ
at h xs k = slice_index_or xs k (none h)

-- each of them is an entry
abbrev pub AreEntries : ℕ → ℕ → List ℤ → Type 0
AreEntries h b xs = (k : ℕ) → IsEntry h b (at h xs k)

-- the entry of every pair: the kept one, or the kept mirror image
unfoldable pub pair_at : ℕ → List ℤ → ℕ → ℕ → ℤ
pair_at h xs i j = cond (ltb j (row_width i)) (at h xs (row_start i + j)) (at h xs (row_start (flip j) + flip i))

-- an entry when walks may go over two more
abbrev pub through_both : ℕ → ℤ → ℤ → ℤ → ℤ → ℤ → ℤ
through_both h u v f g x = settle h (int_min (int_min x (u +ℤ f)) (v +ℤ g))

-- an entry that is at most the sum of two more
abbrev pub strengthened_by : ℕ → ℤ → ℤ → ℤ → ℤ
strengthened_by h u f x = settle h (int_min x (u +ℤ f))

-- an entry without the bounds on a slot: the diagonal stays
abbrev pub dropped : ℕ → ℕ → ℕ → ℕ → ℤ → ℤ
dropped h k i j x = cond (eqb i j) x (cond (eqb (i / 2) k || eqb (j / 2) k) (none h) x)

-- half of an entry, rounded down
unfoldable pub half_entry : ℕ → ℤ → ℤ
half_entry h x = cond (int_lt x (pos (16 * h))) (int_div_euclid x (pos 2)) (none h)

-- the bound, 0 where there is none
abbrev pub or_zero : ℕ → ℤ → ℤ
or_zero h x = cond (int_lt x (pos (16 * h))) x (pos 0)

-- the matrix of these kinds and entries
abbrev pub held : ℕ → List Bool → List ℤ → HalfMatrix
held h kinds xs = record { kinds = kinds; kept = map (wide h) xs }
