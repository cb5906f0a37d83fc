-- The bounds from both nodes of a slot to both nodes of another, as entries.
use Rattle.std.specs.Prelude.{◌≡◌, ℕ, ◌+◌, ◌*◌, ℤ, List}
use Rattle.dbm_narrow.specs.declared.between.Between.{Between}
use Rattle.dbm_narrow.specs.Entries.{pair_at}

-- b has those of slot q to slot s
pub record IsBetween {W : Type 0} (h : ℕ) (xs : List ℤ) (q s : ℕ) (b : Between W) : Type 0 where
  pub first_even : b.first_even ≡ pair_at h xs (2 * q) (2 * s)
  pub first_odd : b.first_odd ≡ pair_at h xs (2 * q) (2 * s + 1)
  pub second_even : b.second_even ≡ pair_at h xs (2 * q + 1) (2 * s)
  pub second_odd : b.second_odd ≡ pair_at h xs (2 * q + 1) (2 * s + 1)
