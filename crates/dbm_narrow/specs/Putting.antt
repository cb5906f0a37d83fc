-- What is put into the bounds to and from the nodes of one slot.
use Rattle.std.specs.Prelude.{◌≡◌, ℕ, ◌<◌, ◌≤◌, ◌+◌, ◌*◌, ℤ, ◌+ℤ◌, ◌⊎◌, List}
use Rattle.std.specs.Int.{int_min}
use Rattle.dbm_narrow.specs.declared.between.Between.{Between}
use Rattle.dbm_narrow.specs.declared.middle.Middle.{Middle}
use Rattle.dbm_narrow.specs.Entries.{IsEntry, at, settle}

-- ys are xs with x and y at both nodes of slot s
pub record PutsTwo (h : ℕ) (s : ℕ) (x y : ℤ) (xs ys : List ℤ) : Type 0 where
  pub even : at h ys (2 * s) ≡ x
  pub odd : at h ys (2 * s + 1) ≡ y
  pub rest : (k : ℕ) → (k < 2 * s) ⊎ (2 * s + 2 ≤ k) → at h ys k ≡ at h xs k

-- each is a bound within the limits, or none
pub record IsNarrowBetween {W : Type 0} (h : ℕ) (b : Between W) : Type 0 where
  pub first_even : IsEntry h (2 * h) b.first_even
  pub first_odd : IsEntry h (2 * h) b.first_odd
  pub second_even : IsEntry h (2 * h) b.second_even
  pub second_odd : IsEntry h (2 * h) b.second_odd

-- n is m with the bounds from both nodes to slot s, those of the second when walks may go through the first
pub record PutsFrom {W : Type 0} (h : ℕ) (s : ℕ) (b : Between W) (back : ℤ) (m n : Middle W) : Type 0 where
  pub first : PutsTwo h s b.first_even b.first_odd m.from_first n.from_first
  pub second : PutsTwo h s (int_min b.second_even (settle h (back +ℤ b.first_even))) (int_min b.second_odd (settle h (back +ℤ b.first_odd))) m.from_second n.from_second
  pub to_first : n.to_first ≡ m.to_first
  pub to_second : n.to_second ≡ m.to_second

-- n is m with the bounds to both nodes from slot s, those to the second when walks may go through the first
pub record PutsTo {W : Type 0} (h : ℕ) (s : ℕ) (b : Between W) (ahead : ℤ) (m n : Middle W) : Type 0 where
  pub first : PutsTwo h s b.second_odd b.second_even m.to_first n.to_first
  pub second : PutsTwo h s (int_min b.first_odd (settle h (ahead +ℤ b.second_odd))) (int_min b.first_even (settle h (ahead +ℤ b.second_even))) m.to_second n.to_second
  pub from_first : n.from_first ≡ m.from_first
  pub from_second : n.from_second ≡ m.from_second
