-- The bounds to and from the nodes of one slot, as entries.
use Rattle.std.specs.Prelude.{ℕ, ◌*◌, ℤ, map, List}
use Rattle.dbm_close.specs.declared.middle.Middle.{Middle as WideMiddle}
use Rattle.dbm_narrow.specs.declared.middle.Middle.{Middle}
use Rattle.dbm_narrow.specs.Entries.{AreEntries, at, through_both, wide}
use Rattle.dbm_narrow.specs.Rows.{RowsAre}

-- the bounds that they stand for
abbrev pub wide_middle : {W : Type 0} → ℕ → Middle W → WideMiddle
wide_middle h m = record { to_first = map (wide h) m.to_first; from_first = map (wide h) m.from_first; to_second = map (wide h) m.to_second; from_second = map (wide h) m.from_second }

-- each is none or a small bound: a sum of one to a node and one from it stays below 16 units
pub record IsNarrowMiddle {W : Type 0} (h : ℕ) (m : Middle W) : Type 0 where
  pub to_first : AreEntries h (6 * h) m.to_first
  pub from_first : AreEntries h (8 * h) m.from_first
  pub to_second : AreEntries h (6 * h) m.to_second
  pub from_second : AreEntries h (8 * h) m.from_second

-- an entry from i to j when walks may go through both nodes of m's slot
abbrev pub through_middle : {W : Type 0} → ℕ → Middle W → ℕ → ℕ → ℤ → ℤ
through_middle h m i j x = through_both h (at h m.to_first i) (at h m.to_second i) (at h m.from_first j) (at h m.from_second j) x

-- the same of the n first rows
abbrev pub AllThrough : {W : Type 0} → ℕ → Middle W → ℕ → List ℤ → List ℤ → Type 0
AllThrough h m n xs ys = RowsAre h (through_middle h m) n xs ys
