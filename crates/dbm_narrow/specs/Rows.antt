-- What becomes of entries: of each in a row, of a row among all, of all rows, and of whole rows that are made.
use Rattle.std.specs.Prelude.{◌*◌, ◌≡◌, ℕ, ◌<◌, ◌≤◌, ◌+◌, ℤ, ◌+ℤ◌, ◌⊎◌, List, length}
use Rattle.std.specs.Int.{int_max, int_min}
use Rattle.dbm_core.specs.Half.{row_start, row_width}
use Rattle.dbm_core.specs.Nodes.{flip}
use Rattle.dbm_narrow.specs.Entries.{AreEntries, IsEntry, at, settle, strengthened_by, through_both}

-- each entry of the row ys is f of its column and of the entry of xs
abbrev pub EachIs : ℕ → (ℕ → ℤ → ℤ) → List ℤ → List ℤ → Type 0
EachIs h f xs ys = (j : ℕ) → j < length xs → at h ys j ≡ f j (at h xs j)

-- the same of row i among all entries
abbrev pub RowIs : ℕ → (ℕ → ℤ → ℤ) → ℕ → List ℤ → List ℤ → Type 0
RowIs h f i xs ys = (j : ℕ) → j < row_width i → at h ys (row_start i + j) ≡ f j (at h xs (row_start i + j))

-- and the entries outside it stay
abbrev pub RestStays : ℕ → ℕ → List ℤ → List ℤ → Type 0
RestStays h i xs ys = (k : ℕ) → (k < row_start i) ⊎ (row_start i + row_width i ≤ k) → at h ys k ≡ at h xs k

-- the entries of row i lie within b
abbrev pub IsRowWithin : ℕ → ℕ → ℕ → List ℤ → Type 0
IsRowWithin h b i xs = (j : ℕ) → j < row_width i → IsEntry h b (at h xs (row_start i + j))

-- the same of the n first rows
abbrev pub RowsAre : ℕ → (ℕ → ℕ → ℤ → ℤ) → ℕ → List ℤ → List ℤ → Type 0
RowsAre h f n xs ys = (i j : ℕ) → i < n → j < row_width i → at h ys (row_start i + j) ≡ f i j (at h xs (row_start i + j))

-- the first n entries of xs are f of their columns
abbrev pub ColumnsAre : ℕ → ℕ → (ℕ → ℤ) → List ℤ → Type 0
ColumnsAre h n f xs = (j : ℕ) → j < n → at h xs j ≡ f j

-- the first n entries of ys are those that xs has at the other node of the slot
abbrev pub AreFlipped : ℕ → ℕ → List ℤ → List ℤ → Type 0
AreFlipped h n xs ys = ColumnsAre h n (λ i. at h xs (flip i)) ys

-- an entry at column j of a row when walks may go over both ways
abbrev pub through_at : ℕ → ℤ → ℤ → List ℤ → List ℤ → ℕ → ℤ → ℤ
through_at h u v f g j x = through_both h u v (at h f j) (at h g j) x

-- the same of each entry
abbrev pub GoneThrough : ℕ → ℤ → ℤ → List ℤ → List ℤ → List ℤ → List ℤ → Type 0
GoneThrough h u v f g xs ys = EachIs h (through_at h u v f g) xs ys

-- the entries from column a before column b of the row ys are gone through, the others are those of xs
pub record AreGone (h : ℕ) (a b : ℕ) (u v : ℤ) (f g xs ys : List ℤ) : Type 0 where
  pub gone : (j : ℕ) → a ≤ j → j < b → at h ys j ≡ through_at h u v f g j (at h xs j)
  pub rest : (j : ℕ) → (j < a) ⊎ (b ≤ j) → at h ys j ≡ at h xs j

-- the entries from column a lie within b
abbrev pub AreEntriesFrom : ℕ → ℕ → ℕ → List ℤ → Type 0
AreEntriesFrom h a b xs = (j : ℕ) → a ≤ j → IsEntry h b (at h xs j)

-- an entry at column j of a row that is at most the sum of two halves
abbrev pub strengthened_at : ℕ → ℤ → List ℤ → ℕ → ℤ → ℤ
strengthened_at h u f j x = strengthened_by h u (at h f j) x

-- the same at a pair
abbrev pub strengthened_between : ℕ → List ℤ → List ℤ → ℕ → ℕ → ℤ → ℤ
strengthened_between h hs bs i j x = strengthened_by h (at h hs i) (at h bs j) x

-- the same of the n first rows
abbrev pub Strengthened : ℕ → List ℤ → List ℤ → ℕ → List ℤ → List ℤ → Type 0
Strengthened h hs bs n xs ys = RowsAre h (strengthened_between h hs bs) n xs ys

-- the lesser of an entry and of a step and the next one
abbrev pub over_at : ℕ → List ℤ → ℤ → List ℤ → ℕ → ℤ
over_at h row step next j = int_min (at h row j) (settle h (step +ℤ at h next j))

-- a step and the entry
abbrev pub stepped_at : ℕ → ℤ → List ℤ → ℕ → ℤ
stepped_at h step row j = settle h (step +ℤ at h row j)

-- sums of a step within b and entries within c lie within b + c
abbrev pub SumsFit : ℕ → ℤ → List ℤ → List ℤ → Type 0
SumsFit h step row ys = (b c : ℕ) → b + c < 16 * h → IsEntry h b step → AreEntries h c row → AreEntries h (b + c) ys

-- and so do the lesser of these and of entries within the limits, where those are not wider
abbrev pub LesserFit : ℕ → ℤ → List ℤ → List ℤ → Type 0
LesserFit h step next ys = (b c : ℕ) → 2 * h ≤ b + c → b + c < 16 * h → IsEntry h b step → AreEntries h c next → AreEntries h (b + c) ys

-- zs has the greater entry of the two at each place
abbrev pub AreGreater : ℕ → List ℤ → List ℤ → List ℤ → Type 0
AreGreater h xs ys zs = (k : ℕ) → at h zs k ≡ int_max (at h xs k) (at h ys k)
