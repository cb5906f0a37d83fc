-- Tables in pages of 64 places.
use Rattle.std.specs.Prelude.{ℕ, ◌≡◌, ◌<◌, ◌/◌, ◌%◌, List, [], Option, Bool, true, false, map, length, slice_index_or}
use Rattle.std.specs.List.{All}
use Rattle.imp_check.specs.Tables.{entry_in}
use Rattle.imp_check.specs.declared.entry.Entry.{Entry}
use Rattle.imp_table.specs.Changes.{AreFalling}
use Rattle.imp_table.specs.declared.change.Put.{Put}

-- the entry of a number
abbrev pub entry_at : (pages : List (List (Option Entry))) → ℕ → Option Entry
entry_at pages n = entry_in (slice_index_or pages (n / 64) []) (n % 64)

-- how many places each page has
abbrev pub lengths : List (List (Option Entry)) → List ℕ
lengths pages = map (λ (page : List (Option Entry)). length page) pages

-- among pages of so many places there is one for this number
abbrev pub HasPlace : (places : List ℕ) → ℕ → Type 0
HasPlace places n = n % 64 < slice_index_or places (n / 64) 0

-- The numbers of a change fall, and there is a place for each.
pub record HavePlaces (places : List ℕ) (puts : List Put) : Type 0 where
  pub falling : AreFalling puts
  pub there : All (λ (p : Put). HasPlace places p.number) puts

-- the page of this number is needed
abbrev pub IsNeeded : (needed : List Bool) → ℕ → Type 0
IsNeeded needed n = slice_index_or needed (n / 64) false ≡ true

-- the pages of a change are needed
abbrev pub AreNeeded : (needed : List Bool) → List Put → Type 0
AreNeeded needed puts = All (λ (p : Put). IsNeeded needed p.number) puts
