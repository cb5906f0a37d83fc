-- The cells of statements, on lists that are threaded through them.
use Rattle.std.specs.Prelude.{◌≡◌, ℕ, ◌<◌, List, length, Option, Some, None, option_map, slice_index_or}
use Rattle.daig_graph.specs.declared.owned.OwnedCell.{OwnedCell}
use Rattle.daig_graph.specs.Buckets.{bucket_of}
use Rattle.daig_graph.specs.Linked.{Member, AreLinked}
use Rattle.daig_graph.specs.Walks.{walk}

-- the owners of the cells by their numbers, and the number below which lists have a place
pub record Owners : Type 0 where
  pub of : List (Option ℕ)
  pub lists : ℕ

-- the owner of a number's cell
abbrev pub owner_at : List (Option ℕ) → ℕ → Option ℕ
owner_at owners n = slice_index_or owners n None

-- a cell with its neighbours, if there is one
abbrev pub owned_at : List (Option OwnedCell) → ℕ → Option OwnedCell
owned_at cells n = slice_index_or cells n None

-- a cell as an item of its owner's list
abbrev pub owned_member : List (Option OwnedCell) → ℕ → Option (Member ℕ)
owned_member cells n = option_map (λ (o : OwnedCell). record { list = bucket_of o.owner; before = o.before; next = o.next }) (owned_at cells n)

-- the first cell of a list
abbrev pub first_owned : List (Option ℕ) → ℕ → Option ℕ
first_owned firsts list = slice_index_or firsts list None

abbrev pub after_owned : Option OwnedCell → Option ℕ
after_owned None = None
after_owned (Some o) = o.next

-- the cell after a cell
abbrev pub next_owned : List (Option OwnedCell) → ℕ → Option ℕ
next_owned cells n = after_owned (owned_at cells n)

-- what follows from a cell on
abbrev pub owned_from : List (Option OwnedCell) → Option ℕ → List ℕ
owned_from cells at = walk (next_owned cells) (length cells) at

-- a cell stands on a list
abbrev pub IsListed : List (Option ℕ) → ℕ → ℕ → Type 0
IsListed owners list x = (o : ℕ) × (owner_at owners x ≡ Some o) × (bucket_of o ≡ list)

-- The cells stand on the lists of their owners, each of which has a place.
pub record AreOwned (cells : List (Option OwnedCell)) (firsts : List (Option ℕ)) : Type 0 where
  pub linked : AreLinked (owned_member cells) (first_owned firsts)
  pub listed : (n : ℕ) (o : OwnedCell) → owned_at cells n ≡ Some o → bucket_of o.owner < length firsts
