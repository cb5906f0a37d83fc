-- A place in a block at which statements come, and what is then known of the statements around it.
use Rattle.std.specs.Prelude.{ℕ, zero, suc, List, [], ◌∷◌, Option, Some, None, Bool, true, false, ◌&&◌}
use Rattle.imp_syntax.specs.Plain.{Statement, Simple, Break, Call, If, While, Statements, Ends, Starts, numbers}
use Rattle.imp_syntax.specs.declared.words.Declaration.{Declaration}
use Rattle.imp_check.specs.Slots.{Resolver}
use Rattle.imp_check.specs.Statements.{Scope}
use Rattle.imp_check.specs.Parts.{first_or, last_or}
use Rattle.imp_check.specs.Entries.{block_entries}
use Rattle.imp_check.specs.declared.entry.Around.{Around}
use Rattle.imp_check.specs.declared.entry.BlockEnds.{BlockEnds}
use Rattle.imp_check.specs.declared.entry.Context.{Context}
use Rattle.imp_check.specs.declared.entry.Entry.{Entry}
use Rattle.imp_check.specs.declared.entry.ProcHeader.{ProcHeader}
use Rattle.imp_check.specs.declared.entry.Which.{Which}
use Rattle.imp_check.specs.declared.entry.Which.TheVariants as which
use Rattle.edit_entries.specs.Spliced.{Splice}

-- whether no call stands in a statement
abbrev mutual
  pub is_quiet : Statement → Bool
  is_quiet (Simple n a) = true
  is_quiet (Break n) = true
  is_quiet (Call n x g es) = false
  is_quiet (If n c t e) = are_quiet t && are_quiet e
  is_quiet (While n c b) = are_quiet b

  pub are_quiet : Statements → Bool
  are_quiet Ends = true
  are_quiet (Starts s ss) = is_quiet s && are_quiet ss

-- Whether moreover each break stands in a loop: one of its own, or one around it if one is.
abbrev mutual
  pub is_closed : (inside : Bool) → Statement → Bool
  is_closed inside (Simple n a) = true
  is_closed inside (Break n) = inside
  is_closed inside (Call n x g es) = false
  is_closed inside (If n c t e) = are_closed inside t && are_closed inside e
  is_closed inside (While n c b) = are_closed true b

  pub are_closed : (inside : Bool) → Statements → Bool
  are_closed inside Ends = true
  are_closed inside (Starts s ss) = is_closed inside s && are_closed inside ss

-- The same at a place, around which this loop is, if one is.
abbrev pub closed_at : Option ℕ → Statements → Bool
closed_at None b = are_closed false b
closed_at (Some n) b = are_closed true b

-- these variables, and no procedure
abbrev pub lone : List Declaration → Scope
lone vs = record { earlier = []; others = []; variables = vs }

-- the new one where there was nothing beside it, or else the old one
abbrev pub or_new : (beside new old : Option ℕ) → Option ℕ
or_new None new old = new
or_new (Some n) new old = old

-- The ends of a block, once these statements stand between two of it.
abbrev pub ends_with : (front next : Option ℕ) → Statements → BlockEnds → BlockEnds
ends_with front next news s = record { first = or_new front (first_or news next) s.first; last = or_new next (last_or news front) s.last }

-- the ends of one of its blocks, and the statement with others
abbrev pub ends_in : Which → Entry → BlockEnds
ends_in which.Then x = x.inner
ends_in which.Else x = x.other
ends_in which.Body x = x.inner

abbrev pub with_ends : Which → BlockEnds → Entry → Entry
with_ends which.Then s x = record x { inner = s }
with_ends which.Else s x = record x { other = s }
with_ends which.Body s x = record x { inner = s }

-- the statement that has a block, if one has, and what is then known of it
abbrev pub holder_of : Option Around → Option ℕ
holder_of None = None
holder_of (Some w) = Some w.stmt

abbrev pub held_in : Option Around → (ends : BlockEnds → BlockEnds) → Entry → Entry
held_in None ends x = x
held_in (Some w) ends x = with_ends w.which (ends (ends_in w.which x)) x

-- the procedures, where a block is the body of the one at a place
abbrev pub head_with : List ProcHeader → (place : ℕ) → (ends : BlockEnds → BlockEnds) → List ProcHeader
head_with [] place ends = []
head_with (h ∷ hs) zero ends = record h { body = ends h.body } ∷ hs
head_with (h ∷ hs) (suc place) ends = h ∷ head_with hs place ends

abbrev pub heads_in : Option Around → List ProcHeader → (place : ℕ) → (ends : BlockEnds → BlockEnds) → List ProcHeader
heads_in None hs place ends = head_with hs place ends
heads_in (Some w) hs place ends = hs

-- These statements come between two of a block, and those of these numbers go; the loop around then has these breaks.
abbrev pub gap_splice : Resolver → Context → (front next : Option ℕ) → (gone : List ℕ) → Statements → (breaks : List ℕ) → Splice
gap_splice f k front next gone news breaks = record {
  gone = gone;
  come = block_entries f k front next news;
  come_numbers = numbers news;
  front = front;
  next = next;
  holder = holder_of k.around;
  loop = k.head;
  breaks = breaks;
  first = first_or news next;
  last = last_or news front;
}
