-- What is known of statements after an edit of a block, from what was known before.
use Rattle.std.specs.Prelude.{ℕ, List, [], ◌∷◌, ◌++◌, take, drop, Option, Some, None, Bool, false, cond, ◌==◌}
use Rattle.std.specs.Option.{option_map}
use Rattle.imp_check.specs.Programs.{has}
use Rattle.imp_check.specs.declared.entry.Entry.{Entry}
use Rattle.imp_check.specs.Entries.{entry_of}

-- whether this is that number
abbrev pub is : Option ℕ → ℕ → Bool
is None m = false
is (Some n) m = n == m

-- with another neighbour
abbrev pub with_front : Option ℕ → Entry → Entry
with_front o x = record x { front = o }

abbrev pub with_next : Option ℕ → Entry → Entry
with_next o x = record x { next = o }

-- the breaks that are left where the statements of these numbers go
abbrev pub left_of : (gone : List ℕ) → List ℕ → List ℕ
left_of gone [] = []
left_of gone (n ∷ ns) = cond (has gone n) (left_of gone ns) (n ∷ left_of gone ns)

-- these come after the first ones of those that are left
abbrev pub among : (before : ℕ) → (come left : List ℕ) → List ℕ
among before come left = take before left ++ (come ++ drop before left)

-- a loop with these breaks
abbrev pub breaking : (breaks : List ℕ) → Entry → Entry
breaking breaks x = record x { breaks = breaks }

abbrev pub rebroken : (loop : Option ℕ) → (breaks : List ℕ) → (ℕ → Option Entry) → ℕ → Option Entry
rebroken loop breaks at m = cond (is loop m) (option_map (breaking breaks) (at m)) (at m)

-- An edit of a block: which statements go, what comes, between which two and in whose block they stand.
pub record Splice : Type 0 where
  pub gone : List ℕ
  pub come : List Entry
  pub come_numbers : List ℕ
  pub front : Option ℕ
  pub next : Option ℕ
  pub holder : Option ℕ
  -- the innermost loop around them, and the breaks that it then has
  pub loop : Option ℕ
  pub breaks : List ℕ
  -- what is then after the one before, and before the one after
  pub first : Option ℕ
  pub last : Option ℕ

abbrev pub spliced : Splice → (held : Entry → Entry) → (ℕ → Option Entry) → ℕ → Option Entry
spliced e held at m =
    cond (has e.gone m) None
    (cond (has e.come_numbers m) (entry_of e.come m)
    (cond (is e.front m) (option_map (with_next e.first) (at m))
    (cond (is e.next m) (option_map (with_front e.last) (at m))
    (cond (is e.holder m) (option_map held (rebroken e.loop e.breaks at m))
    (rebroken e.loop e.breaks at m)))))
