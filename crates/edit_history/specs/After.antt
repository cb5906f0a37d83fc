-- The programs that changes lead to, one after the other.
use Rattle.std.specs.Prelude.{ℕ, List, [], ◌∷◌, unwrap_or}
use Rattle.imp_syntax.specs.Plain.{Procedure}
use Rattle.imp_check.specs.Entries.{entries_of, entry_of, heads_of}
use Rattle.imp_check.specs.Rebuilt.{program_by}
use Rattle.imp_check.specs.Fine.{IsFine}
use Rattle.imp_table.specs.Changes.{Makes, overlay}
use Rattle.imp_table.specs.Pages.{HavePlaces}
use Rattle.imp_table.specs.declared.change.Change.{Change}

-- the program that a change makes of another
unfoldable pub changed_program : List Procedure → Change → List Procedure
changed_program ps c = program_by (overlay c.entries.items (entry_of (entries_of ps))) c.count (unwrap_or c.heads (heads_of ps))

-- the programs that changes make, each of the one before it
abbrev pub programs_by : List Procedure → List Change → List (List Procedure)
programs_by ps [] = []
programs_by ps (c ∷ cs) = changed_program ps c ∷ programs_by (changed_program ps c) cs

-- a change makes a program without faults of this one, and its numbers have places
pub record Leads (places : List ℕ) (ps : List Procedure) (c : Change) : Type 0 where
  pub makes : Makes ps c (changed_program ps c)
  pub fine : IsFine (changed_program ps c)
  pub there : HavePlaces places c.entries.items

abbrev pub AllLead : (places : List ℕ) → List Procedure → List Change → Type 0
AllLead places ps [] = Unit {0}
AllLead places ps (c ∷ cs) = Leads places ps c × AllLead places (changed_program ps c) cs

-- A change that makes the first of these programs.
pub record MakesNext (places : List ℕ) (ps : List Procedure) (c : Change) (qs : List Procedure) : Type 0 where
  pub makes : Makes ps c qs
  pub fine : IsFine qs
  pub there : HavePlaces places c.entries.items

abbrev pub LeadsOn : (places : List ℕ) → List Procedure → Change → List (List Procedure) → Type 0
LeadsOn places ps c [] = ⊥
LeadsOn places ps c (qs ∷ more) = MakesNext places ps c qs
