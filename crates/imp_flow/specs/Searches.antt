-- A search for the statements that a change touches, and what it has looked at.
use Rattle.std.specs.Prelude.{◌≡◌, ℕ, ◌⊎◌, List, Option, Some, None, true, false, slice_get, reverse, option_map}
use Rattle.std.specs.BTreeSet.{contains}
use Rattle.std.specs.Ordering.{nat_cmp}
use Rattle.imp_syntax.specs.Plain.{Procedure}
use Rattle.imp_slots.specs.Fits.{IsChecked}
use Rattle.imp_slots.specs.declared.actions.SlotStmt.TheVariants as act
use Rattle.imp_check.specs.Parts.{ends_of}
use Rattle.imp_check.specs.Entries.{entries_of, sites_in}
use Rattle.imp_table.specs.declared.change.Put.{Put}
use Rattle.imp_check.specs.declared.entry.Entry.{Entry}
use Rattle.imp_check.specs.declared.entry.SlotForm.{SlotForm}
use Rattle.imp_check.specs.declared.entry.SlotForm.TheVariants as form
use Rattle.batch_meaning.specs.Places.{main_layout}
use Rattle.imp_flow.specs.Plans.{Plan, thresholds_at, loops_at}
use Rattle.imp_flow.specs.Changed.{IsChanged, IsTold, Stays}
use Rattle.imp_flow.specs.declared.search.Search.{Search}

-- the loop that a break leaves
abbrev pub left_of : SlotForm → Option ℕ → Option ℕ
left_of (form.Stmt act.Break) o = o
left_of (form.Stmt (act.Simple a)) o = None
left_of (form.Cond g) o = None
left_of (form.Call i q) o = None

abbrev pub left_by : Option Entry → Option ℕ
left_by None = None
left_by (Some e) = left_of e.form e.context.head

-- the last statement of a procedure, where it is there
abbrev pub last_at : List Procedure → (place : ℕ) → Option (Option ℕ)
last_at ps k = option_map (λ (p : Procedure). (ends_of p.body).last) (slice_get ps k)

-- Two procedures end with the same statement, or both have none.
pub record EndsAlike (old new : List Procedure) (place : ℕ) : Type 0 where
  pub last : Option ℕ
  pub before : last_at old place ≡ Some last
  pub after : last_at new place ≡ Some last

module _ (old new : Plan) where
  -- What is found is changed, and the start of main was looked at.
  pub record IsSearch (s : Search) : Type 0 where
    pub one : old.engine ≡ new.engine
    pub old_checked : IsChecked old.program
    pub new_checked : IsChecked new.program
    pub told : IsTold old new s.pair
    pub start : contains nat_cmp s.changed 0 ≡ false → main_layout (reverse old.program) ≡ main_layout (reverse new.program)
    pub only : (n : ℕ) → contains nat_cmp s.changed n ≡ true → IsChanged old new n

  -- It has found more, and lost nothing.
  pub record GoesOn (before after : Search) : Type 0 where
    pub is : IsSearch after
    pub more : (n : ℕ) → contains nat_cmp before.changed n ≡ true → contains nat_cmp after.changed n ≡ true

  -- It has looked at a statement: that is found, or keeps its rows.
  pub record IsLooked (s : Search) (n : ℕ) : Type 0 where
    pub kept : contains nat_cmp s.changed n ≡ false → Stays old new n

  pub record AllLooked (s : Search) (ns : List ℕ) : Type 0 where
    pub at : (i n : ℕ) → slice_get ns i ≡ Some n → IsLooked s n

  -- at what comes or goes, and at the loops that breaks among it leave
  pub record ArePutsLooked (s : Search) (puts : List Put) : Type 0 where
    pub at : (i : ℕ) (p : Put) → slice_get puts i ≡ Some p → IsLooked s p.number
    pub left : (i : ℕ) (p : Put) (n : ℕ) → slice_get puts i ≡ Some p → left_by p.entry ≡ Some n → IsLooked s n

  -- at the calls of a procedure that ends with another statement
  abbrev pub AreCallersLooked : Search → (before after : List Procedure) → ℕ → Type 0
  AreCallersLooked s before after k = EndsAlike before after k ⊎ AllLooked s (sites_in (entries_of after) k)

  -- at the loops of a procedure that has other thresholds
  abbrev pub AreLoopsLooked : Search → ℕ → Type 0
  AreLoopsLooked s k = (thresholds_at old k ≡ thresholds_at new k) ⊎ AllLooked s (loops_at new k)
