-- A program with another simple statement in the place of one.
use Rattle.std.specs.Prelude.{◌≡◌, ◌≢◌, ℕ, List, [], ◌∷◌}
use Rattle.imp_syntax.specs.Plain.{Action, Procedure}
use Rattle.imp_syntax.specs.Plain as tree
use Rattle.imp_syntax.specs.declared.edit.Edit.TheVariants.{Replace}
use Rattle.imp_slots.specs.Plain.{Code, Stop, Simple, If, While, Call, Break, Routine}
use Rattle.imp_slots.specs.Fits.{Absent, routine_numbers}
use Rattle.imp_check.specs.Fine.{IsFine}
use Rattle.imp_check.specs.Slots.{routines_of}
use Rattle.imp_edit.specs.Edited.{edited}

-- In a block no call, break, if or while has the number s.
abbrev pub OnlySimple : (s : ℕ) → Code → Type 0
OnlySimple s Stop = Unit {0}
OnlySimple s (Simple n e r) = OnlySimple s r
OnlySimple s (If n g t e r) = (n ≢ s) × OnlySimple s t × OnlySimple s e × OnlySimple s r
OnlySimple s (While n g b r) = (n ≢ s) × OnlySimple s b × OnlySimple s r
OnlySimple s (Call n i q r) = (n ≢ s) × OnlySimple s r
OnlySimple s (Break n r) = (n ≢ s) × OnlySimple s r

-- The statement s, if the program has it, is a simple one, and neither a call nor a break.
abbrev pub IsSimple : (s : ℕ) → List Routine → Type 0
IsSimple s [] = Unit {0}
IsSimple s (r ∷ rs) = OnlySimple s r.code × IsSimple s rs

-- An accepted edit replaces a simple statement, neither a call nor a break, by such a one, which gets a number that no
-- statement has.
pub record Exchanges (s : ℕ) (old new : List Procedure) : Type 0 where
  pub number : ℕ
  pub action : Action
  pub makes : edited (Replace s (tree.Simple number action)) old ≡ new
  pub fine : IsFine old
  pub after : IsFine new
  pub simple : IsSimple s (routines_of old)
  pub fresh : Absent number (routine_numbers (routines_of old))
