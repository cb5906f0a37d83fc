-- What the change of an edit is.
use Rattle.std.specs.Prelude.{ℕ, List}
use Rattle.imp_syntax.specs.Plain.{Procedure}
use Rattle.imp_check.specs.Fine.{IsFine}
use Rattle.imp_table.specs.Changes.{AreWithin, Makes}
use Rattle.imp_table.specs.declared.change.Change.{Change}

-- It makes a program without faults of another one, and its numbers are below the next one.
pub record IsMade (old : List Procedure) (new : List Procedure) (next : ℕ) (change : Change) : Type 0 where
  pub makes : Makes old change new
  pub fine : IsFine new
  pub within : AreWithin next change.entries.items
