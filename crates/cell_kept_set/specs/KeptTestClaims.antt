-- The test decides what is kept.
use Rattle.std.specs.Bool.{Decides}
use Rattle.domain_laws.specs.Operations.{Operations}
use Rattle.cell_names.specs.Paths.{CellName}
use Rattle.cell_kept_set.specs.Touched.{IsKept}
use Rattle.cell_kept_set.specs.Claims.{OverEdits}
use Rattle.cell_kept_set.specs.KeptTest.{stays_kept}

abbrev pub KeptIsDecided : {S : Type 0} → Operations S → Type 0
KeptIsDecided dom = OverEdits dom (λ e same cells. (x : CellName) → Decides (stays_kept dom e same cells x) (IsKept dom e same cells x))
