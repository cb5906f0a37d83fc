-- What is closed, and what closing it answers.
use Rattle.std.specs.Prelude.{◌≡◌, ◌≢◌, ◌<◌, ◌≤◌, ◌/◌, ◌^◌, Some, length}
use Rattle.dbm_close.specs.CloseOf.{close_of}
use Rattle.dbm_close.specs.declared.closed.Closed.{Closed}
use Rattle.dbm_close.specs.declared.closed.Closed.TheVariants as closed
use Rattle.dbm_core.specs.Half.{HalfMatrix, nodes}
use Rattle.dbm_core.specs.Limits.{IsWithin}
use Rattle.dbm_incremental.specs.ClosedMatrices.{IsClosed, IsWhole}
use Rattle.dbm_incremental.specs.Equations.{ClosesEquated}
use Rattle.dbm_incremental.specs.Steps.{AreBounds, ClosesAllLowered}
use Rattle.dbm_narrow.specs.Carried.{ClosesStood}
use Rattle.dbm_narrow.specs.declared.closed.Closing.{Closing}
use Rattle.dbm_narrow.specs.declared.closed.Closing.TheVariants.{Empty, Matrix, TooWide}
use Rattle.dom_octagon_states.specs.declared.tasks.Task.{Task}
use Rattle.dom_octagon_states.specs.declared.tasks.Task.TheVariants.{Any, Equated, Lowered, Stood, Whole}
use Rattle.dom_octagon_states.specs.Limits.{IsReady, ObeysTriangles}

-- what each asks of the matrix
abbrev pub CanDo : HalfMatrix → Task → Type 0
CanDo m Any = IsReady m
CanDo m Whole = IsReady m × ObeysTriangles m
CanDo m (Lowered bounds) = (length bounds.now ≤ 4) × AreBounds (nodes m) bounds.now × IsClosed m × IsWhole m
CanDo m (Equated q y c) = (q < length m.kinds) × (y < nodes m) × (y / 2 ≢ q) × IsClosed m × IsWhole m × IsWithin (2 ^ 70) (Some c)
CanDo m (Stood q y c) = (q < length m.kinds) × (y < nodes m) × IsClosed m × IsWhole m × IsWithin (2 ^ 70) (Some c)

-- a is what closing answers of it
abbrev pub Does : HalfMatrix → Task → Closed → Type 0
Does m Any a = a ≡ close_of m
Does m Whole a = a ≡ close_of m
Does m (Lowered bounds) a = ClosesAllLowered m bounds.now a
Does m (Equated q y c) a = ClosesEquated m q y c a
Does m (Stood q y c) a = ClosesStood m q y c a

-- the same of a width's answer; a matrix that it gives is closed
abbrev pub DoesIf : {W : Type 0} → HalfMatrix → Task → Closing W → Type 0
DoesIf m task Empty = Does m task closed.Empty
DoesIf m task (Matrix n) = Does m task (closed.Matrix n) × IsClosed n
DoesIf m task TooWide = Unit {0}
