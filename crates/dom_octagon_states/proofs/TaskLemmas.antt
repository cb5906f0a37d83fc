-- What closing answers of each task.
use Rattle.std.specs.Prelude.{ℕ, ℤ, List}
use Rattle.std.proofs.Common.{sym, subst}
use denote.Bor.{Bor}
use Rattle.dbm_core.specs.Half.{HalfMatrix, IsMatrix, entry, nodes}
use Rattle.dbm_core.specs.Limits.{IsZeroAtMost}
use Rattle.dbm_incremental.proofs.LawLemmas.{close_of-closed}
use Rattle.dbm_incremental.specs.Answers.{IsClosedAnswer}
use Rattle.dbm_incremental.specs.declared.bounds.Bound.{Bound}
use Rattle.dbm_narrow.specs.Carried.{IsClosingStood}
use Rattle.dbm_narrow.specs.Closed.{IsClosing, IsClosingEquated, IsClosingLowered}
use Rattle.dbm_narrow.specs.declared.closed.Closing.{Closing}
use Rattle.dbm_narrow.specs.declared.closed.Closing.TheVariants.{Empty, Matrix, TooWide}
use Rattle.dom_octagon_states.specs.declared.tasks.Task.TheVariants.{Any, Equated, Lowered, Stood, Whole}
use Rattle.dom_octagon_states.specs.Tasks.{DoesIf}

pub any-does : {W : Type 0} (m : HalfMatrix) (a : Closing W) → IsMatrix m → IsZeroAtMost (nodes m) (entry m) → IsClosing m a → DoesIf m Any a
any-does m Empty t z e = sym e
any-does m (Matrix n) t z e = (sym e, subst IsClosedAnswer e (close_of-closed m t z))
any-does m TooWide t z e = tt

pub whole-does : {W : Type 0} (m : HalfMatrix) (a : Closing W) → IsMatrix m → IsZeroAtMost (nodes m) (entry m) → IsClosing m a → DoesIf m Whole a
whole-does m Empty t z e = sym e
whole-does m (Matrix n) t z e = (sym e, subst IsClosedAnswer e (close_of-closed m t z))
whole-does m TooWide t z e = tt

pub lowered-does : {W : Type 0} (m : HalfMatrix) (bounds : Bor (List Bound)) (a : Closing W) → IsClosingLowered m bounds.now a → DoesIf m (Lowered bounds) a
lowered-does m bounds Empty h = h
lowered-does m bounds (Matrix n) h = h
lowered-does m bounds TooWide h = tt

pub equated-does : {W : Type 0} (m : HalfMatrix) (q y : ℕ) (c : ℤ) (a : Closing W) → IsClosingEquated m q y c a → DoesIf m (Equated q y c) a
equated-does m q y c Empty h = h
equated-does m q y c (Matrix n) h = h
equated-does m q y c TooWide h = tt

pub stood-does : {W : Type 0} (m : HalfMatrix) (q y : ℕ) (c : ℤ) (a : Closing W) → IsClosingStood m q y c a → DoesIf m (Stood q y c) a
stood-does m q y c Empty h = h
stood-does m q y c (Matrix n) h = h
stood-does m q y c TooWide h = tt
