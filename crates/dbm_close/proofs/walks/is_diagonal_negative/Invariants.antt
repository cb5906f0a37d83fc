use Rattle.dbm_close.specs.Rounds.{IsDiagonalSound}
use Rattle.dbm_core.specs.Half.{entry}
use Rattle.dbm_close.proofs.walks.is_diagonal_negative.Given as goal

abbrev pub invariant-loop-i : goal.invariant-loop-i
invariant-loop-i l = IsDiagonalSound l.i (entry l.d)
