use Rattle.dbm_core.specs.Half.{entry}
use Rattle.dbm_close.specs.Halves.{HasNoLowPair}
use Rattle.dbm_close.proofs.slot.has_low_pair.Given as goal

abbrev pub invariant-loop-i : goal.invariant-loop-i
invariant-loop-i l = HasNoLowPair l.i (entry l.m) l.slot
