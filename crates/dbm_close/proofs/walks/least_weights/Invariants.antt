use Rattle.dbm_close.proofs.RoundLemmas.{IsRounded}
use Rattle.dbm_close.proofs.walks.least_weights.Given as goal

abbrev pub invariant-loop-q : goal.invariant-loop-q
invariant-loop-q l = IsRounded l.m l.current l.q
