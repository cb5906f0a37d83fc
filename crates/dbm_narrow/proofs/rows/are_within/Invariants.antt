use Rattle.dbm_narrow.proofs.RowLemmas.{Spans}
use Rattle.dbm_narrow.proofs.rows.are_within.Given as goal

abbrev pub invariant-loop-j : goal.invariant-loop-j
invariant-loop-j gen l = Spans gen.W.Width.unit gen.W.Width.positive l.entries l.j l.low l.high
