use Rattle.dbm_narrow.specs.Entries.{at, strengthened_by}
use Rattle.dbm_narrow.proofs.PartLemmas.{AreRows}
use Rattle.dbm_narrow.proofs.steps.strengthen_rows.Given as goal

abbrev pub invariant-loop-i : goal.invariant-loop-i
invariant-loop-i gen l = AreRows gen.W.Width.unit gen.W.Width.positive (λ a j x. strengthened_by gen.W.Width.unit (at gen.W.Width.unit l.halves a) (at gen.W.Width.unit l.behind j) x) l.fn.entries l.entries l.i
