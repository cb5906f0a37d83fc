use Rattle.imp_check.specs.Slots.{routines_of}
use Rattle.cert_reading.proofs.TableLemmas.{Chained}
use Rattle.cert_reading.proofs.chain_sets.ChainSets.new.Given as goal

abbrev pub invariant-loop-place : goal.invariant-loop-place
invariant-loop-place l = Chained (routines_of l.prog) l.sets l.place
