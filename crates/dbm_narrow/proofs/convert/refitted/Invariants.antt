use Rattle.std.specs.Prelude.{◌*◌, ◌<◌, ℕ, map}
use Rattle.dbm_core.specs.Limits.{IsWithin}
use Rattle.dbm_narrow.proofs.ConvertLemmas.{AreNarrowed}
use Rattle.dbm_narrow.specs.Entries.{at, wide}
use Rattle.dbm_narrow.proofs.convert.refitted.Given as goal

abbrev pub invariant-loop-k : goal.invariant-loop-k
invariant-loop-k gen l = (p : ℕ) → p < l.k → IsWithin (2 * gen.W.Width.unit) (wide gen.V.Width.unit (at gen.V.Width.unit l.from p))

abbrev pub invariant-loop-k-2 : goal.invariant-loop-k-2
invariant-loop-k-2 gen l = AreNarrowed gen.W.Width.unit gen.W.Width.positive (map (wide gen.V.Width.unit) l.from) l.k l.entries.items
