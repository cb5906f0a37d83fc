use Rattle.std.specs.Prelude.{◌*◌, length}
use Rattle.std.proofs.Common.{arith, subst}
use Rattle.dbm_core.specs.Half.{HalfMatrix, IsMatrix, entry, nodes}
use Rattle.dbm_core.specs.Limits.{AreWithin}
use Rattle.dbm_narrow.proofs.EntryLemmas.{held-within}
use Rattle.dbm_narrow.proofs.narrow.Narrow.kinds.Goals as goal

pub returns-clause-matrix : goal.returns-clause-matrix
returns-clause-matrix gen c = subst IsMatrix c.self.view_is c.self.invariant.matrix

pub returns-clause-within : goal.returns-clause-within
returns-clause-within gen c = subst (λ (m : HalfMatrix). AreWithin (nodes m) (2 * gen.W.Width.unit) (entry m)) c.self.view_is
    (held-within gen.W.Width.unit gen.W.Width.positive (2 * gen.W.Width.unit) c.self.inside.kinds c.self.inside.entries.items (2 * length c.self.inside.kinds) (omega (arith, gen.W.Width.positive)) c.self.invariant.entries)
