use Rattle.std.specs.Prelude.{◌≡◌}
use Rattle.dbm_core.proofs.ValuationLemmas.{entries-if_ok-then}
use Rattle.dbm_core.specs.Half.{HasEntries}
use Rattle.dbm_core.specs.Operations.{widened}
use Rattle.dbm_core.specs.Tables.{matrix_of}
use Rattle.dom_octagon_meaning.proofs.Exact.{widen-is}
use Rattle.dom_octagon_states.proofs.joins.widening_of.Goals as goal

pub returns : goal.returns
returns c = record {
  value = entries-if_ok-then (HasEntries c.args.a.now.kinds (widened c.args.thresholds.now c.args.a.now c.args.b.now)) (λ r. r ≡ matrix_of c.args.a.now.kinds (widened c.args.thresholds.now c.args.a.now c.args.b.now)) c.widen.result
      (λ r. widen-is c.args.thresholds.now c.args.a.now c.args.b.now r c.kinds-left.ensures.matrix c.kinds-right.ensures.matrix c.requires.same) c.widen.ensures.entries;
  limited = c.widen.ensures.limited c.requires.left c.requires.right;
}
