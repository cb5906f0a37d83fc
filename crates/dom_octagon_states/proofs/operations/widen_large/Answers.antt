use Rattle.std.proofs.Common.{subst}
use Rattle.dbm_core.specs.Half.{HasEntries}
use Rattle.dbm_core.specs.Operations.{widened}
use Rattle.dbm_narrow.specs.Widenings.{WidensIf}
use Rattle.dom_octagon_states.proofs.Forms.{same_if_ok}
use Rattle.dom_octagon_states.proofs.WideningLemmas.{widened_limited}
use Rattle.dom_octagon_states.proofs.operations.widen_large.Goals as goal
use Rattle.dom_octagon_states.specs.Limits.{IsInLimits}

pub returns-clause-limited : goal.returns-clause-limited
returns-clause-limited c p q =
    let entries : HasEntries c.args.a.now.kinds (widened c.args.thresholds.now c.args.a.now c.args.b.now) c.in-Some.widening =
    subst (WidensIf c.args.thresholds.now c.args.a.now c.args.b.now) c.in-Some.is c.in_ok-widening.ensures.widens in
    same_if_ok c.hold.result c.in-Some.widening IsInLimits c.hold.ensures.same
    (widened_limited c.args.thresholds.now c.args.a.now c.args.b.now c.in-Some.widening c.words.ensures.words c.requires.same_kinds entries p q)
