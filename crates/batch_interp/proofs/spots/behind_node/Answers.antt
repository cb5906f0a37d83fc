use Rattle.std.proofs.Common.{sym, reverse}
use Rattle.imp_slots.specs.Plain.{Stop}
use Rattle.imp_slots.specs.BlockViews.{before_code}
use Rattle.batch_interp.specs.Frames.{thresholds_at, calls_in}
use Rattle.batch_interp.proofs.BlockLemmas.{over_batch}
use Rattle.batch_interp.proofs.spots.behind_node.Goals as goal

pub returns-in-Over : goal.returns-in-Over
returns-in-Over g c =
    let dom = g.D.Domain.operations c.args.interpreter.now.dom.now in
    let plan = c.args.interpreter.now.plan.now in
    let place = c.args.interpreter.now.frame.now.place in
    let z = c.args.interpreter.now.frame.now.sites in
    record { is = rw c.in-Over.is (sym (over_batch dom plan.engine (thresholds_at plan place) z (calls_in dom plan place z) (before_code c.args.node.now Stop) c.in-Over.head (reverse c.in-Over.chain))); right = c.requires.right }
