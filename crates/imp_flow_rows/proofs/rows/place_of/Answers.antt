use Rattle.std.proofs.Common.{◌≡◌, ◌≢◌, rules, sym, ◌∙◌}
use Rattle.imp_flow_rows.specs.Entered.{leaves_now}
use Rattle.imp_flow_rows.specs.NodeRows.{breaks_of}
use Rattle.imp_flow_rows.proofs.LeaveLemmas.{place_found, place_passed}
use Rattle.imp_flow_rows.proofs.rows.place_of.Goals as goal

pub returns-then-eq-clause-is : goal.returns-then-eq-clause-is
returns-then-eq-clause-is c =
    let e : c.number_at.result ≡ c.args.stmt = search rules in
    sym (c.loop-i.invariant ∙ place_found (breaks_of (leaves_now c.args.leaves.now)) c.loop-i.i c.args.stmt c.number_at.result c.number_at.ensures.is e)

pub loop-i-preserved : goal.loop-i-preserved
loop-i-preserved c =
    let e : c.number_at.result ≢ c.args.stmt = search rules in
    c.loop-i.invariant ∙ place_passed (breaks_of (leaves_now c.args.leaves.now)) c.loop-i.i c.args.stmt c.number_at.result c.number_at.ensures.is e
