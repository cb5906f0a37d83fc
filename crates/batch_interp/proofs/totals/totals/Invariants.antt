use Rattle.std.proofs.Common.{map, drop, take}
use Rattle.imp_chains.specs.Chains.{chains}
use Rattle.batch_meaning.specs.Report.{checked_in}
use Rattle.batch_interp.specs.Answered.{value_of}
use Rattle.batch_interp.specs.Remembering.{AreRight}
use Rattle.batch_interp.specs.Frames.{body_at}
use Rattle.batch_interp.specs.Reporting.{claims}
use Rattle.batch_interp.proofs.Fronts.{SoFar}
use Rattle.batch_interp.proofs.Handings.{AreColumns, calls_made}
use Rattle.batch_interp.proofs.totals.totals.Given as goal

abbrev pub invariant-loop-next : goal.invariant-loop-next
invariant-loop-next g l =
    let dom = g.D.Domain.operations l.dom in
    let zs = chains l.plan.program l.place in
    record {
      known : SoFar dom l.plan zs (drop l.next-index zs) (claims (checked_in (body_at l.plan.program l.place))) (map value_of l.known);
      handed : AreColumns dom l.plan (take l.next-index zs) (calls_made (body_at l.plan.program l.place)) l.handed;
      right : AreRight dom l.plan l.remembered;
    }
