use Rattle.std.proofs.Common.{◌≡◌, map, take}
use Rattle.imp_chains.specs.Chains.{chains}
use Rattle.cert_meaning.specs.Written.{loops}
use Rattle.batch_interp.specs.Remembering.{AreRight}
use Rattle.batch_interp.specs.Frames.{body_at}
use Rattle.batch_interp.specs.Heads.{under_told, told_under}
use Rattle.batch_interp.proofs.Handings.{AreColumns, calls_made}
use Rattle.batch_interp.proofs.heads.loops_under.Given as goal

abbrev pub invariant-loop-next : goal.invariant-loop-next
invariant-loop-next g l =
    let dom = g.D.Domain.operations l.dom in
    let zs = chains l.plan.program l.place in
    record {
      told : map under_told l.loops ≡ told_under dom l.plan.engine l.plan.program (loops (body_at l.plan.program l.place)) (take l.next-index zs);
      handed : AreColumns dom l.plan (take l.next-index zs) (calls_made (body_at l.plan.program l.place)) l.handed;
      right : AreRight dom l.plan l.remembered;
    }
