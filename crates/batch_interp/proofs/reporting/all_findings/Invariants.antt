use Rattle.std.proofs.Common.{◌≡◌, ◌≤◌, drop, length, map, reverse}
use Rattle.batch_meaning.specs.Report.{finding, checked_statements}
use Rattle.batch_interp.specs.Remembering.{AreRight}
use Rattle.batch_interp.specs.Handing.{in_one, AreHanded}
use Rattle.batch_interp.proofs.reporting.all_findings.Given as goal

-- the findings of the procedures so far, and what they hand down to those before
abbrev pub invariant-loop-place : goal.invariant-loop-place
invariant-loop-place g l =
    let dom = g.D.Domain.operations l.dom in
    record {
      within : l.place ≤ length l.plan.program;
      told : in_one (reverse l.parts) ≡ map (finding dom l.plan.engine l.plan.program) (checked_statements (drop l.place l.plan.program));
      calls : AreHanded dom l.plan l.place l.calls;
      right : AreRight dom l.plan l.remembered;
    }
