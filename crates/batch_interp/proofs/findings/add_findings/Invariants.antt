use Rattle.std.proofs.Common.{◌≡◌, ◌++◌, drop, map}
use Rattle.batch_meaning.specs.Batch.{LoopOptions}
use Rattle.batch_interp.specs.Answered.{value_of}
use Rattle.batch_interp.specs.Reporting.{claim_of}
use Rattle.batch_interp.specs.Totalling.{all_found}
use Rattle.batch_interp.proofs.findings.add_findings.Given as goal

abbrev pub invariant-loop-i : goal.invariant-loop-i
invariant-loop-i g l =
    (e : LoopOptions) → l.found ++ all_found (g.D.Domain.operations l.dom) e (map claim_of (drop l.i l.claims)) (map value_of (drop l.i l.totals)) ≡ l.initial.found ++ all_found (g.D.Domain.operations l.dom) e (map claim_of l.claims) (map value_of l.totals)
