use Rattle.std.proofs.Common.{◌≡◌, ◌++◌, map, take}
use Rattle.batch_meaning.specs.Answers.{Answer}
use Rattle.fault_verdicts.specs.Report.{fault_finding}
use Rattle.fault_verdicts.specs.Known.{IsKnown}
use Rattle.fault_verdicts.proofs.findings.add_kinds.Given as goal

abbrev pub invariant-loop-kind : goal.invariant-loop-kind
invariant-loop-kind g l =
    (a : Answer g.row.D-State.Denot) → IsKnown a l.known → l.found ≡ l.initial.found ++ map (fault_finding (g.D.Domain.operations l.dom) a l.x) (take l.kind-index l.kinds)
