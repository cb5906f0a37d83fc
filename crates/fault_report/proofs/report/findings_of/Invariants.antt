use Rattle.std.proofs.Common.{◌≡◌, ◌++◌, drop}
use Rattle.imp_check.specs.Slots.{routines_of}
use Rattle.fault_verdicts.specs.Report.{findings_of}
use Rattle.fault_report.proofs.report.findings_of.Given as goal

abbrev pub invariant-loop-x : goal.invariant-loop-x
invariant-loop-x g l =
    let dom = g.D.Domain.operations l.dom in
    l.found ++ findings_of dom l.setting.engine (routines_of l.prog) (drop l.x-index l.statements) ≡ findings_of dom l.setting.engine (routines_of l.prog) l.statements
