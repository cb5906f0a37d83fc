use Rattle.std.proofs.Common.{◌≡◌, ◌++◌, drop}
use Rattle.fault_words.specs.Picking.{of_verdict}
use Rattle.fault_words.proofs.picking.of_verdict.Given as goal

abbrev pub invariant-loop-finding : goal.invariant-loop-finding
invariant-loop-finding l = l.picked ++ of_verdict l.verdict (drop l.finding-index l.findings) ≡ of_verdict l.verdict l.findings
