use Rattle.std.proofs.Common.{◌≡◌, ◌≤◌, ◌++◌, ◌-◌, List, ℕ, Some}
use Rattle.serve_script.specs.Lasts.{LastsFor}
use Rattle.serve_script.specs.Lines.{kept}
use Rattle.serve_script.specs.Replies.{replies, machine_after}
use Rattle.serve_script.proofs.ScriptLemmas.{Stands, lines_read, part_read}
use Rattle.serve_script.proofs.read.answer_script.Given as goal

-- the lines of what was read are answered
abbrev pub invariant-loop-total : goal.invariant-loop-total
invariant-loop-total g l = record {
  few : l.total ≤ 1099511627776;
  lasts : LastsFor (g.A.Answerer.lasts l.answerer) (1099511627776 - l.total);
  stands : (text : List ℕ) → g.I.Source.told l.initial.script ≡ Some text → Stands text l.total (g.I.Source.told l.script);
  pending : (text : List ℕ) → g.I.Source.told l.initial.script ≡ Some text → l.pending ≡ kept (part_read text l.total);
  next : (m : g.A.Answerer.State) → g.A.Answerer.stands l.initial.answerer m → (text : List ℕ) → g.I.Source.told l.initial.script ≡ Some text →
      g.A.Answerer.stands l.answerer (machine_after g.A.Answerer.machine m (lines_read text l.total));
  written : (m : g.A.Answerer.State) → g.A.Answerer.stands l.initial.answerer m → (text taken : List ℕ) → g.I.Source.told l.initial.script ≡ Some text → g.O.Sink.told l.initial.out ≡ Some taken →
      g.O.Sink.told l.out ≡ Some (taken ++ replies g.A.Answerer.machine m (lines_read text l.total));
  script_rises : g.I.Source.faults l.initial.script ≤ g.I.Source.faults l.script;
  sink_rises : g.O.Sink.faults l.initial.out ≤ g.O.Sink.faults l.out;
}

abbrev pub decreases-loop-total : goal.decreases-loop-total
decreases-loop-total g l = 1099511627776 - l.total
