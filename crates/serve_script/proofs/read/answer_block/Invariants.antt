use Rattle.std.proofs.Common.{◌≡◌, ◌≤◌, ◌++◌, ◌+◌, List, ℕ, Some, take}
use Rattle.serve_script.specs.Lasts.{LastsFor}
use Rattle.serve_script.specs.Lines.{whole_lines, last_part, kept}
use Rattle.serve_script.specs.Replies.{replies, machine_after}
use Rattle.serve_script.proofs.read.answer_block.Given as goal

-- the lines that end in the bytes so far are answered
abbrev pub invariant-loop-byte : goal.invariant-loop-byte
invariant-loop-byte g l = record {
  pending : (part : List ℕ) → l.initial.pending ≡ kept part → l.pending ≡ kept (last_part part (take l.byte-index l.block));
  next : (m : g.A.Answerer.State) → g.A.Answerer.stands l.initial.answerer m → (part : List ℕ) → l.initial.pending ≡ kept part →
      g.A.Answerer.stands l.answerer (machine_after g.A.Answerer.machine m (whole_lines part (take l.byte-index l.block)));
  lasts : (n : ℕ) → LastsFor (g.A.Answerer.lasts l.initial.answerer) (l.byte-index + n) → LastsFor (g.A.Answerer.lasts l.answerer) n;
  rises : g.O.Sink.faults l.initial.out ≤ g.O.Sink.faults l.out;
  written : (m : g.A.Answerer.State) → g.A.Answerer.stands l.initial.answerer m → (part taken : List ℕ) → l.initial.pending ≡ kept part → g.O.Sink.told l.initial.out ≡ Some taken →
      g.O.Sink.told l.out ≡ Some (taken ++ replies g.A.Answerer.machine m (whole_lines part (take l.byte-index l.block)));
}
