use Rattle.std.proofs.Common.{◌≡◌, ◌≤◌, ◌++◌, List, ℕ, Some, length, take, ◌-◌}
use Rattle.serve_script.proofs.write.write_all.Given as goal

-- the first `at` bytes of the piece were taken
abbrev pub invariant-loop-at : goal.invariant-loop-at
invariant-loop-at g l = record {
  within : l.at ≤ length l.piece;
  rises : g.O.Sink.faults l.initial.out ≤ g.O.Sink.faults l.out;
  written : (taken : List ℕ) → g.O.Sink.told l.initial.out ≡ Some taken → g.O.Sink.told l.out ≡ Some (taken ++ take l.at l.piece);
}

abbrev pub decreases-loop-at : goal.decreases-loop-at
decreases-loop-at g l = length l.piece - l.at
