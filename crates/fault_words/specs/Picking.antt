-- The findings of one verdict.
use Rattle.std.specs.Prelude.{ℕ, ◌==◌, List, [], ◌∷◌, Bool, Option, Some, None, if◌then◌else◌}
use Rattle.fault_words.specs.declared.finding.FaultVerdict.{FaultVerdict}
use Rattle.fault_words.specs.declared.finding.FaultVerdict.TheVariants.{Dead, Safe, May, Fails}
use Rattle.fault_words.specs.declared.finding.FaultFinding.{FaultFinding}

abbrev pub rank : FaultVerdict → ℕ
rank Dead = 0
rank Safe = 1
rank May = 2
rank Fails = 3

abbrev pub same_verdict : FaultVerdict → FaultVerdict → Bool
same_verdict v w = rank v == rank w

-- those of a verdict, in their order
abbrev pub of_verdict : FaultVerdict → List FaultFinding → List FaultFinding
of_verdict v [] = []
of_verdict v (f ∷ fs) = if same_verdict f.verdict v then f ∷ of_verdict v fs else of_verdict v fs

-- .. where a verdict is given, and else all
abbrev pub with_verdict : (only : Option FaultVerdict) → List FaultFinding → List FaultFinding
with_verdict None fs = fs
with_verdict (Some v) fs = of_verdict v fs
