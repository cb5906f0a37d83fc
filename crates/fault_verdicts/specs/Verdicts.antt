-- What a state says of fault points.
use Rattle.std.specs.Prelude.{ℕ, ◌==◌, List, [], ◌∷◌, ◌++◌, Bool, false, ◌||◌, if◌then◌else◌}
use Rattle.imp_slots.specs.Plain.{Guard, Not, Assert, Does}
use Rattle.imp_words.specs.declared.fault.FaultKind.{FaultKind}
use Rattle.imp_words.specs.declared.fault.FaultKind.TheVariants.{Overflow, Zero, Length, Index, Null, Assert as Failed}
use Rattle.imp_words.specs.declared.verdict.Verdict.{Verdict}
use Rattle.imp_words.specs.declared.verdict.Verdict.TheVariants as of_check
use Rattle.domain_laws.specs.Operations.{Operations}
use Rattle.fault_points.specs.declared.point.FaultPoint.{FaultPoint}
use Rattle.fault_words.specs.declared.finding.FaultVerdict.{FaultVerdict}
use Rattle.fault_words.specs.declared.finding.FaultVerdict.TheVariants.{Dead, Safe, May, Fails}

abbrev pub rank : FaultKind → ℕ
rank Overflow = 0
rank Zero = 1
rank Length = 2
rank Index = 3
rank Null = 4
rank Failed = 5

abbrev pub same_kind : FaultKind → FaultKind → Bool
same_kind j k = rank j == rank k

-- From what a state says of asserting a claim and of asserting its opposite: where every run fails the claim, it fails.
abbrev pub told : Verdict → Verdict → FaultVerdict
told of_check.Dead w = Dead
told of_check.Safe w = Safe
told of_check.May of_check.Dead = Dead
told of_check.May of_check.Safe = Fails
told of_check.May of_check.May = May

-- the one that says more of a fault: dead before fails, fails before may, may before safe
abbrev pub stronger : FaultVerdict → FaultVerdict → FaultVerdict
stronger Dead w = Dead
stronger Safe w = w
stronger May Dead = Dead
stronger May Safe = May
stronger May May = May
stronger May Fails = Fails
stronger Fails Dead = Dead
stronger Fails Safe = Fails
stronger Fails May = Fails
stronger Fails Fails = Fails

module _ {S : Type 0} (dom : Operations S) (s : S) where
  abbrev pub verdict_at : Guard → FaultVerdict
  verdict_at claim = told (dom.check (Does (Assert claim)) s) (dom.check (Does (Assert (Not claim))) s)

  -- of the points of a kind
  abbrev pub verdict_of : FaultKind → List FaultPoint → FaultVerdict
  verdict_of k [] = Safe
  verdict_of k (p ∷ ps) = if same_kind p.kind k then stronger (verdict_at p.claim) (verdict_of k ps) else verdict_of k ps

-- The kinds of points, each once, in the order in which they come.
abbrev pub is_among : FaultKind → List FaultKind → Bool
is_among k [] = false
is_among k (j ∷ js) = same_kind j k || is_among k js

abbrev pub with_kind : List FaultKind → FaultKind → List FaultKind
with_kind ks k = if is_among k ks then ks else ks ++ (k ∷ [])

abbrev pub kinds_after : List FaultKind → List FaultPoint → List FaultKind
kinds_after ks [] = ks
kinds_after ks (p ∷ ps) = kinds_after (with_kind ks p.kind) ps

abbrev pub kinds_of : List FaultPoint → List FaultKind
kinds_of ps = kinds_after [] ps
