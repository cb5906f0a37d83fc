-- What is claimed of the statements that an answer depends on.
use Rattle.std.specs.Prelude.{◌≡◌, ◌↔◌, ℕ, Bool, List, map, Some, Contains}
use Rattle.std.specs.List.Sorted.{IsStrictlySortedBy}
use Rattle.std.specs.Ordering.{nat_cmp}
use Rattle.imp_syntax.specs.Plain.{Procedure}
use Rattle.imp_syntax.specs.declared.edit.Location.{Location}
use Rattle.imp_check.specs.Slots.{routines_of}
use Rattle.imp_chains.specs.Thresholds.{thresholds}
use Rattle.domain_laws.specs.Operations.{Operations}
use Rattle.batch_meaning.specs.Batch.{LoopOptions}
use Rattle.batch_meaning.specs.Answers.{In, procedure_of, answer}
use Rattle.cell_names.specs.Paths.{CellName}
use Rattle.cell_rows.specs.Names.{IsSame}
use Rattle.cell_rows.specs.Targets.{Target, targets}
use Rattle.daig_demands.specs.Claims.{OfPrograms}
use Rattle.why_slice.specs.Upstream.{IsUpstream, upstream}
use Rattle.why_slice.specs.Exchanged.{Exchanges}

-- The thresholds of each procedure are the same in both programs.
abbrev pub SameThresholds : LoopOptions → (old new : List Procedure) → Type 0
SameThresholds engine old new = map (thresholds engine.widening) (routines_of new) ≡ map (thresholds engine.widening) (routines_of old)

-- Where a simple statement that an answer does not depend on is replaced, and the thresholds of all procedures stay, the answer
-- is the same, an Over too.
abbrev pub AnswersStay : {S : Type 0} → Operations S → Type 0
AnswersStay dom =
    (engine : LoopOptions) (same : CellName → CellName → Bool) (old new : List Procedure) (s : ℕ) (l : Location) (string : List ℕ) (p : ℕ) (ts : List Target) → IsSame same →
    Exchanges s old new → SameThresholds engine old new → procedure_of (routines_of old) l ≡ In p → targets (routines_of old) p l string ≡ Some ts →
    (IsUpstream dom engine (routines_of old) same l string p ts s → ⊥) →
    answer dom engine (routines_of new) l string ≡ answer dom engine (routines_of old) l string

-- These statements are all that an answer depends on: where another simple statement is replaced, and the thresholds of all
-- procedures stay, the answer is the same, an Over too.
abbrev pub Suffices : {S : Type 0} → Operations S → LoopOptions → (program : List Procedure) → Location → (string stmts : List ℕ) → Type 0
Suffices dom engine program l string stmts =
    (new : List Procedure) (s : ℕ) → Exchanges s program new → SameThresholds engine program new → (Contains stmts s → ⊥) →
    answer dom engine (routines_of new) l string ≡ answer dom engine (routines_of program) l string

-- The list of the statements that an answer depends on is.
abbrev pub UpstreamSuffices : {S : Type 0} → Operations S → Type 0
UpstreamSuffices dom =
    (engine : LoopOptions) (same : CellName → CellName → Bool) (program : List Procedure) (l : Location) (string : List ℕ) (p : ℕ) (ts : List Target) → IsSame same →
    procedure_of (routines_of program) l ≡ In p → targets (routines_of program) p l string ≡ Some ts →
    Suffices dom engine program l string (upstream dom engine (routines_of program) same l string p ts)

-- The list has exactly the statements that the answer depends on, ..
abbrev pub UpstreamIsTold : {S : Type 0} → Operations S → Type 0
UpstreamIsTold dom =
    OfPrograms dom (λ engine program same. (l : Location) (string : List ℕ) (p : ℕ) (ts : List Target) (n : ℕ) →
    Contains (upstream dom engine program same l string p ts) n ↔ IsUpstream dom engine program same l string p ts n)

-- .. rising, each once.
abbrev pub UpstreamRises : {S : Type 0} → Operations S → Type 0
UpstreamRises dom = OfPrograms dom (λ engine program same. (l : Location) (string : List ℕ) (p : ℕ) (ts : List Target) → IsStrictlySortedBy nat_cmp (upstream dom engine program same l string p ts))
