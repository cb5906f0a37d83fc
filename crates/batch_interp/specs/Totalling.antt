-- The verdicts on the statements of a procedure, from what is known before each under all chains.
use Rattle.std.specs.Prelude.{◌≡◌, ℕ, List, [], ◌∷◌, Option, Some, None}
use Rattle.imp_syntax.specs.declared.edit.Location.TheVariants.{Before}
use Rattle.imp_slots.specs.Plain.{Effect}
use Rattle.domain_laws.specs.Operations.{Operations}
use Rattle.domain_laws.specs.Checks.{Check, check_of, kind_of}
use Rattle.imp_words.specs.declared.findings.Check.{Check as Kind}
use Rattle.imp_words.specs.declared.findings.Check.TheVariants.{Assert}
use Rattle.imp_words.specs.declared.findings.Finding.{Finding}
use Rattle.imp_words.specs.declared.refusal.QueryRefusal.TheVariants.{NoChain}
use Rattle.alarm_report.specs.declared.Found.{Found}
use Rattle.alarm_report.specs.declared.Found.TheVariants.{Absent, Over as OverBudget, State as At}
use Rattle.batch_meaning.specs.Values.{Value, State, Over}
use Rattle.batch_meaning.specs.Batch.{LoopOptions}
use Rattle.batch_meaning.specs.Places.{value_at}
use Rattle.batch_meaning.specs.Answers.{Answer, Refuses, Answers, all_values, sum_of}
use Rattle.batch_meaning.specs.Report.{verdict_on}
use Rattle.batch_interp.specs.Frames.{Plan}
use Rattle.batch_interp.specs.Summing.{sum_with}

-- the first of these, if there is one, and those after it
abbrev pub first_of : {A : Type 0} → List A → Option A
first_of [] = None
first_of (x ∷ xs) = Some x

abbrev pub behind_first : {A : Type 0} → List A → List A
behind_first [] = []
behind_first (x ∷ xs) = xs

-- each of these values, shed, joined to the one so far at its place, where there is one
abbrev pub all_added : {S : Type 0} → Operations S → List (Value S) → List (Value S) → List (Value S)
all_added dom so_far [] = []
all_added dom so_far (v ∷ vs) = sum_with dom (first_of so_far) v ∷ all_added dom (behind_first so_far) vs

-- what is answered of a statement: nothing is known where no chain comes
abbrev pub answer_of_sum : {S : Type 0} → Option (Value S) → Answer S
answer_of_sum None = Refuses NoChain
answer_of_sum (Some v) = Answers v

-- what a relation holds of: each of these, with the value at its place, if there is one
abbrev pub EachWith : {A B : Type 0} → (A → Option B → Type 0) → List A → List B → Type 0
EachWith P [] bs = Unit {0}
EachWith P (a ∷ cs) bs = P a (first_of bs) × EachWith P cs (behind_first bs)

-- The totals of these statements under these chains are what the chains give before them.
abbrev pub AreTotals : {S : Type 0} → Operations S → Plan → List (List ℕ) → List (ℕ × Effect) → List (Value S) → Type 0
AreTotals dom plan zs cs vs = EachWith (λ (c : ℕ × Effect) v. sum_of dom plan.engine (all_values dom plan.engine (value_at dom plan.engine plan.program (Before c.0)) zs) ≡ answer_of_sum v) cs vs

abbrev pub kind_for : Option Check → Kind
kind_for None = Assert
kind_for (Some c) = kind_of c

-- the finding of a statement from its total
abbrev pub found_from : {S : Type 0} → Operations S → LoopOptions → ℕ × Effect → Option (Value S) → Finding
found_from dom engine c v = record { id = c.0; check = kind_for (check_of c.1); verdict = verdict_on dom engine c.1 (answer_of_sum v) }

abbrev pub all_found : {S : Type 0} → Operations S → LoopOptions → List (ℕ × Effect) → List (Value S) → List Finding
all_found dom engine [] vs = []
all_found dom engine (c ∷ cs) vs = found_from dom engine c (first_of vs) ∷ all_found dom engine cs (behind_first vs)

-- what a report is asked with says what is known
abbrev pub IsFoundOf : {S : Type 0} → Found S → Option (Value S) → Type 0
IsFoundOf Absent v = v ≡ None
IsFoundOf OverBudget v = (n : ℕ) × (z : List ℕ) × (v ≡ Some (Over n z))
IsFoundOf (At s) v = v ≡ Some (State s.now)
