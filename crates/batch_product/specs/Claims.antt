-- What a product answers, and how often its states change.
use Rattle.std.specs.Prelude.{◌≡◌, ℕ, ◌+◌, max, List}
use Rattle.imp_syntax.specs.declared.edit.Location.{Location}
use Rattle.imp_slots.specs.Plain.{Routine}
use Rattle.domain_laws.specs.Operations.{Operations}
use Rattle.dom_product_meaning.specs.Product.{product}
use Rattle.batch_meaning.specs.Values.{State}
use Rattle.batch_meaning.specs.Batch.{LoopOptions}
use Rattle.batch_meaning.specs.Answers.{Answers, answer}

-- Where loops widen from the first round on, and each domain alone answers a state, their product answers the pair.
abbrev pub AnswersPairs : {S T : Type 0} → Operations S → Operations T → Type 0
AnswersPairs {S} {T} a b =
    (engine : LoopOptions) (program : List Routine) (l : Location) (string : List ℕ) (s : S) (t : T) → engine.widening.delay ≡ 0 →
    answer a engine program l string ≡ Answers (State s) → answer b engine program l string ≡ Answers (State t) →
    answer (product a b) engine program l string ≡ Answers (State (s, t))

-- Changes of a pair are counted once those of both parts are.
abbrev pub later_of_both : (first second : ℕ → ℕ) → (delay : ℕ) → ℕ
later_of_both first second delay = max (first delay) (second delay)

-- A pair changes as often as its parts together. That a state changes at most once more than so often is said of each
-- part, so it is said of the pair with one for the second part's.
abbrev pub changes_of_both : (first second : ℕ → ℕ → ℕ) → (slots thresholds : ℕ) → ℕ
changes_of_both first second slots thresholds = first slots thresholds + second slots thresholds + 1
