-- The answer over several chains.
use Rattle.std.proofs.Common.{◌≡◌, ℕ, List, [], ◌∷◌, ◌++◌, fold, map, refl, ap}
use Rattle.domain_laws.specs.Operations.{Operations}
use Rattle.batch_meaning.specs.Values.{Value, State, Over, lift}
use Rattle.batch_meaning.specs.Batch.{LoopOptions, joined}
use Rattle.batch_meaning.specs.Answers.{Answers, summed}
use Rattle.cell_rows.proofs.Linked.{joined_over}

module _ {S : Type 0} (dom : Operations S) (engine : LoopOptions) where
  abbrev states : List S → List (Value S)
  states ss = map (λ s. State s) ss

  abbrev shed : List (Value S) → List (Value S)
  shed vs = map (lift dom.shed) vs

  joined_states : (s : S) (ss : List S) → joined dom engine (State s) (shed (states ss)) ≡ State (fold dom.join s (map dom.shed ss))
  joined_states s [] = refl
  joined_states s (t ∷ ss) = joined_states (dom.join s (dom.shed t)) ss

  pub states_are_joined : (s : S) (ss : List S) → summed dom engine (State s ∷ states ss) ≡ Answers (State (fold dom.join (dom.shed s) (map dom.shed ss)))
  states_are_joined s ss = ap (λ v. Answers v) (joined_states (dom.shed s) ss)

  module _ (n : ℕ) (z : List ℕ) (vs : List (Value S)) where
    joined_first : (s : S) (ss : List S) → joined dom engine (State s) (shed (states ss ++ Over n z ∷ vs)) ≡ Over n z
    joined_first s [] = joined_over dom engine n z (shed vs)
    joined_first s (t ∷ ss) = joined_first (dom.join s (dom.shed t)) ss

    pub first_over : (ss : List S) → summed dom engine (states ss ++ Over n z ∷ vs) ≡ Answers (Over n z)
    first_over [] = ap (λ v. Answers v) (joined_over dom engine n z (shed vs))
    first_over (s ∷ ss) = ap (λ v. Answers v) (joined_first (dom.shed s) ss)
