-- What has a head is a loop.
use Rattle.std.specs.Prelude.{◌≡◌, ℕ, ℤ, List, Some}
use Rattle.base_values.proofs.Members.{Member, here, there, in_left, in_right, Each, none_there, each_more, each_both, each_as}
use Rattle.imp_slots.specs.Plain.{Code, Stop, Simple, If, While, Call, Break}
use Rattle.domain_laws.specs.Operations.{Operations}
use Rattle.batch_meaning.specs.Values.{Value}
use Rattle.batch_meaning.specs.Batch.{LoopOptions, Fixed}
use Rattle.batch_meaning.specs.Places.{Spot, spots}
use Rattle.cert_meaning.specs.Written.{loops}

module _ {S : Type 0} (dom : Operations S) (engine : LoopOptions) (thresholds : List ℤ) (z : List ℕ) (calls : ℕ → ℕ → Value S → Value S) where
  abbrev all : Code → Value S → List (ℕ × Spot S)
  all = spots dom engine thresholds z calls

  -- a statement with a head is among the loops
  abbrev IsLoop : Code → ℕ × Spot S → Type 0
  IsLoop c x = (h : Fixed S) → x.1.head ≡ Some h → Member x.0 (loops c)

  pub are_loops : (c : Code) (a : Value S) → Each (IsLoop c) (all c a)
  are_loops Stop a = none_there (IsLoop Stop)
  are_loops (Simple n e r) a = each_more (IsLoop (Simple n e r)) _ _ (λ h e. absurd cc) (are_loops r _)
  are_loops (If n g t e r) a =
      each_more (IsLoop (If n g t e r)) _ _ (λ h e. absurd cc)
      (each_both (IsLoop (If n g t e r)) _ _ (each_as (IsLoop t) _ _ (λ x f h i. in_left _ (f h i)) (are_loops t _))
      (each_both (IsLoop (If n g t e r)) _ _ (each_as (IsLoop e) _ _ (λ x f h i. in_right (loops t) (in_left _ (f h i))) (are_loops e _))
      (each_as (IsLoop r) _ _ (λ x f h i. in_right (loops t) (in_right (loops e) (f h i))) (are_loops r _))))
  are_loops (While n g b r) a =
      each_more (IsLoop (While n g b r)) _ _ (λ h e. here)
      (each_both (IsLoop (While n g b r)) _ _ (each_as (IsLoop b) _ _ (λ x f h i. there (in_left _ (f h i))) (are_loops b _))
      (each_as (IsLoop r) _ _ (λ x f h i. there (in_right (loops b) (f h i))) (are_loops r _)))
  are_loops (Call n i q r) a = each_more (IsLoop (Call n i q r)) _ _ (λ h e. absurd cc) (are_loops r _)
  are_loops (Break n r) a = each_more (IsLoop (Break n r)) _ _ (λ h e. absurd cc) (are_loops r _)
