-- What is known under several chains, one at a time.
use Rattle.std.proofs.Common.{ℕ, ◌≡◌, List, ◌∷◌, map, Option, Some, None, refl, sym, ap, ◌∙◌}
use Rattle.domain_laws.specs.Operations.{Operations}
use Rattle.imp_words.specs.declared.refusal.QueryRefusal.TheVariants.{NoStatement}
use Rattle.batch_meaning.specs.Values.{Value, lift}
use Rattle.batch_meaning.specs.Batch.{LoopOptions, joined}
use Rattle.batch_meaning.specs.Places.{if_some}
use Rattle.batch_meaning.specs.Answers.{Answer, Refuses, Answers, all_values, summed, sum_of}
use Rattle.batch_interp.specs.Summing.{sum_with}

module _ {S : Type 0} (dom : Operations S) (engine : LoopOptions) where
  abbrev total : Option (Value S) → List (Value S) → Answer S
  total None vs = summed dom engine vs
  total (Some u) vs = Answers (joined dom engine u (map (lift dom.shed) vs))

  -- what is known so far, with the values of the chains to come, where each has one
  abbrev pub sum_so_far : Option (Value S) → Option (List (Value S)) → Answer S
  sum_so_far u None = Refuses NoStatement
  sum_so_far u (Some vs) = total u vs

  pub sum_none : (o : Option (List (Value S))) → sum_so_far None o ≡ sum_of dom engine o
  sum_none None = refl
  sum_none (Some vs) = refl

  one_more : (u : Option (Value S)) (v : Value S) (o : Option (List (Value S))) → sum_so_far u (if_some o (λ vs. Some (v ∷ vs))) ≡ sum_so_far (Some (sum_with dom u v)) o
  one_more u v None = refl
  one_more None v (Some vs) = refl
  one_more (Some w) v (Some vs) = refl

  module _ (f : List ℕ → Option (Value S)) where
    -- what one more chain gives, added to what is known so far
    pub one_added_chain : (zs : List (List ℕ)) (z : List ℕ) (u : Option (Value S)) (v : Value S) → Some v ≡ f z → sum_so_far (Some (sum_with dom u v)) (all_values dom engine f zs) ≡ sum_so_far u (all_values dom engine f (z ∷ zs))
    one_added_chain zs z u v e = sym (ap (λ o. sum_so_far u (if_some o (λ v. if_some (all_values dom engine f zs) (λ vs. Some (v ∷ vs))))) (sym e) ∙ one_more u v (all_values dom engine f zs))
