-- An answer of the product is the pair of the parts' answers.
use Rattle.std.specs.Prelude.{◌≡◌, ℕ, nat_lt, List, [], ◌∷◌, length, map, Option, Some, None}
use Rattle.std.proofs.Common.{ap, subst}
use Rattle.imp_syntax.specs.declared.edit.Location.{Location}
use Rattle.imp_slots.specs.Plain.{Routine}
use Rattle.imp_chains.specs.Chains.{selected}
use Rattle.domain_laws.specs.Operations.{Operations}
use Rattle.dom_product_meaning.specs.Product.{product}
use Rattle.batch_meaning.specs.Values.{Value, State, lift}
use Rattle.batch_meaning.specs.Batch.{LoopOptions}
use Rattle.batch_meaning.specs.Answers.{Answer, Refuses, Answers, Found, In, Misses, procedure_of, all_values, summed, sum_of, answer_in, answer}
use Rattle.imp_words.specs.declared.refusal.QueryRefusal.TheVariants.{LongString}
use Rattle.batch_product.specs.Claims.{AnswersPairs}
use Rattle.batch_product.proofs.Lists.{WhereThere, there_then, chosen}
use Rattle.batch_product.proofs.Values.{IsPair, ArePairs, pair_lift, pair_joined}
use Rattle.batch_product.proofs.Rounds.{Decides}
use Rattle.batch_product.proofs.Places.{pair_value}

module _ {S T : Type 0} where
  -- the pair, where both parts answer
  abbrev IsPairAnswer : Answer S → Answer T → Answer (S × T) → Type 0
  IsPairAnswer (Refuses r) y p = Unit {0}
  IsPairAnswer (Answers v) (Refuses r) p = Unit {0}
  IsPairAnswer (Answers v) (Answers w) (Refuses r) = ⊥
  IsPairAnswer (Answers v) (Answers w) (Answers u) = IsPair v w u

  the_pair : (s : S) (t : T) (p : Answer (S × T)) → IsPairAnswer (Answers (State s)) (Answers (State t)) p → p ≡ Answers (State (s, t))
  the_pair s t (Refuses r) h = absurd h
  the_pair s t (Answers u) h = ap Answers h

module _ {S T : Type 0} (a : Operations S) (b : Operations T) (da : Decides a) (db : Decides b) (engine : LoopOptions) (at_once : engine.widening.delay ≡ 0) where
  pair_all : (f : List ℕ → Option (Value S)) (g : List ℕ → Option (Value T)) (h : List ℕ → Option (Value (S × T))) → ((z : List ℕ) → WhereThere IsPair (f z) (g z) (h z)) → (zs : List (List ℕ)) →
      WhereThere ArePairs (all_values a engine f zs) (all_values b engine g zs) (all_values (product a b) engine h zs)
  pair_all f g h pairs [] = tt
  pair_all f g h pairs (z ∷ zs) =
      let rest = pair_all f g h pairs zs in
      there_then IsPair ArePairs _ _ _ _ _ _ (λ v w u e. there_then ArePairs ArePairs _ _ _ _ _ _ (λ vs ws us d. (e, d)) rest) (pairs z)

  pair_shed : (vs : List (Value S)) (ws : List (Value T)) (us : List (Value (S × T))) → ArePairs vs ws us → ArePairs (map (lift a.shed) vs) (map (lift b.shed) ws) (map (lift (product a b).shed) us)
  pair_shed [] [] [] h = tt
  pair_shed [] [] (u ∷ us) h = absurd h
  pair_shed [] (w ∷ ws) us h = absurd h
  pair_shed (v ∷ vs) [] us h = absurd h
  pair_shed (v ∷ vs) (w ∷ ws) [] h = absurd h
  pair_shed (v ∷ vs) (w ∷ ws) (u ∷ us) h = (pair_lift a.shed b.shed v w u h.0, pair_shed vs ws us h.1)

  pair_summed : (vs : List (Value S)) (ws : List (Value T)) (us : List (Value (S × T))) → ArePairs vs ws us → IsPairAnswer (summed a engine vs) (summed b engine ws) (summed (product a b) engine us)
  pair_summed [] [] [] h = tt
  pair_summed [] [] (u ∷ us) h = absurd h
  pair_summed [] (w ∷ ws) us h = absurd h
  pair_summed (v ∷ vs) [] us h = absurd h
  pair_summed (v ∷ vs) (w ∷ ws) [] h = absurd h
  pair_summed (v ∷ vs) (w ∷ ws) (u ∷ us) h = pair_joined a b engine _ _ _ _ _ _ (pair_lift a.shed b.shed v w u h.0) (pair_shed vs ws us h.1)

  pair_sum : (x : Option (List (Value S))) (y : Option (List (Value T))) (p : Option (List (Value (S × T)))) → WhereThere ArePairs x y p → IsPairAnswer (sum_of a engine x) (sum_of b engine y) (sum_of (product a b) engine p)
  pair_sum None None None h = tt
  pair_sum None None (Some us) h = absurd h
  pair_sum None (Some ws) p h = absurd h
  pair_sum (Some vs) None p h = absurd h
  pair_sum (Some vs) (Some ws) None h = absurd h
  pair_sum (Some vs) (Some ws) (Some us) h = pair_summed vs ws us h

  pair_in : (program : List Routine) (l : Location) (string : List ℕ) (f : Found) → IsPairAnswer (answer_in a engine program l string f) (answer_in b engine program l string f) (answer_in (product a b) engine program l string f)
  pair_in program l string (Misses r) = tt
  pair_in program l string (In p) = pair_sum _ _ _ (pair_all _ _ _ (pair_value a b da db engine at_once program l) (selected program p string))

  pair_answer : (program : List Routine) (l : Location) (string : List ℕ) → IsPairAnswer (answer a engine program l string) (answer b engine program l string) (answer (product a b) engine program l string)
  pair_answer program l string =
      chosen IsPairAnswer (nat_lt 2 (length string)) (Refuses LongString) _ (Refuses LongString) _ (Refuses LongString) _ tt (pair_in program l string (procedure_of program l))

pub answers_pairs : {S T : Type 0} (a : Operations S) (b : Operations T) → Decides a → Decides b → AnswersPairs a b
answers_pairs a b da db engine program l string s t at_once e d =
    the_pair s t (answer (product a b) engine program l string)
    (subst (λ y. IsPairAnswer (Answers (State s)) y (answer (product a b) engine program l string)) d
    (subst (λ x. IsPairAnswer x (answer b engine program l string) (answer (product a b) engine program l string)) e
    (pair_answer a b da db engine at_once program l string)))
