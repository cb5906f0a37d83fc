-- A value of the product is the pair of two values where both are states.
use Rattle.std.specs.Prelude.{◌≡◌, ℕ, List, [], ◌∷◌}
use Rattle.std.proofs.Common.{ap}
use Rattle.domain_laws.specs.Operations.{Operations}
use Rattle.dom_product_meaning.specs.Product.{product}
use Rattle.batch_meaning.specs.Values.{Value, State, Over, lift, lift2}
use Rattle.batch_meaning.specs.Batch.{LoopOptions, joined}
use Rattle.batch_product.proofs.Lists.{InTurn}

module _ {S T : Type 0} where
  abbrev pub IsPair : Value S → Value T → Value (S × T) → Type 0
  IsPair (State s) (State t) u = u ≡ State (s, t)
  IsPair (State s) (Over n z) u = Unit {0}
  IsPair (Over n z) w u = Unit {0}

  pub pair_over : (n : ℕ) (z : List ℕ) (v : Value S) (u : Value (S × T)) → IsPair v (Over n z) u
  pair_over n z (State s) u = tt
  pair_over n z (Over m y) u = tt

  pub pair_lift : (f : S → S) (g : T → T) (v : Value S) (w : Value T) (u : Value (S × T)) → IsPair v w u → IsPair (lift f v) (lift g w) (lift (λ p. (f p.0, g p.1)) u)
  pair_lift f g (State s) (State t) u e = ap (lift (λ (p : S × T). (f p.0, g p.1))) e
  pair_lift f g (State s) (Over n z) u e = tt
  pair_lift f g (Over n z) w u e = tt

  pub pair_lift2 : (f : S → S → S) (g : T → T → T) (v : Value S) (w : Value T) (u : Value (S × T)) (x : Value S) (y : Value T) (p : Value (S × T)) → IsPair v w u → IsPair x y p →
      IsPair (lift2 f v x) (lift2 g w y) (lift2 (λ p q. (f p.0 q.0, g p.1 q.1)) u p)
  pair_lift2 f g (Over n z) w u x y p e d = tt
  pair_lift2 f g (State s) w u (Over n z) y p e d = tt
  pair_lift2 f g (State s) (Over n z) u (State t) y p e d = tt
  pair_lift2 f g (State s) (State a) u (State t) (Over n z) p e d = tt
  pair_lift2 f g (State s) (State a) u (State t) (State b) p e d = λ i. lift2 (λ (p q : S × T). (f p.0 q.0, g p.1 q.1)) (e i) (d i)

  abbrev pub ArePairs : List (Value S) → List (Value T) → List (Value (S × T)) → Type 0
  ArePairs = InTurn IsPair

  pub pair_joined : (a : Operations S) (b : Operations T) (engine : LoopOptions) (v : Value S) (w : Value T) (u : Value (S × T)) (vs : List (Value S)) (ws : List (Value T)) (us : List (Value (S × T))) → IsPair v w u → ArePairs vs ws us →
      IsPair (joined a engine v vs) (joined b engine w ws) (joined (product a b) engine u us)
  pair_joined a b engine v w u [] [] [] e d = e
  pair_joined a b engine v w u [] [] (p ∷ us) e d = absurd d
  pair_joined a b engine v w u [] (y ∷ ws) us e d = absurd d
  pair_joined a b engine v w u (x ∷ vs) [] us e d = absurd d
  pair_joined a b engine v w u (x ∷ vs) (y ∷ ws) [] e d = absurd d
  pair_joined a b engine v w u (x ∷ vs) (y ∷ ws) (p ∷ us) e d =
      pair_joined a b engine (lift2 a.join v x) (lift2 b.join w y) (lift2 (product a b).join u p) vs ws us (pair_lift2 a.join b.join v w u x y p e d.0) d.1
