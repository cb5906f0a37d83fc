-- How often a pair can still change in the rounds of a loop.
use Rattle.std.specs.Prelude.{◌≡◌, ◌<◌, ◌⊎◌, ℕ, ◌+◌, ◌∷◌}
use Rattle.std.proofs.Common.{ap, arith, inl, inr}
use Rattle.domain_laws.specs.Operations.{Operations}
use Rattle.dom_product_meaning.specs.Product.{product}
use Rattle.dom_product_meaning.proofs.Fitting.{fits_parts}
use Rattle.batch_converges.specs.Converges.{Ending, Grows}
use Rattle.batch_product.specs.Claims.{later_of_both, changes_of_both}

-- where neither part changes the pair stays; else a part has fewer changes left, and the other no more
falls : {S T : Type 0} (left : S → ℕ) (right : T → ℕ) (s x : S) (t y : T) → (x ≡ s) ⊎ (left x < left s) → (y ≡ t) ⊎ (right y < right t) → (◌≡◌ {A = S × T} (x, y) (s, t)) ⊎ (left x + right y < left s + right t)
falls left right s x t y (inl e) (inl d) = inl (λ i. (e i, d i))
falls left right s x t y (inl e) (inr d) = let same = ap left e in inr (omega arith)
falls left right s x t y (inr e) (inl d) = let same = ap right d in inr (omega arith)
falls left right s x t y (inr e) (inr d) = inr (omega arith)

module _ {S T : Type 0} (a : Operations S) (b : Operations T) (u v : ℕ → ℕ) (f g : ℕ → ℕ → ℕ) where
  pub pair_ending : Ending a u f → Ending b v g → Ending (product a b) (later_of_both u v) (changes_of_both f g)
  pair_ending p q = record {
    left = λ ms l s. p.left ms l s.0 + q.left ms l s.1;
    falls = λ ms l ls s t h k.
        let x = fits_parts a b s (l ∷ ls) h in
        let y = fits_parts a b t (l ∷ ls) k in
        falls (p.left ms l) (q.left ms l) s.0 (a.widen ms s.0 t.0) s.1 (b.widen ms s.1 t.1) (p.falls ms l ls s.0 t.0 x.0 y.0) (q.falls ms l ls s.1 t.1 x.1 y.1);
    joins_fall = λ delay ms l ls s t w h k.
        let x = fits_parts a b s (l ∷ ls) h in
        let y = fits_parts a b t (l ∷ ls) k in
        falls (p.left ms l) (q.left ms l) s.0 (a.join s.0 t.0) s.1 (b.join s.1 t.1) (p.joins_fall delay ms l ls s.0 t.0 (omega arith) x.0 y.0) (q.joins_fall delay ms l ls s.1 t.1 (omega arith) x.1 y.1);
    few = λ ms l ls s h.
        let x = fits_parts a b s (l ∷ ls) h in
        let i = p.few ms l ls s.0 x.0 in
        let j = q.few ms l ls s.1 x.1 in
        omega arith;
  }

  pub pair_grows : Grows f → Grows g → Grows (changes_of_both f g)
  pair_grows p q v w m n h k = let i = p v w m n h k in let j = q v w m n h k in omega arith
