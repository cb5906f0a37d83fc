-- The laws of a product, from those of its parts.
use Rattle.std.specs.Prelude.{◌≡◌, refl, ◌&&◌, ◌⊎◌, List, ◌∷◌, Bool}
use Rattle.std.proofs.Common.{ap, inl, inr}
use Rattle.std.proofs.lemmas.Bool.{and_parts, and_from}
use Rattle.imp_slots.specs.Plain.{Does}
use Rattle.concrete_sem.specs.Values.{Variables, Heap}
use Rattle.imp_words.specs.declared.verdict.Verdict.{Verdict}
use Rattle.imp_words.specs.declared.verdict.Verdict.TheVariants.{Dead, Safe, May}
use Rattle.domain_laws.specs.Operations.{Operations}
use Rattle.domain_laws.specs.Laws.{Laws, KeepsDead}
use Rattle.dom_product_meaning.specs.Product.{product, stronger, covered_by_both}
use Rattle.dom_product_meaning.proofs.Fitting.{fits_parts, product_fitting}

dead_from : (v w : Verdict) → stronger v w ≡ Dead → (v ≡ Dead) ⊎ (w ≡ Dead)
dead_from Dead w e = inl refl
dead_from Safe Dead e = inr refl
dead_from Safe Safe e = cc
dead_from Safe May e = cc
dead_from May w e = inr e

safe_from : (v w : Verdict) → stronger v w ≡ Safe → (v ≡ Safe) ⊎ (w ≡ Safe)
safe_from Dead w e = cc
safe_from Safe w e = inl refl
safe_from May w e = inr e

module _ {S T : Type 0} (a : Operations S) (b : Operations T) where
  abbrev P : Operations (S × T)
  P = product a b

  pub product_laws : (ca : S → Heap → List Variables → Type 0) (cb : T → Heap → List Variables → Type 0) → Laws a ca → Laws b cb → Laws P (covered_by_both ca cb)
  product_laws ca cb p q = record {
    fitting = product_fitting a b p.fitting q.fitting;
    same = λ s t. (
      (λ e. let z = and_parts (a.same s.0 t.0) (b.same s.1 t.1) e in λ i. ((p.same s.0 t.0).0 z.0 i, (q.same s.1 t.1).0 z.1 i)),
      (λ e. and_from (a.same s.0 t.0) (b.same s.1 t.1) ((p.same s.0 t.0).1 (ap (λ (x : S × T). x.0) e)) ((q.same s.1 t.1).1 (ap (λ (x : S × T). x.1) e))),
    );
    post = λ e l ls s h v vs x f k w g c.
        let z = fits_parts a b s (l ∷ ls) k in
        (p.post e l ls s.0 h v vs x f z.0 w g c.0, q.post e l ls s.1 h v vs x f z.1 w g c.1);
    assume = λ g t l ls s h v vs f k w e c.
        let z = fits_parts a b s (l ∷ ls) k in
        (p.assume g t l ls s.0 h v vs f z.0 w e c.0, q.assume g t l ls s.1 h v vs f z.1 w e c.1);
    join_left = λ ls s t h vs f g w c.
        let z = fits_parts a b s ls f in
        let y = fits_parts a b t ls g in
        (p.join_left ls s.0 t.0 h vs z.0 y.0 w c.0, q.join_left ls s.1 t.1 h vs z.1 y.1 w c.1);
    join_right = λ ls s t h vs f g w c.
        let z = fits_parts a b s ls f in
        let y = fits_parts a b t ls g in
        (p.join_right ls s.0 t.0 h vs z.0 y.0 w c.0, q.join_right ls s.1 t.1 h vs z.1 y.1 w c.1);
    widen_left = λ ms ls s t h vs r f g w c.
        let z = fits_parts a b s ls f in
        let y = fits_parts a b t ls g in
        (p.widen_left ms ls s.0 t.0 h vs r z.0 y.0 w c.0, q.widen_left ms ls s.1 t.1 h vs r z.1 y.1 w c.1);
    widen_right = λ ms ls s t h vs r f g w c.
        let z = fits_parts a b s ls f in
        let y = fits_parts a b t ls g in
        (p.widen_right ms ls s.0 t.0 h vs r z.0 y.0 w c.0, q.widen_right ms ls s.1 t.1 h vs r z.1 y.1 w c.1);
    enter = λ i l ls s h v u vs f k w e c.
        let z = fits_parts a b s (l ∷ ls) k in
        (p.enter i l ls s.0 h v u vs f z.0 w e c.0, q.enter i l ls s.1 h v u vs f z.1 w e c.1);
    leave = λ i l ls s t h k v u d vs f g m w x e c n.
        let z = fits_parts a b s (l ∷ ls) g in
        let y = fits_parts a b t (i.entering.layout ∷ l ∷ ls) m in
        (p.leave i l ls s.0 t.0 h k v u d vs f z.0 y.0 w x e c.0 n.0, q.leave i l ls s.1 t.1 h k v u d vs f z.1 y.1 w x e c.1 n.1);
    init = λ l ins w. (p.init l ins w, q.init l ins w);
    shed = λ l ls s h v vs k w c.
        let z = fits_parts a b s (l ∷ ls) k in
        (p.shed l ls s.0 h v vs z.0 w c.0, q.shed l ls s.1 h v vs z.1 w c.1);
    dead_verdict = λ e c l ls s h vs k f m w d n.
        let z = fits_parts a b s (l ∷ ls) m in
        elim (dead_from (a.check (Does e) s.0) (b.check (Does e) s.1) d) [
          | inl o ↦ p.dead_verdict e c l ls s.0 h vs k f z.0 w o n.0
          | inr o ↦ q.dead_verdict e c l ls s.1 h vs k f z.1 w o n.1
        ];
    safe_verdict = λ e c l ls s h v vs k f m w d n x.
        let z = fits_parts a b s (l ∷ ls) m in
        elim (safe_from (a.check (Does e) s.0) (b.check (Does e) s.1) d) [
          | inl o ↦ p.safe_verdict e c l ls s.0 h v vs k f z.0 w o n.0 x
          | inr o ↦ q.safe_verdict e c l ls s.1 h v vs k f z.1 w o n.1 x
        ];
  }

  pub product_keeps_dead : KeepsDead a → KeepsDead b → KeepsDead P
  product_keeps_dead p q = λ e l ls s f k d.
      let z = fits_parts a b s (l ∷ ls) k in
      let y = and_parts (a.dead s.0) (b.dead s.1) d in
      λ i. (p e l ls s.0 f z.0 y.0 i, q e l ls s.1 f z.1 y.1 i)

  pub product_equality : (ea : S → S → Bool) (eb : T → T → Bool) → ((s t : S) → a.same s t ≡ ea s t) → ((s t : T) → b.same s t ≡ eb s t) → (s t : S × T) → P.same s t ≡ (ea s.0 t.0 && eb s.1 t.1)
  product_equality ea eb p q s t = λ i. p s.0 t.0 i && q s.1 t.1 i
