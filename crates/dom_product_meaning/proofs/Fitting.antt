-- Operations on pairs that fit give pairs that fit.
use Rattle.std.specs.Prelude.{◌≡◌, List, [], ◌∷◌, true}
use Rattle.std.proofs.lemmas.Bool.{and_parts, and_from}
use Rattle.imp_slots.specs.Plain.{Layout}
use Rattle.domain_laws.specs.Operations.{Operations}
use Rattle.domain_laws.specs.Laws.{Fitting}
use Rattle.dom_product_meaning.specs.Product.{product}

module _ {S T : Type 0} (a : Operations S) (b : Operations T) where
  abbrev P : Operations (S × T)
  P = product a b

  pub fits_parts : (s : S × T) (ls : List Layout) → P.fits s ls ≡ true → (a.fits s.0 ls ≡ true) × (b.fits s.1 ls ≡ true)
  fits_parts s ls f = and_parts (a.fits s.0 ls) (b.fits s.1 ls) f

  fits_whole : (s : S × T) (ls : List Layout) → a.fits s.0 ls ≡ true → b.fits s.1 ls ≡ true → P.fits s ls ≡ true
  fits_whole s ls f g = and_from (a.fits s.0 ls) (b.fits s.1 ls) f g

  pub product_fitting : Fitting a → Fitting b → Fitting P
  product_fitting p q = record {
    init = λ l. fits_whole (P.init l) (l ∷ []) (p.init l) (q.init l);
    post = λ act l ls s f k.
        let z = fits_parts s (l ∷ ls) k in
        fits_whole (P.post act s) (l ∷ ls) (p.post act l ls s.0 f z.0) (q.post act l ls s.1 f z.1);
    assume = λ g t l ls s f k.
        let z = fits_parts s (l ∷ ls) k in
        fits_whole (P.assume g t s) (l ∷ ls) (p.assume g t l ls s.0 f z.0) (q.assume g t l ls s.1 f z.1);
    join = λ ls s t f g.
        let z = fits_parts s ls f in
        let y = fits_parts t ls g in
        fits_whole (P.join s t) ls (p.join ls s.0 t.0 z.0 y.0) (q.join ls s.1 t.1 z.1 y.1);
    widen = λ ms ls s t r f g.
        let z = fits_parts s ls f in
        let y = fits_parts t ls g in
        fits_whole (P.widen ms s t) ls (p.widen ms ls s.0 t.0 r z.0 y.0) (q.widen ms ls s.1 t.1 r z.1 y.1);
    enter = λ i l ls s f k.
        let z = fits_parts s (l ∷ ls) k in
        fits_whole (P.enter i.entering s) (i.entering.layout ∷ l ∷ ls) (p.enter i l ls s.0 f z.0) (q.enter i l ls s.1 f z.1);
    leave = λ i l ls s d f k m.
        let z = fits_parts s (l ∷ ls) k in
        let y = fits_parts d (i.entering.layout ∷ l ∷ ls) m in
        fits_whole (P.leave i.returning s d) (l ∷ ls) (p.leave i l ls s.0 d.0 f z.0 y.0) (q.leave i l ls s.1 d.1 f z.1 y.1);
    shed = λ l ls s k.
        let z = fits_parts s (l ∷ ls) k in
        fits_whole (P.shed s) (l ∷ []) (p.shed l ls s.0 z.0) (q.shed l ls s.1 z.1);
  }
