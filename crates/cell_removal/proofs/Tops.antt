-- The top of a stack, which is the last of its items.
use Rattle.std.proofs.Common.{◌≡◌, suc, ◌<◌, List, [], ◌∷◌, ◌++◌, length, get_or, set, take, refl, ap, arith, length-append}

module _ {A : Type 0} (o : A) where
  pub top-get : (below : List A) (d : A) → get_or (below ++ o ∷ []) (length below) d ≡ o
  top-get [] d = refl
  top-get (x ∷ below) d = top-get below d

  pub top-set : (below : List A) (p : A) → set (below ++ o ∷ []) (length below) p ≡ below ++ p ∷ []
  top-set [] p = refl
  top-set (x ∷ below) p = ap (λ l. x ∷ l) (top-set below p)

  pub top-take : (below : List A) → take (length below) (below ++ o ∷ []) ≡ below
  top-take [] = refl
  top-take (x ∷ below) = ap (λ l. x ∷ l) (top-take below)

-- a stack that is not empty has a top
pub split_top : {A : Type 0} (stack : List A) → 0 < length stack → (below : List A) × (o : A) × (stack ≡ below ++ o ∷ [])
split_top [] h = absurd (omega (arith, h))
split_top (x ∷ []) h = ([], x, refl)
split_top (x ∷ y ∷ rest) h = let s = split_top (y ∷ rest) (omega arith) in (x ∷ s.0, s.1, ap (λ l. x ∷ l) s.2)

pub top-size : {A : Type 0} (stack below : List A) (o : A) → stack ≡ below ++ o ∷ [] → length stack ≡ suc (length below)
top-size stack below o e = omega (arith, ap length e, length-append below (o ∷ []))
