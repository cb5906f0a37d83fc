-- One after the other is written.
use Rattle.std.proofs.Common.{◌≡◌, ℕ, zero, suc, ◌+◌, ◌<◌, List, [], ◌∷◌, ◌++◌, map, length, take, drop, slice_index_or, slice_set, refl, sym, ap, subst, ◌∙◌, arith}

module _ {X : Type 0} (f : X → X) where
  written : (i : ℕ) (init : List X) (v d : X) → i < length init → v ≡ f (slice_index_or (map f (take i init) ++ drop i init) i d) → slice_set (map f (take i init) ++ drop i init) i v ≡ map f (take (suc i) init) ++ drop (suc i) init
  written i [] v d h e = absurd (omega arith)
  written zero (x ∷ xs) v d h e = ap (λ y. y ∷ xs) e
  written (suc i) (x ∷ xs) v d h e = ap (λ ys. f x ∷ ys) (written i xs v d (omega arith) e)

  pub written_next : (i : ℕ) (init xs : List X) (v d : X) → xs ≡ map f (take i init) ++ drop i init → i < length init → v ≡ f (slice_index_or xs i d) → slice_set xs i v ≡ map f (take (i + 1) init) ++ drop (i + 1) init
  written_next i init xs v d is h e = subst (λ n. slice_set xs i v ≡ map f (take n init) ++ drop n init) (let p : suc i ≡ i + 1 = omega arith in p) (next i init xs v d is h e)
    where
      next : (i : ℕ) (init xs : List X) (v d : X) → xs ≡ map f (take i init) ++ drop i init → i < length init → v ≡ f (slice_index_or xs i d) → slice_set xs i v ≡ map f (take (suc i) init) ++ drop (suc i) init
      next i init xs v d is h e = subst (λ ys. v ≡ f (slice_index_or ys i d) → slice_set ys i v ≡ map f (take (suc i) init) ++ drop (suc i) init) (sym is) (written i init v d h) e

  pub all_written : (k : ℕ) (init xs : List X) → k ≡ length init → xs ≡ map f (take k init) ++ drop k init → xs ≡ map f init
  all_written k init xs e is = is ∙ subst (λ n. map f (take n init) ++ drop n init ≡ map f init) (sym e) (whole init)
    where
      whole : (ys : List X) → map f (take (length ys) ys) ++ drop (length ys) ys ≡ map f ys
      whole [] = refl
      whole (y ∷ ys) = ap (λ zs. f y ∷ zs) (whole ys)
