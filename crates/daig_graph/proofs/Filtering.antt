-- What passes a test, among the items of a list.
use Rattle.std.proofs.Common.{◌≡◌, ℕ, zero, suc, Bool, true, false, cond, List, [], ◌∷◌, Some, slice_get, refl, sym, ap, ◌∙◌, arith}
use Rattle.std.specs.List.{filter}
use Rattle.daig_graph.specs.Held.{IsIn, IsOnce}
use Rattle.std.proofs.lemmas.Option.{same_Some}

module _ {A : Type 0} (p : A → Bool) where
  later : (y : A) (ys : List A) (x : A) → IsIn ys x × (p x ≡ true) → IsIn (y ∷ ys) x × (p x ≡ true)
  later y ys x h = ((suc h.0.0, h.0.1), h.1)

  -- what is left passes the test
  pub in-filter : (xs : List A) (x : A) → IsIn (filter p xs) x → IsIn xs x × (p x ≡ true)
  in-filter [] x h = cc
  in-filter (y ∷ ys) x h = by (p y) refl h.0 h.1 (λ n s. in-filter ys x (n, s))
    where
      by : (b : Bool) → p y ≡ b → (n : ℕ) → slice_get (cond b (y ∷ filter p ys) (filter p ys)) n ≡ Some x
          → ((m : ℕ) → slice_get (filter p ys) m ≡ Some x → IsIn ys x × (p x ≡ true)) → IsIn (y ∷ ys) x × (p x ≡ true)
      by true e zero s rest = ((zero, s), ap p (sym (same_Some _ _ s)) ∙ e)
      by true e (suc n) s rest = later y ys x (rest n s)
      by false e n s rest = later y ys x (rest n s)

  -- what passes is left
  pub to-filter : (xs : List A) (x : A) → IsIn xs x → p x ≡ true → IsIn (filter p xs) x
  to-filter [] x h t = cc
  to-filter (y ∷ ys) x h t = by (p y) refl h.0 h.1 (λ n s. to-filter ys x (n, s) t)
    where
      by : (b : Bool) → p y ≡ b → (n : ℕ) → slice_get (y ∷ ys) n ≡ Some x
          → ((m : ℕ) → slice_get ys m ≡ Some x → IsIn (filter p ys) x) → IsIn (cond b (y ∷ filter p ys) (filter p ys)) x
      by true e zero s rest = (zero, s)
      by true e (suc n) s rest = let h = rest n s in (suc h.0, h.1)
      by false e zero s rest = let same : false ≡ true = sym e ∙ ap p (same_Some _ _ s) ∙ t in absurd (cc)
      by false e (suc n) s rest = rest n s

  -- what stands in a list once is left at most once
  pub once-filter : (xs : List A) → IsOnce xs → IsOnce (filter p xs)
  once-filter [] once = once
  once-filter (y ∷ ys) once = by (p y) (once-filter ys (λ m n x a b. let same = once (suc m) (suc n) x a b in omega (arith, same)))
    where
      by : (b : Bool) → IsOnce (filter p ys) → IsOnce (cond b (y ∷ filter p ys) (filter p ys))
      by true rest zero zero x a b = refl
      by true rest zero (suc n) x a b = let h = in-filter ys x (n, b) in let same = once zero (suc h.0.0) x a h.0.1 in absurd (omega (arith, same))
      by true rest (suc m) zero x a b = let h = in-filter ys x (m, a) in let same = once (suc h.0.0) zero x h.0.1 b in absurd (omega (arith, same))
      by true rest (suc m) (suc n) x a b = ap suc (rest m n x a b)
      by false rest m n x a b = rest m n x a b
