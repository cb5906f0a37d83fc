-- Numbers that are put into an ordered set one after another.
use Rattle.std.proofs.Common.{◌≡◌, ◌⊎◌, ℕ, ◌<◌, List, [], ◌∷◌, fold, refl, sym, ap, ◌∙◌, subst, inl, inr, arith}
use Rattle.std.specs.BTreeSet.{insert_key}
use Rattle.std.proofs.Common.{Ordering, Less, Equal, Greater}
use Rattle.std.specs.Ordering.{nat_cmp, MatchOrdering, match_ordering}
use Rattle.std.specs.Cmp.{ranked}
use Rattle.base_values.proofs.Members.{Member, here, there}
use Rattle.base_sets.specs.Sets.{Above, Strict}

abbrev pub put : List ℕ → ℕ → List ℕ
put = insert_key nat_cmp

abbrev pub sorted_once : List ℕ → List ℕ
sorted_once ns = fold put [] ns

pub cases : (i x : ℕ) (xs : List ℕ) → Member i (x ∷ xs) → (i ≡ x) ⊎ Member i xs
cases i x xs here = inl refl
cases i x xs (there m) = inr m

at_first : (i x : ℕ) (xs : List ℕ) → i ≡ x → Member i (x ∷ xs)
at_first i x xs e = subst (λ j. Member i (j ∷ xs)) e here

-- what stands in a list with a number put in
pub in_put : (ks : List ℕ) (n : ℕ) → Member n (put ks n)
in_put [] n = here
in_put (k ∷ ks) n = go (nat_cmp n k) (ranked n k (nat_cmp n k) refl) (in_put ks n)
  where
    go : (o : Ordering) → MatchOrdering o (n < k) (n ≡ k) (k < n) → Member n (put ks n) → Member n (match_ordering o (n ∷ k ∷ ks) (k ∷ ks) (k ∷ put ks n))
    go Less r m = here
    go Equal r m = subst (λ j. Member n (j ∷ ks)) r here
    go Greater r m = there m

pub stays_put : (ks : List ℕ) (n i : ℕ) → Member i ks → Member i (put ks n)
stays_put [] n i m = elim m [ ]
stays_put (k ∷ ks) n i m = go (nat_cmp n k) m (λ j. stays_put ks n i j)
  where
    more : Member i (k ∷ ks) → (Member i ks → Member i (put ks n)) → Member i (k ∷ put ks n)
    more m f = elim (cases i k ks m) [ inl e ↦ at_first i k (put ks n) e | inr j ↦ there (f j) ]

    go : (o : Ordering) → Member i (k ∷ ks) → (Member i ks → Member i (put ks n)) → Member i (match_ordering o (n ∷ k ∷ ks) (k ∷ ks) (k ∷ put ks n))
    go Less m f = there m
    go Equal m f = m
    go Greater m f = more m f

pub put_only : (ks : List ℕ) (n i : ℕ) → Member i (put ks n) → (i ≡ n) ⊎ Member i ks
put_only [] n i m = cases i n [] m
put_only (k ∷ ks) n i m = go (nat_cmp n k) m (put_only ks n i)
  where
    first : Member i (n ∷ k ∷ ks) → (i ≡ n) ⊎ Member i (k ∷ ks)
    first m = cases i n (k ∷ ks) m

    more : Member i (k ∷ put ks n) → (Member i (put ks n) → (i ≡ n) ⊎ Member i ks) → (i ≡ n) ⊎ Member i (k ∷ ks)
    more m f =
        elim (cases i k (put ks n) m) [
          | inl e ↦ inr (at_first i k ks e)
          | inr j ↦ elim (f j) [ inl e ↦ inl e | inr l ↦ inr (there l) ]
        ]

    go : (o : Ordering) → Member i (match_ordering o (n ∷ k ∷ ks) (k ∷ ks) (k ∷ put ks n)) → (Member i (put ks n) → (i ≡ n) ⊎ Member i ks) → (i ≡ n) ⊎ Member i (k ∷ ks)
    go Less m f = first m
    go Equal m f = inr m
    go Greater m f = more m f

-- Strictly rising lists.
pub strict_put : (ks : List ℕ) (n : ℕ) → Strict ks → Strict (put ks n)
strict_put [] n s = ((λ k m. elim m [ ]), tt)
strict_put (k ∷ ks) n s = go (nat_cmp n k) (ranked n k (nat_cmp n k) refl) (strict_put ks n s.1)
  where
    lower : n < k → Above n (k ∷ ks)
    lower l i m = elim (cases i k ks m) [ inl e ↦ subst (λ j. n < j) (sym e) l | inr h ↦ let j : k < i = s.0 i h in omega arith ]

    higher : k < n → Above k (put ks n)
    higher l i m = elim (put_only ks n i m) [ inl e ↦ subst (λ i. k < i) (sym e) l | inr j ↦ s.0 i j ]

    go : (o : Ordering) → MatchOrdering o (n < k) (n ≡ k) (k < n) → Strict (put ks n) → Strict (match_ordering o (n ∷ k ∷ ks) (k ∷ ks) (k ∷ put ks n))
    go Less r f = (lower r, s)
    go Equal r f = s
    go Greater r f = (higher r, f)

all_put : (ks ns : List ℕ) (i : ℕ) → Member i (fold put ks ns) → Member i ks ⊎ Member i ns
all_put ks [] i m = inl m
all_put ks (n ∷ ns) i m =
    elim (all_put (put ks n) ns i m) [
      | inl a ↦ elim (put_only ks n i a) [ inl e ↦ inr (subst (λ j. Member i (j ∷ ns)) e here) | inr l ↦ inl l ]
      | inr b ↦ inr (there b)
    ]

first_stay : (ks ns : List ℕ) (i : ℕ) → Member i ks → Member i (fold put ks ns)
first_stay ks [] i m = m
first_stay ks (n ∷ ns) i m = first_stay (put ks n) ns i (stays_put ks n i m)

all_there : (ks ns : List ℕ) (i : ℕ) → Member i ns → Member i (fold put ks ns)
all_there ks [] i m = elim m [ ]
all_there ks (n ∷ ns) _ here = first_stay (put ks n) ns n (in_put ks n)
all_there ks (n ∷ ns) i (there m) = all_there (put ks n) ns i m

all_strict : (ks ns : List ℕ) → Strict ks → Strict (fold put ks ns)
all_strict ks [] s = s
all_strict ks (n ∷ ns) s = all_strict (put ks n) ns (strict_put ks n s)

pub rising_strict : (ns : List ℕ) → Strict (sorted_once ns)
rising_strict ns = all_strict [] ns tt

-- exactly the numbers of the list
pub in_rising : (ns : List ℕ) (i : ℕ) → Member i ns → Member i (sorted_once ns)
in_rising ns i m = all_there [] ns i m

pub of_rising : (ns : List ℕ) (i : ℕ) → Member i (sorted_once ns) → Member i ns
of_rising ns i m = elim (all_put [] ns i m) [ inl a ↦ elim a [ ] | inr b ↦ b ]

-- Strictly rising lists of the same numbers are the same.
pub strict_same : (xs ys : List ℕ) → Strict xs → Strict ys → ((i : ℕ) → Member i xs → Member i ys) → ((i : ℕ) → Member i ys → Member i xs) → xs ≡ ys
strict_same [] [] s t f g = refl
strict_same [] (y ∷ ys) s t f g = elim (g y here) [ ]
strict_same (x ∷ xs) [] s t f g = elim (f x here) [ ]
strict_same (x ∷ xs) (y ∷ ys) s t f g =
    let e : x ≡ y = least (f x here) (g y here) in
    ap (λ z. z ∷ xs) e ∙ ap (λ zs. y ∷ zs) (strict_same xs ys s.1 t.1 (λ i m. tail_f e i m (f i (there m))) (λ i m. tail_g e i m (g i (there m))))
  where
    least : Member x (y ∷ ys) → Member y (x ∷ xs) → x ≡ y
    least a b =
        elim (cases x y ys a) [
          | inl e ↦ e
          | inr k ↦ elim (cases y x xs b) [ inl e ↦ sym e | inr m ↦ let l : y < x = t.0 x k in let h : x < y = s.0 y m in absurd (omega arith) ]
        ]

    tail_f : x ≡ y → (i : ℕ) → Member i xs → Member i (y ∷ ys) → Member i ys
    tail_f e i m k = elim (cases i y ys k) [ inl j ↦ let a : x < i = s.0 i m in absurd (omega arith) | inr l ↦ l ]

    tail_g : x ≡ y → (i : ℕ) → Member i ys → Member i (x ∷ xs) → Member i xs
    tail_g e i m k = elim (cases i x xs k) [ inl j ↦ let a : y < i = t.0 i m in absurd (omega arith) | inr l ↦ l ]

pub rising_same : (xs ys : List ℕ) → ((i : ℕ) → Member i xs → Member i ys) → ((i : ℕ) → Member i ys → Member i xs) → sorted_once xs ≡ sorted_once ys
rising_same xs ys f g =
    strict_same (sorted_once xs) (sorted_once ys) (rising_strict xs) (rising_strict ys) (λ i m. in_rising ys i (f i (of_rising xs i m))) (λ i m. in_rising xs i (g i (of_rising ys i m)))
