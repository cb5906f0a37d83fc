-- Lists in which each number stands once, by how often numbers stand in them.
use Rattle.std.proofs.lemmas.Bool.Decides.{nat_tests}
use Rattle.std.proofs.Common.{ℕ, zero, suc, ◌≡◌, ◌≢◌, ◌+◌, ◌*◌, ◌<◌, ◌≤◌, ◌==◌, ◌⊎◌, inl, inr, Bool, true, false, List, [], ◌∷◌, refl, sym, ap, subst, arith}
use Rattle.std.specs.List.{All}
use Rattle.std.proofs.lemmas.Bool.{cases_lt}
use Rattle.imp_slots.specs.Fits.{Absent, Distinct}
use Rattle.imp_edit.specs.Edited.{counting}
use Rattle.imp_edit.proofs.Tallies.{one, often}

own : (x : ℕ) → one (x == x) ≡ 1
own x = let e : (x == x) ≡ true = grind (arith, nat_tests) in ap one e

other : (x m : ℕ) → x ≢ m → one (x == m) ≡ 0
other x m h = go (x == m) refl
  where
    go : (b : Bool) → (x == m) ≡ b → one b ≡ 0
    go true e = absurd (h (grind (arith, nat_tests)))
    go false e = refl

pub absent_never : (m : ℕ) (xs : List ℕ) → Absent m xs → often m xs ≡ 0
absent_never m [] a = refl
absent_never m (x ∷ xs) a = omega (arith, other x m (λ e. a.0 (sym e)), absent_never m xs a.1)

pub never_absent : (m : ℕ) (xs : List ℕ) → often m xs ≡ 0 → Absent m xs
never_absent m [] e = tt
never_absent m (x ∷ xs) e = ((λ q. let w : one (x == m) ≡ 1 = subst (λ k. one (x == k) ≡ 1) (sym q) (own x) in absurd (omega (arith, w, e))), never_absent m xs (omega (arith, e)))

pub distinct_once : (xs : List ℕ) → Distinct xs → (m : ℕ) → often m xs ≤ 1
distinct_once [] d m = omega arith
distinct_once (x ∷ xs) d m = go (distinct_once xs d.1 m) (x == m) refl
  where
    go : often m xs ≤ 1 → (b : Bool) → (x == m) ≡ b → one b + often m xs ≤ 1
    go i true e = let q : x ≡ m = grind (arith, nat_tests) in omega (arith, absent_never m xs (subst (λ k. Absent k xs) q d.0))
    go i false e = omega (arith, i)

pub once_distinct : (xs : List ℕ) → ((m : ℕ) → often m xs ≤ 1) → Distinct xs
once_distinct [] h = tt
once_distinct (x ∷ xs) h = (never_absent x xs (omega (arith, h x, own x)), once_distinct xs (λ m. omega (arith, h m)))

-- numbers below a bound
pub below_never : (b : ℕ) (xs : List ℕ) → All (λ (n : ℕ). n < b) xs → (m : ℕ) → b ≤ m → often m xs ≡ 0
below_never b [] a m h = refl
below_never b (x ∷ xs) a m h = let l : x < b = a 0 x (omega arith) in omega (arith, other x m (λ e. omega arith), below_never b xs (λ i d k. a (suc i) d (omega arith)) m h)

pub never_below : (b : ℕ) (xs : List ℕ) → ((m : ℕ) → b ≤ m → often m xs ≡ 0) → All (λ (n : ℕ). n < b) xs
never_below b [] h = λ i d k. absurd (omega arith)
never_below b (x ∷ xs) h = go (never_below b xs (λ m l. omega (arith, h m l)))
  where
    first : (x < b) ⊎ (b ≤ x) → x < b
    first (inl l) = l
    first (inr l) = absurd (omega (arith, h x l, own x))

    go : All (λ (n : ℕ). n < b) xs → All (λ (n : ℕ). n < b) (x ∷ xs)
    go a zero d k = first (cases_lt x b)
    go a (suc i) d k = a i d (omega arith)

-- numbers one after the other
pub counting_low : (first count m : ℕ) → m < first → often m (counting first count) ≡ 0
counting_low first zero m h = refl
counting_low first (suc n) m h = omega (arith, other first m (λ e. omega arith), counting_low (suc first) n m (omega arith))

pub counting_high : (first count m : ℕ) → first + count ≤ m → often m (counting first count) ≡ 0
counting_high first zero m h = refl
counting_high first (suc n) m h = omega (arith, other first m (λ e. omega arith), counting_high (suc first) n m (omega arith))

pub counting_once : (first count m : ℕ) → often m (counting first count) ≤ 1
counting_once first zero m = omega arith
counting_once first (suc n) m = go (counting_once (suc first) n m) (first == m) refl
  where
    go : often m (counting (suc first) n) ≤ 1 → (b : Bool) → (first == m) ≡ b → one b + often m (counting (suc first) n) ≤ 1
    go i true e = let q : first ≡ m = grind (arith, nat_tests) in omega (arith, counting_low (suc first) n m (omega arith))
    go i false e = omega (arith, i)

pub some_times : (k c : ℕ) → k ≤ 1 → k * c ≤ c
some_times zero c h = omega arith
some_times (suc zero) c h = omega arith
some_times (suc (suc k)) c h = absurd (omega arith)
