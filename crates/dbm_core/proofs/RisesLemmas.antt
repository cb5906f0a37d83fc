-- Each entry that a widening changes can rise once less often.
use Rattle.std.specs.Prelude.{◌≡◌, ℕ, ◌<◌, ◌≤◌, ◌+◌, ◌*◌, ℤ, ◌≤ℤ◌, ◌<ℤ◌, Option, Some, None, Bool, cond, int_lt, List, [], ◌∷◌, length, count_by, ◌⊎◌, refl}
use Rattle.std.proofs.Common.{arith, ap, sym, subst, inl, inr, suc, zero, add-le-add, add-lt-add_of_le_of_lt}
use Rattle.std.proofs.lemmas.Int.{ints}
use Rattle.std.proofs.lemmas.Bool.{cases_lt}
use Rattle.std.proofs.lemmas.List.Sums.{sum_by-cons, count_by-le-length}
use Rattle.dbm_core.specs.Half.{HalfMatrix, IsMatrix, HasEntries, entry, nodes}
use Rattle.dbm_core.specs.Nodes.{is_single}
use Rattle.dbm_core.specs.Operations.{threshold_value, next_threshold, widen_bound, widened, IsThreshold, IsNextThreshold}
use Rattle.dbm_core.specs.Rises.{sum_below, bound_rises, rises}
use Rattle.dbm_core.proofs.ThresholdLemmas.{by_order, next_threshold-is-least, under}
use Rattle.dbm_core.proofs.SameLemmas.{entries-determine}

-- how many thresholds are above x
abbrev above : List ℤ → Bool → ℤ → ℕ
above thresholds d x = count_by (λ m. int_lt x (threshold_value d m)) thresholds

above-cons : (m : ℤ) (ms : List ℤ) (d : Bool) (x : ℤ) → above (m ∷ ms) d x ≡ cond (int_lt x (threshold_value d m)) 1 0 + above ms d x
above-cons m ms d x = sum_by-cons (λ m. cond (int_lt x (threshold_value d m)) 1 0) m ms

one_more : (x y k : ℤ) → x ≤ℤ y → cond (int_lt y k) 1 0 ≤ cond (int_lt x k) 1 0
one_more x y k l = by_order (λ a. cond a 1 0 ≤ cond (int_lt x k) 1 0) y k
    (λ p. by_order (λ a. 1 ≤ cond a 1 0) x k (λ q. omega arith) (λ q. absurd (omega (arith, ints))))
    (λ p. omega arith)

above-mono : (ms : List ℤ) (d : Bool) (x y : ℤ) → x ≤ℤ y → above ms d y ≤ above ms d x
above-mono [] d x y l = omega arith
above-mono (m ∷ ms) d x y l = rw (above-cons m ms d x) (rw (above-cons m ms d y)
    (let p : cond (int_lt y (threshold_value d m)) 1 0 ≤ cond (int_lt x (threshold_value d m)) 1 0 = one_more x y (threshold_value d m) l in
    let q : above ms d y ≤ above ms d x = above-mono ms d x y l in add-le-add p q))

-- the threshold v itself is above x, and not above v
above-less : (ms : List ℤ) (d : Bool) (x m : ℤ) → IsThreshold ms m → x <ℤ threshold_value d m → above ms d (threshold_value d m) < above ms d x
above-less [] d x m i l = absurd i
above-less (k ∷ ks) d x m (inl e) l = subst (λ t. above (k ∷ ks) d (threshold_value d t) < above (k ∷ ks) d x) (sym e)
    (rw (above-cons k ks d x) (rw (above-cons k ks d (threshold_value d k))
    (here (threshold_value d k) x (above ks d (threshold_value d k)) (above ks d x) (subst (λ t. x <ℤ threshold_value d t) e l)
    (above-mono ks d x (threshold_value d k) (under x (threshold_value d k) (subst (λ t. x <ℤ threshold_value d t) e l))))))
  where
    here : (v x : ℤ) (a b : ℕ) → x <ℤ v → a ≤ b → cond (int_lt v v) 1 0 + a < cond (int_lt x v) 1 0 + b
    here v x a b l h = by_order (λ t. cond t 1 0 + a < cond (int_lt x v) 1 0 + b) v v (λ p. absurd (omega (arith, ints)))
        (λ p. by_order (λ t. 0 + a < cond t 1 0 + b) x v (λ q. omega arith) (λ q. absurd (omega (arith, ints))))
above-less (k ∷ ks) d x m (inr j) l = rw (above-cons k ks d x) (rw (above-cons k ks d (threshold_value d m))
    (add-lt-add_of_le_of_lt
    (one_more x (threshold_value d m) (threshold_value d k) (under x (threshold_value d m) l)) (above-less ks d x m j l)))

-- a widened bound is the old one, or can rise less often
bound_rises-widened : (ms : List ℤ) (d : Bool) (a b : Option ℤ) → (widen_bound ms d a b ≡ a) ⊎ (bound_rises ms d (widen_bound ms d a b) < bound_rises ms d a)
bound_rises-widened ms d None b = inl refl
bound_rises-widened ms d (Some x) None = inr (omega arith)
bound_rises-widened ms d (Some x) (Some y) =
    by_order (λ v. (cond v (next_threshold ms d y) (Some x) ≡ Some x) ⊎ (bound_rises ms d (cond v (next_threshold ms d y) (Some x)) < bound_rises ms d (Some x))) x y
    (λ l. inr (to_threshold (next_threshold ms d y) (next_threshold-is-least ms d y) l)) (λ l. inl refl)
  where
    step : (x y v : ℤ) → x <ℤ y → y ≤ℤ v → x <ℤ v
    step x y v p q = omega (arith, ints)

    to_threshold : (o : Option ℤ) → IsNextThreshold ms d y o → x <ℤ y → bound_rises ms d o < bound_rises ms d (Some x)
    to_threshold None h l = omega arith
    to_threshold (Some v) h l =
        let p : above ms d (threshold_value d h.0.0) < above ms d x = above-less ms d x h.0.0 h.0.1 (subst (λ t. x <ℤ t) (sym h.0.2) (step x y v l h.1.0)) in
        let q : above ms d v < above ms d x = subst (λ t. above ms d t < above ms d x) h.0.2 p in more (above ms d v) (above ms d x) q
      where
        more : (a b : ℕ) → a < b → 1 + a < 1 + b
        more a b p = omega arith

bound_rises-few : (ms : List ℤ) (d : Bool) (a : Option ℤ) → bound_rises ms d a ≤ length ms + 1
bound_rises-few ms d None = omega arith
bound_rises-few ms d (Some x) = omega (arith, count_by-le-length (λ m. int_lt x (threshold_value d m)) ms)

-- ---- sums

sum_below-le : (n : ℕ) (f g : ℕ → ℕ) → ((i : ℕ) → i < n → f i ≤ g i) → sum_below n f ≤ sum_below n g
sum_below-le zero f g h = omega arith
sum_below-le (suc n) f g h =
    let p : sum_below n f ≤ sum_below n g = sum_below-le n f g (λ i l. h i (omega arith)) in
    let q : f n ≤ g n = h n (omega arith) in omega arith

sum_below-same : (n : ℕ) (f g : ℕ → ℕ) → ((i : ℕ) → i < n → f i ≤ g i) → sum_below n f ≡ sum_below n g → (i : ℕ) → i < n → f i ≡ g i
sum_below-same zero f g h e i l = absurd (omega arith)
sum_below-same (suc n) f g h e i l =
    let p : sum_below n f ≤ sum_below n g = sum_below-le n f g (λ k m. h k (omega arith)) in
    let q : f n ≤ g n = h n (omega arith) in
    let s : sum_below n f ≡ sum_below n g = omega arith in
    let t : f n ≡ g n = omega arith in
    elim (cases_lt i n) [
      | inl m ↦ sum_below-same n f g (λ k m. h k (omega arith)) s i m
      | inr m ↦ let k : i ≡ n = omega arith in subst (λ z. f z ≡ g z) (sym k) t
    ]

sum_below-bound : (n c : ℕ) (f : ℕ → ℕ) → ((i : ℕ) → i < n → f i ≤ c) → sum_below n f ≤ n * c
sum_below-bound zero c f h = omega arith
sum_below-bound (suc n) c f h =
    let p : sum_below n f ≤ n * c = sum_below-bound n c f (λ i l. h i (omega arith)) in
    let q : f n ≤ c = h n (omega arith) in
    let e : suc n * c ≡ n * c + c = grind arith in omega arith

pub rises-few : (ms : List ℤ) (m : HalfMatrix) → rises ms m ≤ nodes m * (nodes m * (length ms + 1))
rises-few ms m = sum_below-bound (nodes m) (nodes m * (length ms + 1)) (λ i. sum_below (nodes m) (λ j. bound_rises ms (is_single i j) (entry m i j)))
    (λ i hi. sum_below-bound (nodes m) (length ms + 1) (λ j. bound_rises ms (is_single i j) (entry m i j)) (λ j hj. bound_rises-few ms (is_single i j) (entry m i j)))

-- ---- a widened matrix is the old one, or can rise less often

abbrev row_rises : List ℤ → ℕ → HalfMatrix → ℕ → ℕ
row_rises ms n m i = sum_below n (λ j. bound_rises ms (is_single i j) (entry m i j))

at_pair : (ms : List ℤ) (a b w : HalfMatrix) → HasEntries a.kinds (widened ms a b) w → (i j : ℕ) → i < nodes a → j < nodes a →
    (entry w i j ≡ entry a i j) ⊎ (bound_rises ms (is_single i j) (entry w i j) < bound_rises ms (is_single i j) (entry a i j))
at_pair ms a b w h i j hi hj =
    subst (λ v. (v ≡ entry a i j) ⊎ (bound_rises ms (is_single i j) v < bound_rises ms (is_single i j) (entry a i j))) (sym (h.entries i j hi hj))
    (bound_rises-widened ms (is_single i j) (entry a i j) (entry b i j))

below_or_same : (m n : ℕ) → (m ≡ n) ⊎ (m < n) → m ≤ n
below_or_same m n (inl e) = omega arith
below_or_same m n (inr l) = omega arith

pair-le : (ms : List ℤ) (a b w : HalfMatrix) → HasEntries a.kinds (widened ms a b) w → (i j : ℕ) → i < nodes a → j < nodes a →
    bound_rises ms (is_single i j) (entry w i j) ≤ bound_rises ms (is_single i j) (entry a i j)
pair-le ms a b w h i j hi hj = below_or_same (bound_rises ms (is_single i j) (entry w i j)) (bound_rises ms (is_single i j) (entry a i j)) (elim (at_pair ms a b w h i j hi hj) [
  | inl e ↦ inl (ap (bound_rises ms (is_single i j)) e)
  | inr l ↦ inr l
])

row-le : (ms : List ℤ) (a b w : HalfMatrix) → HasEntries a.kinds (widened ms a b) w → (i : ℕ) → i < nodes a → row_rises ms (nodes a) w i ≤ row_rises ms (nodes a) a i
row-le ms a b w h i hi = sum_below-le (nodes a) (λ j. bound_rises ms (is_single i j) (entry w i j)) (λ j. bound_rises ms (is_single i j) (entry a i j)) (λ j hj. pair-le ms a b w h i j hi hj)

not_less : (m n : ℕ) → m < n → m ≡ n → ⊥
not_less m n l e = omega arith

unchanged : (ms : List ℤ) (a b w : HalfMatrix) → HasEntries a.kinds (widened ms a b) w → sum_below (nodes a) (row_rises ms (nodes a) w) ≡ sum_below (nodes a) (row_rises ms (nodes a) a) →
    (i j : ℕ) → i < nodes a → j < nodes a → entry w i j ≡ entry a i j
unchanged ms a b w h e i j hi hj = elim (at_pair ms a b w h i j hi hj) [
  | inl p ↦ p
  | inr l ↦ absurd (not_less (bound_rises ms (is_single i j) (entry w i j)) (bound_rises ms (is_single i j) (entry a i j)) l
      (sum_below-same (nodes a) (λ j. bound_rises ms (is_single i j) (entry w i j)) (λ j. bound_rises ms (is_single i j) (entry a i j)) (λ k hk. pair-le ms a b w h i k hi hk)
      (sum_below-same (nodes a) (row_rises ms (nodes a) w) (row_rises ms (nodes a) a) (row-le ms a b w h) e i hi) j hj))
]

same_total : (m n k : ℕ) → k ≡ m → k ≤ n → n ≤ m → k ≡ n
same_total m n k e p q = omega arith

pub rises-widened : (ms : List ℤ) (a b w : HalfMatrix) → IsMatrix a → HasEntries a.kinds (widened ms a b) w → (w ≡ a) ⊎ (rises ms w < rises ms a)
rises-widened ms a b w t h = elim (cases_lt (rises ms w) (rises ms a)) [
  | inl l ↦ inr l
  | inr l ↦ inl (entries-determine w a h.matrix t h.same_kinds (λ i j hi hj.
      let slots : length w.kinds ≡ length a.kinds = ap length h.same_kinds in
      let total : sum_below (nodes a) (row_rises ms (nodes a) w) ≡ rises ms w = sym (ap (λ n. sum_below (2 * n) (row_rises ms (2 * n) w)) slots) in
      let less : sum_below (nodes a) (row_rises ms (nodes a) w) ≤ rises ms a = sum_below-le (nodes a) (row_rises ms (nodes a) w) (row_rises ms (nodes a) a) (row-le ms a b w h) in
      let li : i < nodes a = omega arith in let lj : j < nodes a = omega arith in
      unchanged ms a b w h (same_total (rises ms w) (rises ms a) (sum_below (nodes a) (row_rises ms (nodes a) w)) total less l) i j li lj))
]
