-- Closing as a function: it is an answer of the six steps.
use Rattle.std.specs.Prelude.{◌≡◌, ℕ, ◌<◌, ◌≤◌, ◌+◌, ◌*◌, ◌^◌, ℤ, pos, negsuc, neg_ℤ, int_lt, ◌≤ℤ◌, ◌<ℤ◌, Option, Some, None, Bool, true, false, if◌then◌else◌, List, [], ◌∷◌, ◌++◌, length, refl}
use Rattle.std.proofs.Common.{arith, sym, suc, zero, subst, inl, inr, add-one}
use Rattle.std.proofs.lemmas.Int.{ints}
use Rattle.std.proofs.lemmas.Bool.{cases_lt, or_parts, or_cases}
use Rattle.dbm_close.proofs.LawLemmas.{close-kinds, close-limited, close-meaning, close-unique}
use Rattle.dbm_close.proofs.RoundLemmas.{negative-path, sound-from_diagonal, weights-from_walks}
use Rattle.dbm_close.proofs.StrongLemmas.{cut-coherent, strengthened-coherent, tightened-coherent}
use Rattle.dbm_close.proofs.WalkLemmas.{AreLeastWalks, Below-append, Below-more, IsLeastWalk, edges-least, least-mirrored, path_weight, path_weight-append, round-least}
use Rattle.dbm_close.specs.Close.{HasEmptyRange, HasNoEmptyRange, IsCloseOf, IsContradictory, IsNotContradictory, IsNotTooLow, IsTooLow, closed_entry, slot_high, slot_low, strong}
use Rattle.dbm_close.specs.CloseOf.{CloseOfIsClose, CloseOfIsOnly, CloseOfKeeps, close_of, finish_of, is_less, least_below, some_below}
use Rattle.dbm_close.specs.declared.closed.Closed.{Closed}
use Rattle.dbm_close.specs.declared.closed.Closed.TheVariants.{Empty, Matrix}
use Rattle.dbm_close.specs.Finish.{IsFinishOf}
use Rattle.dbm_close.specs.Rounds.{through}
use Rattle.dbm_close.specs.Steps.{tightened}
use Rattle.dbm_close.specs.Walks.{AreLeastWeights, Below, HasNegativeWalk, HasNoNegativeWalk}
use Rattle.dbm_core.proofs.HalfLemmas.{entry-coherent}
use Rattle.dbm_core.proofs.NodeLemmas.{flip_below}
use Rattle.dbm_core.proofs.TableLemmas.{tables-have_entries}
use Rattle.dbm_core.proofs.WeightLemmas.{AtMost-both, AtMost-refl, AtMost-trans, add_weight-mono, least-cases, least-left}
use Rattle.dbm_core.specs.Half.{HalfMatrix, HasEntries, IsMatrix, entry, nodes}
use Rattle.dbm_core.specs.Limits.{IsZeroAtMost}
use Rattle.dbm_core.specs.Nodes.{IsCoherent, flip}
use Rattle.dbm_core.specs.Tables.{matrix_of}
use Rattle.dbm_core.specs.Weights.{AtMost, add_weight}
use Rattle.base_values.proofs.Integers.{lower_of}

-- ---- tests

pub some_below-true : (n : ℕ) (p : ℕ → Bool) → some_below n p ≡ true → (i : ℕ) × ((i < n) × (p i ≡ true))
some_below-true zero p e = absurd (let f : ⊥ = cc in f)
some_below-true (suc n) p e = elim (or_cases (p n) (some_below n p) e) [
  | inl f ↦ (n, (omega arith, f))
  | inr f ↦ let q : (i : ℕ) × ((i < n) × (p i ≡ true)) = some_below-true n p f in let l : q.0 < n = q.1.0 in (q.0, (omega arith, q.1.1))
]

pub some_below-false : (n : ℕ) (p : ℕ → Bool) → some_below n p ≡ false → (i : ℕ) → i < n → p i ≡ false
some_below-false zero p e i l = absurd (omega arith)
some_below-false (suc n) p e i l =
    let q : (p n ≡ false) × (some_below n p ≡ false) = or_parts (p n) (some_below n p) e in
    elim (cases_lt i n) [
      | inl k ↦ some_below-false n p q.1 i k
      | inr k ↦ let f : n ≡ i = omega arith in subst (λ j. p j ≡ false) f q.0
    ]

lt-false : (x z : ℤ) → int_lt x z ≡ false → z ≤ℤ x
lt-false x z e = grind (arith, ints)

less-true : (a : Option ℤ) (z y : ℤ) → ((x : ℤ) → x <ℤ z → x ≤ℤ y) → is_less a z ≡ true → AtMost a (Some y)
less-true None z y f e = absurd (let g : ⊥ = cc in g)
less-true (Some x) z y f e = f x (lower_of x z e)

less-false : (a : Option ℤ) (z : ℤ) → is_less a z ≡ false → AtMost (Some z) a
less-false None z e = tt
less-false (Some x) z e = lt-false x z e

below_zero : (x : ℤ) → x <ℤ pos 0 → x ≤ℤ negsuc 0
below_zero x l = omega (arith, ints)

below_least : (x : ℤ) → x <ℤ neg_ℤ (pos (2 ^ 64)) → x ≤ℤ negsuc (2 ^ 64)
below_least x l = omega (arith, ints)

-- ---- the least weights

fall_step : (w : ℕ → ℕ → Option ℤ) (k i j : ℕ) → AtMost (least_below w (suc k) i j) (least_below w k i j)
unfolding least_below
fall_step w k i j = least-left (least_below w k i j) (add_weight (least_below w k i k) (least_below w k k j))

falls : (w : ℕ → ℕ → Option ℤ) (b c i j : ℕ) → AtMost (least_below w (c + b) i j) (least_below w b i j)
falls w b zero i j = let e : 0 + b ≡ b = omega arith in subst (λ k. AtMost (least_below w k i j) (least_below w b i j)) (sym e) (AtMost-refl (least_below w b i j))
falls w b (suc c) i j = let e : suc c + b ≡ suc (c + b) = omega arith in
    subst (λ k. AtMost (least_below w k i j) (least_below w b i j)) (sym e)
    (AtMost-trans (least_below w (suc (c + b)) i j) (least_below w (c + b) i j) (least_below w b i j) (fall_step w (c + b) i j) (falls w b c i j))

apart : (b n : ℕ) → b ≤ n → (c : ℕ) × (c + b ≡ n)
apart b zero l = (0, omega arith)
apart b (suc n) l = elim (cases_lt b (suc n)) [
  | inl k ↦ let p : (c : ℕ) × (c + b ≡ n) = apart b n (omega arith) in let e : p.0 + b ≡ n = p.1 in (suc p.0, omega arith)
  | inr k ↦ (0, omega arith)
]

falls_to : (w : ℕ → ℕ → Option ℤ) (b n i j : ℕ) → b ≤ n → AtMost (least_below w n i j) (least_below w b i j)
falls_to w b n i j l = let p : (c : ℕ) × (c + b ≡ n) = apart b n l in subst (λ k. AtMost (least_below w k i j) (least_below w b i j)) p.1 (falls w b p.0 i j)

-- each weight is that of a walk
reached : (w : ℕ → ℕ → Option ℤ) (b i j : ℕ) → (xs : List ℕ) × Below b xs × AtMost (path_weight w i xs j) (least_below w b i j)
unfolding least_below
reached w zero i j = ([], tt, AtMost-refl (w i j))
reached w (suc b) i j =
    let p : (xs : List ℕ) × Below b xs × AtMost (path_weight w i xs j) (least_below w b i j) = reached w b i j in
    let q : (xs : List ℕ) × Below b xs × AtMost (path_weight w i xs b) (least_below w b i b) = reached w b i b in
    let r : (xs : List ℕ) × Below b xs × AtMost (path_weight w b xs j) (least_below w b b j) = reached w b b j in
    least-cases (λ v. (xs : List ℕ) × Below (suc b) xs × AtMost (path_weight w i xs j) v) (least_below w b i j) (add_weight (least_below w b i b) (least_below w b b j))
    (p.0, Below-more b (suc b) p.0 (omega arith) p.1, p.2) (
      q.0 ++ (b ∷ r.0),
      Below-append (suc b) q.0 (b ∷ r.0) (Below-more b (suc b) q.0 (omega arith) q.1) (omega arith, Below-more b (suc b) r.0 (omega arith) r.1),
      rw (path_weight-append w i q.0 b r.0 j) (add_weight-mono (path_weight w i q.0 b) (least_below w b i b) (path_weight w b r.0 j) (least_below w b b j) q.2 r.2),
    )

-- they are the least where no closed walk is below 0
walks-least : (w : ℕ → ℕ → Option ℤ) (n : ℕ) → ((i : ℕ) → i < n → AtMost (Some (pos 0)) (least_below w n i i)) → (b : ℕ) → b ≤ n → AreLeastWalks w n b (least_below w b)
unfolding least_below
walks-least w n z zero l = edges-least w n
walks-least w n z (suc b) l = subst (λ k. AreLeastWalks w n k (through (least_below w b) b)) (add-one b)
    (round-least w (least_below w b) n b (omega arith)
    (AtMost-trans (Some (pos 0)) (least_below w n b b) (least_below w b b b) (z b (omega arith)) (falls_to w b n b b (omega arith)))
    (walks-least w n z b (omega arith)))

-- a least weight is one
walk-one : (w : ℕ → ℕ → Option ℤ) (b i j : ℕ) (v u : Option ℤ) → IsLeastWalk w b i j v → IsLeastWalk w b i j u → v ≡ u
walk-one w b i j v u p q = AtMost-both v u
    (AtMost-trans v (path_weight w i q.reached.0 j) u (p.lower q.reached.0 q.reached.1) q.reached.2)
    (AtMost-trans u (path_weight w i p.reached.0 j) v (q.lower p.reached.0 p.reached.1) p.reached.2)

walks-coherent : (w s : ℕ → ℕ → Option ℤ) (h : ℕ) → IsCoherent w (2 * h) → AreLeastWalks w (2 * h) (2 * h) s → IsCoherent s (2 * h)
walks-coherent w s h c all i j hi hj = walk-one w (2 * h) i j (s i j) (s (flip j) (flip i)) (all i j hi hj)
    (least-mirrored w h h c (omega arith) i j hi hj (s (flip j) (flip i)) (all (flip j) (flip i) (flip_below j h hj) (flip_below i h hi)))

closed-coherent : (s : ℕ → ℕ → Option ℤ) (h : ℕ) → IsCoherent s (2 * h) → IsCoherent (closed_entry s) (2 * h)
closed-coherent s h c = cut-coherent (strong s) (2 * h) (strengthened-coherent (tightened s) h (tightened-coherent s (2 * h) c))

-- ---- steps 2 to 6

contradictory-true : (n : ℕ) (t : ℕ → ℕ → Option ℤ) → some_below n (λ i. is_less (add_weight (t i (flip i)) (t (flip i) i)) (pos 0)) ≡ true → IsContradictory n t
contradictory-true n t e =
    let p = some_below-true n (λ i. is_less (add_weight (t i (flip i)) (t (flip i) i)) (pos 0)) e in
    (p.0, (p.1.0, less-true (add_weight (t p.0 (flip p.0)) (t (flip p.0) p.0)) (pos 0) (negsuc 0) below_zero p.1.1))

contradictory-false : (n : ℕ) (t : ℕ → ℕ → Option ℤ) → some_below n (λ i. is_less (add_weight (t i (flip i)) (t (flip i) i)) (pos 0)) ≡ false → IsNotContradictory n t
contradictory-false n t e i l = less-false (add_weight (t i (flip i)) (t (flip i) i)) (pos 0) (some_below-false n (λ i. is_less (add_weight (t i (flip i)) (t (flip i) i)) (pos 0)) e i l)

low-true : (n : ℕ) (u : ℕ → ℕ → Option ℤ) → some_below n (λ i. some_below n (λ j. is_less (u i j) (neg_ℤ (pos (2 ^ 64))))) ≡ true → IsTooLow n u
low-true n u e =
    let p = some_below-true n (λ i. some_below n (λ j. is_less (u i j) (neg_ℤ (pos (2 ^ 64))))) e in
    let q = some_below-true n (λ j. is_less (u p.0 j) (neg_ℤ (pos (2 ^ 64)))) p.1.1 in
    (p.0, q.0, (p.1.0, q.1.0, less-true (u p.0 q.0) (neg_ℤ (pos (2 ^ 64))) (negsuc (2 ^ 64)) below_least q.1.1))

low-false : (n : ℕ) (u : ℕ → ℕ → Option ℤ) → some_below n (λ i. some_below n (λ j. is_less (u i j) (neg_ℤ (pos (2 ^ 64))))) ≡ false → IsNotTooLow n u
low-false n u e i j hi hj = less-false (u i j) (neg_ℤ (pos (2 ^ 64)))
    (some_below-false n (λ j. is_less (u i j) (neg_ℤ (pos (2 ^ 64)))) (some_below-false n (λ i. some_below n (λ j. is_less (u i j) (neg_ℤ (pos (2 ^ 64))))) e i hi) j hj)

ranges-true : (kinds : List Bool) (r : ℕ → ℕ → Option ℤ) → some_below (length kinds) (λ k. int_lt (slot_high kinds r k) (slot_low kinds r k)) ≡ true → HasEmptyRange kinds r
ranges-true kinds r e =
    let p = some_below-true (length kinds) (λ k. int_lt (slot_high kinds r k) (slot_low kinds r k)) e in
    (p.0, (p.1.0, lower_of (slot_high kinds r p.0) (slot_low kinds r p.0) p.1.1))

ranges-false : (kinds : List Bool) (r : ℕ → ℕ → Option ℤ) → some_below (length kinds) (λ k. int_lt (slot_high kinds r k) (slot_low kinds r k)) ≡ false → HasNoEmptyRange kinds r
ranges-false kinds r e k l = lt-false (slot_high kinds r k) (slot_low kinds r k) (some_below-false (length kinds) (λ k. int_lt (slot_high kinds r k) (slot_low kinds r k)) e k l)

-- the three tests, one after another
module _ (kinds : List Bool) (s : ℕ → ℕ → Option ℤ) (r : HalfMatrix) (entries : HasEntries kinds (closed_entry s) r) where
  by_tests : (a b c : Bool) → (a ≡ true → IsContradictory (2 * length kinds) (tightened s)) → (a ≡ false → IsNotContradictory (2 * length kinds) (tightened s)) →
      (b ≡ true → IsTooLow (2 * length kinds) (strong s)) → (b ≡ false → IsNotTooLow (2 * length kinds) (strong s)) →
      (c ≡ true → HasEmptyRange kinds (closed_entry s)) → (c ≡ false → HasNoEmptyRange kinds (closed_entry s)) →
      IsFinishOf kinds s (if a then Empty else (if b then Empty else (if c then Empty else Matrix r)))
  by_tests true b c p _ _ _ _ _ = inl (p refl)
  by_tests false true c _ _ p _ _ _ = inr (inl (p refl))
  by_tests false false true _ _ _ _ p _ = inr (inr (p refl))
  by_tests false false false _ p _ q _ h = record { consistent = p refl; in_range = q refl; ranges = h refl; entries = entries }

pub finish-is : (kinds : List Bool) (s : ℕ → ℕ → Option ℤ) → length kinds ≤ 16 → IsCoherent s (2 * length kinds) → IsFinishOf kinds s (finish_of kinds s)
unfolding finish_of
finish-is kinds s few c = by_tests kinds s (matrix_of kinds (closed_entry s)) (tables-have_entries kinds (closed_entry s) few (closed-coherent s (length kinds) c)) _ _ _
    (contradictory-true (2 * length kinds) (tightened s)) (contradictory-false (2 * length kinds) (tightened s))
    (low-true (2 * length kinds) (strong s)) (low-false (2 * length kinds) (strong s))
    (ranges-true kinds (closed_entry s)) (ranges-false kinds (closed_entry s))

from_finish : (m : HalfMatrix) (s : ℕ → ℕ → Option ℤ) (c : Closed) → AreLeastWeights (entry m) (nodes m) s → HasNoNegativeWalk (entry m) (nodes m) → IsFinishOf m.kinds s c → IsCloseOf m c
from_finish m s Empty w n p = inr (s, record { weights = w; cause = p })
from_finish m s (Matrix r) w n p = (s, record { sound = n; weights = w; consistent = p.consistent; in_range = p.in_range; ranges = p.ranges; entries = p.entries })

-- ---- step 1

negative-here : (m : HalfMatrix) → some_below (nodes m) (λ i. is_less (least_below (entry m) (nodes m) i i) (pos 0)) ≡ true → HasNegativeWalk (entry m) (nodes m)
negative-here m e =
    let p = some_below-true (nodes m) (λ i. is_less (least_below (entry m) (nodes m) i i) (pos 0)) e in
    let q = reached (entry m) (nodes m) p.0 p.0 in
    negative-path (entry m) (nodes m) p.0 q.0 p.1.0 q.1
    (AtMost-trans (path_weight (entry m) p.0 q.0 p.0) (least_below (entry m) (nodes m) p.0 p.0) (Some (negsuc 0)) q.2
    (less-true (least_below (entry m) (nodes m) p.0 p.0) (pos 0) (negsuc 0) below_zero p.1.1))

finished-here : (m : HalfMatrix) → IsMatrix m → IsZeroAtMost (nodes m) (entry m) → some_below (nodes m) (λ i. is_less (least_below (entry m) (nodes m) i i) (pos 0)) ≡ false →
    IsCloseOf m (finish_of m.kinds (least_below (entry m) (nodes m)))
finished-here m t d e =
    let z : (i : ℕ) → i < nodes m → AtMost (Some (pos 0)) (least_below (entry m) (nodes m) i i) =
    λ i l. less-false (least_below (entry m) (nodes m) i i) (pos 0) (some_below-false (nodes m) (λ i. is_less (least_below (entry m) (nodes m) i i) (pos 0)) e i l) in
    let all : AreLeastWalks (entry m) (nodes m) (nodes m) (least_below (entry m) (nodes m)) = walks-least (entry m) (nodes m) z (nodes m) (omega arith) in
    let w : AreLeastWeights (entry m) (nodes m) (least_below (entry m) (nodes m)) = weights-from_walks (entry m) (least_below (entry m) (nodes m)) (nodes m) d all in
    from_finish m (least_below (entry m) (nodes m)) (finish_of m.kinds (least_below (entry m) (nodes m))) w
    (sound-from_diagonal (entry m) (least_below (entry m) (nodes m)) (nodes m) w z)
    (finish-is m.kinds (least_below (entry m) (nodes m)) t.few (walks-coherent (entry m) (least_below (entry m) (nodes m)) (length m.kinds) (entry-coherent m t) all))

by_negative : (m : HalfMatrix) (c : Closed) (a : Bool) → (a ≡ true → HasNegativeWalk (entry m) (nodes m)) → (a ≡ false → IsCloseOf m c) → IsCloseOf m (if a then Empty else c)
by_negative m c true p q = inl (p refl)
by_negative m c false p q = q refl

pub close_of-is : CloseOfIsClose
unfolding close_of
close_of-is m t d = by_negative m (finish_of m.kinds (least_below (entry m) (nodes m))) _ (negative-here m) (finished-here m t d)

pub close_of-only : CloseOfIsOnly
close_of-only m c t d p = close-unique m c (close_of m) p (close_of-is m t d)

pub close_of-keeps : CloseOfKeeps
close_of-keeps m t d = let p : IsCloseOf m (close_of m) = close_of-is m t d in
    record { meaning = close-meaning m (close_of m) p; kinds = close-kinds m (close_of m) p; limited = close-limited m (close_of m) p }
