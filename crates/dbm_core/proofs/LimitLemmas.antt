-- The limits and the order of what the operations give.
use Rattle.std.specs.Prelude.{◌*◌, ◌||◌, ◌/◌, eqb, length, ◌≡◌, ℕ, ◌<◌, ◌^◌, ℤ, pos, ◌≤ℤ◌, Option, Some, None, Bool, true, false, cond, int_lt, List, refl}
use Rattle.std.proofs.Common.{arith, ap, sym, ◌∙◌, subst, inl, inr}
use Rattle.std.proofs.lemmas.Int.{ints, clamps}
use Rattle.std.proofs.lemmas.Bool.{cases_lt, cases_eq, eq-eqb, ne_eqb}
use Rattle.dbm_core.proofs.LowerLemmas.{lowered-below}
use Rattle.dbm_core.proofs.WeightLemmas.{AtMost-refl, AtMost-trans, least-cases}
use Rattle.dbm_core.specs.Half.{HalfMatrix, IsMatrix, HasEntries, entry, nodes, row_width}
use Rattle.dbm_core.proofs.HalfLemmas.{entry-coherent, flip-kept}
use Rattle.dbm_core.proofs.NodeLemmas.{flip_below}
use Rattle.dbm_core.specs.Limits.{IsLimited, AreAtMost, AreWithin, HasZeroDiagonal, IsWithin, IsZeroAtMost}
use Rattle.dbm_core.proofs.ThresholdLemmas.{by_order, next_threshold-above}
use Rattle.dbm_core.specs.Nodes.{is_single, flip}
use Rattle.dbm_core.specs.Operations.{forgotten, is_pair, joined, lowered, next_threshold, unbounded, widen_bound, widened}
use Rattle.dbm_core.specs.Weights.{AtMost, greatest, least}

pub zero-at_most : (n : ℕ) (d : ℕ → ℕ → Option ℤ) → HasZeroDiagonal n d → IsZeroAtMost n d
zero-at_most n d h i l = rw (h i l) (AtMost-refl (Some (pos 0)))

pub unbounded-diagonal : (n : ℕ) → HasZeroDiagonal n unbounded
unbounded-diagonal n i l = rw (eq-eqb i i refl) refl

pub unbounded-within : (n : ℕ) → AreWithin n 0 unbounded
unbounded-within n i j hi hj = elim (cases_eq i j) [
  | inl e ↦ rw (eq-eqb i j e) (omega (arith, ints), omega (arith, ints))
  | inr e ↦ rw (ne_eqb i j e) tt
]

pub lowered-diagonal : (d : ℕ → ℕ → Option ℤ) (i j : ℕ) (x : ℤ) (n : ℕ) → IsZeroAtMost n d → IsZeroAtMost n (lowered d i j x)
lowered-diagonal d i j x n z a l = AtMost-trans (lowered d i j x a a) (d a a) (Some (pos 0)) (lowered-below d i j x n a a l l) (z a l)

pub lowered-within : (d : ℕ → ℕ → Option ℤ) (i j : ℕ) (x : ℤ) (n b : ℕ) → IsWithin b (Some x) → AreWithin n b d → AreWithin n b (lowered d i j x)
unfolding lowered
lowered-within d i j x n b w h p q hp hq = elim (is_pair i j p q) as (λ v. IsWithin b (cond v (least (d p q) (Some x)) (d p q))) [
  | true ↦ least-cases (IsWithin b) (d p q) (Some x) (h p q hp hq) w
  | false ↦ h p q hp hq
]

pub greatest-left : (a b : Option ℤ) → AtMost a (greatest a b)
greatest-left None b = tt
greatest-left (Some x) None = tt
greatest-left (Some x) (Some y) = omega (arith, ints, clamps)

pub greatest-right : (a b : Option ℤ) → AtMost b (greatest a b)
greatest-right None b = tt
greatest-right (Some x) None = tt
greatest-right (Some x) (Some y) = omega (arith, ints, clamps)

pub greatest-cases : (P : Option ℤ → Type 0) (a b : Option ℤ) → P None → P a → P b → P (greatest a b)
greatest-cases P None b n p q = n
greatest-cases P (Some x) None n p q = n
greatest-cases P (Some x) (Some y) n p q = elim (int_lt y x) as (λ v. P (Some (cond v x y))) [ true ↦ p | false ↦ q ]

pub joined-above_left : (a b : HalfMatrix) (n : ℕ) → AreAtMost n (entry a) (joined a b)
joined-above_left a b n i j hi hj = greatest-left (entry a i j) (entry b i j)

pub joined-above_right : (a b : HalfMatrix) (n : ℕ) → AreAtMost n (entry b) (joined a b)
joined-above_right a b n i j hi hj = greatest-right (entry a i j) (entry b i j)

pub joined-diagonal : (a b : HalfMatrix) (n : ℕ) → HasZeroDiagonal n (entry a) → HasZeroDiagonal n (entry b) → HasZeroDiagonal n (joined a b)
joined-diagonal a b n p q i l = rw (p i l, q i l) refl

pub joined-within : (a b : HalfMatrix) (n c : ℕ) → AreWithin n c (entry a) → AreWithin n c (entry b) → AreWithin n c (joined a b)
joined-within a b n c p q i j hi hj = greatest-cases (IsWithin c) (entry a i j) (entry b i j) tt (p i j hi hj) (q i j hi hj)

pub widen_bound-left : (ms : List ℤ) (d : Bool) (a b : Option ℤ) → AtMost a (widen_bound ms d a b)
widen_bound-left ms d None b = tt
widen_bound-left ms d (Some x) None = tt
widen_bound-left ms d (Some x) (Some y) = by_order (λ v. AtMost (Some x) (cond v (next_threshold ms d y) (Some x))) x y
    (λ l. AtMost-trans (Some x) (Some y) (next_threshold ms d y) (let f : x ≤ℤ y = omega (arith, ints) in f) (next_threshold-above ms d y))
    (λ l. AtMost-refl (Some x))

pub widen_bound-right : (ms : List ℤ) (d : Bool) (a b : Option ℤ) → AtMost b (widen_bound ms d a b)
widen_bound-right ms d None b = tt
widen_bound-right ms d (Some x) None = tt
widen_bound-right ms d (Some x) (Some y) = by_order (λ v. AtMost (Some y) (cond v (next_threshold ms d y) (Some x))) x y
    (λ l. next_threshold-above ms d y) (λ l. l)

pub widened-above_left : (ms : List ℤ) (a b : HalfMatrix) (n : ℕ) → AreAtMost n (entry a) (widened ms a b)
widened-above_left ms a b n i j hi hj = widen_bound-left ms (is_single i j) (entry a i j) (entry b i j)

pub widened-above_right : (ms : List ℤ) (a b : HalfMatrix) (n : ℕ) → AreAtMost n (entry b) (widened ms a b)
widened-above_right ms a b n i j hi hj = widen_bound-right ms (is_single i j) (entry a i j) (entry b i j)

pub widened-diagonal : (ms : List ℤ) (a b : HalfMatrix) (n : ℕ) → HasZeroDiagonal n (entry a) → HasZeroDiagonal n (entry b) → HasZeroDiagonal n (widened ms a b)
widened-diagonal ms a b n p q i l = rw (p i l, q i l) refl

pub forgotten-diagonal : (d : ℕ → ℕ → Option ℤ) (k n : ℕ) → HasZeroDiagonal n d → HasZeroDiagonal n (forgotten d k)
forgotten-diagonal d k n p i l = rw (eq-eqb i i refl) (p i l)

pub forgotten-within : (d : ℕ → ℕ → Option ℤ) (k n b : ℕ) → AreWithin n b d → AreWithin n b (forgotten d k)
forgotten-within d k n b p i j hi hj = elim (eqb i j) as (λ v. IsWithin b (cond v (d i j) (cond (eqb (i / 2) k || eqb (j / 2) k) None (d i j)))) [
  | true ↦ p i j hi hj
  | false ↦ elim (eqb (i / 2) k || eqb (j / 2) k) as (λ v. IsWithin b (cond v None (d i j))) [ true ↦ tt | false ↦ p i j hi hj ]
]

-- ---- the limits of a matrix, by its entries

pub IsZeroAtMost-entries : (kinds : List Bool) (f : ℕ → ℕ → Option ℤ) (m : HalfMatrix) → HasEntries kinds f m → IsZeroAtMost (2 * length kinds) f → IsZeroAtMost (nodes m) (entry m)
IsZeroAtMost-entries kinds f m h z i hi =
    let n : length m.kinds ≡ length kinds = ap length h.same_kinds in
    let li : i < 2 * length kinds = omega arith in
    subst (λ v. AtMost v (Some (pos 0))) (sym (h.entries i i li li)) (z i li)

pub AreWithin-entries : (kinds : List Bool) (f : ℕ → ℕ → Option ℤ) (m : HalfMatrix) (b : ℕ) → HasEntries kinds f m → AreWithin (2 * length kinds) b f → AreWithin (nodes m) b (entry m)
AreWithin-entries kinds f m b h w i j hi hj =
    let n : length m.kinds ≡ length kinds = ap length h.same_kinds in
    let li : i < 2 * length kinds = omega arith in
    let lj : j < 2 * length kinds = omega arith in
    subst (IsWithin b) (sym (h.entries i j li lj)) (w i j li lj)

pub IsLimited-entries : (kinds : List Bool) (f : ℕ → ℕ → Option ℤ) (m : HalfMatrix) (b : ℕ) → HasZeroDiagonal (2 * length kinds) f → AreWithin (2 * length kinds) b f → HasEntries kinds f m → IsLimited b m
IsLimited-entries kinds f m b z w h = record {
  diagonal = λ i hi. (let n : length m.kinds ≡ length kinds = ap length h.same_kinds in
      let li : i < 2 * length kinds = omega arith in h.entries i i li li ∙ z i li);
  within = AreWithin-entries kinds f m b h w;
}

-- a matrix with as many slots as the kinds
pub IsLimited-of : (kinds : List Bool) (b : ℕ) (m : HalfMatrix) → m.kinds ≡ kinds → IsLimited b m → (HasZeroDiagonal (2 * length kinds) (entry m)) × (AreWithin (2 * length kinds) b (entry m))
IsLimited-of kinds b m e h = (
  subst (λ k. HasZeroDiagonal (2 * length k) (entry m)) e h.diagonal,
  subst (λ k. AreWithin (2 * length k) b (entry m)) e h.within,
)

-- what is within at the kept pairs is within at every pair
pub AreWithin-from_kept : (m : HalfMatrix) (b : ℕ) → IsMatrix m → ((i j : ℕ) → i < nodes m → j < row_width i → IsWithin b (entry m i j)) → AreWithin (nodes m) b (entry m)
AreWithin-from_kept m b t h i j hi hj = elim (cases_lt j (row_width i)) [
  | inl p ↦ h i j hi p
  | inr p ↦ subst (IsWithin b) (sym (entry-coherent m t i j hi hj)) (h (flip j) (flip i) (flip_below j (length m.kinds) hj) (flip-kept i j p))
]

-- a widening keeps the limits, where the entries at the kept pairs do
pub IsLimited-widened : (ms : List ℤ) (a b : HalfMatrix) (m : HalfMatrix) → b.kinds ≡ a.kinds → IsLimited (2 ^ 64) a → IsLimited (2 ^ 64) b → HasEntries a.kinds (widened ms a b) m →
    ((i j : ℕ) → i < nodes a → j < row_width i → IsWithin (2 ^ 64) (entry a i j) → IsWithin (2 ^ 64) (entry m i j)) → IsLimited (2 ^ 64) m
IsLimited-widened ms a b m e p q h w = record {
  diagonal = λ i hi. (let n : length m.kinds ≡ length a.kinds = ap length h.same_kinds in
      let li : i < nodes a = omega arith in h.entries i i li li ∙ widened-diagonal ms a b (nodes a) p.diagonal (IsLimited-of a.kinds (2 ^ 64) b e q).0 i li);
  within = AreWithin-from_kept m (2 ^ 64) h.matrix (λ i j hi wj. (let n : length m.kinds ≡ length a.kinds = ap length h.same_kinds in
      let li : i < nodes a = omega arith in let lj : j < nodes a = omega arith in w i j li wj (p.within i j li lj)));
}
