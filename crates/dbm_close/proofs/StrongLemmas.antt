use Rattle.std.specs.Prelude.{◌≡◌, ℕ, ◌<◌, ◌+◌, ◌*◌, ◌^◌, ℤ, pos, negsuc, ◌≤ℤ◌, neg_ℤ, Option, Some, None, Bool, true, false, cond, List, length, slice_index_or, int_lt, ◌<ℤ◌}
use Rattle.std.proofs.Common.{arith, ap, sym, ◌∙◌, subst}
use Rattle.std.proofs.lemmas.Int.{ints}
use Rattle.dbm_close.proofs.RoundLemmas.{AreWithin-more, IsWithin-add, IsWithin-more}
use Rattle.dbm_close.specs.Close.{HasEmptyRange, HasNoEmptyRange, IsContradictory, IsTooLow, closed_entry, slot_high, slot_low, strong}
use Rattle.dbm_close.specs.Steps.{cut, even_down, half, range_high, range_low, strengthened, tightened}
use Rattle.dbm_core.proofs.NodeLemmas.{flip_below, flip-flip, single-flip}
use Rattle.dbm_core.proofs.WeightLemmas.{add_weight-comm, least-cases}
use Rattle.dbm_core.specs.Half.{HalfMatrix, HasEntries, entry, nodes}
use Rattle.dbm_core.specs.Limits.{AreWithin, IsWithin}
use Rattle.dbm_core.specs.Nodes.{IsCoherent, flip, is_single}
use Rattle.dbm_core.specs.Weights.{AtMost, add_weight, least}

pub tightened-coherent : (s : ℕ → ℕ → Option ℤ) (n : ℕ) → IsCoherent s n → IsCoherent (tightened s) n
tightened-coherent s n c i j hi hj =
    ap (λ b. cond b (even_down (s i j)) (s i j)) (single-flip i j)
    ∙ ap (λ x. cond (is_single (flip j) (flip i)) (even_down x) x) (c i j hi hj)

pub strengthened-coherent : (t : ℕ → ℕ → Option ℤ) (h : ℕ) → IsCoherent t (2 * h) → IsCoherent (strengthened t) (2 * h)
strengthened-coherent t h c i j hi hj =
    ap (λ x. least x (half (add_weight (t i (flip i)) (t (flip j) j)))) (c i j hi hj)
    ∙ ap (λ x. least (t (flip j) (flip i)) (half x)) (add_weight-comm (t i (flip i)) (t (flip j) j))
    ∙ ap (λ x. least (t (flip j) (flip i)) (half (add_weight (t (flip j) x) (t i (flip i))))) (sym (flip-flip j))
    ∙ ap (λ x. least (t (flip j) (flip i)) (half (add_weight (t (flip j) (flip (flip j))) (t x (flip i))))) (sym (flip-flip i))

pub cut-coherent : (u : ℕ → ℕ → Option ℤ) (n : ℕ) → IsCoherent u n → IsCoherent (λ i j. cut (u i j)) n
cut-coherent u n c i j hi hj = ap cut (c i j hi hj)

pub even_down-within : (b : ℕ) (a : Option ℤ) → IsWithin b a → IsWithin (b + 1) (even_down a)
even_down-within b None h = tt
even_down-within b (Some x) h = even_down-number b x h.0 h.1
  where
    even_down-number : (b : ℕ) (x : ℤ) → neg_ℤ (pos b) ≤ℤ x → x ≤ℤ pos b → IsWithin (b + 1) (even_down (Some x))
    even_down-number b (pos n) p q = (omega (arith, ints), omega (arith, ints))
    even_down-number b (negsuc n) p q = (omega (arith, ints), omega (arith, ints))

pub tightened-within : (n b : ℕ) (s : ℕ → ℕ → Option ℤ) → AreWithin n b s → AreWithin n (b + 1) (tightened s)
tightened-within n b s h i j hi hj =
    elim (is_single i j) as (λ v. IsWithin (b + 1) (cond v (even_down (s i j)) (s i j))) [
      | true ↦ even_down-within b (s i j) (h i j hi hj)
      | false ↦ IsWithin-more b (b + 1) (s i j) (omega arith) (h i j hi hj)
    ]

pub half-within : (b : ℕ) (a : Option ℤ) → IsWithin b a → IsWithin b (half a)
half-within b None h = tt
half-within b (Some x) h = half-number b x h.0 h.1
  where
    half-number : (b : ℕ) (x : ℤ) → neg_ℤ (pos b) ≤ℤ x → x ≤ℤ pos b → IsWithin b (half (Some x))
    half-number b (pos n) p q = (omega (arith, ints), omega (arith, ints))
    half-number b (negsuc n) p q = (omega (arith, ints), omega (arith, ints))

pub strengthened-within : (h b : ℕ) (t : ℕ → ℕ → Option ℤ) → AreWithin (2 * h) b t → AreWithin (2 * h) (2 * b) (strengthened t)
strengthened-within h b t p i j hi hj =
    least-cases (IsWithin (2 * b)) (t i j) (half (add_weight (t i (flip i)) (t (flip j) j)))
    (IsWithin-more b (2 * b) (t i j) (omega arith) (p i j hi hj))
    (half-within (2 * b) (add_weight (t i (flip i)) (t (flip j) j))
    (IsWithin-add b (t i (flip i)) (t (flip j) j) (p i (flip i) hi (flip_below i h hi)) (p (flip j) j (flip_below j h hj) hj)))

abbrev pub Agree : ℕ → (ℕ → ℕ → Option ℤ) → (ℕ → ℕ → Option ℤ) → Type 0
Agree n f g = (i j : ℕ) → i < n → j < n → f i j ≡ g i j

pub strengthened-agree : (h : ℕ) (f g : ℕ → ℕ → Option ℤ) → Agree (2 * h) f g → Agree (2 * h) (strengthened f) (strengthened g)
strengthened-agree h f g a i j hi hj =
    ap (λ x. least x (half (add_weight (f i (flip i)) (f (flip j) j)))) (a i j hi hj)
    ∙ ap (λ x. least (g i j) (half (add_weight x (f (flip j) j)))) (a i (flip i) hi (flip_below i h hi))
    ∙ ap (λ x. least (g i j) (half (add_weight (g i (flip i)) x))) (a (flip j) j (flip_below j h hj) hj)

pub within-agree : (n b : ℕ) (f g : ℕ → ℕ → Option ℤ) → Agree n f g → AreWithin n b g → AreWithin n b f
within-agree n b f g a h i j hi hj = rw (a i j hi hj) (h i j hi hj)

pub cut-within : (b : ℕ) (x : Option ℤ) → IsWithin b x → IsWithin b (cut x)
cut-within b None h = tt
cut-within b (Some x) h = elim (int_lt x (pos (2 ^ 64))) as (λ v. IsWithin b (cond v (Some x) None)) [ true ↦ h | false ↦ tt ]

pub contradictory-agree : (h : ℕ) (f g : ℕ → ℕ → Option ℤ) → Agree (2 * h) f g → IsContradictory (2 * h) f → IsContradictory (2 * h) g
contradictory-agree h f g a (i, (l, p)) = (
  i,
  (
    l,
    subst (λ x. AtMost (add_weight x (g (flip i) i)) (Some (negsuc 0))) (a i (flip i) l (flip_below i h l))
        (subst (λ x. AtMost (add_weight (f i (flip i)) x) (Some (negsuc 0))) (a (flip i) i (flip_below i h l) l) p),
  ),
)

pub too_low-agree : (n : ℕ) (f g : ℕ → ℕ → Option ℤ) → Agree n f g → IsTooLow n f → IsTooLow n g
too_low-agree n f g a p = (p.0, p.1, (p.2.0, p.2.1, subst (λ x. AtMost x (Some (negsuc (2 ^ 64)))) (a p.0 p.1 p.2.0 p.2.1) p.2.2))

pub empty_range-agree : (kinds : List Bool) (f g : ℕ → ℕ → Option ℤ) → Agree (2 * length kinds) f g → HasEmptyRange kinds f → HasEmptyRange kinds g
empty_range-agree kinds f g a (k, (l, p)) = (
  k,
  (
    l,
    subst (λ x. range_high (slice_index_or kinds k false) x <ℤ slot_low kinds g k) (a (2 * k + 1) (2 * k) (omega arith) (omega arith))
        (subst (λ x. slot_high kinds f k <ℤ range_low (slice_index_or kinds k false) x) (a (2 * k) (2 * k + 1) (omega arith) (omega arith)) p),
  ),
)

pub no_empty_range-agree : (kinds : List Bool) (f g : ℕ → ℕ → Option ℤ) → Agree (2 * length kinds) f g → HasNoEmptyRange kinds f → HasNoEmptyRange kinds g
no_empty_range-agree kinds f g a p k l =
    subst (λ x. slot_low kinds g k ≤ℤ range_high (slice_index_or kinds k false) x) (a (2 * k + 1) (2 * k) (omega arith) (omega arith))
    (subst (λ x. range_low (slice_index_or kinds k false) x ≤ℤ slot_high kinds f k) (a (2 * k) (2 * k + 1) (omega arith) (omega arith)) (p k l))

pub HasEntries-change : (k l : List Bool) (f g : ℕ → ℕ → Option ℤ) (m : HalfMatrix) → l ≡ k → Agree (2 * length k) f g → HasEntries l f m → HasEntries k g m
HasEntries-change k l f g m e a h = record {
  matrix = h.matrix;
  same_kinds = h.same_kinds ∙ e;
  entries = λ i j hi hj. (let n : length l ≡ length k = ap length e in h.entries i j (omega arith) (omega arith) ∙ a i j hi hj);
}

pub stage_cut-within : (kinds : List Bool) (f : ℕ → ℕ → Option ℤ) (r : HalfMatrix) → AreWithin (2 * length kinds) (2 ^ 102) f → HasEntries kinds (closed_entry f) r → AreWithin (nodes r) (2 ^ 104) (entry r)
stage_cut-within kinds f r w p = subst (λ k. AreWithin (2 * length k) (2 ^ 104) (entry r)) (sym p.same_kinds)
    (within-agree (2 * length kinds) (2 ^ 104) (entry r) (closed_entry f) p.entries
    (λ i j hi hj. cut-within (2 ^ 104) (strong f i j) (strengthened-within (length kinds) (2 ^ 103) (tightened f)
    (AreWithin-more (2 * length kinds) (2 ^ 102 + 1) (2 ^ 103) (tightened f) (omega arith) (tightened-within (2 * length kinds) (2 ^ 102) f w)) i j hi hj)))
