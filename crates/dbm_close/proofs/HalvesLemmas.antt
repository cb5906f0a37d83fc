-- Steps 2 to 5 in one pass, from half of each node's own bound.
use Rattle.std.specs.Prelude.{◌≡◌, ℕ, ◌<◌, ◌*◌, ℤ, pos, negsuc, ◌+ℤ◌, ◌-ℤ◌, ◌≤ℤ◌, Option, Some, None, true, false, cond, List, length, refl}
use Rattle.std.specs.Int.{int_div_euclid, int_rem_euclid}
use Rattle.std.proofs.Common.{arith, ap, sym, ◌∙◌, subst, inl, inr, get_or}
use Rattle.std.proofs.lemmas.Bool.{cases_eq, eq-eqb, ne_eqb}
use Rattle.std.proofs.lemmas.Int.{ints}
use Rattle.dbm_close.proofs.StrongLemmas.{cut-coherent, strengthened-coherent, tightened-coherent}
use Rattle.dbm_close.specs.Close.{closed_entry, IsContradictory, IsNotContradictory, strong}
use Rattle.dbm_close.specs.Halves.{HasHalves, HasNegativeHalves, HasNoNegativeHalves, halved_bound}
use Rattle.dbm_close.specs.Steps.{cut, even_down, half, tightened}
use Rattle.dbm_core.proofs.HalfLemmas.{HasEntries-from_kept, entry-coherent}
use Rattle.dbm_core.proofs.NodeLemmas.{flip_below, flip-flip}
use Rattle.dbm_core.proofs.WeightLemmas.{AtMost-both, AtMost-refl, AtMost-trans, add_weight-mono, least-cases, least-greatest, least-left, least-right}
use Rattle.dbm_core.specs.Half.{HalfMatrix, HasEntries, IsMatrix, entry, nodes, row_width}
use Rattle.dbm_core.specs.Nodes.{flip, is_single}
use Rattle.dbm_core.specs.Weights.{AtMost, add_weight, least}

abbrev pub halved : ℤ → ℤ
halved x = int_div_euclid x (pos 2)

pub halved-low : (x : ℤ) → (halved x +ℤ halved x) ≤ℤ x
halved-low (pos n) = omega (arith, ints)
halved-low (negsuc n) = omega (arith, ints)

pub halved-high : (x : ℤ) → x ≤ℤ ((halved x +ℤ halved x) +ℤ pos 1)
halved-high (pos n) = omega (arith, ints)
halved-high (negsuc n) = omega (arith, ints)

halved-double : (x h : ℤ) → h +ℤ h ≡ x → halved x ≡ h
halved-double (pos n) h e = omega (arith, ints)
halved-double (negsuc n) h e = omega (arith, ints)

pub even-number : (x : ℤ) → x -ℤ int_rem_euclid x (pos 2) ≡ halved x +ℤ halved x
even-number (pos n) = omega (arith, ints)
even-number (negsuc n) = omega (arith, ints)

-- an even bound is twice its half
pub even-halves : (a : Option ℤ) → even_down a ≡ add_weight (half a) (half a)
even-halves None = refl
even-halves (Some x) = ap Some (even-number x)

pub half-double : (a : Option ℤ) → half (add_weight a a) ≡ a
half-double None = refl
half-double (Some x) = ap Some (halved-double (x +ℤ x) x refl)

pub even-twice : (a : Option ℤ) → even_down (even_down a) ≡ even_down a
even-twice a = even-halves (even_down a) ∙ ap (λ v. add_weight v v) (ap half (even-halves a) ∙ half-double (half a)) ∙ sym (even-halves a)

pub half-sum : (a b : Option ℤ) → half (add_weight (even_down a) (even_down b)) ≡ add_weight (half a) (half b)
half-sum None b = refl
half-sum (Some x) None = refl
half-sum (Some x) (Some y) = ap Some (halved-double ((x -ℤ int_rem_euclid x (pos 2)) +ℤ (y -ℤ int_rem_euclid y (pos 2))) (halved x +ℤ halved y)
    (both (halved x) (halved y) (x -ℤ int_rem_euclid x (pos 2)) (y -ℤ int_rem_euclid y (pos 2)) (even-number x) (even-number y)))
  where
    both : (k l y z : ℤ) → y ≡ k +ℤ k → z ≡ l +ℤ l → (k +ℤ l) +ℤ (k +ℤ l) ≡ y +ℤ z
    both k l y z p q = omega (arith, ints)

pub half-mono : (a b : Option ℤ) → AtMost a b → AtMost (half a) (half b)
half-mono a None p = tt
half-mono None (Some y) p = absurd p
half-mono (Some x) (Some y) p = below x y (halved x) (halved y) p (halved-low x) (halved-high y)
  where
    below : (x y h k : ℤ) → x ≤ℤ y → (h +ℤ h) ≤ℤ x → y ≤ℤ ((k +ℤ k) +ℤ pos 1) → h ≤ℤ k
    below x y h k p q r = omega (arith, ints)

pub even_down-mono : (a b : Option ℤ) → AtMost a b → AtMost (even_down a) (even_down b)
even_down-mono a b p = rw (even-halves a, even-halves b) (add_weight-mono (half a) (half b) (half a) (half b) (half-mono a b p) (half-mono a b p))

-- half of the two nodes' own bounds
abbrev pub half_own : (ℕ → ℕ → Option ℤ) → ℕ → ℕ → Option ℤ
half_own s i j = add_weight (half (s i (flip i))) (half (s (flip j) j))

pub plain : (s : ℕ → ℕ → Option ℤ) (i j : ℕ) → (j ≡ flip i → ⊥) → tightened s i j ≡ s i j
plain s i j e = rw (ne_eqb j (flip i) e) refl

pub single_down : (s : ℕ → ℕ → Option ℤ) (i j : ℕ) → j ≡ flip i → tightened s i j ≡ even_down (s i j)
single_down s i j e = rw (eq-eqb j (flip i) e) refl

pub own-single : (s : ℕ → ℕ → Option ℤ) (i : ℕ) → tightened s i (flip i) ≡ even_down (s i (flip i))
own-single s i = single_down s i (flip i) refl

pub own-behind : (s : ℕ → ℕ → Option ℤ) (j : ℕ) → tightened s (flip j) j ≡ even_down (s (flip j) j)
own-behind s j = single_down s (flip j) j (sym (flip-flip j))

pub strong-halves : (s : ℕ → ℕ → Option ℤ) (i j : ℕ) → half (add_weight (tightened s i (flip i)) (tightened s (flip j) j)) ≡ half_own s i j
strong-halves s i j =
    ap (λ v. half (add_weight v (tightened s (flip j) j))) (own-single s i)
    ∙ ap (λ v. half (add_weight (even_down (s i (flip i))) v)) (own-behind s j)
    ∙ half-sum (s i (flip i)) (s (flip j) j)

-- a strengthened entry is the entry, or half of its nodes' own bounds
pub strong-cases : (s : ℕ → ℕ → Option ℤ) (P : Option ℤ → Type 0) (i j : ℕ) → P (s i j) → P (half_own s i j) → P (strong s i j)
strong-cases s P i j p q = least-cases P (tightened s i j) (half (add_weight (tightened s i (flip i)) (tightened s (flip j) j)))
    (elim (cases_eq j (flip i)) [
      | inl e ↦ subst P (sym (single e)) q
      | inr e ↦ subst P (sym (plain s i j e)) p
    ])
    (subst P (sym (strong-halves s i j)) q)
  where
    single : j ≡ flip i → tightened s i j ≡ half_own s i j
    single e = single_down s i j e ∙ even-halves (s i j)
        ∙ ap (λ k. add_weight (half (s i k)) (half (s i j))) e
        ∙ ap (λ k. add_weight (half (s i (flip i))) (half (s k j))) (sym (flip-flip i) ∙ ap flip (sym e))

even_down-below : (a : Option ℤ) → AtMost (even_down a) a
even_down-below None = tt
even_down-below (Some (pos n)) = omega (arith, ints)
even_down-below (Some (negsuc n)) = omega (arith, ints)

pub tightened-below : (s : ℕ → ℕ → Option ℤ) (i j : ℕ) → AtMost (tightened s i j) (s i j)
tightened-below s i j = elim (is_single i j) as (λ v. AtMost (cond v (even_down (s i j)) (s i j)) (s i j)) [
  | true ↦ even_down-below (s i j)
  | false ↦ AtMost-refl (s i j)
]

pub strong-entry : (s : ℕ → ℕ → Option ℤ) (i j : ℕ) → AtMost (strong s i j) (s i j)
strong-entry s i j = AtMost-trans (strong s i j) (tightened s i j) (s i j)
    (least-left (tightened s i j) (half (add_weight (tightened s i (flip i)) (tightened s (flip j) j)))) (tightened-below s i j)

pub strong-own : (s : ℕ → ℕ → Option ℤ) (i j : ℕ) → AtMost (strong s i j) (half_own s i j)
strong-own s i j = subst (λ v. AtMost (strong s i j) v) (strong-halves s i j)
    (least-right (tightened s i j) (half (add_weight (tightened s i (flip i)) (tightened s (flip j) j))))

-- one pass does both steps
pub strong-fused : (s : ℕ → ℕ → Option ℤ) (i j : ℕ) → strong s i j ≡ least (s i j) (half_own s i j)
strong-fused s i j = AtMost-both (strong s i j) (least (s i j) (half_own s i j))
    (least-greatest (strong s i j) (s i j) (half_own s i j) (strong-entry s i j) (strong-own s i j))
    (strong-cases s (λ v. AtMost (least (s i j) (half_own s i j)) v) i j (least-left (s i j) (half_own s i j)) (least-right (s i j) (half_own s i j)))

negative-even : (a b : Option ℤ) → AtMost (add_weight (half a) (half b)) (Some (negsuc 0)) → AtMost (add_weight (even_down a) (even_down b)) (Some (negsuc 0))
negative-even None b h = absurd h
negative-even (Some x) None h = absurd h
negative-even (Some x) (Some y) h = below (halved x) (halved y) (x -ℤ int_rem_euclid x (pos 2)) (y -ℤ int_rem_euclid y (pos 2)) (even-number x) (even-number y) h
  where
    below : (k l y z : ℤ) → y ≡ k +ℤ k → z ≡ l +ℤ l → (k +ℤ l) ≤ℤ negsuc 0 → (y +ℤ z) ≤ℤ negsuc 0
    below k l y z p q r = omega (arith, ints)

positive-even : (a b : Option ℤ) → AtMost (Some (pos 0)) (add_weight (half a) (half b)) → AtMost (Some (pos 0)) (add_weight (even_down a) (even_down b))
positive-even None b h = tt
positive-even (Some x) None h = tt
positive-even (Some x) (Some y) h = below (halved x) (halved y) (x -ℤ int_rem_euclid x (pos 2)) (y -ℤ int_rem_euclid y (pos 2)) (even-number x) (even-number y) h
  where
    below : (k l y z : ℤ) → y ≡ k +ℤ k → z ≡ l +ℤ l → pos 0 ≤ℤ (k +ℤ l) → pos 0 ≤ℤ (y +ℤ z)
    below k l y z p q r = omega (arith, ints)

-- step 3, by the halves h of the nodes' own bounds
pub fused-contradictory : (s : ℕ → ℕ → Option ℤ) (h : ℕ) (i : ℕ) → i < 2 * h → AtMost (add_weight (half (s i (flip i))) (half (s (flip i) i))) (Some (negsuc 0)) → IsContradictory (2 * h) (tightened s)
fused-contradictory s h i hi z = (
  i,
  (
    hi,
    subst (λ v. AtMost (add_weight v (tightened s (flip i) i)) (Some (negsuc 0))) (sym (own-single s i))
        (subst (λ v. AtMost (add_weight (even_down (s i (flip i))) v) (Some (negsuc 0))) (sym (own-behind s i)) (negative-even (s i (flip i)) (s (flip i) i) z)),
  ),
)

pub fused-consistent : (s : ℕ → ℕ → Option ℤ) (h : ℕ) → ((i : ℕ) → i < 2 * h → AtMost (Some (pos 0)) (add_weight (half (s i (flip i))) (half (s (flip i) i)))) → IsNotContradictory (2 * h) (tightened s)
fused-consistent s h z i hi =
    subst (λ v. AtMost (Some (pos 0)) (add_weight v (tightened s (flip i) i))) (sym (own-single s i))
    (subst (λ v. AtMost (Some (pos 0)) (add_weight (even_down (s i (flip i))) v)) (sym (own-behind s i)) (positive-even (s i (flip i)) (s (flip i) i) (z i hi)))

pub halved_bound-strong : (d : ℕ → ℕ → Option ℤ) (h : ℕ) (v : List (Option ℤ)) → HasHalves (2 * h) d v → (i j : ℕ) → i < 2 * h → j < 2 * h → halved_bound v i j (d i j) ≡ strong d i j
halved_bound-strong d h v p i j hi hj =
    ap (λ x. least (d i j) (add_weight x (get_or v (flip j) None))) (p i hi)
    ∙ ap (λ x. least (d i j) (add_weight (half (d i (flip i))) x)) (p (flip j) (flip_below j h hj) ∙ ap (λ k. half (d (flip j) k)) (flip-flip j))
    ∙ sym (strong-fused d i j)

pub pair-halves : (d : ℕ → ℕ → Option ℤ) (h : ℕ) (v : List (Option ℤ)) → HasHalves (2 * h) d v → (i : ℕ) → i < 2 * h → add_weight (get_or v i None) (get_or v (flip i) None) ≡ add_weight (half (d i (flip i))) (half (d (flip i) i))
pair-halves d h v p i hi = ap (λ x. add_weight x (get_or v (flip i) None)) (p i hi)
    ∙ ap (λ x. add_weight (half (d i (flip i))) x) (p (flip i) (flip_below i h hi) ∙ ap (λ k. half (d (flip i) k)) (flip-flip i))

pub halves-contradictory : (d : ℕ → ℕ → Option ℤ) (h : ℕ) (v : List (Option ℤ)) → HasHalves (2 * h) d v → HasNegativeHalves (2 * h) v → IsContradictory (2 * h) (tightened d)
halves-contradictory d h v p (i, (hi, z)) = fused-contradictory d h i hi (subst (λ x. AtMost x (Some (negsuc 0))) (pair-halves d h v p i hi) z)

pub halves-consistent : (d : ℕ → ℕ → Option ℤ) (h : ℕ) (v : List (Option ℤ)) → HasHalves (2 * h) d v → HasNoNegativeHalves (2 * h) v → IsNotContradictory (2 * h) (tightened d)
halves-consistent d h v p z = fused-consistent d h (λ i hi. subst (λ x. AtMost (Some (pos 0)) x) (pair-halves d h v p i hi) (z i hi))

pub fused-entries : (m r : HalfMatrix) (v : List (Option ℤ)) → IsMatrix m → IsMatrix r → r.kinds ≡ m.kinds → HasHalves (nodes m) (entry m) v →
    ((i j : ℕ) → i < nodes m → j < row_width i → entry r i j ≡ cut (halved_bound v i j (entry m i j))) → HasEntries m.kinds (closed_entry (entry m)) r
fused-entries m r v im ir e p kept = HasEntries-from_kept m.kinds (closed_entry (entry m)) r ir e
    (cut-coherent (strong (entry m)) (nodes m) (strengthened-coherent (tightened (entry m)) (length m.kinds) (tightened-coherent (entry m) (nodes m) (entry-coherent m im))))
    (λ i j hi w. let hj : j < nodes m = omega arith in kept i j hi w ∙ ap cut (halved_bound-strong (entry m) (length m.kinds) v p i j hi hj))
