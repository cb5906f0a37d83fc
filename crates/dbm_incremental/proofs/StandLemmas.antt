-- Nodes that stand for others, and the entries between those: a slot that is another plus a number.
use Rattle.std.specs.Prelude.{◌≡◌, ℕ, ◌<◌, ◌+◌, ◌*◌, ◌/◌, ℤ, pos, neg_ℤ, ◌+ℤ◌, ◌-ℤ◌, Option, Some, None, true, false, eqb, [], refl}
use Rattle.std.proofs.Common.{arith, ap, sym, ◌∙◌, subst, inl, inr}
use Rattle.std.proofs.lemmas.Bool.{cases_eq, eq-eqb, ne_eqb}
use Rattle.std.proofs.lemmas.Int.{ints}
use Rattle.dbm_core.proofs.NodeLemmas.{flip_below, flip-flip, parity}
use Rattle.dbm_core.proofs.WeightLemmas.{AtMost-refl}
use Rattle.dbm_core.specs.Limits.{AreAtMost, IsZeroAtMost}
use Rattle.dbm_core.specs.Nodes.{flip}
use Rattle.dbm_core.specs.Weights.{AtMost, add_weight}
use Rattle.dbm_close.specs.Walks.{walk_weight}
use Rattle.dbm_incremental.proofs.KeepLemmas.{in_slot}
use Rattle.dbm_incremental.proofs.MoveLemmas.{moved, moved-strong, renamed-strong}
use Rattle.dbm_incremental.proofs.TriangleLemmas.{IsReached, reached-edge, reached-sum, triangle-walk, weights-from_triangles}
use Rattle.dbm_incremental.specs.ClosedMatrices.{IsStrong}
use Rattle.dbm_incremental.specs.Equations.{stand_node, stand_shift}
use Rattle.dbm_incremental.specs.Triangles.{AreSoundWeights}
use Rattle.dbm_close.proofs.SlotLemmas.{even-flip, odd-flip}
use Rattle.base_values.proofs.Integers.{neg_twice}

-- ---- an equation: each node i stands for o i plus p i

-- the entries of d between the nodes that are stood for, shifted
abbrev pub stood : (ℕ → ℕ → Option ℤ) → (ℕ → ℕ) → (ℕ → ℤ) → ℕ → ℕ → Option ℤ
stood d o p = moved (λ i j. d (o i) (o j)) p

pub third : (v : Option ℤ) (x y : ℤ) → add_weight (Some (neg_ℤ x)) (add_weight v (Some y)) ≡ add_weight v (Some (y -ℤ x))
third None x y = refl
third (Some v) x y = let e : neg_ℤ x +ℤ (v +ℤ y) ≡ v +ℤ (y -ℤ x) = omega (arith, ints) in ap Some e

pub stood-weights : (w d : ℕ → ℕ → Option ℤ) (h : ℕ) (o : ℕ → ℕ) (p : ℕ → ℤ) → IsStrong (2 * h) (stood d o p) →
    ((i : ℕ) → i < 2 * h → o i < 2 * h) →
    ((i : ℕ) → i < 2 * h → IsReached w (2 * h) i (o i) (Some (neg_ℤ (p i)))) → ((i : ℕ) → i < 2 * h → IsReached w (2 * h) (o i) i (Some (p i))) →
    ((i j : ℕ) → i < 2 * h → j < 2 * h → AtMost (w (o i) (o j)) (d (o i) (o j))) → AreAtMost (2 * h) (stood d o p) w → AreSoundWeights w (2 * h) (stood d o p)
stood-weights w d h o p s inside out back old below = record {
  weights = weights-from_triangles w (stood d o p) (2 * h) low s.triangles below
      (λ i j hi hj. subst (IsReached w (2 * h) i j) (third (d (o i) (o j)) (p i) (p j))
      (reached-sum w (2 * h) i (o i) j (Some (neg_ℤ (p i))) (add_weight (d (o i) (o j)) (Some (p j))) (out i hi)
      (reached-sum w (2 * h) (o i) (o j) j (d (o i) (o j)) (Some (p j)) (reached-edge w (2 * h) (o i) (o j) (d (o i) (o j)) (inside j hj) (old i j hi hj)) (back j hj))));
  sound = λ i xs hi b. subst (λ v. AtMost v (walk_weight w i xs)) (s.diagonal i hi) (triangle-walk (stood d o p) w (2 * h) low s.triangles below i i xs hi hi b.inside b.ends);
}
  where
    low : IsZeroAtMost (2 * h) (stood d o p)
    low i hi = rw (s.diagonal i hi) (AtMost-refl (Some (pos 0)))

-- the three kinds of nodes
pub by_node : (P : ℕ → Type 0) (q : ℕ) → P (2 * q) → P (2 * q + 1) → ((i : ℕ) → (i ≡ 2 * q → ⊥) → (i ≡ 2 * q + 1 → ⊥) → P i) → (i : ℕ) → P i
by_node P q a b k i = elim (cases_eq i (2 * q)) [
  | inl e ↦ subst P (sym e) a
  | inr e ↦ elim (cases_eq i (2 * q + 1)) [ inl f ↦ subst P (sym f) b | inr f ↦ k i e f ]
]

pub node-even : (q y : ℕ) → stand_node q y (2 * q) ≡ y
node-even q y = rw (eq-eqb (2 * q) (2 * q) refl) refl

pub node-odd : (q y : ℕ) → stand_node q y (2 * q + 1) ≡ flip y
node-odd q y = let n : 2 * q + 1 ≡ 2 * q → ⊥ = λ e. absurd (omega arith) in rw (ne_eqb (2 * q + 1) (2 * q) n, eq-eqb (2 * q + 1) (2 * q + 1) refl) refl

pub node-other : (q y i : ℕ) → (i ≡ 2 * q → ⊥) → (i ≡ 2 * q + 1 → ⊥) → stand_node q y i ≡ i
node-other q y i e f = rw (ne_eqb i (2 * q) e, ne_eqb i (2 * q + 1) f) refl

pub shift-even : (q : ℕ) (c : ℤ) → stand_shift q c (2 * q) ≡ c
shift-even q c = rw (eq-eqb (2 * q) (2 * q) refl) refl

pub shift-odd : (q : ℕ) (c : ℤ) → stand_shift q c (2 * q + 1) ≡ neg_ℤ c
shift-odd q c = let n : 2 * q + 1 ≡ 2 * q → ⊥ = λ e. absurd (omega arith) in rw (ne_eqb (2 * q + 1) (2 * q) n, eq-eqb (2 * q + 1) (2 * q + 1) refl) refl

pub shift-other : (q : ℕ) (c : ℤ) (i : ℕ) → (i ≡ 2 * q → ⊥) → (i ≡ 2 * q + 1 → ⊥) → stand_shift q c i ≡ pos 0
shift-other q c i e f = rw (ne_eqb i (2 * q) e, ne_eqb i (2 * q + 1) f) refl

pub flip-out : (q i : ℕ) → (i ≡ 2 * q → ⊥) → (i ≡ 2 * q + 1 → ⊥) → (flip i ≡ 2 * q → ⊥) × (flip i ≡ 2 * q + 1 → ⊥)
flip-out q i e f = (
  (λ g. f (sym (flip-flip i) ∙ ap flip g ∙ even-flip q)),
  (λ g. e (sym (flip-flip i) ∙ ap flip g ∙ odd-flip q)),
)

pub stand_node-flip : (q y i : ℕ) → stand_node q y (flip i) ≡ flip (stand_node q y i)
stand_node-flip q y = by_node (λ i. stand_node q y (flip i) ≡ flip (stand_node q y i)) q
    (ap (stand_node q y) (even-flip q) ∙ node-odd q y ∙ ap flip (sym (node-even q y)))
    (ap (stand_node q y) (odd-flip q) ∙ node-even q y ∙ sym (flip-flip y) ∙ ap flip (sym (node-odd q y)))
    (λ i e f. node-other q y (flip i) (flip-out q i e f).0 (flip-out q i e f).1 ∙ ap flip (sym (node-other q y i e f)))

pub neg-zero : pos 0 ≡ neg_ℤ (pos 0)
neg-zero = omega (arith, ints)

pub stand_shift-flip : (q : ℕ) (c : ℤ) (i : ℕ) → stand_shift q c (flip i) ≡ neg_ℤ (stand_shift q c i)
stand_shift-flip q c = by_node (λ i. stand_shift q c (flip i) ≡ neg_ℤ (stand_shift q c i)) q
    (ap (stand_shift q c) (even-flip q) ∙ shift-odd q c ∙ ap neg_ℤ (sym (shift-even q c)))
    (ap (stand_shift q c) (odd-flip q) ∙ shift-even q c ∙ neg_twice c ∙ ap neg_ℤ (sym (shift-odd q c)))
    (λ i e f. shift-other q c (flip i) (flip-out q i e f).0 (flip-out q i e f).1 ∙ neg-zero ∙ ap neg_ℤ (sym (shift-other q c i e f)))

pub stood-strong : (d : ℕ → ℕ → Option ℤ) (h q y : ℕ) (c : ℤ) → y < 2 * h → IsStrong (2 * h) d → IsStrong (2 * h) (stood d (stand_node q y) (stand_shift q c))
stood-strong d h q y c hy s = moved-strong (λ i j. d (stand_node q y i) (stand_node q y j)) h (stand_shift q c) (stand_shift-flip q c)
    (renamed-strong d (2 * h) (2 * h) (stand_node q y) (λ i hi. inside i hi) (λ i hi. stand_node-flip q y i) s)
  where
    inside : (i : ℕ) → i < 2 * h → stand_node q y i < 2 * h
    inside = by_node (λ i. i < 2 * h → stand_node q y i < 2 * h) q
        (λ hi. rw (node-even q y) hy)
        (λ hi. rw (node-odd q y) (flip_below y h hy))
        (λ i e f hi. rw (node-other q y i e f) hi)

pub reached-self : (w : ℕ → ℕ → Option ℤ) (n i : ℕ) (z : ℤ) → z ≡ pos 0 → IsReached w n i i (Some z)
reached-self w n i z e = λ x f. ([], record { inside = tt; ends = refl }, subst (λ v. AtMost (Some (pos 0)) v) (ap Some (sym e) ∙ f) (AtMost-refl (Some (pos 0))))

pub in_slot-other : (q i : ℕ) → (i ≡ 2 * q → ⊥) → (i ≡ 2 * q + 1 → ⊥) → in_slot q i ≡ false
in_slot-other q i e f = ne_eqb (i / 2) q (λ g. elim (parity i) [ inl p ↦ e (omega arith) | inr p ↦ f (omega arith) ])

pub apart-even : (q i : ℕ) → in_slot q i ≡ false → i ≡ 2 * q → ⊥
apart-even q i e f = let g : i / 2 ≡ q = omega arith in let k : eqb (i / 2) q ≡ true = eq-eqb (i / 2) q g in absurd (let b : ⊥ = cc in b)

pub apart-odd : (q i : ℕ) → in_slot q i ≡ false → i ≡ 2 * q + 1 → ⊥
apart-odd q i e f = let g : i / 2 ≡ q = omega arith in let k : eqb (i / 2) q ≡ true = eq-eqb (i / 2) q g in absurd (let b : ⊥ = cc in b)

pub stood-out : (q y : ℕ) → (y ≡ 2 * q → ⊥) → (y ≡ 2 * q + 1 → ⊥) → (i : ℕ) → in_slot q (stand_node q y i) ≡ false
stood-out q y n m = by_node (λ i. in_slot q (stand_node q y i) ≡ false) q
    (ap (in_slot q) (node-even q y) ∙ in_slot-other q y n m)
    (ap (in_slot q) (node-odd q y) ∙ in_slot-other q (flip y) (flip-out q y n m).0 (flip-out q y n m).1)
    (λ i e f. ap (in_slot q) (node-other q y i e f) ∙ in_slot-other q i e f)

pub stood-inside : (h q y : ℕ) → y < 2 * h → (i : ℕ) → i < 2 * h → stand_node q y i < 2 * h
stood-inside h q y hy = by_node (λ i. i < 2 * h → stand_node q y i < 2 * h) q
    (λ hi. rw (node-even q y) hy)
    (λ hi. rw (node-odd q y) (flip_below y h hy))
    (λ i e f hi. rw (node-other q y i e f) hi)
