-- Least weights after a slot is forgotten and is then bound by an equation or by a range.
use Rattle.std.specs.Prelude.{◌≡◌, ℕ, ◌<◌, ◌+◌, ◌*◌, ◌/◌, ◌||◌, ◌^◌, ℤ, pos, neg_ℤ, ◌-ℤ◌, Option, Some, None, Bool, true, false, length, refl}
use Rattle.std.proofs.Common.{arith, ap, sym, ◌∙◌, subst, inl, inr}
use Rattle.std.proofs.lemmas.Bool.{cases_eq, or_parts}
use Rattle.std.proofs.lemmas.Int.{ints}
use Rattle.dbm_close.specs.Close.{strong}
use Rattle.dbm_core.proofs.NodeLemmas.{flip_below}
use Rattle.dbm_core.proofs.WeightLemmas.{AtMost-refl, AtMost-trans}
use Rattle.dbm_close.proofs.RoundLemmas.{IsWithin-add, IsWithin-more}
use Rattle.dbm_core.specs.Half.{HalfMatrix, HasEntries, entry, nodes}
use Rattle.dbm_core.specs.Limits.{AreWithin, IsWithin, AreAtMost, HasZeroDiagonal}
use Rattle.dbm_core.specs.Nodes.{flip}
use Rattle.dbm_core.specs.Operations.{forgotten, lowered}
use Rattle.dbm_core.specs.Weights.{AtMost, add_weight}
use Rattle.dbm_incremental.proofs.EndsLemmas.{same-sound}
use Rattle.dbm_incremental.proofs.InsertLemmas.{below-lowered, lowered-second}
use Rattle.dbm_core.proofs.LowerLemmas.{lowered-below}
use Rattle.dbm_incremental.proofs.KeepLemmas.{forgotten-free, forgotten-kept, forgotten-same, in_slot}
use Rattle.dbm_incremental.proofs.TriangleLemmas.{IsReached, reached-edge}
use Rattle.dbm_incremental.specs.ClosedMatrices.{IsStrong}
use Rattle.dbm_incremental.specs.Equations.{equated, stand_node, stand_shift, stood_entry}
use Rattle.dbm_incremental.specs.Triangles.{AreSoundWeights}
use Rattle.dbm_incremental.proofs.StandLemmas.{apart-even, apart-odd, by_node, flip-out, neg-zero, node-even, node-odd, node-other, reached-self, shift-even, shift-odd, shift-other, stood, stood-inside, stood-out, stood-strong, stood-weights}
use Rattle.dbm_close.proofs.SlotLemmas.{even-flip}
use Rattle.dbm_core.proofs.ValuationLemmas.{lowered-here}
use Rattle.base_values.proofs.Integers.{neg_twice}

-- entries from a node to one that stands for the same
stood-edge : (d : ℕ → ℕ → Option ℤ) (n : ℕ) (o : ℕ → ℕ) (p : ℕ → ℤ) (i j k : ℕ) (z : ℤ) → HasZeroDiagonal n d → k < n → o i ≡ k → o j ≡ k → p j -ℤ p i ≡ z → AtMost (stood d o p i j) (Some z)
stood-edge d n o p i j k z zero hk e f g =
    subst (λ v. AtMost v (Some z))
    (sym (ap (λ a. add_weight (d a (o j)) (Some (p j -ℤ p i))) e ∙ ap (λ a. add_weight (d k a) (Some (p j -ℤ p i))) f ∙ ap (λ a. add_weight a (Some (p j -ℤ p i))) (zero k hk) ∙ ap (λ a. add_weight (Some (pos 0)) (Some a)) g))
    (at_most z)
  where
    at_most : (z : ℤ) → AtMost (add_weight (Some (pos 0)) (Some z)) (Some z)
    at_most z = omega (arith, ints)

stood-below : (d : ℕ → ℕ → Option ℤ) (h q y : ℕ) (c : ℤ) → HasZeroDiagonal (2 * h) d → IsStrong (2 * h) (stood d (stand_node q y) (stand_shift q c)) → AreAtMost (2 * h) (stood d (stand_node q y) (stand_shift q c)) (forgotten d q)
stood-below d h q y c zero s i j hi hj = elim (cases_eq i j) [
  | inl e ↦ subst (λ x. AtMost (stood d (stand_node q y) (stand_shift q c) i x) (forgotten d q i x)) e
      (subst (λ v. AtMost v (forgotten d q i i)) (sym (s.diagonal i hi)) (subst (λ v. AtMost (Some (pos 0)) v) (sym (forgotten-same d q i ∙ zero i hi)) (AtMost-refl (Some (pos 0)))))
  | inr e ↦ by_slots e (in_slot q i || in_slot q j) refl
]
  where
    nothing : (v : Option ℤ) → AtMost (add_weight v (Some (pos 0 -ℤ pos 0))) v
    nothing None = tt
    nothing (Some v) = omega (arith, ints)

    by_slots : (i ≡ j → ⊥) → (b : Bool) → in_slot q i || in_slot q j ≡ b → AtMost (stood d (stand_node q y) (stand_shift q c) i j) (forgotten d q i j)
    by_slots n true e = subst (λ v. AtMost (stood d (stand_node q y) (stand_shift q c) i j) v) (sym (forgotten-free d q i j n e)) tt
    by_slots n false e =
        let b : (in_slot q i ≡ false) × (in_slot q j ≡ false) = or_parts (in_slot q i) (in_slot q j) e in
        let ie : i ≡ 2 * q → ⊥ = apart-even q i b.0 in let io : i ≡ 2 * q + 1 → ⊥ = apart-odd q i b.0 in
        let je : j ≡ 2 * q → ⊥ = apart-even q j b.1 in let jo : j ≡ 2 * q + 1 → ⊥ = apart-odd q j b.1 in
        subst (λ v. AtMost (stood d (stand_node q y) (stand_shift q c) i j) v) (sym (forgotten-kept d q i j e))
        (subst (λ v. AtMost v (d i j))
        (sym (ap (λ a. add_weight (d a (stand_node q y j)) (Some (stand_shift q c j -ℤ stand_shift q c i))) (node-other q y i ie io)
        ∙ ap (λ a. add_weight (d i a) (Some (stand_shift q c j -ℤ stand_shift q c i))) (node-other q y j je jo)
        ∙ ap (λ a. add_weight (d i j) (Some (a -ℤ stand_shift q c i))) (shift-other q c j je jo)
        ∙ ap (λ a. add_weight (d i j) (Some (pos 0 -ℤ a))) (shift-other q c i ie io)))
        (nothing (d i j)))

-- slot q forgotten and then bound to be node y plus c: its entries are those of y, shifted
pub equation-weights : (d : ℕ → ℕ → Option ℤ) (h q y : ℕ) (c : ℤ) → q < h → y < 2 * h → (y ≡ 2 * q → ⊥) → (y ≡ 2 * q + 1 → ⊥) → IsStrong (2 * h) d →
    AreSoundWeights (lowered (lowered (forgotten d q) y (2 * q) c) (2 * q) y (neg_ℤ c)) (2 * h) (stood d (stand_node q y) (stand_shift q c))
equation-weights d h q y c hq hy ye yo s = stood-weights w d h o p strong (stood-inside h q y hy) out back old below
  where
    f : ℕ → ℕ → Option ℤ
    f = forgotten d q

    first : ℕ → ℕ → Option ℤ
    first = lowered f y (2 * q) c

    w : ℕ → ℕ → Option ℤ
    w = lowered first (2 * q) y (neg_ℤ c)

    o : ℕ → ℕ
    o = stand_node q y

    p : ℕ → ℤ
    p = stand_shift q c

    strong : IsStrong (2 * h) (stood d o p)
    strong = stood-strong d h q y c hy s

    h0 : 2 * q < 2 * h
    h0 = omega arith

    h1 : 2 * q + 1 < 2 * h
    h1 = omega arith

    fy : flip y < 2 * h
    fy = flip_below y h hy

    less : AreAtMost (2 * h) w first
    less = lowered-below first (2 * q) y (neg_ℤ c) (2 * h)

    to_even : AtMost (w y (2 * q)) (Some c)
    to_even = AtMost-trans (w y (2 * q)) (first y (2 * q)) (Some c) (less y (2 * q) hy h0) (lowered-here f y (2 * q) c)

    from_odd : AtMost (w (2 * q + 1) (flip y)) (Some c)
    from_odd = subst (λ k. AtMost (w k (flip y)) (Some c)) (even-flip q)
        (AtMost-trans (w (flip (2 * q)) (flip y)) (first (flip (2 * q)) (flip y)) (Some c) (less (flip (2 * q)) (flip y) (flip_below (2 * q) h h0) fy) (lowered-second f y (2 * q) c))

    from_even : AtMost (w (2 * q) y) (Some (neg_ℤ c))
    from_even = lowered-here first (2 * q) y (neg_ℤ c)

    to_odd : AtMost (w (flip y) (2 * q + 1)) (Some (neg_ℤ c))
    to_odd = subst (λ k. AtMost (w (flip y) k) (Some (neg_ℤ c))) (even-flip q) (lowered-second first (2 * q) y (neg_ℤ c))

    out : (i : ℕ) → i < 2 * h → IsReached w (2 * h) i (o i) (Some (neg_ℤ (p i)))
    out = by_node (λ i. i < 2 * h → IsReached w (2 * h) i (o i) (Some (neg_ℤ (p i)))) q
        (λ hi. subst (λ k. IsReached w (2 * h) (2 * q) k (Some (neg_ℤ (p (2 * q))))) (sym (node-even q y))
        (subst (λ z. IsReached w (2 * h) (2 * q) y (Some (neg_ℤ z))) (sym (shift-even q c)) (reached-edge w (2 * h) (2 * q) y (Some (neg_ℤ c)) hy from_even)))
        (λ hi. subst (λ k. IsReached w (2 * h) (2 * q + 1) k (Some (neg_ℤ (p (2 * q + 1))))) (sym (node-odd q y))
        (subst (λ z. IsReached w (2 * h) (2 * q + 1) (flip y) (Some (neg_ℤ z))) (sym (shift-odd q c))
        (subst (λ z. IsReached w (2 * h) (2 * q + 1) (flip y) (Some z)) (neg_twice c) (reached-edge w (2 * h) (2 * q + 1) (flip y) (Some c) fy from_odd))))
        (λ i e g hi. subst (λ k. IsReached w (2 * h) i k (Some (neg_ℤ (p i)))) (sym (node-other q y i e g)) (reached-self w (2 * h) i (neg_ℤ (p i)) (ap neg_ℤ (shift-other q c i e g) ∙ sym neg-zero)))

    back : (i : ℕ) → i < 2 * h → IsReached w (2 * h) (o i) i (Some (p i))
    back = by_node (λ i. i < 2 * h → IsReached w (2 * h) (o i) i (Some (p i))) q
        (λ hi. subst (λ k. IsReached w (2 * h) k (2 * q) (Some (p (2 * q)))) (sym (node-even q y))
        (subst (λ z. IsReached w (2 * h) y (2 * q) (Some z)) (sym (shift-even q c)) (reached-edge w (2 * h) y (2 * q) (Some c) h0 to_even)))
        (λ hi. subst (λ k. IsReached w (2 * h) k (2 * q + 1) (Some (p (2 * q + 1)))) (sym (node-odd q y))
        (subst (λ z. IsReached w (2 * h) (flip y) (2 * q + 1) (Some z)) (sym (shift-odd q c)) (reached-edge w (2 * h) (flip y) (2 * q + 1) (Some (neg_ℤ c)) h1 to_odd)))
        (λ i e g hi. subst (λ k. IsReached w (2 * h) k i (Some (p i))) (sym (node-other q y i e g)) (reached-self w (2 * h) i (p i) (shift-other q c i e g)))

    old : (i j : ℕ) → i < 2 * h → j < 2 * h → AtMost (w (o i) (o j)) (d (o i) (o j))
    old i j hi hj =
        let oi : o i < 2 * h = stood-inside h q y hy i hi in
        let oj : o j < 2 * h = stood-inside h q y hy j hj in
        subst (λ v. AtMost (w (o i) (o j)) v) (forgotten-kept d q (o i) (o j) (rw (stood-out q y ye yo i, stood-out q y ye yo j) refl))
        (AtMost-trans (w (o i) (o j)) (first (o i) (o j)) (f (o i) (o j)) (less (o i) (o j) oi oj) (lowered-below f y (2 * q) c (2 * h) (o i) (o j) oi oj))

    minus : (a b : ℤ) → b ≡ pos 0 → a -ℤ b ≡ a
    minus a b e = omega (arith, ints)

    from_zero : (a b : ℤ) → b ≡ pos 0 → b -ℤ a ≡ neg_ℤ a
    from_zero a b e = omega (arith, ints)

    no_shift : p y ≡ pos 0
    no_shift = shift-other q c y ye yo

    no_shift_flip : p (flip y) ≡ pos 0
    no_shift_flip = shift-other q c (flip y) (flip-out q y ye yo).0 (flip-out q y ye yo).1

    same : o y ≡ y
    same = node-other q y y ye yo

    same_flip : o (flip y) ≡ flip y
    same_flip = node-other q y (flip y) (flip-out q y ye yo).0 (flip-out q y ye yo).1

    below : AreAtMost (2 * h) (stood d o p) w
    below = below-lowered first (stood d o p) (2 * h) (2 * q) y (neg_ℤ c)
        (below-lowered f (stood d o p) (2 * h) y (2 * q) c (stood-below d h q y c s.diagonal strong)
        (stood-edge d (2 * h) o p y (2 * q) y c s.diagonal hy same (node-even q y) (minus (p (2 * q)) (p y) no_shift ∙ shift-even q c))
        (subst (λ k. AtMost (stood d o p k (flip y)) (Some c)) (sym (even-flip q))
        (stood-edge d (2 * h) o p (2 * q + 1) (flip y) (flip y) c s.diagonal fy (node-odd q y) same_flip (from_zero (p (2 * q + 1)) (p (flip y)) no_shift_flip ∙ ap neg_ℤ (shift-odd q c) ∙ sym (neg_twice c)))))
        (stood-edge d (2 * h) o p (2 * q) y y (neg_ℤ c) s.diagonal hy (node-even q y) same (from_zero (p (2 * q)) (p y) no_shift ∙ ap neg_ℤ (shift-even q c)))
        (subst (λ k. AtMost (stood d o p (flip y) k) (Some (neg_ℤ c))) (sym (even-flip q))
        (stood-edge d (2 * h) o p (flip y) (2 * q + 1) (flip y) (neg_ℤ c) s.diagonal fy same_flip (node-odd q y) (minus (p (2 * q + 1)) (p (flip y)) no_shift_flip ∙ shift-odd q c)))

shift-within : (q : ℕ) (c : ℤ) → IsWithin (2 ^ 70) (Some c) → (i : ℕ) → IsWithin (2 ^ 70) (Some (stand_shift q c i))
shift-within q c w = by_node (λ i. IsWithin (2 ^ 70) (Some (stand_shift q c i))) q
    (subst (λ z. IsWithin (2 ^ 70) (Some z)) (sym (shift-even q c)) w)
    (subst (λ z. IsWithin (2 ^ 70) (Some z)) (sym (shift-odd q c)) (turned c w))
    (λ i e f. subst (λ z. IsWithin (2 ^ 70) (Some z)) (sym (shift-other q c i e f)) nothing)
  where
    turned : (c : ℤ) → IsWithin (2 ^ 70) (Some c) → IsWithin (2 ^ 70) (Some (neg_ℤ c))
    turned c w = (omega (arith, ints, w.0, w.1), omega (arith, ints, w.0, w.1))

    nothing : IsWithin (2 ^ 70) (Some (pos 0))
    nothing = (omega (arith, ints), omega (arith, ints))

apart-within : (x y : ℤ) → IsWithin (2 ^ 70) (Some x) → IsWithin (2 ^ 70) (Some y) → IsWithin (2 ^ 71) (Some (x -ℤ y))
apart-within x y p q = (omega (arith, ints, p.0, p.1, q.0, q.1), omega (arith, ints, p.0, p.1, q.0, q.1))

pub stood-within : (d : ℕ → ℕ → Option ℤ) (h q y : ℕ) (c : ℤ) → y < 2 * h → AreWithin (2 * h) (2 ^ 64) d → IsWithin (2 ^ 70) (Some c) → AreWithin (2 * h) (2 ^ 72) (stood_entry d q y c)
stood-within d h q y c hy p w i j hi hj =
    IsWithin-add (2 ^ 71) (d (stand_node q y i) (stand_node q y j)) (Some (stand_shift q c j -ℤ stand_shift q c i))
    (IsWithin-more (2 ^ 64) (2 ^ 71) (d (stand_node q y i) (stand_node q y j)) (omega arith) (p (stand_node q y i) (stand_node q y j) (stood-inside h q y hy i hi) (stood-inside h q y hy j hj)))
    (apart-within (stand_shift q c j) (stand_shift q c i) (shift-within q c w j) (shift-within q c w i))

pub stood-diagonal : (d : ℕ → ℕ → Option ℤ) (h q y : ℕ) (c : ℤ) (k : ℕ) → y < 2 * h → k < h → IsStrong (2 * h) d → stood_entry d q y c (2 * k) (2 * k) ≡ stood_entry d q y c (2 * k + 1) (2 * k + 1)
stood-diagonal d h q y c k hy hk s = (stood-strong d h q y c hy s).diagonal (2 * k) (omega arith) ∙ sym ((stood-strong d h q y c hy s).diagonal (2 * k + 1) (omega arith))

-- the entries of such a matrix are the least weights of the equation
pub equated-weights : (m u : HalfMatrix) (q y : ℕ) (c : ℤ) → q < length m.kinds → y < nodes m → (y / 2 ≡ q → ⊥) → IsStrong (nodes m) (entry m) → HasEntries m.kinds (stood_entry (entry m) q y c) u →
    AreSoundWeights (equated (entry m) q y c) (nodes m) (entry u)
equated-weights m u q y c hq hy n s h = same-sound (equated (entry m) q y c) (stood_entry (entry m) q y c) (entry u) (nodes m) h.entries
    (equation-weights (entry m) (length m.kinds) q y c hq hy (λ e. n (omega arith)) (λ e. n (omega arith)) s)
