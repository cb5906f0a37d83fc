-- The pass over the entries gives the bounds when walks may use both edges.
use Rattle.std.specs.Prelude.{◌≡◌, ℕ, ◌<◌, ◌*◌, ℤ, pos, Option, Some, length, refl}
use Rattle.std.proofs.Common.{arith, ap, sym, ◌∙◌, subst, inl, inr}
use Rattle.std.proofs.lemmas.Bool.{cases_eq, eq-eqb, ne_eqb}
use Rattle.dbm_close.proofs.RoundLemmas.{IsWithin-add, IsWithin-more}
use Rattle.dbm_core.proofs.HalfLemmas.{HasEntries-from_kept}
use Rattle.dbm_core.proofs.LimitLemmas.{AreWithin-from_kept}
use Rattle.dbm_core.proofs.LowerLemmas.{lowered-coherent}
use Rattle.dbm_core.proofs.NodeLemmas.{flip_below}
use Rattle.dbm_core.proofs.WeightLemmas.{least-cases}
use Rattle.dbm_core.specs.Half.{HalfMatrix, HasEntries, IsMatrix, entry, nodes, row_width}
use Rattle.dbm_core.specs.Limits.{AreWithin, IsWithin}
use Rattle.dbm_core.specs.Nodes.{IsCoherent, flip}
use Rattle.dbm_core.specs.Operations.{lowered}
use Rattle.dbm_core.specs.Weights.{AtMost, add_weight}
use Rattle.dbm_incremental.proofs.InsertLemmas.{inserted-weights, weights-coherent}
use Rattle.dbm_incremental.proofs.TriangleLemmas.{weights-diagonal}
use Rattle.dbm_incremental.specs.declared.ends.Ends.{Ends}
use Rattle.dbm_incremental.specs.Ends.{HasEnds, ends_entry, over_both}
use Rattle.dbm_incremental.specs.Triangles.{AreSoundWeights, edged, inserted}

pub edged-within : (n b : ℕ) (d : ℕ → ℕ → Option ℤ) (x y : ℕ) (c : ℤ) → x < n → y < n → AreWithin n b d → IsWithin b (Some c) → AreWithin n (2 * (2 * b)) (edged d x y c)
edged-within n b d x y c hx hy h w i j hi hj =
    least-cases (IsWithin (2 * (2 * b))) (d i j) (add_weight (d i x) (add_weight (Some c) (d y j)))
    (IsWithin-more b (2 * (2 * b)) (d i j) (omega arith) (h i j hi hj))
    (IsWithin-add (2 * b) (d i x) (add_weight (Some c) (d y j)) (IsWithin-more b (2 * b) (d i x) (omega arith) (h i x hi hx)) (IsWithin-add b (Some c) (d y j) w (h y j hy hj)))

pub over_both-inserted : (n : ℕ) (d : ℕ → ℕ → Option ℤ) (a b : ℕ) (c : ℤ) (m : Ends) → HasEnds n d a b c m → (i j : ℕ) → i < n → j < n → over_both m i j (d i j) ≡ inserted d a b c i j
over_both-inserted n d a b c m h i j hi hj = rw (h.to_first i hi, h.from_first j hj, h.to_second i hi, h.from_second j hj) refl

-- the same entries are the same weights
pub same-sound : (w f g : ℕ → ℕ → Option ℤ) (n : ℕ) → ((i j : ℕ) → i < n → j < n → g i j ≡ f i j) → AreSoundWeights w n f → AreSoundWeights w n g
same-sound w f g n e p = record {
  weights = record {
    walks = λ i j x hi hj h. p.weights.walks i j x hi hj (sym (e i j hi hj) ∙ h);
    lower = λ i j xs hi hj b. rw (e i j hi hj) (p.weights.lower i j xs hi hj b);
  };
  sound = p.sound;
}

-- the pass, read at the kept pairs, gives the least weights with the bound lowered
pub pass-weights : (s t : HalfMatrix) (m : Ends) (a b : ℕ) (c : ℤ) (w : ℕ → ℕ → Option ℤ) → IsMatrix s → IsMatrix t → t.kinds ≡ s.kinds → a < nodes s → b < nodes s → HasEnds (nodes s) (entry s) a b c m →
    ((i j : ℕ) → i < nodes s → j < row_width i → entry t i j ≡ ends_entry m i j (entry s i j)) →
    AtMost (Some (pos 0)) (add_weight (Some c) (entry s b a)) → AtMost (Some (pos 0)) (add_weight (Some c) (edged (entry s) a b c (flip a) (flip b))) →
    IsCoherent w (nodes s) → AreSoundWeights w (nodes s) (entry s) → AreSoundWeights (lowered w a b c) (nodes s) (entry t)
pass-weights s t m a b c w is it e ha hb h kept y z cw p = same-sound (lowered w a b c) f (entry t) (nodes s) all.entries q
  where
    f : ℕ → ℕ → Option ℤ
    f = inserted (entry s) a b c

    q : AreSoundWeights (lowered w a b c) (nodes s) f
    q = inserted-weights w (entry s) (length s.kinds) a b c ha hb p y z

    at_kept : (i j : ℕ) → i < nodes s → j < row_width i → entry t i j ≡ f i j
    at_kept i j hi w' = let hj : j < nodes s = omega arith in kept i j hi w' ∙ elim (cases_eq i j) [
      | inl k ↦ rw (eq-eqb i j k) (subst (λ x. entry s i x ≡ f i x) k (weights-diagonal w (entry s) (nodes s) p i hi ∙ sym (weights-diagonal (lowered w a b c) f (nodes s) q i hi)))
      | inr k ↦ rw (ne_eqb i j k) (over_both-inserted (nodes s) (entry s) a b c m h i j hi hj)
    ]

    all : HasEntries s.kinds f t
    all = HasEntries-from_kept s.kinds f t it e (weights-coherent (lowered w a b c) f (length s.kinds) (lowered-coherent w (nodes s) a b c cw) q.weights) at_kept

pub inserted-within : (h b : ℕ) (d : ℕ → ℕ → Option ℤ) (x y : ℕ) (c : ℤ) → x < 2 * h → y < 2 * h → AreWithin (2 * h) b d → IsWithin b (Some c) → AreWithin (2 * h) (16 * b) (inserted d x y c)
inserted-within h b d x y c hx hy p w = subst (λ k. AreWithin (2 * h) k (inserted d x y c)) e
    (edged-within (2 * h) (2 * (2 * b)) (edged d x y c) (flip y) (flip x) c (flip_below y h hy) (flip_below x h hx) (edged-within (2 * h) b d x y c hx hy p w) (IsWithin-more b (2 * (2 * b)) (Some c) (omega arith) w))
  where
    e : 2 * (2 * (2 * (2 * b))) ≡ 16 * b
    e = omega arith

pub pass-within : (s t : HalfMatrix) (m : Ends) (a b : ℕ) (c : ℤ) (k : ℕ) → IsMatrix t → t.kinds ≡ s.kinds → a < nodes s → b < nodes s → HasEnds (nodes s) (entry s) a b c m →
    ((i j : ℕ) → i < nodes s → j < row_width i → entry t i j ≡ ends_entry m i j (entry s i j)) →
    AreWithin (nodes s) k (entry s) → IsWithin k (Some c) → AreWithin (nodes t) (16 * k) (entry t)
pass-within s t m a b c k it e ha hb h kept p w = AreWithin-from_kept t (16 * k) it at_kept
  where
    n : nodes t ≡ nodes s
    n = ap (λ x. 2 * length x) e

    at_kept : (i j : ℕ) → i < nodes t → j < row_width i → IsWithin (16 * k) (entry t i j)
    at_kept i j hi w' = let hs : i < nodes s = omega (arith, n) in let hj : j < nodes s = omega arith in
        subst (IsWithin (16 * k)) (sym (kept i j hs w')) (elim (cases_eq i j) [
          | inl g ↦ rw (eq-eqb i j g) (IsWithin-more k (16 * k) (entry s i j) (omega arith) (p i j hs hj))
          | inr g ↦ rw (ne_eqb i j g) (rw (over_both-inserted (nodes s) (entry s) a b c m h i j hs hj) (inserted-within (length s.kinds) k (entry s) a b c ha hb p w i j hs hj))
        ])
