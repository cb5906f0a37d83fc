-- Closing from the least weights, after a bound is lowered.
use Rattle.std.specs.Prelude.{◌≡◌, ℕ, ◌<◌, ◌*◌, ℤ, pos, negsuc, Option, Some, Bool, List, length}
use Rattle.std.proofs.Common.{arith, ap, sym, ◌∙◌, subst, inl, inr}
use Rattle.dbm_close.specs.declared.closed.Closed.{Closed}
use Rattle.dbm_close.specs.declared.closed.Closed.TheVariants.{Empty, Matrix}
use Rattle.dbm_close.proofs.StrongLemmas.{no_empty_range-agree}
use Rattle.dbm_close.specs.Close.{HasNoEmptyRange, IsCloseOf, IsNotTooLow, closed_entry, strong}
use Rattle.dbm_close.specs.Finish.{IsFinishOf, IsFinishedTo}
use Rattle.dbm_close.specs.Walks.{HasNegativeWalk, IsWalk, walk_weight}
use Rattle.dbm_core.proofs.HalfLemmas.{entry-coherent}
use Rattle.dbm_core.proofs.WeightLemmas.{AtMost-both, AtMost-refl, AtMost-trans}
use Rattle.dbm_core.specs.Half.{HalfMatrix, HasEntries, IsMatrix, entry, nodes}
use Rattle.dbm_core.specs.Limits.{AreAtMost}
use Rattle.dbm_core.specs.Weights.{AtMost}
use Rattle.dbm_incremental.proofs.KeepLemmas.{closed-diagonal}
use Rattle.dbm_incremental.proofs.TightLemmas.{strong-strong}
use Rattle.dbm_incremental.proofs.TriangleLemmas.{own-weights, triangles-from_weights, walk_weight-mono, weights-diagonal}
use Rattle.dbm_incremental.specs.Answers.{IsClosedAnswer}
use Rattle.dbm_incremental.specs.ClosedMatrices.{IsClosed, IsStrong, IsWhole}
use Rattle.dbm_incremental.specs.Triangles.{AreSoundWeights}

-- a closed and whole matrix has its own least weights
pub whole-weights : (m : HalfMatrix) → IsClosed m → IsWhole m → AreSoundWeights (entry m) (nodes m) (entry m)
whole-weights m c t = own-weights (entry m) (nodes m) (closed-diagonal m c) t

same-weight : (v w : ℕ → ℕ → Option ℤ) (n : ℕ) → ((i j : ℕ) → i < n → j < n → v i j ≡ w i j) → AreAtMost n v w
same-weight v w n e i j hi hj = subst (λ x. AtMost (v i j) x) (e i j hi hj) (AtMost-refl (v i j))

-- of matrices with the same entries, the least weights are the same
pub same-walks : (v w s : ℕ → ℕ → Option ℤ) (n : ℕ) → ((i j : ℕ) → i < n → j < n → v i j ≡ w i j) → AreSoundWeights w n s → AreSoundWeights v n s
same-walks v w s n e p = record {
  weights = record {
    walks = λ i j x hi hj h. (let f : (xs : List ℕ) × IsWalk n i xs j × (walk_weight w i xs ≡ Some x) = p.weights.walks i j x hi hj h in (
      f.0,
      f.1,
      AtMost-both (walk_weight v i f.0) (Some x)
          (subst (λ y. AtMost (walk_weight v i f.0) y) f.2 (walk_weight-mono v w n (same-weight v w n e) i f.0 hi f.1.inside))
          (subst (λ y. AtMost y (walk_weight v i f.0)) f.2 (walk_weight-mono w v n (same-weight w v n (λ i j hi hj. sym (e i j hi hj))) i f.0 hi f.1.inside)),
    ));
    lower = λ i j xs hi hj b. AtMost-trans (s i j) (walk_weight w i xs) (walk_weight v i xs) (p.weights.lower i j xs hi hj b)
        (walk_weight-mono w v n (same-weight w v n (λ i j hi hj. sym (e i j hi hj))) i xs hi b.inside);
  };
  sound = λ i xs hi b. AtMost-trans (Some (pos 0)) (walk_weight w i xs) (walk_weight v i xs) (p.sound i xs hi b)
      (walk_weight-mono w v n (same-weight w v n (λ i j hi hj. sym (e i j hi hj))) i xs hi b.inside);
}

pub same-negative : (v w : ℕ → ℕ → Option ℤ) (n : ℕ) → ((i j : ℕ) → i < n → j < n → v i j ≡ w i j) → HasNegativeWalk w n → HasNegativeWalk v n
same-negative v w n e (i, hi, (xs, b, z)) = (i, hi, (xs, b, AtMost-trans (walk_weight v i xs) (walk_weight w i xs) (Some (negsuc 0)) (walk_weight-mono v w n (same-weight v w n e) i xs hi b.inside) z))

pub close-from_weights : (m s : HalfMatrix) (c : Closed) → s.kinds ≡ m.kinds → AreSoundWeights (entry m) (nodes m) (entry s) → IsFinishOf s.kinds (entry s) c → IsCloseOf m c
close-from_weights m s Empty e p f =
    let q : IsFinishOf m.kinds (entry s) Empty = subst (λ k. IsFinishOf k (entry s) Empty) e f in
    inr (entry s, record { weights = p.weights; cause = q })
close-from_weights m s (Matrix r) e p f =
    let q : IsFinishedTo m.kinds (entry s) r = subst (λ k. IsFinishedTo k (entry s) r) e f in
    (entry s, record { sound = p.sound; weights = p.weights; consistent = q.consistent; in_range = q.in_range; ranges = q.ranges; entries = q.entries })

-- the least weights of a matrix's entries are those of any matrix that has them
pub close-from_entries : (kinds : List Bool) (w : ℕ → ℕ → Option ℤ) (s t : HalfMatrix) (c : Closed) → s.kinds ≡ kinds → HasEntries kinds w t → AreSoundWeights w (2 * length kinds) (entry s) → IsFinishOf s.kinds (entry s) c → IsCloseOf t c
close-from_entries kinds w s t c e h p f =
    close-from_weights t s c (e ∙ sym h.same_kinds) (subst (λ n. AreSoundWeights (entry t) n (entry s)) (ap (λ x. 2 * length x) (sym h.same_kinds)) (same-walks (entry t) w (entry s) (2 * length kinds) h.entries p)) f

pub empty-from_entries : (kinds : List Bool) (w : ℕ → ℕ → Option ℤ) (t : HalfMatrix) → HasEntries kinds w t → HasNegativeWalk w (2 * length kinds) → IsCloseOf t Empty
empty-from_entries kinds w t h z = inl (subst (λ n. HasNegativeWalk (entry t) n) (ap (λ x. 2 * length x) (sym h.same_kinds)) (same-negative (entry t) w (2 * length kinds) h.entries z))

-- what steps 2 to 6 make of least weights is closed
pub finish-answer : (w : ℕ → ℕ → Option ℤ) (s : HalfMatrix) (c : Closed) → IsMatrix s → AreSoundWeights w (nodes s) (entry s) → IsFinishOf s.kinds (entry s) c → IsClosedAnswer c
finish-answer w s Empty t p f = tt
finish-answer w s (Matrix r) t p f =
    let n : nodes s ≡ nodes r = ap (λ x. 2 * length x) (sym f.entries.same_kinds) in (
      strong (entry s),
      record {
        matrix = f.entries.matrix;
        strong = subst (λ x. IsStrong x (strong (entry s))) n
            (strong-strong (entry s) (length s.kinds) (entry-coherent s t) (weights-diagonal w (entry s) (nodes s) p) (triangles-from_weights w (entry s) (nodes s) p.weights) f.consistent);
        in_range = subst (λ x. IsNotTooLow x (strong (entry s))) n f.in_range;
        ranges = no_empty_range-agree r.kinds (closed_entry (entry s)) (entry r) (λ i j hi hj. sym (f.entries.entries i j (omega arith) (omega arith)))
            (subst (λ x. HasNoEmptyRange x (closed_entry (entry s))) (sym f.entries.same_kinds) f.ranges);
        entries = λ i j hi hj. f.entries.entries i j (omega arith) (omega arith);
      },
    )
