-- Bounds that a closed matrix has anyway leave it closed.
use Rattle.std.specs.Prelude.{◌≡◌, ℕ, ◌<◌, ◌^◌, ℤ, pos, neg_ℤ, int_lt, Option, Some, None, Bool, true, false, cond, length, List, refl}
use Rattle.std.proofs.Common.{ap, sym, subst, ◌∙◌}
use Rattle.dbm_close.proofs.HalvesLemmas.{own-single, strong-entry}
use Rattle.dbm_close.proofs.StrongLemmas.{no_empty_range-agree}
use Rattle.dbm_close.specs.Close.{closed_entry, strong}
use Rattle.dbm_close.specs.declared.closed.Closed.TheVariants.{Matrix}
use Rattle.dbm_close.specs.Finish.{IsFinishOf}
use Rattle.dbm_close.specs.Steps.{cut, tightened}
use Rattle.dbm_core.proofs.NodeLemmas.{flip-flip, flip_below}
use Rattle.dbm_core.proofs.WeightLemmas.{AtMost-both, AtMost-refl, AtMost-trans}
use Rattle.dbm_core.specs.Half.{HalfMatrix, entry, nodes}
use Rattle.dbm_core.specs.Nodes.{flip}
use Rattle.dbm_core.specs.Weights.{AtMost, add_weight}
use Rattle.dbm_incremental.proofs.ClosedLemmas.{cut-above, strong-above}
use Rattle.dbm_incremental.proofs.CloseLemmas.{close-from_entries}
use Rattle.dbm_incremental.proofs.MoveLemmas.{whole-strong}
use Rattle.dbm_incremental.specs.ClosedMatrices.{IsClosed, IsStrong, IsWhole}
use Rattle.dbm_incremental.specs.declared.bounds.Bound.{Bound}
use Rattle.dbm_incremental.specs.Steps.{ClosesAllLowered, lowered_all}
use Rattle.dbm_incremental.specs.Triangles.{AreSoundWeights}

cut-twice : (a : Option ℤ) → cut (cut a) ≡ cut a
cut-twice None = refl
cut-twice (Some x) = by (int_lt x (pos (2 ^ 64))) refl
  where
    by : (t : Bool) → int_lt x (pos (2 ^ 64)) ≡ t → cut (cond t (Some x) None) ≡ cond t (Some x) None
    by true e = rw e refl
    by false e = refl

-- steps 2 to 6 leave a closed matrix that obeys the triangle law as it is
module _ (m : HalfMatrix) (c : IsClosed m) (w : IsWhole m) where
  s : IsStrong (nodes m) (entry m)
  s = whole-strong m c w

  fl : (i : ℕ) → i < nodes m → flip i < nodes m
  fl i hi = flip_below i (length m.kinds) hi

  same-strong : (i j : ℕ) → i < nodes m → j < nodes m → strong (entry m) i j ≡ entry m i j
  same-strong i j hi hj = AtMost-both (strong (entry m) i j) (entry m i j) (strong-entry (entry m) i j)
      (strong-above (entry m) (entry m) (length m.kinds) s (λ a b ha hb. AtMost-refl (entry m a b)) i j hi hj)

  same-cut : (i j : ℕ) → i < nodes m → j < nodes m → cut (entry m i j) ≡ entry m i j
  same-cut i j hi hj = ap cut (c.1.entries i j hi hj) ∙ cut-twice (c.0 i j) ∙ sym (c.1.entries i j hi hj)

  same-closed : (i j : ℕ) → i < nodes m → j < nodes m → entry m i j ≡ closed_entry (entry m) i j
  same-closed i j hi hj = sym (ap cut (same-strong i j hi hj) ∙ same-cut i j hi hj)

  same-tight : (i : ℕ) → i < nodes m → tightened (entry m) i (flip i) ≡ entry m i (flip i)
  same-tight i hi = own-single (entry m) i ∙ s.evens i hi

  same-behind : (i : ℕ) → i < nodes m → tightened (entry m) (flip i) i ≡ entry m (flip i) i
  same-behind i hi = subst (λ k. tightened (entry m) (flip i) k ≡ entry m (flip i) k) (flip-flip i) (same-tight (flip i) (fl i hi))

  closed-finishes : IsFinishOf m.kinds (entry m) (Matrix m)
  closed-finishes = record {
    consistent = λ i hi.
        subst (λ v. AtMost (Some (pos 0)) (add_weight v (tightened (entry m) (flip i) i))) (sym (same-tight i hi))
        (subst (λ v. AtMost (Some (pos 0)) (add_weight (entry m i (flip i)) v)) (sym (same-behind i hi))
        (subst (λ v. AtMost v (add_weight (entry m i (flip i)) (entry m (flip i) i))) (s.diagonal i hi)
        (s.triangles i (flip i) i hi (fl i hi) hi)));
    in_range = λ i j hi hj. subst (λ v. AtMost (Some (neg_ℤ (pos (2 ^ 64)))) v) (sym (same-strong i j hi hj ∙ c.1.entries i j hi hj))
        (AtMost-trans (Some (neg_ℤ (pos (2 ^ 64)))) (c.0 i j) (cut (c.0 i j)) (c.1.in_range i j hi hj) (cut-above (c.0 i j)));
    ranges = no_empty_range-agree m.kinds (entry m) (closed_entry (entry m)) same-closed c.1.ranges;
    entries = record { matrix = c.1.matrix; same_kinds = refl; entries = same-closed };
  }

  pub met-closes : (bs : List Bound) → AreSoundWeights (lowered_all (entry m) bs) (nodes m) (entry m) → ClosesAllLowered m bs (Matrix m)
  met-closes bs a n g = close-from_entries m.kinds (lowered_all (entry m) bs) m n (Matrix m) refl g a closed-finishes
