-- Closing a closed matrix to which bounds, or an equation, are added.
use Rattle.std.specs.Prelude.{◌≡◌, ℕ, ◌*◌, ℤ, pos, ◌+ℤ◌, ◌-ℤ◌, neg_ℤ, Option, Some, None, Bool, cond, List, [], ◌∷◌, Result, Ok, Err, IfOk, refl}
use Rattle.std.proofs.Common.{ap, subst, arith}
use Rattle.std.proofs.lemmas.Int.{ints}
use Rattle.dbm_core.proofs.HalfLemmas.{entry-coherent}
use Rattle.dbm_core.proofs.LimitLemmas.{IsZeroAtMost-entries, forgotten-diagonal, lowered-diagonal, zero-at_most}
use Rattle.dbm_core.proofs.LowerLemmas.{lowered-coherent}
use Rattle.dbm_core.proofs.OperationLemmas.{forgotten-coherent}
use Rattle.dbm_core.proofs.TableLemmas.{tables-have_entries}
use Rattle.dbm_close.proofs.CloseOfLemmas.{close_of-only}
use Rattle.dbm_close.proofs.StrongLemmas.{HasEntries-change}
use Rattle.dbm_core.specs.Half.{HalfMatrix, HasEntries, IsMatrix, entry, nodes}
use Rattle.dbm_core.specs.Limits.{IsZeroAtMost}
use Rattle.dbm_core.specs.Operations.{forgotten, is_pair, lowered}
use Rattle.dbm_core.specs.Tables.{matrix_of}
use Rattle.dbm_core.specs.Weights.{least}
use Rattle.dbm_close.specs.CloseOf.{close_of}
use Rattle.dbm_close.specs.declared.closed.Closed.{Closed}
use Rattle.dbm_incremental.proofs.KeepLemmas.{closed-diagonal}
use Rattle.dbm_incremental.specs.ClosedMatrices.{IsClosed}
use Rattle.dbm_incremental.specs.Equations.{ClosesEquated, equated}
use Rattle.dbm_incremental.specs.Steps.{ClosesAllLowered, lowered_all}
use Rattle.dbm_incremental.specs.declared.bounds.Bound.{Bound}
use Rattle.dom_octagon_meaning.specs.declared.form.Form.TheVariants.{Node}
use Rattle.dom_octagon_meaning.specs.Forms.{slot_form}
use Rattle.dom_octagon_meaning.specs.Matrices.{with_bound, with_equation, without}
use Rattle.dom_octagon.specs.Added.{with_bound_if, with_bounds}
use Rattle.dbm_incremental.proofs.LawLemmas.{closed-zero}

pub bound-entries : (m : HalfMatrix) (i j : ℕ) (c : ℤ) → IsMatrix m → HasEntries m.kinds (lowered (entry m) i j c) (with_bound m i j c)
unfolding with_bound
bound-entries m i j c h = tables-have_entries m.kinds (lowered (entry m) i j c) h.few (lowered-coherent (entry m) (nodes m) i j c (entry-coherent m h))

pub without-entries : (m : HalfMatrix) (k : ℕ) → IsMatrix m → HasEntries m.kinds (forgotten (entry m) k) (without m k)
unfolding without
without-entries m k h = tables-have_entries m.kinds (forgotten (entry m) k) h.few (forgotten-coherent (entry m) k (nodes m) (entry-coherent m h))

own-entries : (m : HalfMatrix) → IsMatrix m → HasEntries m.kinds (entry m) m
own-entries m h = record { matrix = h; same_kinds = refl; entries = λ i j hi hj. refl }

lowered-same : (d e : ℕ → ℕ → Option ℤ) (i j : ℕ) (c : ℤ) (a b : ℕ) → d a b ≡ e a b → lowered d i j c a b ≡ lowered e i j c a b
unfolding lowered
lowered-same d e i j c a b p = ap (λ x. cond (is_pair i j a b) (least x (Some c)) x) p

bounds-entries : (kinds : List Bool) (w : ℕ → ℕ → Option ℤ) (m : HalfMatrix) (bs : List Bound) → HasEntries kinds w m → HasEntries kinds (lowered_all w bs) (with_bounds m bs)
bounds-entries kinds w m [] h = h
bounds-entries kinds w m (b ∷ bs) h = bounds-entries kinds (lowered w b.row b.column b.bound) (with_bound m b.row b.column b.bound) bs
    (HasEntries-change kinds m.kinds (lowered (entry m) b.row b.column b.bound) (lowered w b.row b.column b.bound) (with_bound m b.row b.column b.bound) h.same_kinds
    (λ i j hi hj. lowered-same (entry m) w b.row b.column b.bound i j (h.entries i j hi hj)) (bound-entries m b.row b.column b.bound h.matrix))

lowered_all-zero : (w : ℕ → ℕ → Option ℤ) (n : ℕ) (bs : List Bound) → IsZeroAtMost n w → IsZeroAtMost n (lowered_all w bs)
lowered_all-zero w n [] z = z
lowered_all-zero w n (b ∷ bs) z = lowered_all-zero (lowered w b.row b.column b.bound) n bs (lowered-diagonal w b.row b.column b.bound n z)

pub bounds_close : (m : HalfMatrix) (bs : List Bound) (c : Closed) → IsClosed m → ClosesAllLowered m bs c → c ≡ close_of (with_bounds m bs)
bounds_close m bs c h p =
    let e : HasEntries m.kinds (lowered_all (entry m) bs) (with_bounds m bs) = bounds-entries m.kinds (entry m) m bs (own-entries m h.1.matrix) in
    close_of-only (with_bounds m bs) c e.matrix
    (IsZeroAtMost-entries m.kinds (lowered_all (entry m) bs) (with_bounds m bs) e (lowered_all-zero (entry m) (nodes m) bs (closed-zero m h)))
    (p (with_bounds m bs) e)

pub bounds_close_if : {E : Type 0} (m : HalfMatrix) (bs : List Bound) (r : Result Closed E) → IsClosed m → IfOk r (ClosesAllLowered m bs) → IfOk r (λ s. s ≡ close_of (with_bounds m bs))
bounds_close_if m bs (Ok c) h p = bounds_close m bs c h p
bounds_close_if m bs (Err e) h p = tt

-- the two bounds of the equation
abbrev there : ℕ → ℕ → ℤ → Bound
there x i c = record { row = i; column = 2 * x; bound = (pos 0 +ℤ c) -ℤ pos 0 }

abbrev back : ℕ → ℕ → ℤ → Bound
back x i c = record { row = 2 * x; column = i; bound = (pos 0 +ℤ pos 0) -ℤ c }

equation-entries : (m : HalfMatrix) (x i : ℕ) (c : ℤ) → IsMatrix m → HasEntries m.kinds (equated (entry m) x i c) (with_equation (without m x) (slot_form x) (Node i c))
equation-entries m x i c h = change ((pos 0 +ℤ c) -ℤ pos 0) ((pos 0 +ℤ pos 0) -ℤ c) (omega (arith, ints)) (omega (arith, ints))
    (bounds-entries m.kinds (forgotten (entry m) x) (without m x) (there x i c ∷ back x i c ∷ []) (without-entries m x h))
  where
    change : (p q : ℤ) → p ≡ c → q ≡ neg_ℤ c → HasEntries m.kinds (lowered (lowered (forgotten (entry m) x) i (2 * x) p) (2 * x) i q) (with_equation (without m x) (slot_form x) (Node i c)) →
        HasEntries m.kinds (equated (entry m) x i c) (with_equation (without m x) (slot_form x) (Node i c))
    change p q e f h = subst (λ z. HasEntries m.kinds (lowered (lowered (forgotten (entry m) x) i (2 * x) c) (2 * x) i z) (with_equation (without m x) (slot_form x) (Node i c))) f
        (subst (λ z. HasEntries m.kinds (lowered (lowered (forgotten (entry m) x) i (2 * x) z) (2 * x) i q) (with_equation (without m x) (slot_form x) (Node i c))) e h)

equated-zero : (m : HalfMatrix) (x i : ℕ) (c : ℤ) → IsClosed m → IsZeroAtMost (nodes m) (equated (entry m) x i c)
equated-zero m x i c h = lowered-diagonal (lowered (forgotten (entry m) x) i (2 * x) c) (2 * x) i (neg_ℤ c) (nodes m)
    (lowered-diagonal (forgotten (entry m) x) i (2 * x) c (nodes m) (zero-at_most (nodes m) (forgotten (entry m) x) (forgotten-diagonal (entry m) x (nodes m) (closed-diagonal m h))))

pub equation_close : (m : HalfMatrix) (x i : ℕ) (c : ℤ) (a : Closed) → IsClosed m → ClosesEquated m x i c a → a ≡ close_of (with_equation (without m x) (slot_form x) (Node i c))
equation_close m x i c a h p =
    let e : HasEntries m.kinds (equated (entry m) x i c) (with_equation (without m x) (slot_form x) (Node i c)) = equation-entries m x i c h.1.matrix in
    close_of-only (with_equation (without m x) (slot_form x) (Node i c)) a e.matrix
    (IsZeroAtMost-entries m.kinds (equated (entry m) x i c) (with_equation (without m x) (slot_form x) (Node i c)) e (equated-zero m x i c h))
    (p (with_equation (without m x) (slot_form x) (Node i c)) e)

pub equation_close_if : {E : Type 0} (m : HalfMatrix) (x i : ℕ) (c : ℤ) (r : Result Closed E) → IsClosed m → IfOk r (ClosesEquated m x i c) → IfOk r (λ s. s ≡ close_of (with_equation (without m x) (slot_form x) (Node i c)))
equation_close_if m x i c (Ok a) h p = equation_close m x i c a h p
equation_close_if m x i c (Err e) h p = tt

-- no bound changes the kinds
pub bound-kinds : (m : HalfMatrix) (o : Option Bound) → (with_bound_if m o).kinds ≡ m.kinds
unfolding with_bound matrix_of
bound-kinds m None = refl
bound-kinds m (Some b) = refl
