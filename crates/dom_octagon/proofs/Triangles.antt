-- A slot that is carried over: the triangle law still holds where it did, and the bounds on other slots stay.
use Rattle.std.specs.Prelude.{◌≡◌, ℕ, ◌<◌, ◌≤◌, ◌*◌, ◌/◌, ℤ, ◌≤ℤ◌, Option, Some, Bool, List, length, refl}
use Rattle.std.proofs.Common.{arith, ap, sym, ◌∙◌, inl, inr}
use Rattle.std.proofs.lemmas.Bool.{ne_eqb}
use Rattle.dbm_core.proofs.HalfLemmas.{HasEntries-from_kept, entry-coherent}
use Rattle.dbm_core.proofs.LowerLemmas.{either_first, either_none}
use Rattle.dbm_core.proofs.NodeLemmas.{flip-flip}
use Rattle.dbm_core.proofs.SlotLemmas.{of_slot}
use Rattle.dbm_core.proofs.TableLemmas.{tables-determine, tables-have_entries}
use Rattle.dbm_core.proofs.WeightLemmas.{least-greatest}
use Rattle.dbm_core.specs.Half.{HalfMatrix, HasEntries, IsMatrix, entry, nodes, row_width}
use Rattle.dbm_core.specs.Limits.{HasZeroDiagonal}
use Rattle.dbm_core.specs.Nodes.{IsCoherent, IsOfSlot, flip}
use Rattle.dbm_core.specs.Operations.{lowered}
use Rattle.dbm_core.specs.Weights.{AtMost}
use Rattle.dbm_incremental.proofs.MoveLemmas.{moved-strong, renamed-strong, whole-strong}
use Rattle.dbm_incremental.specs.ClosedMatrices.{IsClosed, IsStrong, IsWhole}
use Rattle.dbm_incremental.specs.Triangles.{IsTriangular}
use Rattle.dom_octagon_meaning.proofs.Matrices.{shift-flip, shifted-coherent, turned-below, turned-flip}
use Rattle.dom_octagon_meaning.specs.Matrices.{carried, shift, shifted, turned}
use Rattle.dom_octagon_states.specs.Limits.{ObeysTriangles}
use Rattle.dbm_incremental.proofs.SlotLemmas.{nothing_added}

pub entries-obey : (kinds : List Bool) (f : ℕ → ℕ → Option ℤ) (r : HalfMatrix) → HasEntries kinds f r → HasZeroDiagonal (2 * length kinds) f → IsTriangular (2 * length kinds) f → ObeysTriangles r
entries-obey kinds f r h z t = let n : length r.kinds ≡ length kinds = ap length h.same_kinds in record {
  diagonal = λ i hi. h.entries i i (omega arith) (omega arith) ∙ z i (omega arith);
  whole = λ i k j hi hk hj. rw (h.entries i j (omega arith) (omega arith), h.entries i k (omega arith) (omega arith), h.entries k j (omega arith) (omega arith)) (t i k j (omega arith) (omega arith) (omega arith));
}

-- ---- a slot carried over

pub carried_obeys : (m : HalfMatrix) (x i : ℕ) (c : ℤ) → IsClosed m → IsWhole m → ObeysTriangles (carried m x i c)
unfolding carried
carried_obeys m x i c h w = entries-obey m.kinds (shifted (entry m) x i c) (carried m x i c)
    (tables-have_entries m.kinds (shifted (entry m) x i c) h.1.matrix.few (shifted-coherent (entry m) x i c (length m.kinds) (entry-coherent m h.1.matrix)))
    strong.diagonal strong.triangles
  where
    strong : IsStrong (nodes m) (shifted (entry m) x i c)
    strong = moved-strong (λ a b. entry m (turned x i a) (turned x i b)) (length m.kinds) (shift x c) (shift-flip x c)
        (renamed-strong (entry m) (nodes m) (nodes m) (turned x i) (λ a l. turned-below x i a (length m.kinds) l) (λ a l. turned-flip x i a) (whole-strong m h w))

-- the bounds on other slots stay
shifted-rest : (d : ℕ → ℕ → Option ℤ) (x i : ℕ) (c : ℤ) (a b : ℕ) → (IsOfSlot x a b → ⊥) → shifted d x i c a b ≡ d a b
shifted-rest d x i c a b n = rw (ne_eqb (a / 2) x (λ e. n (inl e)), ne_eqb (b / 2) x (λ e. n (inr e))) (nothing_added (d a b))

pub carried_updated : (m u : HalfMatrix) (x i : ℕ) (c : ℤ) → IsMatrix m → IsMatrix u → u.kinds ≡ m.kinds →
    ((a b : ℕ) → a < nodes m → b < row_width a → IsOfSlot x a b → entry u a b ≡ shifted (entry m) x i c a b) →
    ((a b : ℕ) → a < nodes m → b < row_width a → (IsOfSlot x a b → ⊥) → entry u a b ≡ entry m a b) → u ≡ carried m x i c
unfolding carried
carried_updated m u x i c h t k changed rest = tables-determine m.kinds (shifted (entry m) x i c) u h.few coherent
    (HasEntries-from_kept m.kinds (shifted (entry m) x i c) u t k coherent (λ a b ha w. elim (of_slot x a b) [
      | inl o ↦ changed a b ha w o
      | inr n ↦ rest a b ha w n ∙ sym (shifted-rest (entry m) x i c a b n)
    ]))
  where
    coherent : IsCoherent (shifted (entry m) x i c) (nodes m)
    coherent = shifted-coherent (entry m) x i c (length m.kinds) (entry-coherent m h)

-- a slot that is none has nothing to carry over
pub carried_outside : (m : HalfMatrix) (x i : ℕ) (c : ℤ) → IsMatrix m → length m.kinds ≤ x → m ≡ carried m x i c
carried_outside m x i c h l = carried_updated m m x i c h h refl (λ a b ha w o. none a b ha w o) (λ a b ha w n. refl)
  where
    none : (a b : ℕ) → a < nodes m → b < row_width a → IsOfSlot x a b → entry m a b ≡ shifted (entry m) x i c a b
    none a b ha w (inl e) = absurd (omega arith)
    none a b ha w (inr e) = absurd (omega arith)

-- ---- a node's own bound

-- lowered, it changes no other
pub single-miss : (d : ℕ → ℕ → Option ℤ) (i : ℕ) (x : ℤ) (a b : ℕ) → ((a ≡ flip i) × (b ≡ i) → ⊥) → lowered d (flip i) i x a b ≡ d a b
unfolding lowered
single-miss d i x a b n = rw (either_none (flip i) i (flip i) (flip (flip i)) a b (λ e. n (sym e.0, sym e.1)) (λ e. n (sym e.0, sym e.1 ∙ flip-flip i))) refl

pub single-least : (d : ℕ → ℕ → Option ℤ) (i : ℕ) (x z : ℤ) → AtMost (Some z) (d (flip i) i) → z ≤ℤ x → AtMost (Some z) (lowered d (flip i) i x (flip i) i)
unfolding lowered
single-least d i x z p q = rw (either_first (flip i) i (flip i) (flip (flip i)) (flip i) i refl refl) (least-greatest (Some z) (d (flip i) i) (Some x) p q)
