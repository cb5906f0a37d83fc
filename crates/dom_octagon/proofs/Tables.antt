-- Matrices that closures give.
use Rattle.std.specs.Prelude.{◌≡◌, ℕ, ◌<◌, ◌≤◌, ◌+◌, ◌*◌, ◌^◌, ◌/◌, ◌%◌, eqb, ℤ, pos, neg_ℤ, ◌-ℤ◌, ◌≤ℤ◌, Option, Some, None, Bool, true, false, if◌then◌else◌, List, length, Result, Ok, Err, IfOk}
use Rattle.std.proofs.Common.{arith, ap, sym, ◌∙◌, subst, inl, inr, slice_get}
use Rattle.std.proofs.lemmas.Bool.{cases_lt}
use Rattle.std.proofs.lemmas.Int.{ints}
use Rattle.dbm_core.proofs.HalfLemmas.{HasEntries-from_kept, entry-coherent, entry-outside}
use Rattle.dbm_core.proofs.LimitLemmas.{AreWithin-entries, IsZeroAtMost-entries, zero-at_most}
use Rattle.dbm_core.proofs.NodeLemmas.{flip-even}
use Rattle.dbm_core.proofs.TableLemmas.{tables-determine, tables-have_entries}
use Rattle.dbm_core.specs.Half.{HalfMatrix, HasEntries, IsMatrix, entry, nodes, row_width}
use Rattle.dbm_core.specs.Limits.{AreWithin, IsLimited, IsWithin, IsZeroAtMost}
use Rattle.dbm_core.specs.Nodes.{IsCoherent, flip}
use Rattle.dbm_core.specs.Tables.{matrix_of}
use Rattle.dbm_core.specs.Weights.{add_weight}
use Rattle.dom_octagon_meaning.specs.Matrices.{carried, shift, shifted, turned}
use Rattle.dom_octagon_meaning.proofs.Matrices.{shifted-coherent, shifted-diagonal, turned-below}
use Rattle.dom_octagon_meaning.specs.declared.source.ArgumentSource.{ArgumentSource}
use Rattle.dom_octagon_meaning.specs.declared.source.ArgumentSource.TheVariants.{FromSlot, InRange}
use Rattle.dom_octagon_meaning.specs.Operations.{copied, entered}
use Rattle.dom_octagon_meaning.proofs.Calls.{entered-coherent, entered-diagonal, zeros-coherent, zeros-diagonal}
use Rattle.dom_octagon_states.specs.Limits.{IsReady}

-- a closure's matrix is that of its table
pub table-if_ok : {E : Type 0} (r : Result HalfMatrix E) (kinds : List Bool) (f : ℕ → ℕ → Option ℤ) → length kinds ≤ 16 → IsCoherent f (2 * length kinds) →
    IfOk r IsMatrix → IfOk r (λ m. m.kinds ≡ kinds) → IfOk r (λ m. (i j : ℕ) → i < 2 * length kinds → j < row_width i → entry m i j ≡ f i j) → IfOk r (λ m. m ≡ matrix_of kinds f)
table-if_ok (Ok m) kinds f few c t k h = tables-determine kinds f m few c (HasEntries-from_kept kinds f m t k c h)
table-if_ok (Err e) kinds f few c t k h = tt

-- a fact of the value of an Ok
pub if_ok-by : {E : Type 0} (r : Result HalfMatrix E) (m : HalfMatrix) (P : HalfMatrix → Type 0) → IfOk r (λ n. n ≡ m) → P m → IfOk r P
if_ok-by (Ok n) m P e p = subst P (sym e) p
if_ok-by (Err e) m P _ p = tt

-- a coherent table has equal entries on a slot's diagonal
pub coherent-diagonal : (f : ℕ → ℕ → Option ℤ) (n h : ℕ) → IsCoherent f (2 * n) → h < n → f (2 * h) (2 * h) ≡ f (2 * h + 1) (2 * h + 1)
coherent-diagonal f n h c l = let e : flip (2 * h) ≡ 2 * h + 1 = flip-even (2 * h) (omega arith) in
    c (2 * h) (2 * h) (omega arith) (omega arith) ∙ ap (λ k. f k (flip (2 * h))) e ∙ ap (f (2 * h + 1)) e

-- a table within the limits gives a matrix that can be closed
pub table-is_ready : (kinds : List Bool) (f : ℕ → ℕ → Option ℤ) → length kinds ≤ 16 → IsCoherent f (2 * length kinds) → IsZeroAtMost (2 * length kinds) f → AreWithin (2 * length kinds) (2 ^ 70) f → IsReady (matrix_of kinds f)
table-is_ready kinds f few c z w = let h : HasEntries kinds f (matrix_of kinds f) = tables-have_entries kinds f few c in
    record { diagonal = IsZeroAtMost-entries kinds f (matrix_of kinds f) h z; within = AreWithin-entries kinds f (matrix_of kinds f) (2 ^ 70) h w }

shift-within : (x : ℕ) (c : ℤ) (a : ℕ) → IsWithin (2 ^ 64) (Some c) → IsWithin (2 ^ 64) (Some (shift x c a))
shift-within x c a h = by (eqb (a / 2) x) (eqb (a % 2) 0)
  where
    p : neg_ℤ (pos (2 ^ 64)) ≤ℤ c
    p = h.0

    q : c ≤ℤ pos (2 ^ 64)
    q = h.1

    by : (b d : Bool) → IsWithin (2 ^ 64) (Some (if b then (if d then c else neg_ℤ c) else pos 0))
    by true true = h
    by true false = (omega (arith, ints, p, q), omega (arith, ints, p, q))
    by false d = (omega (arith, ints), omega (arith, ints))

shifted-by : (v : Option ℤ) (s t : ℤ) → IsWithin (2 ^ 64) v → IsWithin (2 ^ 64) (Some s) → IsWithin (2 ^ 64) (Some t) → IsWithin (2 ^ 70) (add_weight v (Some (t -ℤ s)))
shifted-by None s t h p q = tt
shifted-by (Some y) s t h p q =
    let a : neg_ℤ (pos (2 ^ 64)) ≤ℤ y = h.0 in let b : y ≤ℤ pos (2 ^ 64) = h.1 in
    let d : neg_ℤ (pos (2 ^ 64)) ≤ℤ s = p.0 in let e : s ≤ℤ pos (2 ^ 64) = p.1 in
    let f : neg_ℤ (pos (2 ^ 64)) ≤ℤ t = q.0 in let g : t ≤ℤ pos (2 ^ 64) = q.1 in
    (omega (arith, ints), omega (arith, ints))

shifted-within : (d : ℕ → ℕ → Option ℤ) (n x i : ℕ) (c : ℤ) → AreWithin (2 * n) (2 ^ 64) d → IsWithin (2 ^ 64) (Some c) → AreWithin (2 * n) (2 ^ 70) (shifted d x i c)
shifted-within d n x i c h w a b ha hb = shifted-by (d (turned x i a) (turned x i b)) (shift x c a) (shift x c b) (h (turned x i a) (turned x i b) (turned-below x i a n ha) (turned-below x i b n hb)) (shift-within x c a w) (shift-within x c b w)

pub carried-is_ready : (m : HalfMatrix) (x i : ℕ) (c : ℤ) → IsMatrix m → IsLimited (2 ^ 64) m → IsWithin (2 ^ 64) (Some c) → IsReady (carried m x i c)
unfolding carried
carried-is_ready m x i c h l w = table-is_ready m.kinds (shifted (entry m) x i c) h.few (shifted-coherent (entry m) x i c (length m.kinds) (entry-coherent m h))
    (shifted-diagonal (entry m) x i c (length m.kinds) (zero-at_most (nodes m) (entry m) l.diagonal)) (shifted-within (entry m) (length m.kinds) x i c l.within w)

-- ---- the tables of layouts and calls

within_more : (a : Option ℤ) → IsWithin (2 ^ 64) a → IsWithin (2 ^ 70) a
within_more None h = tt
within_more (Some x) h = let p : neg_ℤ (pos (2 ^ 64)) ≤ℤ x = h.0 in let q : x ≤ℤ pos (2 ^ 64) = h.1 in (omega (arith, ints), omega (arith, ints))

zero_within : IsWithin (2 ^ 70) (Some (pos 0))
zero_within = (omega (arith, ints), omega (arith, ints))

pub zeros-are_ready : (kinds : List Bool) → length kinds ≤ 16 → IsReady (matrix_of kinds (λ i j. Some (pos 0)))
zeros-are_ready kinds few = table-is_ready kinds (λ i j. Some (pos 0)) few (zeros-coherent (2 * length kinds)) (zeros-diagonal (2 * length kinds)) (λ i j hi hj. zero_within)

-- a bound of a state, at nodes or elsewhere
pub bound_within : (m : HalfMatrix) (i j : ℕ) → IsMatrix m → IsLimited (2 ^ 64) m → IsWithin (2 ^ 64) (entry m i j)
bound_within m i j h l = elim (cases_lt i (nodes m)) [
  | inl p ↦ elim (cases_lt j (nodes m)) [
    | inl q ↦ l.within i j p q
    | inr q ↦ subst (IsWithin (2 ^ 64)) (sym (entry-outside m h i j (inr q))) tt
  ]
  | inr p ↦ subst (IsWithin (2 ^ 64)) (sym (entry-outside m h i j (inl p))) tt
]

copied-within : (m : HalfMatrix) → IsMatrix m → IsLimited (2 ^ 64) m → (i j : ℕ) (s t : Option ArgumentSource) → IsWithin (2 ^ 70) (copied m i j s t)
copied-within m h l i j (Some (FromSlot x)) (Some (FromSlot y)) = within_more (entry m (2 * x + i % 2) (2 * y + j % 2)) (bound_within m (2 * x + i % 2) (2 * y + j % 2) h l)
copied-within m h l i j (Some (FromSlot x)) (Some (InRange r)) = tt
copied-within m h l i j (Some (FromSlot x)) None = tt
copied-within m h l i j (Some (InRange r)) t = tt
copied-within m h l i j None (Some t) = tt
copied-within m h l i j None None = zero_within

entered-within : (m : HalfMatrix) → IsMatrix m → IsLimited (2 ^ 64) m → (ss : List ArgumentSource) (n : ℕ) → AreWithin n (2 ^ 70) (entered m ss)
entered-within m h l ss n i j hi hj = by (eqb i j)
  where
    by : (b : Bool) → IsWithin (2 ^ 70) (if b then Some (pos 0) else copied m i j (slice_get ss (i / 2)) (slice_get ss (j / 2)))
    by true = zero_within
    by false = copied-within m h l i j (slice_get ss (i / 2)) (slice_get ss (j / 2))

pub entered-is_ready : (m : HalfMatrix) (kinds : List Bool) (ss : List ArgumentSource) → IsMatrix m → IsLimited (2 ^ 64) m → length kinds ≤ 16 → IsReady (matrix_of kinds (entered m ss))
entered-is_ready m kinds ss h l few = table-is_ready kinds (entered m ss) few (entered-coherent m h ss (2 * length kinds)) (entered-diagonal m ss (2 * length kinds)) (entered-within m h l ss (2 * length kinds))
