-- Joins, widenings, comparisons and guards: what a state describes stays described, and states that fit stay so.
use Rattle.std.proofs.Common.{◌≡◌, ◌≢◌, refl, sym, ap, ◌∙◌, subst, ℕ, ◌^◌, ◌*◌, ◌<◌, ℤ, pos, negsuc, neg_ℤ, ◌≤ℤ◌, ◌<ℤ◌, ◌+ℤ◌, ◌-ℤ◌, int_le, int_lt, Bool, true, false, not, ◌&&◌, ◌||◌, List, [], ◌∷◌, length, Option, Some, None, arith, if◌then◌else◌, cond, ◌⊎◌, inl, inr}
use Rattle.std.proofs.lemmas.Int.{ints}
use Rattle.std.proofs.lemmas.Bool.Decides.{Decides-int_eq}
use Rattle.std.specs.Ordering.{int_eq}
use Rattle.std.specs.List.{AllZip}
use Rattle.imp_syntax.specs.declared.words.Relation.{Relation}
use Rattle.imp_syntax.specs.declared.words.Relation.TheVariants.{Equal, NotEqual, Less, AtMost, Greater, AtLeast}
use Rattle.imp_slots.specs.Plain.{Layout, Term, Guard}
use Rattle.imp_slots.specs.Fits.{fits_term, fits_guard}
use Rattle.concrete_sem.specs.Values.{Variables, Gives}
use Rattle.concrete_sem.specs.Evaluation.{value_of, truth_of, relates}
use Rattle.concrete_sem.specs.Proper.{IsNumber}
use Rattle.domain_laws.specs.Guards.{Compares, Tells}
use Rattle.domain_laws.proofs.GuardLaws.{assumed-fits, assumed-covers}
use Rattle.domain_laws.specs.Laws.{IsRising}
use Rattle.num_bounds.specs.Bounds.{Bounds, Within as Lies}
use Rattle.num_bounds.specs.Meaning.{Covers}
use Rattle.dbm_core.proofs.LimitLemmas.{joined-above_left, joined-above_right, joined-diagonal, widened-above_left, widened-above_right, widened-diagonal, zero-at_most}
use Rattle.dbm_core.proofs.OperationLemmas.{joined-coherent, widened-coherent}
use Rattle.dbm_core.proofs.TableLemmas.{tables-have_entries}
use Rattle.dbm_core.proofs.ValuationLemmas.{Covers-entries, Covers-other}
use Rattle.dbm_core.proofs.WeightLemmas.{least-cases}
use Rattle.dbm_core.specs.Half.{HalfMatrix, HasEntries, entry, nodes}
use Rattle.dbm_core.specs.Limits.{HasZeroDiagonal}
use Rattle.dbm_core.specs.Nodes.{is_single}
use Rattle.dbm_core.specs.Operations.{joined, threshold_value, next_threshold, widen_bound, widened}
use Rattle.dbm_core.specs.Same.{bools_Decide}
use Rattle.dbm_core.specs.Tables.{matrix_of}
use Rattle.dbm_core.specs.Valuations.{IsSatisfiedBy}
use Rattle.dbm_core.specs.Weights.{least}
use Rattle.dbm_close.specs.CloseOf.{close_of}
use Rattle.dbm_close.specs.Laws.{AreInSlots}
use Rattle.dbm_close.specs.declared.closed.Closed.{Closed}
use Rattle.dbm_close.specs.declared.closed.Closed.TheVariants.{Empty, Matrix}
use Rattle.dom_octagon_meaning.specs.declared.form.Form.{Form}
use Rattle.dom_octagon_meaning.specs.Covers.{in_limits, values}
use Rattle.dom_octagon_meaning.specs.Forms.{form_of}
use Rattle.dom_octagon_meaning.specs.Operations.{needs, kinds_of, same_kinds, join, join_closed, widen, widen_closed, less, less_matrix, at_most, at_most_matrix, equal, related, compare, compare_terms, compare_links, assume}
use Rattle.dom_octagon_meaning.specs.Ranges.{range_of}
use Rattle.dom_octagon_meaning.specs.States.{closed}
use Rattle.dom_octagon_meaning.proofs.Fitting.{Ready, FitsMatrix, FitsState, Describes, fits-ready, close-fits, close-describes, closed-fits, closed-describes, after-fits, after-describes}
use Rattle.dom_octagon_meaning.proofs.Matrices.{HasValue, form_value, table-ready, difference-ready, difference-satisfied, most-ready, most-satisfied, least-ready, least-satisfied}
use Rattle.dom_octagon_meaning.proofs.Ranges.{AreProper, proper, range_at-covers, range_of-covers, form_of-value}
use Rattle.std.proofs.lemmas.Bool.{or_from}
use Rattle.base_values.proofs.Integers.{at_most as at_most_of, between, equal_at_most}

-- ---- joins

pub alike : (kinds : List Bool) (a b : HalfMatrix) → FitsMatrix kinds a → FitsMatrix kinds b → same_kinds a b ≡ true
alike kinds a b h k = (bools_Decide a.kinds b.kinds).1 (h.same_kinds ∙ sym k.same_kinds)

join-entries : (kinds : List Bool) (a b : HalfMatrix) → FitsMatrix kinds a → FitsMatrix kinds b → HasEntries a.kinds (joined a b) (matrix_of a.kinds (joined a b))
join-entries kinds a b h k = tables-have_entries a.kinds (joined a b) h.matrix.few (joined-coherent a b h.matrix k.matrix (ap length (k.same_kinds ∙ sym h.same_kinds)))

other_diagonal : (kinds : List Bool) (a b : HalfMatrix) → FitsMatrix kinds a → FitsMatrix kinds b → HasZeroDiagonal (nodes a) (entry b)
other_diagonal kinds a b h k = subst (λ ks. HasZeroDiagonal (2 * length ks) (entry b)) (k.same_kinds ∙ sym h.same_kinds) k.diagonal

join-ready : (kinds : List Bool) (a b : HalfMatrix) → FitsMatrix kinds a → FitsMatrix kinds b → Ready kinds (matrix_of a.kinds (joined a b))
join-ready kinds a b h k =
    let r = table-ready a.kinds (joined a b) h.matrix.few (joined-coherent a b h.matrix k.matrix (ap length (k.same_kinds ∙ sym h.same_kinds)))
    (zero-at_most (nodes a) (joined a b) (joined-diagonal a b (nodes a) h.diagonal (other_diagonal kinds a b h k))) in
    record { matrix = r.matrix; same_kinds = r.same_kinds ∙ h.same_kinds; diagonal = r.diagonal }

join_closed-fits : (kinds : List Bool) (s t : Closed) → FitsState kinds s → FitsState kinds t → FitsState kinds (join_closed s t)
join_closed-fits kinds Empty t h k = k
join_closed-fits kinds (Matrix a) Empty h k = h
join_closed-fits kinds (Matrix a) (Matrix b) h k = rw (alike kinds a b h k) (close-fits kinds (matrix_of a.kinds (joined a b)) (join-ready kinds a b h k))

join_closed-left : (kinds : List Bool) (x : ℕ → ℤ) (s t : Closed) → AreInSlots kinds x → FitsState kinds s → FitsState kinds t → Describes x s → Describes x (join_closed s t)
join_closed-left kinds x Empty t p h k d = absurd d
join_closed-left kinds x (Matrix a) Empty p h k d = d
join_closed-left kinds x (Matrix a) (Matrix b) p h k d = rw (alike kinds a b h k) (close-describes kinds (matrix_of a.kinds (joined a b)) x (join-ready kinds a b h k) p
    (Covers-entries a (joined a b) (matrix_of a.kinds (joined a b)) (joined-above_left a b (nodes a)) (join-entries kinds a b h k) x d))

join_closed-right : (kinds : List Bool) (x : ℕ → ℤ) (s t : Closed) → AreInSlots kinds x → FitsState kinds s → FitsState kinds t → Describes x t → Describes x (join_closed s t)
join_closed-right kinds x Empty t p h k d = d
join_closed-right kinds x (Matrix a) Empty p h k d = absurd d
join_closed-right kinds x (Matrix a) (Matrix b) p h k d = rw (alike kinds a b h k) (close-describes kinds (matrix_of a.kinds (joined a b)) x (join-ready kinds a b h k) p
    (Covers-other a.kinds b (joined a b) (matrix_of a.kinds (joined a b)) (k.same_kinds ∙ sym h.same_kinds) (joined-above_right a b (nodes b)) (join-entries kinds a b h k) x d))

pub join-fits : (kinds : List Bool) (s t : Closed) → FitsState kinds s → FitsState kinds t → FitsState kinds (join s t)
unfolding join
join-fits kinds s t h k = join_closed-fits kinds (closed s) (closed t) (closed-fits kinds s h) (closed-fits kinds t k)

pub join-left : (kinds : List Bool) (x : ℕ → ℤ) (s t : Closed) → AreInSlots kinds x → FitsState kinds s → FitsState kinds t → Describes x s → Describes x (join s t)
unfolding join
join-left kinds x s t p h k d = join_closed-left kinds x (closed s) (closed t) p (closed-fits kinds s h) (closed-fits kinds t k) (closed-describes kinds s x h p d)

pub join-right : (kinds : List Bool) (x : ℕ → ℤ) (s t : Closed) → AreInSlots kinds x → FitsState kinds s → FitsState kinds t → Describes x t → Describes x (join s t)
unfolding join
join-right kinds x s t p h k d = join_closed-right kinds x (closed s) (closed t) p (closed-fits kinds s h) (closed-fits kinds t k) (closed-describes kinds t x k p d)

-- ---- widenings

limits-true : (v : ℤ) → neg_ℤ (pos (2 ^ 64)) ≤ℤ v → v <ℤ pos (2 ^ 64) → in_limits (Some v) ≡ true
limits-true v p q = by (int_lt v (neg_ℤ (pos (2 ^ 64)))) (int_lt v (pos (2 ^ 64))) refl refl
  where
    by : (a b : Bool) → int_lt v (neg_ℤ (pos (2 ^ 64))) ≡ a → int_lt v (pos (2 ^ 64)) ≡ b → (not a && b) ≡ true
    by true b e f = absurd (let l : v <ℤ neg_ℤ (pos (2 ^ 64)) = grind (arith, ints) in omega (arith, ints))
    by false true e f = refl
    by false false e f = absurd (let l : pos (2 ^ 64) ≤ℤ v = grind (arith, ints) in omega (arith, ints))

-- thresholds are integers of 64 bits
abbrev AreWords : List ℤ → Type 0
AreWords [] = Unit {0}
AreWords (m ∷ ms) = (neg_ℤ (pos (2 ^ 63)) ≤ℤ m) × (m <ℤ pos (2 ^ 63)) × AreWords ms

rising-words : (ms : List ℤ) → IsRising ms → AreWords ms
rising-words [] h = tt
rising-words (x ∷ []) h = (omega (arith, ints), omega (arith, ints), tt)
rising-words (x ∷ y ∷ zs) h = let w = h.0 in (omega (arith, ints, w), omega (arith, ints, w), rising-words (y ∷ zs) h.2)

threshold-limits : (d : Bool) (m : ℤ) → neg_ℤ (pos (2 ^ 63)) ≤ℤ m → m <ℤ pos (2 ^ 63) → in_limits (Some (threshold_value d m)) ≡ true
threshold-limits true m p q = limits-true (m +ℤ m) (omega (arith, ints)) (omega (arith, ints))
threshold-limits false m p q = limits-true m (omega (arith, ints)) (omega (arith, ints))

cond-limits : (b : Bool) (x y : Option ℤ) → in_limits x ≡ true → in_limits y ≡ true → in_limits (cond b x y) ≡ true
cond-limits true x y p q = p
cond-limits false x y p q = q

next_threshold-limits : (ms : List ℤ) (d : Bool) (x : ℤ) → AreWords ms → in_limits (next_threshold ms d x) ≡ true
next_threshold-limits [] d x h = refl
next_threshold-limits (m ∷ ms) d x h = cond-limits (int_lt (threshold_value d m) x) (next_threshold ms d x) (least (Some (threshold_value d m)) (next_threshold ms d x)) (next_threshold-limits ms d x h.2)
    (least-cases (λ a. in_limits a ≡ true) (Some (threshold_value d m)) (next_threshold ms d x) (threshold-limits d m h.0 h.1) (next_threshold-limits ms d x h.2))

widen_bound-limits : (ms : List ℤ) (d : Bool) (a b : Option ℤ) → AreWords ms → in_limits a ≡ true → in_limits (widen_bound ms d a b) ≡ true
widen_bound-limits ms d None b w h = refl
widen_bound-limits ms d (Some x) None w h = refl
widen_bound-limits ms d (Some x) (Some y) w h = cond-limits (int_lt x y) (next_threshold ms d y) (Some x) (next_threshold-limits ms d y w) h

pub widen-entries : (ms : List ℤ) (kinds : List Bool) (a b : HalfMatrix) → FitsMatrix kinds a → FitsMatrix kinds b → HasEntries a.kinds (widened ms a b) (matrix_of a.kinds (widened ms a b))
widen-entries ms kinds a b h k = tables-have_entries a.kinds (widened ms a b) h.matrix.few (widened-coherent ms a b h.matrix k.matrix (ap length (k.same_kinds ∙ sym h.same_kinds)))

widen_matrix-fits : (ms : List ℤ) (kinds : List Bool) (a b : HalfMatrix) → AreWords ms → FitsMatrix kinds a → FitsMatrix kinds b → FitsMatrix kinds (matrix_of a.kinds (widened ms a b))
widen_matrix-fits ms kinds a b w h k =
    let e = widen-entries ms kinds a b h k in
    let n : length (matrix_of a.kinds (widened ms a b)).kinds ≡ length a.kinds = ap length e.same_kinds in
    record {
      matrix = e.matrix;
      same_kinds = e.same_kinds ∙ h.same_kinds;
      diagonal = λ i l. (let li : i < nodes a = omega (arith, n) in e.entries i i li li ∙ widened-diagonal ms a b (nodes a) h.diagonal (other_diagonal kinds a b h k) i li);
      limits = λ i j hi hj. (let li : i < nodes a = omega (arith, n) in let lj : j < nodes a = omega (arith, n) in
          ap in_limits (e.entries i j li lj) ∙ widen_bound-limits ms (is_single i j) (entry a i j) (entry b i j) w (h.limits i j li lj));
    }

widen_closed-fits : (ms : List ℤ) (kinds : List Bool) (s t : Closed) → AreWords ms → FitsState kinds s → FitsState kinds t → FitsState kinds (widen_closed ms s t)
widen_closed-fits ms kinds Empty t w h k = k
widen_closed-fits ms kinds (Matrix a) Empty w h k = h
widen_closed-fits ms kinds (Matrix a) (Matrix b) w h k = rw (alike kinds a b h k) (widen_matrix-fits ms kinds a b w h k)

widen_closed-left : (ms : List ℤ) (kinds : List Bool) (x : ℕ → ℤ) (s t : Closed) → FitsState kinds s → FitsState kinds t → Describes x s → Describes x (widen_closed ms s t)
widen_closed-left ms kinds x Empty t h k d = absurd d
widen_closed-left ms kinds x (Matrix a) Empty h k d = d
widen_closed-left ms kinds x (Matrix a) (Matrix b) h k d = rw (alike kinds a b h k)
    (Covers-entries a (widened ms a b) (matrix_of a.kinds (widened ms a b)) (widened-above_left ms a b (nodes a)) (widen-entries ms kinds a b h k) x d)

widen_closed-right : (ms : List ℤ) (kinds : List Bool) (x : ℕ → ℤ) (s t : Closed) → FitsState kinds s → FitsState kinds t → Describes x t → Describes x (widen_closed ms s t)
widen_closed-right ms kinds x Empty t h k d = d
widen_closed-right ms kinds x (Matrix a) Empty h k d = absurd d
widen_closed-right ms kinds x (Matrix a) (Matrix b) h k d = rw (alike kinds a b h k)
    (Covers-other a.kinds b (widened ms a b) (matrix_of a.kinds (widened ms a b)) (k.same_kinds ∙ sym h.same_kinds) (widened-above_right ms a b (nodes b)) (widen-entries ms kinds a b h k) x d)

pub widen-fits : (ms : List ℤ) (kinds : List Bool) (s t : Closed) → IsRising ms → FitsState kinds s → FitsState kinds t → FitsState kinds (widen ms s t)
unfolding widen
widen-fits ms kinds s t r h k = widen_closed-fits ms kinds s (closed t) (rising-words ms r) h (closed-fits kinds t k)

pub widen-left : (ms : List ℤ) (kinds : List Bool) (x : ℕ → ℤ) (s t : Closed) → FitsState kinds s → FitsState kinds t → Describes x s → Describes x (widen ms s t)
unfolding widen
widen-left ms kinds x s t h k d = widen_closed-left ms kinds x s (closed t) h (closed-fits kinds t k) d

pub widen-right : (ms : List ℤ) (kinds : List Bool) (x : ℕ → ℤ) (s t : Closed) → AreInSlots kinds x → FitsState kinds s → FitsState kinds t → Describes x t → Describes x (widen ms s t)
unfolding widen
widen-right ms kinds x s t p h k d = widen_closed-right ms kinds x s (closed t) h (closed-fits kinds t k) (closed-describes kinds t x k p d)

-- ---- comparisons

less-ready : (kinds : List Bool) (m : HalfMatrix) (a b : Option Form) (l r : Bounds) → Ready kinds m → Ready kinds (less_matrix m a b l r)
less-ready kinds m (Some f) (Some g) l r h = difference-ready kinds m f g (negsuc 0) h
less-ready kinds m (Some f) None l r h = most-ready kinds m (Some f) (r.hi -ℤ pos 1) h
less-ready kinds m None b l r h = least-ready kinds m b (l.lo +ℤ pos 1) h

less-satisfied : (kinds : List Bool) (m : HalfMatrix) (x : ℕ → ℤ) (a b : Option Form) (l r : Bounds) (y z : ℤ) → Ready kinds m → IsSatisfiedBy m x → HasValue x a y → HasValue x b z → Lies y l → Lies z r → y <ℤ z → IsSatisfiedBy (less_matrix m a b l r) x
less-satisfied kinds m x (Some f) (Some g) l r y z h s d e p q lt = difference-satisfied kinds m f g (negsuc 0) x h s (apart (form_value x f) (form_value x g) y z d e lt)
  where
    apart : (f g y z : ℤ) → f ≡ y → g ≡ z → y <ℤ z → (f -ℤ g) ≤ℤ negsuc 0
    apart f g y z d e lt = omega (arith, ints)
less-satisfied kinds m x (Some f) None l r y z h s d e p q lt = most-satisfied kinds m (Some f) (r.hi -ℤ pos 1) y x h s d (below y z r.hi lt q.1)
  where
    below : (y z h : ℤ) → y <ℤ z → z ≤ℤ h → y ≤ℤ (h -ℤ pos 1)
    below y z h lt q = omega (arith, ints)
less-satisfied kinds m x None b l r y z h s d e p q lt = least-satisfied kinds m b (l.lo +ℤ pos 1) z x h s e (above y z l.lo lt p.0)
  where
    above : (y z h : ℤ) → y <ℤ z → h ≤ℤ y → (h +ℤ pos 1) ≤ℤ z
    above y z h lt q = omega (arith, ints)

most_matrix-ready : (kinds : List Bool) (m : HalfMatrix) (a b : Option Form) (l r : Bounds) → Ready kinds m → Ready kinds (at_most_matrix m a b l r)
most_matrix-ready kinds m (Some f) (Some g) l r h = difference-ready kinds m f g (pos 0) h
most_matrix-ready kinds m (Some f) None l r h = most-ready kinds m (Some f) r.hi h
most_matrix-ready kinds m None b l r h = least-ready kinds m b l.lo h

most_matrix-satisfied : (kinds : List Bool) (m : HalfMatrix) (x : ℕ → ℤ) (a b : Option Form) (l r : Bounds) (y z : ℤ) → Ready kinds m → IsSatisfiedBy m x → HasValue x a y → HasValue x b z → Lies y l → Lies z r → y ≤ℤ z → IsSatisfiedBy (at_most_matrix m a b l r) x
most_matrix-satisfied kinds m x (Some f) (Some g) l r y z h s d e p q le = difference-satisfied kinds m f g (pos 0) x h s (apart (form_value x f) (form_value x g) y z d e le)
  where
    apart : (f g y z : ℤ) → f ≡ y → g ≡ z → y ≤ℤ z → (f -ℤ g) ≤ℤ pos 0
    apart f g y z d e lt = omega (arith, ints)
most_matrix-satisfied kinds m x (Some f) None l r y z h s d e p q le = most-satisfied kinds m (Some f) r.hi y x h s d (at_most_of y z r.hi le q.1)
most_matrix-satisfied kinds m x None b l r y z h s d e p q le = least-satisfied kinds m b l.lo z x h s e (at_most_of l.lo y z p.0 le)

if_empty-fits : (kinds : List Bool) (b : Bool) (s : Closed) → FitsState kinds s → FitsState kinds (if b then Empty else s)
if_empty-fits kinds true s h = tt
if_empty-fits kinds false s h = h

if_empty-describes : (x : ℕ → ℤ) (b : Bool) (s : Closed) → b ≡ false → Describes x s → Describes x (if b then Empty else s)
if_empty-describes x true s e h = cc
if_empty-describes x false s e h = h

less-fits : (kinds : List Bool) (m : HalfMatrix) (a b : Option Form) (l r : Bounds) → Ready kinds m → FitsState kinds (less m a b l r)
less-fits kinds m a b l r h = if_empty-fits kinds (int_le r.hi l.lo) (close_of (less_matrix m a b l r)) (close-fits kinds (less_matrix m a b l r) (less-ready kinds m a b l r h))

at_most-fits : (kinds : List Bool) (m : HalfMatrix) (a b : Option Form) (l r : Bounds) → Ready kinds m → FitsState kinds (at_most m a b l r)
at_most-fits kinds m a b l r h = if_empty-fits kinds (int_lt r.hi l.lo) (close_of (at_most_matrix m a b l r)) (close-fits kinds (at_most_matrix m a b l r) (most_matrix-ready kinds m a b l r h))

related-fits : (kinds : List Bool) (c : Relation) (m : HalfMatrix) (a b : Option Form) (l r : Bounds) → Ready kinds m → FitsState kinds (related c m a b l r)
related-fits kinds Equal m a b l r h = if_empty-fits kinds (int_lt r.hi l.lo || int_lt l.hi r.lo) (close_of (at_most_matrix (at_most_matrix m a b l r) b a r l))
    (close-fits kinds (at_most_matrix (at_most_matrix m a b l r) b a r l) (most_matrix-ready kinds (at_most_matrix m a b l r) b a r l (most_matrix-ready kinds m a b l r h)))
related-fits kinds NotEqual m a b l r h = join-fits kinds (less m a b l r) (less m b a r l) (less-fits kinds m a b l r h) (less-fits kinds m b a r l h)
related-fits kinds Less m a b l r h = less-fits kinds m a b l r h
related-fits kinds AtMost m a b l r h = at_most-fits kinds m a b l r h
related-fits kinds Greater m a b l r h = less-fits kinds m b a r l h
related-fits kinds AtLeast m a b l r h = at_most-fits kinds m b a r l h

pub needs-fits : (kinds : List Bool) (o : Option Bounds) (f : Bounds → Closed) → ((r : Bounds) → FitsState kinds (f r)) → FitsState kinds (needs o f)
needs-fits kinds None f g = tt
needs-fits kinds (Some r) f g = g r

pub needs-describes : (x : ℕ → ℤ) (o : Option Bounds) (z : ℤ) (f : Bounds → Closed) → Covers o z → ((r : Bounds) → Lies z r → Describes x (f r)) → Describes x (needs o f)
needs-describes x None z f h g = absurd h
needs-describes x (Some r) z f h g = g r h

pub compare-fits : (kinds : List Bool) (c : Relation) (a b : Term) (s : Closed) → FitsState kinds s → FitsState kinds (compare c a b s)
unfolding compare
compare-fits kinds c a b s h = after-fits kinds kinds (closed s) (compare_terms c a b) (closed-fits kinds s h) (λ m k.
    needs-fits kinds (range_of m a) _ (λ l. needs-fits kinds (range_of m b) _ (λ r. related-fits kinds c m (form_of a) (form_of b) l r (fits-ready kinds m k))))

module _ (kinds : List Bool) (x : ℕ → ℤ) (slots : AreInSlots kinds x) where
  not_less : (p q : ℤ) → p <ℤ q → int_le q p ≡ false
  not_less p q h = grind (arith, ints)

  not_below : (p q : ℤ) → p ≤ℤ q → int_lt q p ≡ false
  not_below p q h = grind (arith, ints)

  less-describes : (m : HalfMatrix) (a b : Option Form) (l r : Bounds) (y z : ℤ) → Ready kinds m → IsSatisfiedBy m x → HasValue x a y → HasValue x b z → Lies y l → Lies z r → y <ℤ z → Describes x (less m a b l r)
  less-describes m a b l r y z h s d e p q lt = if_empty-describes x (int_le r.hi l.lo) (close_of (less_matrix m a b l r)) (not_less l.lo r.hi (along l.lo y z r.hi p.0 lt q.1))
      (close-describes kinds (less_matrix m a b l r) x (less-ready kinds m a b l r h) slots (less-satisfied kinds m x a b l r y z h s d e p q lt))
    where
      along : (u y z w : ℤ) → u ≤ℤ y → y <ℤ z → z ≤ℤ w → u <ℤ w
      along u y z w p q r = omega (arith, ints)

  at_most-describes : (m : HalfMatrix) (a b : Option Form) (l r : Bounds) (y z : ℤ) → Ready kinds m → IsSatisfiedBy m x → HasValue x a y → HasValue x b z → Lies y l → Lies z r → y ≤ℤ z → Describes x (at_most m a b l r)
  at_most-describes m a b l r y z h s d e p q le = if_empty-describes x (int_lt r.hi l.lo) (close_of (at_most_matrix m a b l r)) (not_below l.lo r.hi (between l.lo y z r.hi p.0 le q.1))
      (close-describes kinds (at_most_matrix m a b l r) x (most_matrix-ready kinds m a b l r h) slots (most_matrix-satisfied kinds m x a b l r y z h s d e p q le))

  equal-describes : (m : HalfMatrix) (a b : Option Form) (l r : Bounds) (y z : ℤ) → Ready kinds m → IsSatisfiedBy m x → HasValue x a y → HasValue x b z → Lies y l → Lies z r → y ≡ z → Describes x (equal m a b l r)
  equal-describes m a b l r y z h s d e p q same = if_empty-describes x (int_lt r.hi l.lo || int_lt l.hi r.lo) (close_of (at_most_matrix (at_most_matrix m a b l r) b a r l))
      (or_from (int_lt r.hi l.lo) (int_lt l.hi r.lo) (not_below l.lo r.hi (between l.lo y z r.hi p.0 (equal_at_most y z same) q.1)) (not_below r.lo l.hi (between r.lo z y l.hi q.0 (equal_at_most z y (sym same)) p.1)))
      (close-describes kinds (at_most_matrix (at_most_matrix m a b l r) b a r l) x (most_matrix-ready kinds (at_most_matrix m a b l r) b a r l (most_matrix-ready kinds m a b l r h)) slots
      (most_matrix-satisfied kinds (at_most_matrix m a b l r) x b a r l z y (most_matrix-ready kinds m a b l r h)
      (most_matrix-satisfied kinds m x a b l r y z h s d e p q (equal_at_most y z same)) e d q p (equal_at_most z y (sym same))))

  either_way : (y z : ℤ) → y ≢ z → (y <ℤ z) ⊎ (z <ℤ y)
  either_way y z n = by (int_lt y z) refl
    where
      by : (b : Bool) → int_lt y z ≡ b → (y <ℤ z) ⊎ (z <ℤ y)
      by true e = inl (grind (arith, ints))
      by false e = inr (let l : z ≤ℤ y = grind (arith, ints) in omega (arith, ints))

  related-describes : (c : Relation) (m : HalfMatrix) (a b : Option Form) (l r : Bounds) (y z : ℤ) → Ready kinds m → IsSatisfiedBy m x → HasValue x a y → HasValue x b z → Lies y l → Lies z r → relates c y z ≡ true → Describes x (related c m a b l r)
  related-describes Equal m a b l r y z h s d e p q t = equal-describes m a b l r y z h s d e p q ((Decides-int_eq y z).0 t)
  related-describes NotEqual m a b l r y z h s d e p q t =
      elim (either_way y z (λ w. let u : int_eq y z ≡ true = (Decides-int_eq y z).1 w in let v : false ≡ true = sym (ap not u) ∙ t in cc)) [
        | inl lt ↦ join-left kinds x (less m a b l r) (less m b a r l) slots (less-fits kinds m a b l r h) (less-fits kinds m b a r l h) (less-describes m a b l r y z h s d e p q lt)
        | inr lt ↦ join-right kinds x (less m a b l r) (less m b a r l) slots (less-fits kinds m a b l r h) (less-fits kinds m b a r l h) (less-describes m b a r l z y h s e d q p lt)
      ]
  related-describes Less m a b l r y z h s d e p q t = let lt : y <ℤ z = grind (arith, ints) in less-describes m a b l r y z h s d e p q lt
  related-describes AtMost m a b l r y z h s d e p q t = let le : y ≤ℤ z = grind (arith, ints) in at_most-describes m a b l r y z h s d e p q le
  related-describes Greater m a b l r y z h s d e p q t = let lt : z <ℤ y = grind (arith, ints) in less-describes m b a r l z y h s e d q p lt
  related-describes AtLeast m a b l r y z h s d e p q t = let le : z ≤ℤ y = grind (arith, ints) in at_most-describes m b a r l z y h s e d q p le

pub compare-describes : (l : Layout) (v : Variables) (c : Relation) (a b : Term) (y z : ℤ) (s : Closed) → fits_term l a ≡ true → fits_term l b ≡ true → AllZip IsNumber l.numbers v.numbers → FitsState (kinds_of l.numbers) s → value_of v a ≡ Gives y → value_of v b ≡ Gives z → relates c y z ≡ true → Describes (values v) s → Describes (values v) (compare c a b s)
unfolding compare
compare-describes l v c a b y z s f g w k m n t d =
    let p : AreProper (kinds_of l.numbers) (values v) = proper l v w in
    after-describes (kinds_of l.numbers) (values v) (values v) (closed s) (compare_terms c a b) (closed-fits (kinds_of l.numbers) s k) (closed-describes (kinds_of l.numbers) s (values v) k p.slots d) (λ r q i.
    let at = range_at-covers (kinds_of l.numbers) r (values v) q p i in
    needs-describes (values v) (range_of r a) y _ (range_of-covers l r v a y f w at m) (λ u e.
    needs-describes (values v) (range_of r b) z _ (range_of-covers l r v b z g w at n) (λ o h.
    related-describes (kinds_of l.numbers) (values v) p.slots c r (form_of a) (form_of b) u o y z (fits-ready (kinds_of l.numbers) r q) i (form_of-value l v a y f w m) (form_of-value l v b z g w n) e h t)))

-- ---- guards

compares : (l : Layout) → Compares compare compare_links join l (FitsState (kinds_of l.numbers))
compares l = record {
  compare_keeps = λ c a b s _ _ h. compare-fits (kinds_of l.numbers) c a b s h;
  links_keep = λ same p q s _ _ h. closed-fits (kinds_of l.numbers) s h;
  join_keeps = join-fits (kinds_of l.numbers);
}

tells : (l : Layout) (v : Variables) → AllZip IsNumber l.numbers v.numbers → Tells compare compare_links join l v (FitsState (kinds_of l.numbers)) (Describes (values v))
tells l v w = record {
  compare_tells = λ c a b x y s f g k m n t h. compare-describes l v c a b x y s f g w k m n t h;
  links_tell = λ same p q s _ _ k _ h. closed-describes (kinds_of l.numbers) s (values v) k (proper l v w).slots h;
  join_left = λ s t h k d. join-left (kinds_of l.numbers) (values v) s t (proper l v w).slots h k d;
  join_right = λ s t h k d. join-right (kinds_of l.numbers) (values v) s t (proper l v w).slots h k d;
}

pub assume-fits : (l : Layout) (g : Guard) (b : Bool) (s : Closed) → fits_guard l g ≡ true → FitsState (kinds_of l.numbers) s → FitsState (kinds_of l.numbers) (assume g b s)
unfolding assume
assume-fits l g b s f h = assumed-fits compare compare_links join l (FitsState (kinds_of l.numbers)) (compares l) g b s f h

pub assume-describes : (l : Layout) (v : Variables) (g : Guard) (b : Bool) (s : Closed) → AllZip IsNumber l.numbers v.numbers → fits_guard l g ≡ true → FitsState (kinds_of l.numbers) s → truth_of v g ≡ Gives b → Describes (values v) s → Describes (values v) (assume g b s)
unfolding assume
assume-describes l v g b s w f k t h = assumed-covers compare compare_links join l v (FitsState (kinds_of l.numbers)) (Describes (values v)) (compares l) (tells l v w) g b s f k t h
