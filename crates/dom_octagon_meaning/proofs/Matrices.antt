-- Matrices before they are closed: that they can be, and what satisfies them.
use Rattle.std.specs.Prelude.{◌≡◌, ℕ, ◌<◌, ◌≤◌, ◌+◌, ◌*◌, ◌/◌, ◌%◌, eqb, not, ◌&&◌, ℤ, pos, neg_ℤ, ◌+ℤ◌, ◌-ℤ◌, ◌≤ℤ◌, Option, Some, None, Bool, true, false, if◌then◌else◌, List, length, refl}
use Rattle.std.proofs.Common.{arith, ap, sym, ◌∙◌, subst, inl, inr}
use Rattle.std.proofs.lemmas.Int.{ints}
use Rattle.std.proofs.lemmas.Bool.Decides.{nat_tests}
use Rattle.std.proofs.lemmas.Bool.{cases_eq, eq-eqb, ne_eqb}
use Rattle.dbm_core.proofs.HalfLemmas.{entry-coherent}
use Rattle.dbm_core.proofs.LimitLemmas.{IsZeroAtMost-entries, lowered-diagonal}
use Rattle.dbm_core.proofs.LowerLemmas.{lowered-coherent}
use Rattle.dbm_core.proofs.NodeLemmas.{flip_below, flip-half, parity}
use Rattle.dbm_core.proofs.OperationLemmas.{forgotten-coherent}
use Rattle.dbm_core.proofs.TableLemmas.{tables-have_entries}
use Rattle.dbm_core.proofs.ValuationLemmas.{Frees-entries, Meets-entries, lowered-meets, node_value-agree, node-negative, node-plain, node_value-even, node_value-flip, node_value-odd}
use Rattle.dbm_core.specs.Half.{HalfMatrix, HasEntries, entry, nodes}
use Rattle.dbm_core.specs.Limits.{IsZeroAtMost}
use Rattle.dbm_core.specs.Nodes.{IsCoherent, flip}
use Rattle.dbm_core.specs.Operations.{forgotten, lowered}
use Rattle.dbm_core.specs.Tables.{matrix_of}
use Rattle.dbm_core.specs.Valuations.{AgreeButAt, IsSatisfiedBy, Meets, node_value}
use Rattle.dbm_core.specs.Weights.{AtMost, add_weight}
use Rattle.num_bounds.specs.Bounds.{Bounds, Within as Lies}
use Rattle.dom_octagon_meaning.specs.declared.form.Form.{Form}
use Rattle.dom_octagon_meaning.specs.declared.form.Form.TheVariants.{Constant, Node}
use Rattle.dom_octagon_meaning.specs.Forms.{slot_form}
use Rattle.dom_octagon_meaning.specs.Matrices.{assigned, carried, is_beyond, meets_end, meets_range, shift, shifted, side_at_least, side_at_most, turned, with_bound, with_difference, with_equation, with_greatest, without}
use Rattle.dom_octagon_meaning.proofs.Fitting.{Ready}
use Rattle.base_values.proofs.Integers.{neg_twice}

-- the value of a form under the values x
abbrev pub form_value : (ℕ → ℤ) → Form → ℤ
form_value x (Constant c) = c
form_value x (Node i c) = node_value x i +ℤ c

-- the form, if there is one, has the value z
abbrev pub HasValue : (ℕ → ℤ) → Option Form → ℤ → Type 0
HasValue x None z = Unit {0}
HasValue x (Some f) z = form_value x f ≡ z

-- a table that is coherent and has a diagonal of 0 or less is that of a matrix that can be closed
pub table-ready : (kinds : List Bool) (f : ℕ → ℕ → Option ℤ) → length kinds ≤ 16 → IsCoherent f (2 * length kinds) → IsZeroAtMost (2 * length kinds) f → Ready kinds (matrix_of kinds f)
table-ready kinds f few c z =
    let h : HasEntries kinds f (matrix_of kinds f) = tables-have_entries kinds f few c in
    record { matrix = h.matrix; same_kinds = h.same_kinds; diagonal = IsZeroAtMost-entries kinds f (matrix_of kinds f) h z }

pub table-satisfied : (kinds : List Bool) (f : ℕ → ℕ → Option ℤ) (x : ℕ → ℤ) → length kinds ≤ 16 → IsCoherent f (2 * length kinds) → Meets (2 * length kinds) f x → IsSatisfiedBy (matrix_of kinds f) x
table-satisfied kinds f x few c m = Meets-entries kinds f (matrix_of kinds f) x (tables-have_entries kinds f few c) m

pub few : (kinds : List Bool) (m : HalfMatrix) → Ready kinds m → length m.kinds ≤ 16
few kinds m h = h.matrix.few

coherent : (kinds : List Bool) (m : HalfMatrix) → Ready kinds m → IsCoherent (entry m) (nodes m)
coherent kinds m h = entry-coherent m h.matrix

retyped : (kinds : List Bool) (m r : HalfMatrix) → Ready kinds m → Ready m.kinds r → Ready kinds r
retyped kinds m r h k = record { matrix = k.matrix; same_kinds = k.same_kinds ∙ h.same_kinds; diagonal = k.diagonal }

-- ---- one bound

pub bound-ready : (kinds : List Bool) (m : HalfMatrix) (i j : ℕ) (c : ℤ) → Ready kinds m → Ready kinds (with_bound m i j c)
unfolding with_bound
bound-ready kinds m i j c h = retyped kinds m (matrix_of m.kinds (lowered (entry m) i j c)) h
    (table-ready m.kinds (lowered (entry m) i j c) h.matrix.few (lowered-coherent (entry m) (nodes m) i j c (coherent kinds m h)) (lowered-diagonal (entry m) i j c (nodes m) h.diagonal))

pub bound-satisfied : (kinds : List Bool) (m : HalfMatrix) (i j : ℕ) (c : ℤ) (x : ℕ → ℤ) → Ready kinds m → IsSatisfiedBy m x → (node_value x j -ℤ node_value x i) ≤ℤ c → IsSatisfiedBy (with_bound m i j c) x
unfolding with_bound
bound-satisfied kinds m i j c x h s l =
    table-satisfied m.kinds (lowered (entry m) i j c) x h.matrix.few (lowered-coherent (entry m) (nodes m) i j c (coherent kinds m h)) (lowered-meets (entry m) (nodes m) i j c x s l)

greatest-satisfied : (kinds : List Bool) (m : HalfMatrix) (i : ℕ) (c : ℤ) (x : ℕ → ℤ) → Ready kinds m → IsSatisfiedBy m x → node_value x i ≤ℤ c → IsSatisfiedBy (with_greatest m i c) x
greatest-satisfied kinds m i c x h s l = bound-satisfied kinds m (flip i) i (c +ℤ c) x h s
    (let e : node_value x (flip i) ≡ neg_ℤ (node_value x i) = node_value-flip x i in omega (arith, ints))

-- ---- differences and equations

pub difference-ready : (kinds : List Bool) (m : HalfMatrix) (a b : Form) (k : ℤ) → Ready kinds m → Ready kinds (with_difference m a b k)
difference-ready kinds m (Constant c) (Constant d) k h = h
difference-ready kinds m (Constant c) (Node j d) k h = bound-ready kinds m (flip (flip j)) (flip j) _ h
difference-ready kinds m (Node i c) (Constant d) k h = bound-ready kinds m (flip i) i _ h
difference-ready kinds m (Node i c) (Node j d) k h = bound-ready kinds m j i _ h

pub difference-satisfied : (kinds : List Bool) (m : HalfMatrix) (a b : Form) (k : ℤ) (x : ℕ → ℤ) → Ready kinds m → IsSatisfiedBy m x → (form_value x a -ℤ form_value x b) ≤ℤ k → IsSatisfiedBy (with_difference m a b k) x
difference-satisfied kinds m (Constant c) (Constant d) k x h s l = s
difference-satisfied kinds m (Constant c) (Node j d) k x h s l = greatest-satisfied kinds m (flip j) ((k +ℤ d) -ℤ c) x h s
    (let e : node_value x (flip j) ≡ neg_ℤ (node_value x j) = node_value-flip x j in omega (arith, ints))
difference-satisfied kinds m (Node i c) (Constant d) k x h s l = greatest-satisfied kinds m i ((k +ℤ d) -ℤ c) x h s (omega (arith, ints))
difference-satisfied kinds m (Node i c) (Node j d) k x h s l = bound-satisfied kinds m j i ((k +ℤ d) -ℤ c) x h s (omega (arith, ints))

pub equation-ready : (kinds : List Bool) (m : HalfMatrix) (a b : Form) → Ready kinds m → Ready kinds (with_equation m a b)
equation-ready kinds m a b h = difference-ready kinds (with_difference m a b (pos 0)) b a (pos 0) (difference-ready kinds m a b (pos 0) h)

no_more : (a b : ℤ) → a ≡ b → (a -ℤ b) ≤ℤ pos 0
no_more a b e = omega (arith, ints)

pub equation-satisfied : (kinds : List Bool) (m : HalfMatrix) (a b : Form) (x : ℕ → ℤ) → Ready kinds m → IsSatisfiedBy m x → form_value x a ≡ form_value x b → IsSatisfiedBy (with_equation m a b) x
equation-satisfied kinds m a b x h s e = difference-satisfied kinds (with_difference m a b (pos 0)) b a (pos 0) x (difference-ready kinds m a b (pos 0) h)
    (difference-satisfied kinds m a b (pos 0) x h s (no_more (form_value x a) (form_value x b) e)) (no_more (form_value x b) (form_value x a) (sym e))

-- ---- ranges

if_ready : (kinds : List Bool) (b : Bool) (m r : HalfMatrix) → Ready kinds m → Ready kinds r → Ready kinds (if b then m else r)
if_ready kinds true m r h k = h
if_ready kinds false m r h k = k

if_satisfied : (b : Bool) (m r : HalfMatrix) (x : ℕ → ℤ) → IsSatisfiedBy m x → IsSatisfiedBy r x → IsSatisfiedBy (if b then m else r) x
if_satisfied true m r x h k = h
if_satisfied false m r x h k = k

pub end-ready : (kinds : List Bool) (m : HalfMatrix) (i : ℕ) (c : ℤ) → Ready kinds m → Ready kinds (meets_end m i c)
unfolding meets_end
end-ready kinds m i c h = if_ready kinds (is_beyond m.kinds i c) m (with_greatest m i c) h (bound-ready kinds m (flip i) i (c +ℤ c) h)

pub end-satisfied : (kinds : List Bool) (m : HalfMatrix) (i : ℕ) (c : ℤ) (x : ℕ → ℤ) → Ready kinds m → IsSatisfiedBy m x → node_value x i ≤ℤ c → IsSatisfiedBy (meets_end m i c) x
unfolding meets_end
end-satisfied kinds m i c x h s l = if_satisfied (is_beyond m.kinds i c) m (with_greatest m i c) x s (greatest-satisfied kinds m i c x h s l)

pub range-ready : (kinds : List Bool) (m : HalfMatrix) (k : ℕ) (r : Bounds) → Ready kinds m → Ready kinds (meets_range m k r)
range-ready kinds m k r h = end-ready kinds (meets_end m (2 * k) r.hi) (2 * k + 1) (neg_ℤ r.lo) (end-ready kinds m (2 * k) r.hi h)

pub negative-below : (y lo : ℤ) → lo ≤ℤ y → neg_ℤ y ≤ℤ neg_ℤ lo
negative-below y lo h = omega (arith, ints)

pub range-satisfied : (kinds : List Bool) (m : HalfMatrix) (k : ℕ) (r : Bounds) (x : ℕ → ℤ) → Ready kinds m → IsSatisfiedBy m x → Lies (x k) r → IsSatisfiedBy (meets_range m k r) x
range-satisfied kinds m k r x h s l = end-satisfied kinds (meets_end m (2 * k) r.hi) (2 * k + 1) (neg_ℤ r.lo) x (end-ready kinds m (2 * k) r.hi h)
    (end-satisfied kinds m (2 * k) r.hi x h s (subst (λ v. v ≤ℤ r.hi) (sym (node-plain x k)) l.1))
    (subst (λ v. v ≤ℤ neg_ℤ r.lo) (sym (node-negative x k)) (negative-below (x k) r.lo l.0))

pub most-ready : (kinds : List Bool) (m : HalfMatrix) (o : Option Form) (e : ℤ) → Ready kinds m → Ready kinds (side_at_most m o e)
most-ready kinds m None e h = h
most-ready kinds m (Some (Constant c)) e h = h
most-ready kinds m (Some (Node i c)) e h = end-ready kinds m i (e -ℤ c) h

pub most-satisfied : (kinds : List Bool) (m : HalfMatrix) (o : Option Form) (e z : ℤ) (x : ℕ → ℤ) → Ready kinds m → IsSatisfiedBy m x → HasValue x o z → z ≤ℤ e → IsSatisfiedBy (side_at_most m o e) x
most-satisfied kinds m None e z x h s v l = s
most-satisfied kinds m (Some (Constant c)) e z x h s v l = s
most-satisfied kinds m (Some (Node i c)) e z x h s v l = end-satisfied kinds m i (e -ℤ c) x h s (let w : node_value x i +ℤ c ≡ z = v in omega (arith, ints))

pub least-ready : (kinds : List Bool) (m : HalfMatrix) (o : Option Form) (e : ℤ) → Ready kinds m → Ready kinds (side_at_least m o e)
least-ready kinds m None e h = h
least-ready kinds m (Some (Constant c)) e h = h
least-ready kinds m (Some (Node i c)) e h = end-ready kinds m (flip i) (c -ℤ e) h

pub least-satisfied : (kinds : List Bool) (m : HalfMatrix) (o : Option Form) (e z : ℤ) (x : ℕ → ℤ) → Ready kinds m → IsSatisfiedBy m x → HasValue x o z → e ≤ℤ z → IsSatisfiedBy (side_at_least m o e) x
least-satisfied kinds m None e z x h s v l = s
least-satisfied kinds m (Some (Constant c)) e z x h s v l = s
least-satisfied kinds m (Some (Node i c)) e z x h s v l = end-satisfied kinds m (flip i) (c -ℤ e) x h s
    (let w : node_value x i +ℤ c ≡ z = v in let f : node_value x (flip i) ≡ neg_ℤ (node_value x i) = node_value-flip x i in omega (arith, ints))

-- ---- a slot freed, and a slot moved

pub without-ready : (kinds : List Bool) (m : HalfMatrix) (k : ℕ) → Ready kinds m → Ready kinds (without m k)
unfolding without
without-ready kinds m k h = retyped kinds m (matrix_of m.kinds (forgotten (entry m) k)) h
    (table-ready m.kinds (forgotten (entry m) k) h.matrix.few (forgotten-coherent (entry m) k (nodes m) (coherent kinds m h)) (λ i l. rw (eq-eqb i i refl) (h.diagonal i l)))

pub without-satisfied : (kinds : List Bool) (m : HalfMatrix) (k : ℕ) (x y : ℕ → ℤ) → Ready kinds m → IsSatisfiedBy m x → AgreeButAt k x y → IsSatisfiedBy (without m k) y
unfolding without
without-satisfied kinds m k x y h s a = Frees-entries m k (matrix_of m.kinds (forgotten (entry m) k))
    (tables-have_entries m.kinds (forgotten (entry m) k) h.matrix.few (forgotten-coherent (entry m) k (nodes m) (coherent kinds m h))) x y s a

eqb-half : (a k : ℕ) → eqb (flip a / 2) k ≡ eqb (a / 2) k
eqb-half a k = ap (λ h. eqb h k) (flip-half a)

-- whether a node is even
even-flip : (a : ℕ) → eqb (flip a % 2) 0 ≡ not (eqb (a % 2) 0)
even-flip a = grind (arith, nat_tests)

pub turned-flip : (k i a : ℕ) → turned k i (flip a) ≡ flip (turned k i a)
turned-flip k i a = ap (λ b. if b && not (eqb (i % 2) 0) then flip (flip a) else flip a) (eqb-half a k) ∙ by (eqb (a / 2) k && not (eqb (i % 2) 0))
  where
    by : (b : Bool) → (if b then flip (flip a) else flip a) ≡ flip (if b then flip a else a)
    by true = refl
    by false = refl

pub shift-flip : (k : ℕ) (c : ℤ) (a : ℕ) → shift k c (flip a) ≡ neg_ℤ (shift k c a)
shift-flip k c a =
    ap (λ b. if b then (if eqb (flip a % 2) 0 then c else neg_ℤ c) else pos 0) (eqb-half a k)
    ∙ ap (λ b. if eqb (a / 2) k then (if b then c else neg_ℤ c) else pos 0) (even-flip a)
    ∙ by (eqb (a / 2) k) (eqb (a % 2) 0)
  where
    by : (b e : Bool) → (if b then (if not e then c else neg_ℤ c) else pos 0) ≡ neg_ℤ (if b then (if e then c else neg_ℤ c) else pos 0)
    by true true = refl
    by true false = neg_twice c
    by false e = refl

pub turned-below : (k i a n : ℕ) → a < 2 * n → turned k i a < 2 * n
turned-below k i a n l = by (eqb (a / 2) k && not (eqb (i % 2) 0))
  where
    by : (b : Bool) → (if b then flip a else a) < 2 * n
    by true = flip_below a n l
    by false = l

shift_turned : (p q : ℤ) → q -ℤ p ≡ neg_ℤ p -ℤ neg_ℤ q
shift_turned p q = omega (arith, ints)

pub shifted-coherent : (d : ℕ → ℕ → Option ℤ) (k i : ℕ) (c : ℤ) (n : ℕ) → IsCoherent d (2 * n) → IsCoherent (shifted d k i c) (2 * n)
shifted-coherent d k i c n h a b ha hb =
    ap (λ v. add_weight v (Some (shift k c b -ℤ shift k c a))) (h (turned k i a) (turned k i b) (turned-below k i a n ha) (turned-below k i b n hb))
    ∙ ap (λ s. add_weight (d (flip (turned k i b)) (flip (turned k i a))) (Some s)) (shift_turned (shift k c a) (shift k c b))
    ∙ ap (λ u. add_weight (d u (flip (turned k i a))) (Some (neg_ℤ (shift k c a) -ℤ neg_ℤ (shift k c b)))) (sym (turned-flip k i b))
    ∙ ap (λ u. add_weight (d (turned k i (flip b)) u) (Some (neg_ℤ (shift k c a) -ℤ neg_ℤ (shift k c b)))) (sym (turned-flip k i a))
    ∙ ap (λ s. add_weight (d (turned k i (flip b)) (turned k i (flip a))) (Some (s -ℤ neg_ℤ (shift k c b)))) (sym (shift-flip k c a))
    ∙ ap (λ s. add_weight (d (turned k i (flip b)) (turned k i (flip a))) (Some (shift k c (flip a) -ℤ s))) (sym (shift-flip k c b))

still-zero : (v : Option ℤ) (s : ℤ) → AtMost v (Some (pos 0)) → AtMost (add_weight v (Some (s -ℤ s))) (Some (pos 0))
still-zero None s h = absurd h
still-zero (Some y) s h = omega (arith, ints)

pub shifted-diagonal : (d : ℕ → ℕ → Option ℤ) (k i : ℕ) (c : ℤ) (n : ℕ) → IsZeroAtMost (2 * n) d → IsZeroAtMost (2 * n) (shifted d k i c)
shifted-diagonal d k i c n h a l = still-zero (d (turned k i a) (turned k i a)) (shift k c a) (h (turned k i a) (turned-below k i a n l))

pub carried-ready : (kinds : List Bool) (m : HalfMatrix) (k i : ℕ) (c : ℤ) → Ready kinds m → Ready kinds (carried m k i c)
unfolding carried
carried-ready kinds m k i c h = retyped kinds m (matrix_of m.kinds (shifted (entry m) k i c)) h
    (table-ready m.kinds (shifted (entry m) k i c) h.matrix.few (shifted-coherent (entry m) k i c (length m.kinds) (coherent kinds m h)) (shifted-diagonal (entry m) k i c (length m.kinds) h.diagonal))

-- where y has the value of node i, plus c, at slot k, and x's values elsewhere
module _ (k i : ℕ) (c : ℤ) (x y : ℕ → ℤ) (own : i / 2 ≡ k) (agree : AgreeButAt k x y) (moved : y k ≡ node_value x i +ℤ c) where
  zero_more : (v : ℤ) → v ≡ v +ℤ pos 0
  zero_more v = omega (arith, ints)

  elsewhere : (a : ℕ) → (a / 2 ≡ k → ⊥) → node_value y a ≡ node_value x (turned k i a) +ℤ shift k c a
  elsewhere a n = rw (ne_eqb (a / 2) k n) (sym (node_value-agree k x y a agree n) ∙ zero_more (node_value x a))

  -- one of the slot's nodes, by the signs of i and of the node
  apart : (v : ℤ) → neg_ℤ (v +ℤ c) ≡ neg_ℤ v +ℤ neg_ℤ c
  apart v = omega (arith, ints)

  by_parts : (a b : ℕ) (s : ℤ) → turned k i a ≡ b → shift k c a ≡ s → node_value y a ≡ node_value x b +ℤ s → node_value y a ≡ node_value x (turned k i a) +ℤ shift k c a
  by_parts a b s e f g = g ∙ ap (λ t. node_value x t +ℤ s) (sym e) ∙ ap (λ t. node_value x (turned k i a) +ℤ t) (sym f)

  plain : (a : ℕ) → i % 2 ≡ 0 → turned k i a ≡ a
  plain a p = ap (λ b. if eqb (a / 2) k && not b then flip a else a) (eq-eqb (i % 2) 0 p) ∙ by (eqb (a / 2) k)
    where
      by : (b : Bool) → (if b && false then flip a else a) ≡ a
      by true = refl
      by false = refl

  other : (a : ℕ) → i % 2 ≡ 1 → a / 2 ≡ k → turned k i a ≡ flip a
  other a p e = let n : i % 2 ≡ 0 → ⊥ = λ z. absurd (omega arith) in
      ap (λ b. if eqb (a / 2) k && not b then flip a else a) (ne_eqb (i % 2) 0 n) ∙ ap (λ b. if b && true then flip a else a) (eq-eqb (a / 2) k e)

  up : (a : ℕ) → a / 2 ≡ k → a % 2 ≡ 0 → shift k c a ≡ c
  up a e r = ap (λ b. if b then (if eqb (a % 2) 0 then c else neg_ℤ c) else pos 0) (eq-eqb (a / 2) k e) ∙ ap (λ b. if b then c else neg_ℤ c) (eq-eqb (a % 2) 0 r)

  down : (a : ℕ) → a / 2 ≡ k → a % 2 ≡ 1 → shift k c a ≡ neg_ℤ c
  down a e r = let n : a % 2 ≡ 0 → ⊥ = λ z. absurd (omega arith) in
      ap (λ b. if b then (if eqb (a % 2) 0 then c else neg_ℤ c) else pos 0) (eq-eqb (a / 2) k e) ∙ ap (λ b. if b then c else neg_ℤ c) (ne_eqb (a % 2) 0 n)

  same_sign : i % 2 ≡ 0 → node_value x i ≡ x k
  same_sign p = node_value-even x i p ∙ ap x own

  other_sign : i % 2 ≡ 1 → node_value x i ≡ neg_ℤ (x k)
  other_sign p = node_value-odd x i p ∙ ap (λ n. neg_ℤ (x n)) own

  positive : (z : ℕ → ℤ) (a : ℕ) → a / 2 ≡ k → a % 2 ≡ 0 → node_value z a ≡ z k
  positive z a e r = node_value-even z a r ∙ ap z e

  negative : (z : ℕ → ℤ) (a : ℕ) → a / 2 ≡ k → a % 2 ≡ 1 → node_value z a ≡ neg_ℤ (z k)
  negative z a e r = node_value-odd z a r ∙ ap (λ n. neg_ℤ (z n)) e

  here : (a : ℕ) → a / 2 ≡ k → node_value y a ≡ node_value x (turned k i a) +ℤ shift k c a
  here a e = elim (parity i) [
    | inl p ↦ elim (parity a) [
      | inl r ↦ by_parts a a c (plain a p) (up a e r) (positive y a e r ∙ moved ∙ ap (λ v. v +ℤ c) (same_sign p ∙ sym (positive x a e r)))
      | inr r ↦ by_parts a a (neg_ℤ c) (plain a p) (down a e r)
          (negative y a e r ∙ ap neg_ℤ (moved ∙ ap (λ v. v +ℤ c) (same_sign p)) ∙ apart (x k) ∙ ap (λ v. v +ℤ neg_ℤ c) (sym (negative x a e r)))
    ]
    | inr p ↦ elim (parity a) [
      | inl r ↦ by_parts a (flip a) c (other a p e) (up a e r)
          (positive y a e r ∙ moved ∙ ap (λ v. v +ℤ c) (other_sign p ∙ sym (node_value-flip x a ∙ ap neg_ℤ (positive x a e r))))
      | inr r ↦ by_parts a (flip a) (neg_ℤ c) (other a p e) (down a e r)
          (negative y a e r ∙ ap neg_ℤ (moved ∙ ap (λ v. v +ℤ c) (other_sign p)) ∙ apart (neg_ℤ (x k)) ∙ ap (λ v. v +ℤ neg_ℤ c) (sym (node_value-flip x a ∙ ap neg_ℤ (negative x a e r))))
    ]
  ]

  at_node : (a : ℕ) → node_value y a ≡ node_value x (turned k i a) +ℤ shift k c a
  at_node a = elim (cases_eq (a / 2) k) [ inl e ↦ here a e | inr n ↦ elsewhere a n ]

  add_shift : (v : Option ℤ) (p q s t : ℤ) → AtMost (Some (q -ℤ p)) v → AtMost (Some ((q +ℤ t) -ℤ (p +ℤ s))) (add_weight v (Some (t -ℤ s)))
  add_shift None p q s t h = tt
  add_shift (Some w) p q s t h = omega (arith, ints)

  pub carried-satisfied : (kinds : List Bool) (m : HalfMatrix) → Ready kinds m → IsSatisfiedBy m x → IsSatisfiedBy (carried m k i c) y
  unfolding carried
  carried-satisfied kinds m h s = table-satisfied m.kinds (shifted (entry m) k i c) y h.matrix.few (shifted-coherent (entry m) k i c (length m.kinds) (coherent kinds m h))
      (λ a b ha hb. rw (at_node a, at_node b) (add_shift (entry m (turned k i a) (turned k i b)) (node_value x (turned k i a)) (node_value x (turned k i b)) (shift k c a) (shift k c b)
      (s (turned k i a) (turned k i b) (turned-below k i a (length m.kinds) ha) (turned-below k i b (length m.kinds) hb))))

-- ---- assignments

if_same : (kinds : List Bool) (x k : ℕ) (m r : HalfMatrix) → (x ≡ k → Ready kinds m) → Ready kinds r → Ready kinds (if eqb x k then m else r)
if_same kinds x k m r f g = elim (cases_eq x k) [ inl e ↦ rw (eq-eqb x k e) (f e) | inr n ↦ rw (ne_eqb x k n) g ]

pub assigned-ready : (kinds : List Bool) (m : HalfMatrix) (k : ℕ) (o : Option Form) (r : Bounds) → Ready kinds m → Ready kinds (assigned m k o r)
assigned-ready kinds m k None r h = range-ready kinds (without m k) k r (without-ready kinds m k h)
assigned-ready kinds m k (Some (Constant c)) r h = equation-ready kinds (without m k) (slot_form k) (Constant c) (without-ready kinds m k h)
assigned-ready kinds m k (Some (Node i c)) r h = if_same kinds (i / 2) k (carried m k i c) (with_equation (without m k) (slot_form k) (Node i c))
    (λ e. carried-ready kinds m k i c h) (equation-ready kinds (without m k) (slot_form k) (Node i c) (without-ready kinds m k h))

pub slot-value : (y : ℕ → ℤ) (k : ℕ) → form_value y (slot_form k) ≡ y k
slot-value y k = ap (λ v. v +ℤ pos 0) (node-plain y k) ∙ (let e : y k +ℤ pos 0 ≡ y k = omega (arith, ints) in e)

-- y has z at slot k and x's values elsewhere, z being the value of the expression under x
pub assigned-satisfied : (kinds : List Bool) (m : HalfMatrix) (k : ℕ) (o : Option Form) (r : Bounds) (x y : ℕ → ℤ) (z : ℤ) → Ready kinds m → IsSatisfiedBy m x → AgreeButAt k x y → y k ≡ z → HasValue x o z → Lies z r → IsSatisfiedBy (assigned m k o r) y
assigned-satisfied kinds m k None r x y z h s a e v l = range-satisfied kinds (without m k) k r y (without-ready kinds m k h) (without-satisfied kinds m k x y h s a) (subst (λ u. Lies u r) (sym e) l)
assigned-satisfied kinds m k (Some (Constant c)) r x y z h s a e v l =
    equation-satisfied kinds (without m k) (slot_form k) (Constant c) y (without-ready kinds m k h) (without-satisfied kinds m k x y h s a) (slot-value y k ∙ e ∙ sym v)
assigned-satisfied kinds m k (Some (Node i c)) r x y z h s a e v l = elim (cases_eq (i / 2) k) [
  | inl f ↦ rw (eq-eqb (i / 2) k f) (carried-satisfied k i c x y f a (e ∙ sym v) kinds m h s)
  | inr n ↦ rw (ne_eqb (i / 2) k n) (equation-satisfied kinds (without m k) (slot_form k) (Node i c) y (without-ready kinds m k h) (without-satisfied kinds m k x y h s a)
      (slot-value y k ∙ e ∙ sym v ∙ ap (λ w. w +ℤ c) (node_value-agree k x y i a n)))
]
