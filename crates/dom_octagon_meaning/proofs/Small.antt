-- Constants of linear forms are small.
use Rattle.std.proofs.Common.{◌≡◌, ap, ◌∙◌, subst, ℕ, ◌+◌, ◌*◌, ◌/◌, ◌%◌, ◌^◌, ℤ, pos, neg_ℤ, ◌+ℤ◌, ◌-ℤ◌, ◌≤ℤ◌, int_le, Bool, true, false, Option, Some, None, arith, if◌then◌else◌, eqb}
use Rattle.std.proofs.lemmas.Int.{ints, clamps}
use Rattle.std.proofs.lemmas.Bool.{eq-eqb, ne_eqb}
use Rattle.std.specs.Int.{int_max, int_min}
use Rattle.imp_syntax.specs.declared.words.Operator.{Operator}
use Rattle.imp_syntax.specs.declared.words.Operator.TheVariants.{Add, Subtract, Multiply, Divide, Remainder}
use Rattle.imp_slots.specs.Plain.{Term, Literal, Slot, Length, Negative, Binary}
use Rattle.num_bounds.specs.Bounds.{Bounds, IsRange, least, greatest}
use Rattle.num_bounds.specs.Operations.{word, range_between, sums, differences, negations}
use Rattle.dbm_core.proofs.NodeLemmas.{flip-flip, flip-even}
use Rattle.dbm_core.specs.Half.{HalfMatrix}
use Rattle.dbm_core.specs.Limits.{IsWithin}
use Rattle.dbm_core.specs.Nodes.{flip}
use Rattle.dom_numeric.specs.Ranges.{if_range, operation, range_by}
use Rattle.dom_octagon_meaning.specs.declared.form.Form.{Form}
use Rattle.dom_octagon_meaning.specs.declared.form.Form.TheVariants.{Constant, Node}
use Rattle.dom_octagon_meaning.specs.Claims.{FormsAreSmall, IsSmallForm}
use Rattle.dom_octagon_meaning.specs.Forms.{combined_form, form_of, if_form, negated, slot_form, sum_form}
use Rattle.dom_octagon_meaning.specs.Ranges.{range_at, range_of}
use Rattle.base_values.proofs.Integers.{at_most}
use Rattle.dom_octagon_meaning.proofs.Matrices.{negative-below}

-- the greatest value of a node of m; the least of it is the negative of the greatest of the other node
abbrev node_high : HalfMatrix → ℕ → ℤ
node_high m i = if eqb (i % 2) 0 then (range_at m (i / 2)).hi else neg_ℤ (range_at m (i / 2)).lo

abbrev node_low : HalfMatrix → ℕ → ℤ
node_low m i = neg_ℤ (node_high m (flip i))

-- the range is within what the form gives over the slots' ranges
abbrev Follows : HalfMatrix → Bounds → Form → Type 0
Follows m r (Constant c) = (c ≤ℤ r.lo) × (r.hi ≤ℤ c)
Follows m r (Node i c) = ((node_low m i +ℤ c) ≤ℤ r.lo) × (r.hi ≤ℤ (node_high m i +ℤ c))

abbrev FollowsIf : HalfMatrix → Option Bounds → Option Form → Type 0
FollowsIf m None o = Unit {0}
FollowsIf m (Some r) None = Unit {0}
FollowsIf m (Some r) (Some f) = Follows m r f

high-plain : (m : HalfMatrix) (k : ℕ) → node_high m (2 * k) ≡ (range_at m k).hi
high-plain m k = let e : (2 * k) % 2 ≡ 0 = omega arith in let d : (2 * k) / 2 ≡ k = omega arith in
    ap (λ b. if b then (range_at m ((2 * k) / 2)).hi else neg_ℤ (range_at m ((2 * k) / 2)).lo) (eq-eqb ((2 * k) % 2) 0 e) ∙ ap (λ n. (range_at m n).hi) d

high-flip : (m : HalfMatrix) (k : ℕ) → node_high m (flip (2 * k)) ≡ neg_ℤ (range_at m k).lo
high-flip m k = let f : flip (2 * k) ≡ 2 * k + 1 = flip-even (2 * k) (omega arith) in let n : (2 * k + 1) % 2 ≡ 0 → ⊥ = λ z. absurd (omega arith) in let d : (2 * k + 1) / 2 ≡ k = omega arith in
    ap (node_high m) f ∙ ap (λ b. if b then (range_at m ((2 * k + 1) / 2)).hi else neg_ℤ (range_at m ((2 * k + 1) / 2)).lo) (ne_eqb ((2 * k + 1) % 2) 0 n) ∙ ap (λ n. neg_ℤ (range_at m n).lo) d

slot-follows : (m : HalfMatrix) (k : ℕ) → Follows m (range_at m k) (slot_form k)
slot-follows m k = (
  low (node_high m (flip (2 * k))) (range_at m k).lo (high-flip m k),
  high (node_high m (2 * k)) (range_at m k).hi (high-plain m k),
)
  where
    low : (h l : ℤ) → h ≡ neg_ℤ l → (neg_ℤ h +ℤ pos 0) ≤ℤ l
    low h l e = omega (arith, ints)

    high : (h l : ℤ) → h ≡ l → l ≤ℤ (h +ℤ pos 0)
    high h l e = omega (arith, ints)

-- what is left of a range within 64 bits
between-part : (m : HalfMatrix) (lo hi a b : ℤ) (o : Option Form) → lo ≤ℤ a → b ≤ℤ hi → FollowsIf m (Some (record { lo = lo; hi = hi })) o → FollowsIf m (range_between a b) o
between-part m lo hi a b None p q h = by (int_le a b)
  where
    by : (t : Bool) → FollowsIf m (if t then Some (record { lo = a; hi = b }) else None) None
    by true = tt
    by false = tt
between-part m lo hi a b (Some (Constant c)) p q h = by (int_le a b)
  where
    by : (t : Bool) → FollowsIf m (if t then Some (record { lo = a; hi = b }) else None) (Some (Constant c))
    by true = let u : c ≤ℤ lo = h.0 in let v : hi ≤ℤ c = h.1 in (omega (arith, ints), omega (arith, ints))
    by false = tt
between-part m lo hi a b (Some (Node i c)) p q h = by (int_le a b)
  where
    by : (t : Bool) → FollowsIf m (if t then Some (record { lo = a; hi = b }) else None) (Some (Node i c))
    by true = (at_most (node_low m i +ℤ c) lo a h.0 p, at_most b hi (node_high m i +ℤ c) q h.1)
    by false = tt

word-follows : (m : HalfMatrix) (r : Bounds) (o : Option Form) → FollowsIf m (Some r) o → FollowsIf m (word r) o
word-follows m r o h = between-part m r.lo r.hi (int_max r.lo least) (int_min r.hi greatest) o (omega (arith, ints, clamps)) (omega (arith, ints, clamps)) h

sum-follows : (m : HalfMatrix) (r s : Bounds) (f g : Form) → Follows m r f → Follows m s g → FollowsIf m (Some (sums r s)) (sum_form f g)
sum-follows m r s (Constant c) (Constant d) p q = (add c r.lo d s.lo p.0 q.0, add r.hi c s.hi d p.1 q.1)
  where
    add : (x y z w : ℤ) → x ≤ℤ y → z ≤ℤ w → (x +ℤ z) ≤ℤ (y +ℤ w)
    add x y z w p q = omega (arith, ints)
sum-follows m r s (Constant c) (Node j d) p q = (low c r.lo (node_low m j) d s.lo p.0 q.0, high r.hi c s.hi (node_high m j) d p.1 q.1)
  where
    low : (c x n d y : ℤ) → c ≤ℤ x → (n +ℤ d) ≤ℤ y → (n +ℤ (c +ℤ d)) ≤ℤ (x +ℤ y)
    low c x n d y p q = omega (arith, ints)

    high : (x c y n d : ℤ) → x ≤ℤ c → y ≤ℤ (n +ℤ d) → (x +ℤ y) ≤ℤ (n +ℤ (c +ℤ d))
    high x c y n d p q = omega (arith, ints)
sum-follows m r s (Node i c) (Constant d) p q = (low (node_low m i) c r.lo d s.lo p.0 q.0, high r.hi (node_high m i) c s.hi d p.1 q.1)
  where
    low : (n c x d y : ℤ) → (n +ℤ c) ≤ℤ x → d ≤ℤ y → (n +ℤ (c +ℤ d)) ≤ℤ (x +ℤ y)
    low n c x d y p q = omega (arith, ints)

    high : (x n c y d : ℤ) → x ≤ℤ (n +ℤ c) → y ≤ℤ d → (x +ℤ y) ≤ℤ (n +ℤ (c +ℤ d))
    high x n c y d p q = omega (arith, ints)
sum-follows m r s (Node i c) (Node j d) p q = tt

negated-follows : (m : HalfMatrix) (r : Bounds) (f : Form) → Follows m r f → Follows m (negations r) (negated f)
negated-follows m r (Constant c) p = (negative-below c r.hi p.1, negative-below r.lo c p.0)
negated-follows m r (Node i c) p = (
  low (node_high m (flip (flip i))) (node_high m i) c r.hi (ap (node_high m) (flip-flip i)) p.1,
  high (node_high m (flip i)) c r.lo p.0,
)
  where
    low : (k h c x : ℤ) → k ≡ h → x ≤ℤ (h +ℤ c) → (neg_ℤ k +ℤ neg_ℤ c) ≤ℤ neg_ℤ x
    low k h c x e p = omega (arith, ints)

    high : (h c x : ℤ) → (neg_ℤ h +ℤ c) ≤ℤ x → neg_ℤ x ≤ℤ (h +ℤ neg_ℤ c)
    high h c x p = omega (arith, ints)

-- a difference is a sum with the other sign
difference-follows : (m : HalfMatrix) (r s : Bounds) (f g : Form) → Follows m r f → Follows m s g → FollowsIf m (Some (differences r s)) (sum_form f (negated g))
difference-follows m r s f g p q = subst (λ b. FollowsIf m (Some b) (sum_form f (negated g))) same (sum-follows m r (negations s) f (negated g) p (negated-follows m s g q))
  where
    less : (x y : ℤ) → x +ℤ neg_ℤ y ≡ x -ℤ y
    less x y = omega (arith, ints)

    same : sums r (negations s) ≡ differences r s
    same = λ i. record { lo = less r.lo s.hi i; hi = less r.hi s.lo i }

none-follows : (m : HalfMatrix) (o : Option Bounds) → FollowsIf m o None
none-follows m None = tt
none-follows m (Some r) = tt

combined-follows : (m : HalfMatrix) (o : Operator) (r s : Bounds) (f g : Form) → Follows m r f → Follows m s g → FollowsIf m (operation o r s) (combined_form o f g)
combined-follows m Add r s f g p q = word-follows m (sums r s) (sum_form f g) (sum-follows m r s f g p q)
combined-follows m Subtract r s f g p q = word-follows m (differences r s) (sum_form f (negated g)) (difference-follows m r s f g p q)
combined-follows m Multiply r s f g p q = none-follows m (operation Multiply r s)
combined-follows m Divide r s f g p q = none-follows m (operation Divide r s)
combined-follows m Remainder r s f g p q = none-follows m (operation Remainder r s)

both-follow : (m : HalfMatrix) (a b : Option Bounds) (f g : Option Form) (o : Operator) → FollowsIf m a f → FollowsIf m b g → FollowsIf m (if_range a (λ r. if_range b (operation o r))) (if_form f (λ c. if_form g (combined_form o c)))
both-follow m None b f g o p q = tt
both-follow m (Some r) None f g o p q = tt
both-follow m (Some r) (Some s) None g o p q = none-follows m (operation o r s)
both-follow m (Some r) (Some s) (Some c) None o p q = none-follows m (operation o r s)
both-follow m (Some r) (Some s) (Some c) (Some d) o p q = combined-follows m o r s c d p q

one-follows : (m : HalfMatrix) (a : Option Bounds) (f : Option Form) → FollowsIf m a f → FollowsIf m (if_range a (λ r. word (negations r))) (if_form f (λ c. Some (negated c)))
one-follows m None f p = tt
one-follows m (Some r) None p = none-follows m (word (negations r))
one-follows m (Some r) (Some c) p = word-follows m (negations r) (Some (negated c)) (negated-follows m r c p)

follows : (m : HalfMatrix) (t : Term) → FollowsIf m (range_of m t) (form_of t)
unfolding range_by form_of
follows m (Literal n) = (omega (arith, ints), omega (arith, ints))
follows m (Slot x) = slot-follows m x
follows m (Length a) = slot-follows m a
follows m (Negative t) = one-follows m (range_of m t) (form_of t) (follows m t)
follows m (Binary o a b) = both-follow m (range_of m a) (range_of m b) (form_of a) (form_of b) o (follows m a) (follows m b)

high-within : (m : HalfMatrix) (i : ℕ) → ((k : ℕ) → IsRange (range_at m k)) → (neg_ℤ (pos (2 ^ 63)) ≤ℤ node_high m i) × (node_high m i ≤ℤ pos (2 ^ 63))
high-within m i h = by (eqb (i % 2) 0)
  where
    r : IsRange (range_at m (i / 2))
    r = h (i / 2)

    by : (b : Bool) → (neg_ℤ (pos (2 ^ 63)) ≤ℤ (if b then (range_at m (i / 2)).hi else neg_ℤ (range_at m (i / 2)).lo)) × ((if b then (range_at m (i / 2)).hi else neg_ℤ (range_at m (i / 2)).lo) ≤ℤ pos (2 ^ 63))
    by true = let lo = r.low in let mid = r.ordered in let hi = r.high in (omega (arith, ints, lo, mid, hi), omega (arith, ints, lo, mid, hi))
    by false = let lo = r.low in let mid = r.ordered in let hi = r.high in (omega (arith, ints, lo, mid, hi), omega (arith, ints, lo, mid, hi))

small_by : (m : HalfMatrix) (r : Bounds) (o : Option Form) → ((k : ℕ) → IsRange (range_at m k)) → IsRange r → FollowsIf m (Some r) o → IsSmallForm o
small_by m r None h k f = tt
small_by m r (Some (Constant c)) h k f =
    let a : c ≤ℤ r.lo = f.0 in let b : r.hi ≤ℤ c = f.1 in let lo = k.low in let mid = k.ordered in let hi = k.high in
    (omega (arith, ints), omega (arith, ints))
small_by m r (Some (Node i c)) h k f =
    let p = high-within m i h in let q = high-within m (flip i) h in
    bound (node_high m i) (node_high m (flip i)) c r.lo r.hi f.0 f.1 p.0 p.1 q.0 q.1 k.low k.ordered k.high
  where
    bound : (u l c lo hi : ℤ) → (neg_ℤ l +ℤ c) ≤ℤ lo → hi ≤ℤ (u +ℤ c) → neg_ℤ (pos (2 ^ 63)) ≤ℤ u → u ≤ℤ pos (2 ^ 63) → neg_ℤ (pos (2 ^ 63)) ≤ℤ l → l ≤ℤ pos (2 ^ 63) → least ≤ℤ lo → lo ≤ℤ hi → hi ≤ℤ greatest → IsWithin (2 ^ 64) (Some c)
    bound u l c lo hi p q a b d e f g h = (omega (arith, ints), omega (arith, ints))

pub forms-are_small : FormsAreSmall
forms-are_small m t r h e k = small_by m r (form_of t) h k (subst (λ o. FollowsIf m o (form_of t)) e (follows m t))
