-- Valuations: what satisfies the matrices that the operations give.
use Rattle.std.specs.Prelude.{◌≡◌, ℕ, ◌<◌, ◌+◌, ◌-◌, ◌*◌, ◌/◌, ◌%◌, ℤ, pos, neg_ℤ, ◌-ℤ◌, ◌≤ℤ◌, Option, Some, Bool, cond, eqb, List, length, Result, Ok, Err, IfOk, refl}
use Rattle.std.proofs.Common.{arith, ap, sym, ◌∙◌, subst, inl, inr}
use Rattle.std.proofs.lemmas.Int.{ints}
use Rattle.std.proofs.lemmas.Bool.{cases_eq, eq-eqb, ne_eqb}
use Rattle.dbm_core.proofs.NodeLemmas.{flip-even, flip-odd, parity}
use Rattle.dbm_core.proofs.LowerLemmas.{hits, either_first, either_second, either_none, lowered-below}
use Rattle.dbm_core.proofs.WeightLemmas.{AtMost-trans, least-right, least-greatest}
use Rattle.dbm_core.specs.Half.{HalfMatrix, HasEntries, entry, nodes}
use Rattle.dbm_core.specs.Limits.{AreAtMost}
use Rattle.dbm_core.specs.Nodes.{flip}
use Rattle.dbm_core.specs.Operations.{unbounded, forgotten, lowered}
use Rattle.dbm_core.specs.Valuations.{node_value, Meets, IsSatisfiedBy, Covers, Frees, AgreeButAt, AddsBound}
use Rattle.dbm_core.specs.Weights.{AtMost}
use Rattle.base_values.proofs.Integers.{neg_twice}

pub node_value-even : (x : ℕ → ℤ) (i : ℕ) → i % 2 ≡ 0 → node_value x i ≡ x (i / 2)
unfolding node_value
node_value-even x i e = rw (eq-eqb (i % 2) 0 e) refl

pub node_value-odd : (x : ℕ → ℤ) (i : ℕ) → i % 2 ≡ 1 → node_value x i ≡ neg_ℤ (x (i / 2))
unfolding node_value
node_value-odd x i e = let n : i % 2 ≡ 0 → ⊥ = λ (f : i % 2 ≡ 0). omega arith in rw (ne_eqb (i % 2) 0 n) refl

pub node_value-flip : (x : ℕ → ℤ) (i : ℕ) → node_value x (flip i) ≡ neg_ℤ (node_value x i)
node_value-flip x i = elim (parity i) [
  | inl e ↦ let o : (i + 1) % 2 ≡ 1 = omega arith in let d : (i + 1) / 2 ≡ i / 2 = omega arith in
      ap (node_value x) (flip-even i e) ∙ node_value-odd x (i + 1) o ∙ ap (λ k. neg_ℤ (x k)) d ∙ sym (ap neg_ℤ (node_value-even x i e))
  | inr e ↦ let o : (i - 1) % 2 ≡ 0 = omega arith in let d : (i - 1) / 2 ≡ i / 2 = omega arith in
      ap (node_value x) (flip-odd i e) ∙ node_value-even x (i - 1) o ∙ ap x d ∙ neg_twice (x (i / 2)) ∙ sym (ap neg_ℤ (node_value-odd x i e))
]

-- the two nodes of slot k
pub node-plain : (x : ℕ → ℤ) (k : ℕ) → node_value x (2 * k) ≡ x k
node-plain x k = let e : (2 * k) % 2 ≡ 0 = omega arith in let d : (2 * k) / 2 ≡ k = omega arith in node_value-even x (2 * k) e ∙ ap x d

pub node-negative : (x : ℕ → ℤ) (k : ℕ) → node_value x (2 * k + 1) ≡ neg_ℤ (x k)
node-negative x k = let e : (2 * k + 1) % 2 ≡ 1 = omega arith in let d : (2 * k + 1) / 2 ≡ k = omega arith in node_value-odd x (2 * k + 1) e ∙ ap (λ n. neg_ℤ (x n)) d

-- ---- what satisfies a matrix, by its entries

pub Meets-below : (n : ℕ) (d e : ℕ → ℕ → Option ℤ) (x : ℕ → ℤ) → AreAtMost n d e → Meets n d x → Meets n e x
Meets-below n d e x a m i j hi hj = AtMost-trans (Some (node_value x j -ℤ node_value x i)) (d i j) (e i j) (m i j hi hj) (a i j hi hj)

pub Meets-entries : (kinds : List Bool) (f : ℕ → ℕ → Option ℤ) (m : HalfMatrix) (x : ℕ → ℤ) → HasEntries kinds f m → Meets (2 * length kinds) f x → IsSatisfiedBy m x
Meets-entries kinds f m x h p i j hi hj =
    let n : length m.kinds ≡ length kinds = ap length h.same_kinds in
    let li : i < 2 * length kinds = omega arith in
    let lj : j < 2 * length kinds = omega arith in
    subst (λ v. AtMost (Some (node_value x j -ℤ node_value x i)) v) (sym (h.entries i j li lj)) (p i j li lj)

pub Meets-from_entries : (kinds : List Bool) (f : ℕ → ℕ → Option ℤ) (m : HalfMatrix) (x : ℕ → ℤ) → HasEntries kinds f m → IsSatisfiedBy m x → Meets (2 * length kinds) f x
Meets-from_entries kinds f m x h p i j hi hj =
    let n : length m.kinds ≡ length kinds = ap length h.same_kinds in
    let li : i < nodes m = omega arith in
    let lj : j < nodes m = omega arith in
    subst (λ v. AtMost (Some (node_value x j -ℤ node_value x i)) v) (h.entries i j hi hj) (p i j li lj)

pub Covers-entries : (a : HalfMatrix) (f : ℕ → ℕ → Option ℤ) (m : HalfMatrix) → AreAtMost (nodes a) (entry a) f → HasEntries a.kinds f m → Covers a m
Covers-entries a f m l h x p = Meets-entries a.kinds f m x h (Meets-below (nodes a) (entry a) f x l p)

-- the other side of a join or a widening has as many nodes
pub Covers-other : (kinds : List Bool) (a : HalfMatrix) (f : ℕ → ℕ → Option ℤ) (m : HalfMatrix) → a.kinds ≡ kinds → AreAtMost (nodes a) (entry a) f → HasEntries kinds f m → Covers a m
Covers-other kinds a f m e l h = Covers-entries a f m l (subst (λ k. HasEntries k f m) (sym e) h)

-- a fact on the value of an Ok follows from another
pub entries-if_ok-then : {E : Type 0} (P Q : HalfMatrix → Type 0) (r : Result HalfMatrix E) → ((m : HalfMatrix) → P m → Q m) → IfOk r P → IfOk r Q
entries-if_ok-then P Q (Ok m) f p = f m p
entries-if_ok-then P Q (Err e) f p = tt

pub both_if_ok : {E : Type 0} (P Q R : HalfMatrix → Type 0) (r : Result HalfMatrix E) → ((m : HalfMatrix) → P m → Q m → R m) → IfOk r P → IfOk r Q → IfOk r R
both_if_ok P Q R (Ok m) f p q = f m p q
both_if_ok P Q R (Err e) f p q = tt

-- ---- no bounds

pub zero_apart : (y : ℤ) → AtMost (Some (y -ℤ y)) (Some (pos 0))
zero_apart y = omega (arith, ints)

pub unbounded-meets : (n : ℕ) (x : ℕ → ℤ) → Meets n unbounded x
unbounded-meets n x i j hi hj = elim (cases_eq i j) [
  | inl e ↦ rw (eq-eqb i j e) (subst (λ k. AtMost (Some (node_value x k -ℤ node_value x i)) (Some (pos 0))) e (zero_apart (node_value x i)))
  | inr e ↦ rw (ne_eqb i j e) tt
]

-- ---- a slot freed

pub node_value-agree : (k : ℕ) (x y : ℕ → ℤ) (i : ℕ) → AgreeButAt k x y → (i / 2 ≡ k → ⊥) → node_value x i ≡ node_value y i
unfolding node_value
node_value-agree k x y i a n = ap (λ v. cond (eqb (i % 2) 0) v (neg_ℤ v)) (a (i / 2) n)

same_apart : (y z : ℤ) → y -ℤ y ≡ z -ℤ z
same_apart y z = omega (arith, ints)

pub forgotten-meets : (d : ℕ → ℕ → Option ℤ) (n k : ℕ) (x y : ℕ → ℤ) → Meets n d x → AgreeButAt k x y → Meets n (forgotten d k) y
forgotten-meets d n k x y m a i j hi hj = elim (cases_eq i j) [
  | inl e ↦ rw (eq-eqb i j e) (subst (λ t. AtMost (Some (node_value y t -ℤ node_value y i)) (d i t)) e
      (subst (λ v. AtMost (Some v) (d i i)) (same_apart (node_value x i) (node_value y i)) (m i i hi hi)))
  | inr e ↦ rw (ne_eqb i j e) (elim (cases_eq (i / 2) k) [
    | inl p ↦ rw (eq-eqb (i / 2) k p) tt
    | inr p ↦ rw (ne_eqb (i / 2) k p) (elim (cases_eq (j / 2) k) [
      | inl q ↦ rw (eq-eqb (j / 2) k q) tt
      | inr q ↦ rw (ne_eqb (j / 2) k q)
          (subst (λ v. AtMost (Some (v -ℤ node_value y i)) (d i j)) (node_value-agree k x y j a q)
          (subst (λ v. AtMost (Some (node_value x j -ℤ v)) (d i j)) (node_value-agree k x y i a p) (m i j hi hj)))
    ])
  ])
]

pub Frees-entries : (a : HalfMatrix) (k : ℕ) (m : HalfMatrix) → HasEntries a.kinds (forgotten (entry a) k) m → Frees a k m
Frees-entries a k m h x y p q = Meets-entries a.kinds (forgotten (entry a) k) m y h (forgotten-meets (entry a) (nodes a) k x y p q)

-- ---- a bound added

mirror_apart : (x : ℕ → ℤ) (i j : ℕ) → node_value x (flip i) -ℤ node_value x (flip j) ≡ node_value x j -ℤ node_value x i
mirror_apart x i j = let f : node_value x (flip i) ≡ neg_ℤ (node_value x i) = node_value-flip x i in
    let g : node_value x (flip j) ≡ neg_ℤ (node_value x j) = node_value-flip x j in omega (arith, ints)

pub lowered-here : (d : ℕ → ℕ → Option ℤ) (i j : ℕ) (b : ℤ) → AtMost (lowered d i j b i j) (Some b)
unfolding lowered
lowered-here d i j b = rw (either_first i j (flip j) (flip i) i j refl refl) (least-right (d i j) (Some b))

pub lowered-meets : (d : ℕ → ℕ → Option ℤ) (n i j : ℕ) (b : ℤ) (x : ℕ → ℤ) → Meets n d x → (node_value x j -ℤ node_value x i) ≤ℤ b → Meets n (lowered d i j b) x
unfolding lowered
lowered-meets d n i j b x m l p q hp hq = elim (hits i j p q) [
  | inl k ↦ rw (either_first i j (flip j) (flip i) p q k.0 k.1) (least-greatest (Some (node_value x q -ℤ node_value x p)) (d p q) (Some b) (m p q hp hq)
      (subst (λ t. (node_value x q -ℤ node_value x t) ≤ℤ b) k.0 (subst (λ t. (node_value x t -ℤ node_value x i) ≤ℤ b) k.1 l)))
  | inr k ↦ elim (hits (flip j) (flip i) p q) [
    | inl r ↦ rw (either_second i j (flip j) (flip i) p q r.0 r.1) (least-greatest (Some (node_value x q -ℤ node_value x p)) (d p q) (Some b) (m p q hp hq)
        (subst (λ t. (node_value x q -ℤ node_value x t) ≤ℤ b) r.0 (subst (λ t. (node_value x t -ℤ node_value x (flip j)) ≤ℤ b) r.1
        (subst (λ v. v ≤ℤ b) (sym (mirror_apart x i j)) l))))
    | inr r ↦ rw (either_none i j (flip j) (flip i) p q k r) (m p q hp hq)
  ]
]

pub AddsBound-entries : (a : HalfMatrix) (i j : ℕ) (b : ℤ) (m : HalfMatrix) → i < nodes a → j < nodes a → HasEntries a.kinds (lowered (entry a) i j b) m → AddsBound a i j b m
AddsBound-entries a i j b m hi hj h x = (
  (λ p. let q : Meets (nodes a) (lowered (entry a) i j b) x = Meets-from_entries a.kinds (lowered (entry a) i j b) m x h p in (
    Meets-below (nodes a) (lowered (entry a) i j b) (entry a) x (lowered-below (entry a) i j b (nodes a)) q,
    AtMost-trans (Some (node_value x j -ℤ node_value x i)) (lowered (entry a) i j b i j) (Some b) (q i j hi hj) (lowered-here (entry a) i j b),
  )),
  (λ p. Meets-entries a.kinds (lowered (entry a) i j b) m x h (lowered-meets (entry a) (nodes a) i j b x p.0 p.1)),
)
