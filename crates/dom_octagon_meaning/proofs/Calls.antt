-- Layouts and calls: what a state describes stays described over entering and leaving, and states that fit stay so.
use Rattle.std.proofs.Common.{◌≡◌, refl, sym, ap, ◌∙◌, subst, ℕ, zero, suc, ◌<◌, ◌≤◌, ◌+◌, ◌*◌, ◌/◌, ◌%◌, nat_lt, ℤ, pos, neg_ℤ, ◌-ℤ◌, Bool, true, false, ◌&&◌, ◌||◌, List, [], ◌∷◌, map, drop, length, slice_get, slice_index_or, Option, Some, None, arith, if◌then◌else◌, ◌⊎◌, inl, inr, eqb, cond}
use Rattle.std.proofs.lemmas.Int.{ints}
use Rattle.std.proofs.lemmas.Bool.{and_parts, cases_eq, cases_lt, eq-eqb, ne_eqb, or_cases}
use Rattle.std.proofs.lemmas.Bool.Decides.{nat_tests}
use Rattle.std.specs.List.{AllZip}
use Rattle.imp_slots.specs.Plain.{Numeric, Layout, Term, Literal, Slot, Length, Negative, Binary, Argument, IntArgument, ArrayArgument, LinkArgument, Returning, NumericResult, LinkResult, Invoke}
use Rattle.imp_slots.specs.Fits.{is_kind, is_int, is_array, is_side, fits_term, fits_arguments, fits_returning, fits_invoke}
use Rattle.concrete_sem.specs.Values.{Number, Int, Array, Variables, Gives, andthen, number_at, array_at}
use Rattle.concrete_sem.specs.Evaluation.{value_of, side_at}
use Rattle.concrete_sem.specs.Passing.{first_number, first_link, first_variables, passed, over, pass, back}
use Rattle.concrete_sem.specs.Proper.{IsNumber}
use Rattle.domain_laws.proofs.CheckLaws.{andthen-gives}
use Rattle.num_bounds.specs.Bounds.{Bounds, Within as Lies}
use Rattle.num_bounds.specs.Meaning.{Covers}
use Rattle.dbm_core.proofs.HalfLemmas.{entry-coherent, entry-outside}
use Rattle.dbm_core.proofs.NodeLemmas.{flip-half, flip-same, parity}
use Rattle.dbm_core.proofs.ValuationLemmas.{node_value-even, node_value-odd, node-plain, node-negative, zero_apart}
use Rattle.dbm_core.proofs.WeightLemmas.{AtMost-refl}
use Rattle.dbm_core.specs.Half.{HalfMatrix, IsMatrix, entry, nodes}
use Rattle.dbm_core.specs.Limits.{IsZeroAtMost}
use Rattle.dbm_core.specs.Nodes.{IsCoherent, flip}
use Rattle.dbm_core.specs.Tables.{matrix_of}
use Rattle.dbm_core.specs.Valuations.{IsSatisfiedBy, Meets, node_value}
use Rattle.dbm_core.specs.Weights.{AtMost}
use Rattle.dbm_close.specs.Laws.{AreInSlots}
use Rattle.dbm_close.specs.declared.closed.Closed.{Closed}
use Rattle.dom_numeric.specs.Measures.{measure}
use Rattle.dom_numeric.specs.Ranges.{if_range}
use Rattle.dom_numeric.proofs.Slots.{slot-measure, length-measure, kind-none}
use Rattle.dom_octagon_meaning.specs.declared.source.ArgumentSource.{ArgumentSource}
use Rattle.dom_octagon_meaning.specs.declared.source.ArgumentSource.TheVariants.{FromSlot, InRange}
use Rattle.dom_octagon_meaning.specs.Covers.{values}
use Rattle.dom_octagon_meaning.specs.Matrices.{meets_range, without}
use Rattle.dom_octagon_meaning.specs.Operations.{kinds_of, in_front, source_of, with_source, sources, copied, entered, meet_sources, entered_by, enter, init, returned, leave}
use Rattle.dom_octagon_meaning.specs.Ranges.{range_at, range_of}
use Rattle.dom_octagon_meaning.specs.States.{closed}
use Rattle.dom_octagon_meaning.proofs.Fitting.{Ready, FitsMatrix, FitsState, Describes, fits-ready, kinds_few, close-fits, close-describes, closed-fits, closed-describes, after-fits, after-describes}
use Rattle.dom_octagon_meaning.proofs.Matrices.{table-ready, table-satisfied, range-ready, range-satisfied, without-ready, without-satisfied}
use Rattle.dom_octagon_meaning.proofs.Ranges.{AreProper, proper, range_at-covers, range_of-covers}
use Rattle.dom_octagon_meaning.proofs.Steps.{others-agree, set-value}
use Rattle.concrete_sem.proofs.Numbers.{gives_same}

-- ---- all slots 0

pub zeros-coherent : (n : ℕ) → IsCoherent (λ i j. Some (pos 0)) n
zeros-coherent n i j hi hj = refl

pub zeros-diagonal : (n : ℕ) → IsZeroAtMost n (λ i j. Some (pos 0))
zeros-diagonal n i l = AtMost-refl (Some (pos 0))

init-ready : (l : Layout) → Ready (kinds_of l.numbers) (matrix_of (kinds_of l.numbers) (λ i j. Some (pos 0)))
init-ready l = table-ready (kinds_of l.numbers) (λ i j. Some (pos 0)) (kinds_few l.numbers) (zeros-coherent (2 * length (kinds_of l.numbers))) (zeros-diagonal (2 * length (kinds_of l.numbers)))

pub init-fits : (l : Layout) → FitsState (kinds_of l.numbers) (init l)
unfolding init
init-fits l = close-fits (kinds_of l.numbers) (matrix_of (kinds_of l.numbers) (λ i j. Some (pos 0))) (init-ready l)

first-zero : (k : Numeric) → measure (first_number k) ≡ pos 0
first-zero k = by k.is_array
  where
    by : (b : Bool) → measure (if b then Array [] else Int (pos 0)) ≡ pos 0
    by true = refl
    by false = refl

firsts-zero : (ks : List Numeric) (n : ℕ) → measure (slice_index_or (map first_number ks) n (Int (pos 0))) ≡ pos 0
firsts-zero [] n = refl
firsts-zero (k ∷ ks) zero = first-zero k
firsts-zero (k ∷ ks) (suc n) = firsts-zero ks n

-- a node of a slot that is 0
node-zero : (y : ℕ → ℤ) (i : ℕ) → y (i / 2) ≡ pos 0 → node_value y i ≡ pos 0
node-zero y i e = elim (parity i) [
  | inl p ↦ node_value-even y i p ∙ e
  | inr p ↦ node_value-odd y i p ∙ ap neg_ℤ e
]

no_difference : (a b : ℤ) → a ≡ pos 0 → b ≡ pos 0 → AtMost (Some (b -ℤ a)) (Some (pos 0))
no_difference a b e f = omega (arith, ints)

pub init-describes : (l : Layout) → AreInSlots (kinds_of l.numbers) (values (first_variables l)) → Describes (values (first_variables l)) (init l)
unfolding init first_variables
init-describes l slots = close-describes (kinds_of l.numbers) (matrix_of (kinds_of l.numbers) (λ i j. Some (pos 0))) (values (first_variables l)) (init-ready l) slots
    (table-satisfied (kinds_of l.numbers) (λ i j. Some (pos 0)) (values (first_variables l)) (kinds_few l.numbers) (zeros-coherent (2 * length (kinds_of l.numbers)))
    (λ i j hi hj. no_difference (node_value (values (first_variables l)) i) (node_value (values (first_variables l)) j)
    (node-zero (values (first_variables l)) i (firsts-zero l.numbers (i / 2))) (node-zero (values (first_variables l)) j (firsts-zero l.numbers (j / 2)))))

-- ---- sources

-- the source's value
abbrev IsFrom : (ℕ → ℤ) → ArgumentSource → ℤ → Type 0
IsFrom x (FromSlot s) z = x s ≡ z
IsFrom x (InRange r) z = Lies z r

abbrev SourceIs : (ℕ → ℤ) → Option ArgumentSource → ℤ → Type 0
SourceIs x None z = ⊥
SourceIs x (Some s) z = IsFrom x s z

-- sources of the first slots of a layout, with the arguments' values
abbrev AreFrom : (ℕ → ℤ) → List ArgumentSource → List Numeric → List Number → Type 0
AreFrom x [] ks [] = Unit {0}
AreFrom x [] ks (n ∷ ns) = ⊥
AreFrom x (s ∷ ss) [] ns = ⊥
AreFrom x (s ∷ ss) (k ∷ ks) [] = ⊥
AreFrom x (s ∷ ss) (k ∷ ks) (n ∷ ns) = IsFrom x s (measure n) × AreFrom x ss ks ns

abbrev ArgumentsFrom : (ℕ → ℤ) → Option (List ArgumentSource) → List Numeric → List Number → Type 0
ArgumentsFrom x None ks ns = ⊥
ArgumentsFrom x (Some ss) ks ns = AreFrom x ss ks ns

front-from : (x : ℕ → ℤ) (s : ArgumentSource) (o : Option (List ArgumentSource)) (k : Numeric) (ks : List Numeric) (n : Number) (ns : List Number) → IsFrom x s (measure n) → ArgumentsFrom x o ks ns → ArgumentsFrom x (in_front s o) (k ∷ ks) (n ∷ ns)
front-from x s None k ks n ns f h = absurd h
front-from x s (Some ss) k ks n ns f h = (f, h)

source-from : (x : ℕ → ℤ) (t : Option ArgumentSource) (o : Option (List ArgumentSource)) (k : Numeric) (ks : List Numeric) (n : Number) (ns : List Number) → SourceIs x t (measure n) → ArgumentsFrom x o ks ns → ArgumentsFrom x (with_source t o) (k ∷ ks) (n ∷ ns)
source-from x None o k ks n ns f h = absurd f
source-from x (Some s) o k ks n ns f h = front-from x s o k ks n ns f h

ranged : (x : ℕ → ℤ) (o : Option Bounds) (z : ℤ) → Covers o z → SourceIs x (if_range o (λ r. Some (InRange r))) z
ranged x None z h = absurd h
ranged x (Some r) z h = h

module _ (l : Layout) (m : HalfMatrix) (v : Variables) (numbers : AllZip IsNumber l.numbers v.numbers) (ranges : (k : ℕ) → Lies (values v k) (range_at m k)) where
  source_of-is : (e : Term) (z : ℤ) → fits_term l e ≡ true → value_of v e ≡ Gives z → SourceIs (values v) (source_of m e) z
  unfolding fits_term value_of
  source_of-is (Literal n) z f g = ranged (values v) (range_of m (Literal n)) z (range_of-covers l m v (Literal n) z f numbers ranges g)
  source_of-is (Slot x) z f g = slot-measure l v x z numbers f g
  source_of-is (Length a) z f g = length-measure l v a z numbers f g
  source_of-is (Negative e) z f g = ranged (values v) (range_of m (Negative e)) z (range_of-covers l m v (Negative e) z f numbers ranges g)
  source_of-is (Binary o a b) z f g = ranged (values v) (range_of m (Binary o a b)) z (range_of-covers l m v (Binary o a b) z f numbers ranges g)

  passed-numbers : (p u : Variables) → Gives p ≡ Gives u → (o : Option (List ArgumentSource)) (ks : List Numeric) → ArgumentsFrom (values v) o ks p.numbers → ArgumentsFrom (values v) o ks u.numbers
  passed-numbers p u e o ks h = let w : p ≡ u = gives_same e in subst (λ (y : Variables). ArgumentsFrom (values v) o ks y.numbers) w h

  arguments-from : (args : List Argument) (ks : List Numeric) (links : List (List ℕ)) (u : Variables) → fits_arguments l args ks links ≡ true → passed v args ≡ Gives u → ArgumentsFrom (values v) (sources m args) ks u.numbers
  arguments-from [] ks links u f g = passed-numbers (record { numbers = []; links = [] }) u g (Some []) ks tt
  arguments-from (IntArgument e ∷ more) [] links u f g = absurd (kind-none false (and_parts (is_kind false None) (fits_term l e && fits_arguments l more [] links) f).0)
  arguments-from (IntArgument e ∷ more) (k ∷ ks) links u f g =
      let p = and_parts (is_kind false (Some k)) (fits_term l e && fits_arguments l more ks links) f in
      let q = and_parts (fits_term l e) (fits_arguments l more ks links) p.1 in
      let z = andthen-gives (value_of v e) (λ z. andthen (passed v more) (λ (p : Variables). Gives (record p { numbers = Int z ∷ p.numbers }))) u g in
      let c = andthen-gives (passed v more) (λ (p : Variables). Gives (record p { numbers = Int z.0 ∷ p.numbers })) u z.2 in
      passed-numbers (record { numbers = Int z.0 ∷ c.0.numbers; links = c.0.links }) u c.2 (with_source (source_of m e) (sources m more)) (k ∷ ks)
      (source-from (values v) (source_of m e) (sources m more) k ks (Int z.0) c.0.numbers (source_of-is e z.0 q.0 z.1) (arguments-from more ks links c.0 q.1 c.1))
  arguments-from (ArrayArgument a ∷ more) [] links u f g = absurd (kind-none true (and_parts (is_kind true None) (is_array l a && fits_arguments l more [] links) f).0)
  arguments-from (ArrayArgument a ∷ more) (k ∷ ks) links u f g =
      let p = and_parts (is_kind true (Some k)) (is_array l a && fits_arguments l more ks links) f in
      let q = and_parts (is_array l a) (fits_arguments l more ks links) p.1 in
      let c = andthen-gives (passed v more) (λ (p : Variables). Gives (record p { numbers = Array (array_at v a) ∷ p.numbers })) u g in
      passed-numbers (record { numbers = Array (array_at v a) ∷ c.0.numbers; links = c.0.links }) u c.2 (in_front (FromSlot a) (sources m more)) (k ∷ ks)
      (front-from (values v) (FromSlot a) (sources m more) k ks (Array (array_at v a)) c.0.numbers (length-measure l v a (pos (length (array_at v a))) numbers q.0 refl) (arguments-from more ks links c.0 q.1 c.1))
  arguments-from (LinkArgument p ∷ more) ks links u f g =
      let q = and_parts (nat_lt 0 (length links)) (is_side l p && fits_arguments l more ks (drop 1 links)) f in
      let w = and_parts (is_side l p) (fits_arguments l more ks (drop 1 links)) q.1 in
      let c = andthen-gives (passed v more) (λ (t : Variables). Gives (record t { links = side_at v p ∷ t.links })) u g in
      passed-numbers (record { numbers = c.0.numbers; links = side_at v p ∷ c.0.links }) u c.2 (sources m more) ks (arguments-from more ks (drop 1 links) c.0 w.1 c.1)

-- a slot of the callee has its source's value, or 0
abbrev HasSource : (ℕ → ℤ) → Option ArgumentSource → ℤ → Type 0
HasSource x None z = z ≡ pos 0
HasSource x (Some s) z = IsFrom x s z

over-from : (x : ℕ → ℤ) (ss : List ArgumentSource) (ks : List Numeric) (ns : List Number) → AreFrom x ss ks ns → (j : ℕ) → HasSource x (slice_get ss j) (measure (slice_index_or (over ns (map first_number ks)) j (Int (pos 0))))
over-from x [] ks [] h j = firsts-zero ks j
over-from x [] ks (n ∷ ns) h j = absurd h
over-from x (s ∷ ss) [] ns h j = absurd h
over-from x (s ∷ ss) (k ∷ ks) [] h j = absurd h
over-from x (s ∷ ss) (k ∷ ks) (n ∷ ns) h zero = h.0
over-from x (s ∷ ss) (k ∷ ks) (n ∷ ns) h (suc j) = over-from x ss ks ns h.1 j

-- ---- entering

-- the node of the same sign of another slot
same_node : (i s : ℕ) → flip (2 * s + i % 2) ≡ 2 * s + flip i % 2
same_node i s = grind (arith, nat_tests)

copied-flip : (m : HalfMatrix) → IsMatrix m → (i j : ℕ) (s t : Option ArgumentSource) → copied m i j s t ≡ copied m (flip j) (flip i) t s
copied-flip m h i j (Some (FromSlot a)) (Some (FromSlot b)) = elim (within (2 * a + i % 2) (2 * b + j % 2) (nodes m)) [
  | inl p ↦ entry-coherent m h (2 * a + i % 2) (2 * b + j % 2) p.0 p.1 ∙ ap (λ k. entry m k (flip (2 * a + i % 2))) (same_node j b) ∙ ap (λ k. entry m (2 * b + flip j % 2) k) (same_node i a)
  | inr p ↦ entry-outside m h (2 * a + i % 2) (2 * b + j % 2) p ∙ sym (entry-outside m h (2 * b + flip j % 2) (2 * a + flip i % 2) (turned p))
]
  where
    within : (p q n : ℕ) → ((p < n) × (q < n)) ⊎ ((n ≤ p) ⊎ (n ≤ q))
    within p q n = elim (cases_lt p n) [
      | inl l ↦ elim (cases_lt q n) [ inl k ↦ inl (l, k) | inr k ↦ inr (inr k) ]
      | inr l ↦ inr (inl l)
    ]

    small : (i : ℕ) → i % 2 < 2
    small i = omega arith

    past : (s i j : ℕ) → nodes m ≤ 2 * s + i % 2 → nodes m ≤ 2 * s + j % 2
    past s i j l = let p : i % 2 < 2 = small i in omega arith

    turned : (nodes m ≤ 2 * a + i % 2) ⊎ (nodes m ≤ 2 * b + j % 2) → (nodes m ≤ 2 * b + flip j % 2) ⊎ (nodes m ≤ 2 * a + flip i % 2)
    turned (inl l) = inr (past a i (flip i) l)
    turned (inr l) = inl (past b j (flip j) l)
copied-flip m h i j (Some (FromSlot a)) (Some (InRange r)) = refl
copied-flip m h i j (Some (FromSlot a)) None = refl
copied-flip m h i j (Some (InRange r)) (Some (FromSlot b)) = refl
copied-flip m h i j (Some (InRange r)) (Some (InRange q)) = refl
copied-flip m h i j (Some (InRange r)) None = refl
copied-flip m h i j None (Some (FromSlot b)) = refl
copied-flip m h i j None (Some (InRange r)) = refl
copied-flip m h i j None None = refl

pub entered-coherent : (m : HalfMatrix) → IsMatrix m → (ss : List ArgumentSource) (n : ℕ) → IsCoherent (entered m ss) n
entered-coherent m h ss n i j hi hj =
    ap (λ b. cond b (Some (pos 0)) (copied m i j (slice_get ss (i / 2)) (slice_get ss (j / 2)))) (flip-same i j)
    ∙ ap (λ v. cond (eqb (flip j) (flip i)) (Some (pos 0)) v)
    (copied-flip m h i j (slice_get ss (i / 2)) (slice_get ss (j / 2))
    ∙ ap (λ k. copied m (flip j) (flip i) (slice_get ss k) (slice_get ss (i / 2))) (sym (flip-half j))
    ∙ ap (λ k. copied m (flip j) (flip i) (slice_get ss (flip j / 2)) (slice_get ss k)) (sym (flip-half i)))

pub entered-diagonal : (m : HalfMatrix) (ss : List ArgumentSource) (n : ℕ) → IsZeroAtMost n (entered m ss)
entered-diagonal m ss n i l = rw (eq-eqb i i refl) (AtMost-refl (Some (pos 0)))

meet-ready : (kinds : List Bool) (m : HalfMatrix) (k : ℕ) (ss : List ArgumentSource) → Ready kinds m → Ready kinds (meet_sources m k ss)
meet-ready kinds m k [] h = h
meet-ready kinds m k (FromSlot x ∷ ss) h = meet-ready kinds m (k + 1) ss h
meet-ready kinds m k (InRange r ∷ ss) h = meet-ready kinds (meets_range m k r) (k + 1) ss (range-ready kinds m k r h)

pub next : (j k : ℕ) → k + 1 + j ≡ k + suc j
next j k = omega arith

meet-satisfied : (kinds : List Bool) (m : HalfMatrix) (x y : ℕ → ℤ) (k : ℕ) (ss : List ArgumentSource) → Ready kinds m → IsSatisfiedBy m y → ((j : ℕ) → HasSource x (slice_get ss j) (y (k + j))) → IsSatisfiedBy (meet_sources m k ss) y
meet-satisfied kinds m x y k [] h s f = s
meet-satisfied kinds m x y k (FromSlot a ∷ ss) h s f = meet-satisfied kinds m x y (k + 1) ss h s (λ j. subst (λ n. HasSource x (slice_get ss j) (y n)) (sym (next j k)) (f (suc j)))
meet-satisfied kinds m x y k (InRange r ∷ ss) h s f =
    let z : k + 0 ≡ k = omega arith in
    meet-satisfied kinds (meets_range m k r) x y (k + 1) ss (range-ready kinds m k r h) (range-satisfied kinds m k r y h s (subst (λ n. Lies (y n) r) z (f 0)))
    (λ j. subst (λ n. HasSource x (slice_get ss j) (y n)) (sym (next j k)) (f (suc j)))

-- a node of a slot with a source in the caller
node-from : (x y : ℕ → ℤ) (i s : ℕ) → x s ≡ y (i / 2) → node_value x (2 * s + i % 2) ≡ node_value y i
node-from x y i s e = elim (parity i) [
  | inl p ↦ let q : 2 * s + i % 2 ≡ 2 * s = omega arith in ap (node_value x) q ∙ node-plain x s ∙ e ∙ sym (node_value-even y i p)
  | inr p ↦ let q : 2 * s + i % 2 ≡ 2 * s + 1 = omega arith in ap (node_value x) q ∙ node-negative x s ∙ ap neg_ℤ e ∙ sym (node_value-odd y i p)
]

copied-meets : (m : HalfMatrix) (x y : ℕ → ℤ) → IsMatrix m → IsSatisfiedBy m x → (i j : ℕ) (s t : Option ArgumentSource) → HasSource x s (y (i / 2)) → HasSource x t (y (j / 2)) → AtMost (Some (node_value y j -ℤ node_value y i)) (copied m i j s t)
copied-meets m x y h d i j (Some (FromSlot a)) (Some (FromSlot b)) e f =
    subst (λ v. AtMost (Some (v -ℤ node_value y i)) (entry m (2 * a + i % 2) (2 * b + j % 2))) (node-from x y j b f)
    (subst (λ v. AtMost (Some (node_value x (2 * b + j % 2) -ℤ v)) (entry m (2 * a + i % 2) (2 * b + j % 2))) (node-from x y i a e)
    (elim (cases_lt (2 * a + i % 2) (nodes m)) [
      | inl p ↦ elim (cases_lt (2 * b + j % 2) (nodes m)) [
        | inl q ↦ d (2 * a + i % 2) (2 * b + j % 2) p q
        | inr q ↦ subst (AtMost (Some (node_value x (2 * b + j % 2) -ℤ node_value x (2 * a + i % 2)))) (sym (entry-outside m h (2 * a + i % 2) (2 * b + j % 2) (inr q))) tt
      ]
      | inr p ↦ subst (AtMost (Some (node_value x (2 * b + j % 2) -ℤ node_value x (2 * a + i % 2)))) (sym (entry-outside m h (2 * a + i % 2) (2 * b + j % 2) (inl p))) tt
    ]))
copied-meets m x y h d i j (Some (FromSlot a)) (Some (InRange r)) e f = tt
copied-meets m x y h d i j (Some (FromSlot a)) None e f = tt
copied-meets m x y h d i j (Some (InRange r)) t e f = tt
copied-meets m x y h d i j None (Some t) e f = tt
copied-meets m x y h d i j None None e f = no_difference (node_value y i) (node_value y j) (node-zero y i e) (node-zero y j f)

entered-meets : (m : HalfMatrix) (x y : ℕ → ℤ) (ss : List ArgumentSource) (n : ℕ) → IsMatrix m → IsSatisfiedBy m x → ((j : ℕ) → HasSource x (slice_get ss j) (y j)) → Meets n (entered m ss) y
entered-meets m x y ss n h s f i j hi hj = elim (cases_eq i j) [
  | inl e ↦ rw (eq-eqb i j e) (subst (λ k. AtMost (Some (node_value y k -ℤ node_value y i)) (Some (pos 0))) e (zero_apart (node_value y i)))
  | inr e ↦ rw (ne_eqb i j e) (copied-meets m x y h s i j (slice_get ss (i / 2)) (slice_get ss (j / 2)) (f (i / 2)) (f (j / 2)))
]

entered-ready : (ks : List Numeric) (m : HalfMatrix) (ss : List ArgumentSource) → IsMatrix m → Ready (kinds_of ks) (meet_sources (matrix_of (kinds_of ks) (entered m ss)) 0 ss)
entered-ready ks m ss h = meet-ready (kinds_of ks) (matrix_of (kinds_of ks) (entered m ss)) 0 ss
    (table-ready (kinds_of ks) (entered m ss) (kinds_few ks) (entered-coherent m h ss (2 * length (kinds_of ks))) (entered-diagonal m ss (2 * length (kinds_of ks))))

entered_by-fits : (ks : List Numeric) (m : HalfMatrix) (o : Option (List ArgumentSource)) → IsMatrix m → FitsState (kinds_of ks) (entered_by m ks o)
entered_by-fits ks m None h = tt
entered_by-fits ks m (Some ss) h = close-fits (kinds_of ks) (meet_sources (matrix_of (kinds_of ks) (entered m ss)) 0 ss) (entered-ready ks m ss h)

pub enter-fits : (kinds : List Bool) (i : Invoke) (s : Closed) → FitsState kinds s → FitsState (kinds_of i.entering.layout.numbers) (enter i.entering s)
unfolding enter
enter-fits kinds i s h = after-fits kinds (kinds_of i.entering.layout.numbers) (closed s) (λ m. entered_by m i.entering.layout.numbers (sources m i.entering.arguments)) (closed-fits kinds s h)
    (λ m k. entered_by-fits i.entering.layout.numbers m (sources m i.entering.arguments) k.matrix)

entered_by-describes : (ks : List Numeric) (m : HalfMatrix) (x : ℕ → ℤ) (u : Variables) (o : Option (List ArgumentSource)) (ns : List Number) → IsMatrix m → IsSatisfiedBy m x → AreInSlots (kinds_of ks) (values u) → u.numbers ≡ over ns (map first_number ks) → ArgumentsFrom x o ks ns → Describes (values u) (entered_by m ks o)
entered_by-describes ks m x u None ns h s a e f = absurd f
entered_by-describes ks m x u (Some ss) ns h s a e f =
    let from : (j : ℕ) → HasSource x (slice_get ss j) (values u j) = λ j. subst (λ us. HasSource x (slice_get ss j) (measure (slice_index_or us j (Int (pos 0))))) (sym e) (over-from x ss ks ns f j) in
    let first : (j : ℕ) → HasSource x (slice_get ss j) (values u (0 + j)) = λ j. (let z : j ≡ 0 + j = omega arith in subst (λ n. HasSource x (slice_get ss j) (values u n)) z (from j)) in
    let c : IsCoherent (entered m ss) (2 * length (kinds_of ks)) = entered-coherent m h ss (2 * length (kinds_of ks)) in
    close-describes (kinds_of ks) (meet_sources (matrix_of (kinds_of ks) (entered m ss)) 0 ss) (values u) (entered-ready ks m ss h) a
    (meet-satisfied (kinds_of ks) (matrix_of (kinds_of ks) (entered m ss)) x (values u) 0 ss (table-ready (kinds_of ks) (entered m ss) (kinds_few ks) c (entered-diagonal m ss (2 * length (kinds_of ks))))
    (table-satisfied (kinds_of ks) (entered m ss) (values u) (kinds_few ks) c (entered-meets m x (values u) ss (2 * length (kinds_of ks)) h s from)) first)

pub enter-describes : (l : Layout) (i : Invoke) (s : Closed) (v u : Variables) → fits_invoke l i ≡ true → AllZip IsNumber l.numbers v.numbers → AreInSlots (kinds_of i.entering.layout.numbers) (values u) → FitsState (kinds_of l.numbers) s → pass i.entering v ≡ Gives u → Describes (values v) s → Describes (values u) (enter i.entering s)
unfolding enter fits_invoke pass
enter-describes l i s v u f w a h g d =
    let p = and_parts (fits_arguments l i.entering.arguments i.entering.layout.numbers i.entering.layout.links) (fits_returning i.entering.layout l i.returning) f in
    let c = andthen-gives (passed v i.entering.arguments) (λ (p : Variables). Gives (record { numbers = over p.numbers (map first_number i.entering.layout.numbers); links = over p.links (map first_link i.entering.layout.links) })) u g in
    let e : u.numbers ≡ over c.0.numbers (map first_number i.entering.layout.numbers) = sym (ap (λ (y : Variables). y.numbers) (gives_same c.2)) in
    let r : AreProper (kinds_of l.numbers) (values v) = proper l v w in
    after-describes (kinds_of l.numbers) (values v) (values u) (closed s) (λ m. entered_by m i.entering.layout.numbers (sources m i.entering.arguments)) (closed-fits (kinds_of l.numbers) s h) (closed-describes (kinds_of l.numbers) s (values v) h r.slots d) (λ m k t.
    entered_by-describes i.entering.layout.numbers m (values v) u (sources m i.entering.arguments) c.0.numbers k.matrix t a e
    (arguments-from l m v w (range_at-covers (kinds_of l.numbers) m (values v) k r t) i.entering.arguments i.entering.layout.numbers i.entering.layout.links c.0 p.0 c.1))

-- ---- leaving

returned-fits : (kinds : List Bool) (o : Option Returning) (m d : HalfMatrix) → FitsMatrix kinds m → FitsState kinds (returned o m d)
returned-fits kinds None m d h = h
returned-fits kinds (Some (NumericResult to from)) m d h = close-fits kinds (meets_range (without m to) to (range_at d from)) (range-ready kinds (without m to) to (range_at d from) (without-ready kinds m to (fits-ready kinds m h)))
returned-fits kinds (Some (LinkResult to from)) m d h = h

pub leave-fits : (kinds ks : List Bool) (o : Option Returning) (s t : Closed) → FitsState kinds s → FitsState ks t → FitsState kinds (leave o s t)
unfolding leave
leave-fits kinds ks o s t h k = after-fits kinds kinds (closed s) _ (closed-fits kinds s h) (λ m p. after-fits ks kinds (closed t) (returned o m) (closed-fits ks t k) (λ d q. returned-fits kinds o m d p))

result-kind : (c l : Layout) (to from : ℕ) → ((is_int c from && is_int l to) || (is_array c from && is_array l to)) ≡ true → (b : Bool) × (is_kind b (slice_get l.numbers to) ≡ true)
result-kind c l to from f = elim (or_cases (is_int c from && is_int l to) (is_array c from && is_array l to) f) [
  | inl e ↦ (false, (and_parts (is_int c from) (is_int l to) e).1)
  | inr e ↦ (true, (and_parts (is_array c from) (is_array l to) e).1)
]

returned-describes : (c l : Layout) (o : Option Returning) (m e : HalfMatrix) (v d : Variables) → fits_returning c l o ≡ true → AllZip IsNumber l.numbers v.numbers → AreInSlots (kinds_of l.numbers) (values (back o v d)) → FitsMatrix (kinds_of l.numbers) m → IsSatisfiedBy m (values v) →
    ((k : ℕ) → Lies (values d k) (range_at e k)) → Describes (values (back o v d)) (returned o m e)
unfolding back
returned-describes c l None m e v d f w a h s r = s
returned-describes c l (Some (NumericResult to from)) m e v d f w a h s r =
    let k = result-kind c l to from f in
    let q = fits-ready (kinds_of l.numbers) m h in
    close-describes (kinds_of l.numbers) (meets_range (without m to) to (range_at e from)) (values (back (Some (NumericResult to from)) v d)) (range-ready (kinds_of l.numbers) (without m to) to (range_at e from) (without-ready (kinds_of l.numbers) m to q)) a
    (range-satisfied (kinds_of l.numbers) (without m to) to (range_at e from) (values (back (Some (NumericResult to from)) v d)) (without-ready (kinds_of l.numbers) m to q)
    (without-satisfied (kinds_of l.numbers) m to (values v) (values (back (Some (NumericResult to from)) v d)) q s (others-agree v to (number_at d from)))
    (subst (λ z. Lies z (range_at e from)) (sym (set-value l v k.0 to (number_at d from) w k.1)) (r from)))
returned-describes c l (Some (LinkResult to from)) m e v d f w a h s r = s

pub leave-describes : (c l : Layout) (i : Invoke) (s t : Closed) (v d : Variables) → i.entering.layout ≡ c → fits_invoke l i ≡ true → AllZip IsNumber l.numbers v.numbers → AllZip IsNumber c.numbers d.numbers → AreInSlots (kinds_of l.numbers) (values (back i.returning v d)) →
    FitsState (kinds_of l.numbers) s → FitsState (kinds_of c.numbers) t → Describes (values v) s → Describes (values d) t → Describes (values (back i.returning v d)) (leave i.returning s t)
unfolding leave fits_invoke
leave-describes c l i s t v d e f w y a h k p q =
    let g = and_parts (fits_arguments l i.entering.arguments i.entering.layout.numbers i.entering.layout.links) (fits_returning i.entering.layout l i.returning) f in
    let r : AreProper (kinds_of l.numbers) (values v) = proper l v w in
    let o : AreProper (kinds_of c.numbers) (values d) = proper c d y in
    after-describes (kinds_of l.numbers) (values v) (values (back i.returning v d)) (closed s) _ (closed-fits (kinds_of l.numbers) s h) (closed-describes (kinds_of l.numbers) s (values v) h r.slots p) (λ m b n.
    after-describes (kinds_of c.numbers) (values d) (values (back i.returning v d)) (closed t) (returned i.returning m) (closed-fits (kinds_of c.numbers) t k) (closed-describes (kinds_of c.numbers) t (values d) k o.slots q) (λ z x j.
    returned-describes i.entering.layout l i.returning m z v d g.1 w a b n (range_at-covers (kinds_of c.numbers) z (values d) x o j)))
