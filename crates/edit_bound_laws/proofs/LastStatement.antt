-- The two programs with the loop and the last statement.
use Rattle.std.proofs.Common.{◌≡◌, ℕ, zero, suc, ◌==◌, List, [], ◌∷◌, ◌++◌, Option, Some, None, false, if◌then◌else◌, reverse, refl, sym, ap, ◌∙◌, subst, ◌⊎◌, inl, inr, slice_get, arith}
use Rattle.imp_slots.specs.Plain.{Routine}
use Rattle.batch_meaning.specs.Places.{find, if_some}
use Rattle.base_values.proofs.Cases.{by_test}
use Rattle.cell_names.specs.declared.frame.Point.{Point}
use Rattle.cell_names.specs.declared.frame.Point.TheVariants.{Entry}
use Rattle.cell_rows.specs.Flat.{Flat, flat}
use Rattle.cell_kept_set.specs.Touched.{Edit}
use Rattle.cell_kept_set.specs.Places.{callee_name}
use Rattle.edit_bound_laws.specs.Flow.{FlowPoint, Start, Called, InThen, InElse, Head, Behind, statement_of, Node, node, Equation, equation, before, ends, in_block, chain_before, StartsBlockOf, Flows, on, out}
use Rattle.edit_bound_laws.specs.Bound.{IsChangedAt}
use Rattle.edit_bound_laws.specs.Examples.{replaces, loop_and, LastIsDeadEnd}

abbrev e : Edit
e = replaces false

abbrev OLD : List Routine
OLD = reverse (loop_and 2 5)

abbrev OneOfTwo : (xs : List (ℕ × Flat)) → ℕ → Type 0
OneOfTwo xs n = (find n xs ≡ None) ⊎ ((n ≡ 1) ⊎ (n ≡ 2))

two_keys : (x y : Flat) (n : ℕ) → OneOfTwo ((1, x) ∷ (2, y) ∷ []) n
two_keys x y n =
    by_test n 1 (λ c. ((if c then Some x else (if n == 2 then Some y else None)) ≡ None) ⊎ ((n ≡ 1) ⊎ (n ≡ 2))) (λ k. inr (inl k)) (λ _.
    by_test n 2 (λ c. ((if c then Some y else None) ≡ None) ⊎ ((n ≡ 1) ⊎ (n ≡ 2))) (λ k. inr (inr k)) (λ _. inl refl))

-- the old program has the statements 1 and 2
found : (n : ℕ) → OneOfTwo (flat OLD) n
found n = two_keys _ _ n

-- a fact of the points of a statement, where it holds at the two
at_points : (P : ℕ → Type 0) (g : Flat → Option Equation) (f : ℕ → FlowPoint) (q : Equation) → ((n : ℕ) → equation e.engine OLD (f n) ≡ if_some (find n (flat OLD)) g) → (n : ℕ) → equation e.engine OLD (f n) ≡ Some q → (n ≡ 1 → P n) → (n ≡ 2 → P n) → P n
at_points P g f q is n h one two = go (found n)
  where
    none : (o : Option Flat) → o ≡ None → if_some o g ≡ Some q → P n
    none None k i = absurd cc
    none (Some u) k i = absurd cc

    go : (find n (flat OLD) ≡ None) ⊎ ((n ≡ 1) ⊎ (n ≡ 2)) → P n
    go (inl k) = none (find n (flat OLD)) k (sym (is n) ∙ h)
    go (inr (inl k)) = one k
    go (inr (inr k)) = two k

changed : (a : FlowPoint) → IsChangedAt e a → statement_of a ≡ 2
changed Start h = absurd (h.2 h.1)
changed (Called n) h = at_points (λ n. n ≡ 2) _ Called h.0 (λ n. refl) n h.1 (λ k. let i = subst (λ m. IsChangedAt e (Called m)) k h in absurd (i.2 i.1)) (λ k. k)
changed (InThen n) h = at_points (λ n. n ≡ 2) _ InThen h.0 (λ n. refl) n h.1 (λ k. let i = subst (λ m. IsChangedAt e (InThen m)) k h in absurd (i.2 i.1)) (λ k. k)
changed (InElse n) h = at_points (λ n. n ≡ 2) _ InElse h.0 (λ n. refl) n h.1 (λ k. let i = subst (λ m. IsChangedAt e (InElse m)) k h in absurd (i.2 i.1)) (λ k. k)
changed (Head n) h = at_points (λ n. n ≡ 2) _ Head h.0 (λ n. refl) n h.1 (λ k. let i = subst (λ m. IsChangedAt e (Head m)) k h in absurd (i.2 i.1)) (λ k. k)
changed (Behind n) h = at_points (λ n. n ≡ 2) _ Behind h.0 (λ n. refl) n h.1 (λ k. let i = subst (λ m. IsChangedAt e (Behind m)) k h in absurd (i.2 i.1)) (λ k. k)

loops_of : Option Flat → List ℕ
loops_of None = []
loops_of (Some u) = u.text.loops

not-nil : (xs : List ℕ) (n : ℕ) → [] ≡ xs ++ n ∷ [] → ⊥
not-nil [] n e = absurd cc
not-nil (x ∷ xs) n e = absurd cc

-- The loop starts no block that stands behind it.
start_of_loop : (z : List ℕ) (first : FlowPoint) → StartsBlockOf OLD z 1 first → statement_of first ≡ 2 → ⊥
unfolding loops_of
start_of_loop z Start s k = absurd (omega arith)
start_of_loop z (Called n) s k =
    let f = subst (λ m. find m (flat OLD) ≡ Some s.2.0) k s.2.1 in
    let none : callee_name s.2.0 ≡ None = ap (λ o. if_some o callee_name) (sym f) in
    let no = sym none ∙ s.2.2 in
    absurd cc
start_of_loop z (InThen n) s k = s.2
start_of_loop z (InElse n) s k = s.2
start_of_loop z (Head n) s k = let nil : [] ≡ s.0.text.loops = ap loops_of s.1 in not-nil s.2.0.text.loops n (nil ∙ s.2.3)
start_of_loop z (Behind n) s k = s.2

rounds_before : (q : Equation) (p : Point) → equation e.engine OLD (Head 1) ≡ Some q → before q ≡ Some p → Entry ≡ p
rounds_before q p i j = let same = ap (λ (o : Option Equation). if_some o before) i in let is : Some Entry ≡ Some p = same ∙ j in cc

-- Control comes to a point of the other statement from no point of this one: from the point before it ..
from_before : (z : List ℕ) (c first : FlowPoint) (q : Equation) (p : Point) → equation e.engine OLD c ≡ Some q → before q ≡ Some p → StartsBlockOf OLD (chain_before (node z c)) (statement_of c) first → statement_of (in_block first p) ≡ 2 → statement_of c ≡ 2
from_before z Start first q p i j s k = let same = ap (λ (o : Option Equation). if_some o before) i ∙ j in absurd cc
from_before z (Called n) first q p i j s k = at_points (λ n. n ≡ 2) _ Called q (λ n. refl) n i (λ w. let one = subst (λ m. equation e.engine OLD (Called m) ≡ Some q) w i in absurd cc) (λ w. w)
from_before z (InThen n) first q p i j s k = at_points (λ n. n ≡ 2) _ InThen q (λ n. refl) n i (λ w. let one = subst (λ m. equation e.engine OLD (InThen m) ≡ Some q) w i in absurd cc) (λ w. w)
from_before z (InElse n) first q p i j s k = at_points (λ n. n ≡ 2) _ InElse q (λ n. refl) n i (λ w. let one = subst (λ m. equation e.engine OLD (InElse m) ≡ Some q) w i in absurd cc) (λ w. w)
from_before z (Head n) first q p i j s k =
    at_points (λ n. n ≡ 2) _ Head q (λ n. refl) n i
    (λ w.
    let one = subst (λ m. equation e.engine OLD (Head m) ≡ Some q) w i in
    let start = subst (λ m. StartsBlockOf OLD z m first) w s in
    absurd (start_of_loop z first start (subst (λ p. statement_of (in_block first p) ≡ 2) (sym (rounds_before q p one j)) k)))
    (λ w. w)
from_before z (Behind n) first q p i j s k =
    at_points (λ n. n ≡ 2) _ Behind q (λ n. refl) n i
    (λ w. let one = subst (λ m. equation e.engine OLD (Behind m) ≡ Some q) w i in let same = ap (λ (o : Option Equation). if_some o before) one ∙ j in absurd cc)
    (λ w. w)

only : (b a : Node) (i : ℕ) → slice_get (b ∷ []) i ≡ Some a → b ≡ a
only b a zero h = cc
only b a (suc i) h = absurd cc

abbrev ends_of : Node → Option Equation → List Node
ends_of b None = []
ends_of b (Some q) = ends b q

-- .. and from the ends of its blocks.
from_ends : (z : List ℕ) (c : FlowPoint) (q : Equation) (i : ℕ) (a : Node) → equation e.engine OLD c ≡ Some q → slice_get (ends (node z c) q) i ≡ Some a → statement_of a.point ≡ 2 → statement_of c ≡ 2
from_ends z Start q i a h g k = let same = ap (λ o. slice_get (ends_of (node z Start) o) i) h ∙ g in absurd cc
from_ends z (Called n) q i a h g k = at_points (λ n. n ≡ 2) _ Called q (λ n. refl) n h (λ w. let one = subst (λ m. equation e.engine OLD (Called m) ≡ Some q) w h in absurd cc) (λ w. w)
from_ends z (InThen n) q i a h g k = at_points (λ n. n ≡ 2) _ InThen q (λ n. refl) n h (λ w. let one = subst (λ m. equation e.engine OLD (InThen m) ≡ Some q) w h in absurd cc) (λ w. w)
from_ends z (InElse n) q i a h g k = at_points (λ n. n ≡ 2) _ InElse q (λ n. refl) n h (λ w. let one = subst (λ m. equation e.engine OLD (InElse m) ≡ Some q) w h in absurd cc) (λ w. w)
from_ends z (Head n) q i a h g k =
    at_points (λ n. n ≡ 2) _ Head q (λ n. refl) n h
    (λ w.
    let one = subst (λ m. equation e.engine OLD (Head m) ≡ Some q) w h in
    let at = subst (λ m. slice_get (ends (node z (Head m)) q) i ≡ Some a) w g in
    let is = only (node z (Head 1)) a i (ap (λ o. slice_get (ends_of (node z (Head 1)) o) i) one ∙ at) in
    let no : 1 ≡ 2 = subst (λ (b : Node). statement_of b.point ≡ 2) (sym is) k in
    absurd (omega arith))
    (λ w. w)
from_ends z (Behind n) q i a h g k =
    at_points (λ n. n ≡ 2) _ Behind q (λ n. refl) n h
    (λ w.
    let one = subst (λ m. equation e.engine OLD (Behind m) ≡ Some q) w h in
    let at = subst (λ m. slice_get (ends (node z (Behind m)) q) i ≡ Some a) w g in
    let is = only (node z (Head 1)) a i (ap (λ o. slice_get (ends_of (node z (Behind 1)) o) i) one ∙ at) in
    let no : 1 ≡ 2 = subst (λ (b : Node). statement_of b.point ≡ 2) (sym is) k in
    absurd (omega arith))
    (λ w. w)

last : (a b : Node) → statement_of a.point ≡ 2 → Flows e.engine OLD a b → statement_of b.point ≡ 2
last a b k (on _ first q p i j s) = from_before b.chain b.point first q p i j s k
last a b k (out _ _ q i h g) = from_ends b.chain b.point q i a h g k

pub last-dead-end : LastIsDeadEnd
last-dead-end = record { changed = changed; last = last }
