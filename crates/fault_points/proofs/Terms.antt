-- The points of terms, guards and arguments are exact.
use Rattle.std.specs.Prelude.{◌≡◌, ℕ, List, [], ◌∷◌, ◌++◌, map, drop, slice_get, length, nat_lt, pos, neg_ℤ, Bool, true, false, not, ◌&&◌, if◌then◌else◌}
use Rattle.std.proofs.Common.{refl}
use Rattle.std.proofs.lemmas.Bool.{and_parts}
use Rattle.imp_slots.specs.Plain.{Numeric, Layout, Term, Literal, Slot, Length, Negative, Binary, Guard, Compare, CompareLinks, Not, And, Or, Argument, IntArgument, ArrayArgument, LinkArgument, Invoke}
use Rattle.imp_slots.specs.Fits.{fits_term, fits_guard, fits_arguments, fits_invoke, fits_returning, is_kind, is_array, is_side}
use Rattle.imp_words.specs.declared.fault.FaultKind.TheVariants.{Overflow}
use Rattle.concrete_sem.specs.Values.{Variables, Gives, andthen, is_word}
use Rattle.concrete_sem.specs.Evaluation.{value_of, truth_of, relates, word, combine}
use Rattle.concrete_sem.specs.Passing.{passed, pass}
use Rattle.concrete_sem.specs.Proper.{AreVariables}
use Rattle.concrete_sem.proofs.Numbers.{value_word}
use Rattle.fault_points.specs.Points.{point, unless, opposite_fits, operator_points, term_points, guard_points, argument_points}
use Rattle.fault_points.specs.Exact.{AreExact}
use Rattle.fault_points.proofs.Sequences.{nothing, then_exact, map_exact, one_point, unless_true, unless_exact, negated}
use Rattle.fault_points.proofs.Truths.{opposite_is, operator_exact}

module _ (cells : ℕ) (l : Layout) (v : Variables) (are : AreVariables cells l v) where
  pub term_exact : (e : Term) → fits_term l e ≡ true → AreExact v (term_points e) (value_of v e)
  unfolding value_of term_points fits_term
  term_exact (Literal n) f = nothing v (pos n)
  term_exact (Slot x) f = nothing v _
  term_exact (Length a) f = nothing v _
  term_exact (Negative e) f =
      then_exact v (term_points e) (point Overflow (opposite_fits e) ∷ []) (value_of v e) (λ x. word (neg_ℤ x)) (term_exact e f)
      (λ x t. one_point v Overflow (opposite_fits e) (is_word (neg_ℤ x)) (neg_ℤ x) (opposite_is v e x (value_word cells l v are e f x t) t))
  term_exact (Binary o a b) f =
      let k = and_parts (fits_term l a) (fits_term l b) f in
      then_exact v (term_points a) (term_points b ++ operator_points o a b) (value_of v a) (λ x. andthen (value_of v b) (λ y. combine o x y)) (term_exact a k.0)
      (λ x s. then_exact v (term_points b) (operator_points o a b) (value_of v b) (λ y. combine o x y) (term_exact b k.1)
      (λ y t. operator_exact v a b x y (value_word cells l v are a k.0 x s) (value_word cells l v are b k.1 y t) s t o))

  pub guard_exact : (g : Guard) → fits_guard l g ≡ true → AreExact v (guard_points g) (truth_of v g)
  unfolding truth_of guard_points fits_guard
  guard_exact (Compare r a b) f =
      let k = and_parts (fits_term l a) (fits_term l b) f in
      then_exact v (term_points a) (term_points b) (value_of v a) (λ x. andthen (value_of v b) (λ y. Gives (relates r x y))) (term_exact a k.0)
      (λ x s. map_exact v (term_points b) (value_of v b) (λ y. relates r x y) (term_exact b k.1))
  guard_exact (CompareLinks equal p q) f = nothing v _
  guard_exact (Not g) f = map_exact v (guard_points g) (truth_of v g) not (guard_exact g f)
  guard_exact (And g h) f =
      let k = and_parts (fits_guard l g) (fits_guard l h) f in
      then_exact v (guard_points g) _ (truth_of v g) (λ b. if b then truth_of v h else Gives false) (guard_exact g k.0) (by (guard_exact h k.1))
    where
      by : AreExact v (guard_points h) (truth_of v h) → (b : Bool) → truth_of v g ≡ Gives b → AreExact v (map (unless (Not g)) (guard_points h)) (if b then truth_of v h else Gives false)
      by k true t = unless_exact v (Not g) (guard_points h) (truth_of v h) (negated v g true false refl t) k
      by k false t = record { passes = λ a e. unless_true v (Not g) (guard_points h) (negated v g false true refl t); fails = λ j e. absurd (cc) }
  guard_exact (Or g h) f =
      let k = and_parts (fits_guard l g) (fits_guard l h) f in
      then_exact v (guard_points g) _ (truth_of v g) (λ b. if b then Gives true else truth_of v h) (guard_exact g k.0) (by (guard_exact h k.1))
    where
      by : AreExact v (guard_points h) (truth_of v h) → (b : Bool) → truth_of v g ≡ Gives b → AreExact v (map (unless g) (guard_points h)) (if b then Gives true else truth_of v h)
      by k true t = record { passes = λ a e. unless_true v g (guard_points h) t; fails = λ j e. absurd (cc) }
      by k false t = unless_exact v g (guard_points h) (truth_of v h) t k

  arguments_exact : (list : List Argument) (ns : List Numeric) (ls : List (List ℕ)) → fits_arguments l list ns ls ≡ true → AreExact v (argument_points list) (passed v list)
  unfolding argument_points
  arguments_exact [] ns ls f = nothing v _
  arguments_exact (IntArgument e ∷ more) ns ls f =
      let k = and_parts (is_kind false (slice_get ns 0)) (fits_term l e && fits_arguments l more (drop 1 ns) ls) f in
      let j = and_parts (fits_term l e) (fits_arguments l more (drop 1 ns) ls) k.1 in
      then_exact v (term_points e) (argument_points more) (value_of v e) _ (term_exact e j.0)
      (λ z t. map_exact v (argument_points more) (passed v more) _ (arguments_exact more (drop 1 ns) ls j.1))
  arguments_exact (ArrayArgument a ∷ more) ns ls f =
      let k = and_parts (is_kind true (slice_get ns 0)) (is_array l a && fits_arguments l more (drop 1 ns) ls) f in
      map_exact v (argument_points more) (passed v more) _ (arguments_exact more (drop 1 ns) ls (and_parts (is_array l a) (fits_arguments l more (drop 1 ns) ls) k.1).1)
  arguments_exact (LinkArgument p ∷ more) ns ls f = map_exact v (argument_points more) (passed v more) _ (arguments_exact more ns (drop 1 ls) (rest f))
    where
      rest : fits_arguments l (LinkArgument p ∷ more) ns ls ≡ true → fits_arguments l more ns (drop 1 ls) ≡ true
      rest f = (and_parts (is_side l p) (fits_arguments l more ns (drop 1 ls)) (and_parts (nat_lt 0 (length ls)) (is_side l p && fits_arguments l more ns (drop 1 ls)) f).1).1

  pub call_exact : (i : Invoke) → fits_invoke l i ≡ true → AreExact v (argument_points i.entering.arguments) (pass i.entering v)
  unfolding pass fits_invoke
  call_exact i f =
      map_exact v (argument_points i.entering.arguments) (passed v i.entering.arguments) _
      (arguments_exact i.entering.arguments i.entering.layout.numbers i.entering.layout.links (and_parts (fits_arguments l i.entering.arguments i.entering.layout.numbers i.entering.layout.links) (fits_returning i.entering.layout l i.returning) f).0)
