-- States that fit kinds, matrices that can be closed, and what closing makes of these.
use Rattle.std.specs.Prelude.{◌≡◌, ℕ, ◌<◌, ◌≤◌, ◌+◌, ◌*◌, ◌^◌, nat_eq, ℤ, pos, neg_ℤ, int_lt, ◌≤ℤ◌, ◌<ℤ◌, Option, Some, None, Bool, true, false, not, List, length, map, refl, cond}
use Rattle.std.proofs.Common.{arith, ap, sym, ◌∙◌, suc, zero, subst}
use Rattle.std.proofs.lemmas.Int.{ints}
use Rattle.std.proofs.lemmas.Bool.{and_parts, and_from, not-true, not-false, not_from_true, not_from_false}
use Rattle.std.proofs.lemmas.Bool.Decides.{Decides-int_eq, nat_tests}
use Rattle.std.proofs.lemmas.List.{length-take}
use Rattle.std.specs.Bool.{beq}
use Rattle.std.specs.Cmp.Lexicographic.{pointwise}
use Rattle.std.specs.Option.{option_eq}
use Rattle.std.specs.Ordering.{int_eq}
use Rattle.dbm_core.proofs.LimitLemmas.{zero-at_most}
use Rattle.dbm_core.specs.Half.{HalfMatrix, IsMatrix, entry, nodes}
use Rattle.dbm_core.specs.Limits.{HasZeroDiagonal, IsZeroAtMost}
use Rattle.dbm_core.specs.Same.{bools_Decide}
use Rattle.dbm_core.specs.Valuations.{IsSatisfiedBy}
use Rattle.dbm_core.specs.Weights.{AtMost}
use Rattle.dbm_close.proofs.CloseOfLemmas.{close_of-is, close_of-keeps, some_below-false}
use Rattle.dbm_close.specs.Close.{IsCloseOf, strong}
use Rattle.dbm_close.specs.CloseOf.{KeepsAll, close_of, some_below}
use Rattle.dbm_close.specs.Laws.{AreInSlots, IsMetBy}
use Rattle.dbm_close.specs.Steps.{cut}
use Rattle.dbm_close.specs.declared.closed.Closed.{Closed}
use Rattle.dbm_close.specs.declared.closed.Closed.TheVariants.{Empty, Matrix}
use Rattle.imp_slots.specs.Plain.{Numeric, Layout}
use Rattle.dom_octagon_meaning.specs.Covers.{fits_matrix, in_limits}
use Rattle.dom_octagon_meaning.specs.Operations.{kinds_of}
use Rattle.dom_octagon_meaning.specs.States.{unless_empty, closed}
use Rattle.base_values.proofs.Cases.{equal_test}

-- a matrix of these kinds that can be closed
pub record Ready (kinds : List Bool) (m : HalfMatrix) : Type 0 where
  pub matrix : IsMatrix m
  pub same_kinds : m.kinds ≡ kinds
  pub diagonal : IsZeroAtMost (nodes m) (entry m)

-- a matrix of these kinds within the limits of states
pub record FitsMatrix (kinds : List Bool) (m : HalfMatrix) : Type 0 where
  pub matrix : IsMatrix m
  pub same_kinds : m.kinds ≡ kinds
  pub diagonal : HasZeroDiagonal (nodes m) (entry m)
  pub limits : (i j : ℕ) → i < nodes m → j < nodes m → in_limits (entry m i j) ≡ true

abbrev pub FitsState : List Bool → Closed → Type 0
FitsState kinds Empty = Unit {0}
FitsState kinds (Matrix m) = FitsMatrix kinds m

-- the state describes the values x
abbrev pub Describes : (ℕ → ℤ) → Closed → Type 0
Describes x Empty = ⊥
Describes x (Matrix m) = IsSatisfiedBy m x

pub fits-ready : (kinds : List Bool) (m : HalfMatrix) → FitsMatrix kinds m → Ready kinds m
fits-ready kinds m h = record { matrix = h.matrix; same_kinds = h.same_kinds; diagonal = zero-at_most (nodes m) (entry m) h.diagonal }

-- ---- closing

by_test : (x : ℤ) (a b : Bool) → int_lt x (neg_ℤ (pos (2 ^ 64))) ≡ a → int_lt x (pos (2 ^ 64)) ≡ b → neg_ℤ (pos (2 ^ 64)) ≤ℤ x → in_limits (cond b (Some x) None) ≡ true
by_test x true b e f h = absurd (let l : x <ℤ neg_ℤ (pos (2 ^ 64)) = grind (arith, ints) in omega (arith, ints))
by_test x false false e f h = refl
by_test x false true e f h = rw (e, f) refl

cut-limits : (a : Option ℤ) → AtMost (Some (neg_ℤ (pos (2 ^ 64)))) a → in_limits (cut a) ≡ true
cut-limits None h = refl
cut-limits (Some x) h = by_test x _ _ refl refl h

close-fits_by : (kinds : List Bool) (m : HalfMatrix) (c : Closed) → m.kinds ≡ kinds → IsCloseOf m c → KeepsAll m c → FitsState kinds c
close-fits_by kinds m Empty e p k = tt
close-fits_by kinds m (Matrix r) e (s, p) k =
    let n : length r.kinds ≡ length m.kinds = ap length p.entries.same_kinds in
    record {
      matrix = p.entries.matrix;
      same_kinds = p.entries.same_kinds ∙ e;
      diagonal = k.limited.diagonal;
      limits = λ i j hi hj. (let li : i < nodes m = omega arith in let lj : j < nodes m = omega arith in
          ap in_limits (p.entries.entries i j li lj) ∙ cut-limits (strong s i j) (p.in_range i j li lj));
    }

pub close-fits : (kinds : List Bool) (m : HalfMatrix) → Ready kinds m → FitsState kinds (close_of m)
close-fits kinds m h = close-fits_by kinds m (close_of m) h.same_kinds (close_of-is m h.matrix h.diagonal) (close_of-keeps m h.matrix h.diagonal)

met-describes : (x : ℕ → ℤ) (c : Closed) → IsMetBy c x → Describes x c
met-describes x Empty h = h
met-describes x (Matrix r) h = h

pub close-describes : (kinds : List Bool) (m : HalfMatrix) (x : ℕ → ℤ) → Ready kinds m → AreInSlots kinds x → IsSatisfiedBy m x → Describes x (close_of m)
close-describes kinds m x h a s = met-describes x (close_of m) (((close_of-keeps m h.matrix h.diagonal).meaning x (subst (λ k. AreInSlots k x) (sym h.same_kinds) a)).0 s)

pub closed-fits : (kinds : List Bool) (s : Closed) → FitsState kinds s → FitsState kinds (closed s)
closed-fits kinds Empty h = tt
closed-fits kinds (Matrix m) h = close-fits kinds m (fits-ready kinds m h)

pub closed-describes : (kinds : List Bool) (s : Closed) (x : ℕ → ℤ) → FitsState kinds s → AreInSlots kinds x → Describes x s → Describes x (closed s)
closed-describes kinds Empty x h a d = d
closed-describes kinds (Matrix m) x h a d = close-describes kinds m x (fits-ready kinds m h) a d

pub after-fits : (kinds ks : List Bool) (s : Closed) (f : HalfMatrix → Closed) → FitsState kinds s → ((m : HalfMatrix) → FitsMatrix kinds m → FitsState ks (f m)) → FitsState ks (unless_empty s f)
after-fits kinds ks Empty f h g = tt
after-fits kinds ks (Matrix m) f h g = g m h

pub after-describes : (kinds : List Bool) (x y : ℕ → ℤ) (s : Closed) (f : HalfMatrix → Closed) → FitsState kinds s → Describes x s → ((m : HalfMatrix) → FitsMatrix kinds m → IsSatisfiedBy m x → Describes y (f m)) → Describes y (unless_empty s f)
after-describes kinds x y Empty f h d g = absurd d
after-describes kinds x y (Matrix m) f h d g = g m h d

-- ---- the test

pub some_below-none : (n : ℕ) (p : ℕ → Bool) → ((i : ℕ) → i < n → p i ≡ false) → some_below n p ≡ false
some_below-none zero p h = refl
some_below-none (suc n) p h = rw (h n (omega arith)) (some_below-none n p (λ i l. h i (omega arith)))

zero-true : (a : Option ℤ) → option_eq int_eq a (Some (pos 0)) ≡ true → a ≡ Some (pos 0)
zero-true None h = cc
zero-true (Some x) h = ap Some ((Decides-int_eq x (pos 0)).0 h)

true-zero : (a : Option ℤ) → a ≡ Some (pos 0) → option_eq int_eq a (Some (pos 0)) ≡ true
true-zero a e = rw e refl

pub eq-true : (a b : ℕ) → nat_eq a b ≡ true → a ≡ b
eq-true a b h = grind (arith, nat_tests)

pub kinds_few : (ks : List Numeric) → length (kinds_of ks) ≤ 16
kinds_few ks = omega (arith, length-take 16 (map (λ (k : Numeric). k.is_array) ks))

pub fits_matrix-true : (l : Layout) (m : HalfMatrix) → fits_matrix l m ≡ true → FitsMatrix (kinds_of l.numbers) m
fits_matrix-true l m h =
    let p = and_parts _ _ h in
    let q = and_parts _ _ p.1 in
    let r = and_parts _ _ q.1 in
    let k : m.kinds ≡ kinds_of l.numbers = (bools_Decide m.kinds (kinds_of l.numbers)).0 p.0 in
    let z : HasZeroDiagonal (nodes m) (entry m) = λ i hi. zero-true (entry m i i) (not-false _ (some_below-false (nodes m) (λ i. not (option_eq int_eq (entry m i i) (Some (pos 0)))) (not-true _ r.0) i hi)) in
    record {
      matrix = record {
        few = subst (λ ks. length ks ≤ 16) (sym k) (kinds_few l.numbers);
        fits = eq-true (length m.kept) (2 * (length m.kinds * (length m.kinds + 1))) q.0;
        diagonal = λ a la. (z (2 * a) (omega arith) ∙ sym (z (2 * a + 1) (omega arith)));
      };
      same_kinds = k;
      diagonal = z;
      limits = λ i j hi hj. not-false _ (some_below-false (nodes m) (λ j. not (in_limits (entry m i j))) (some_below-false (nodes m) (λ i. some_below (nodes m) (λ j. not (in_limits (entry m i j)))) (not-true _ r.1) i hi) j hj);
    }

pub true-fits_matrix : (l : Layout) (m : HalfMatrix) → FitsMatrix (kinds_of l.numbers) m → fits_matrix l m ≡ true
true-fits_matrix l m h =
    and_from (pointwise beq m.kinds (kinds_of l.numbers)) _ ((bools_Decide m.kinds (kinds_of l.numbers)).1 h.same_kinds)
    (and_from (nat_eq (length m.kept) (2 * (length m.kinds * (length m.kinds + 1)))) _ (equal_test (length m.kept) (2 * (length m.kinds * (length m.kinds + 1))) h.matrix.fits)
    (and_from (not (some_below (nodes m) (λ i. not (option_eq int_eq (entry m i i) (Some (pos 0)))))) _
    (not_from_false _ (some_below-none (nodes m) (λ i. not (option_eq int_eq (entry m i i) (Some (pos 0)))) (λ i l. not_from_true _ (true-zero (entry m i i) (h.diagonal i l)))))
    (not_from_false _ (some_below-none (nodes m) (λ i. some_below (nodes m) (λ j. not (in_limits (entry m i j)))) (λ i hi. some_below-none (nodes m) (λ j. not (in_limits (entry m i j))) (λ j hj. not_from_true _ (h.limits i j hi hj)))))))
