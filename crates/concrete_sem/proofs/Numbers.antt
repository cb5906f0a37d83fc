-- What is evaluated in variables of a layout is an integer of 64 bits.
use Rattle.std.specs.Prelude.{◌≡◌, ℕ, zero, suc, ◌^◌, ◌<◌, ◌≤◌, ℤ, pos, negsuc, ◌+ℤ◌, ◌-ℤ◌, ◌*ℤ◌, neg_ℤ, unsigned_abs, int_div, int_rem, List, [], ◌∷◌, length, slice_get, slice_index_or, slice_set, Option, Some, None, Bool, true, false, if◌then◌else◌, All}
use Rattle.std.specs.List.{AllZip}
use Rattle.std.specs.Int.{w64}
use Rattle.std.specs.Ordering.{int_eq}
use Rattle.std.proofs.Common.{refl, sym, subst, arith}
use Rattle.std.proofs.lemmas.Int.{rem_below, fits_signed_from_abs}
use Rattle.std.proofs.lemmas.Bool.{and_parts, ltb-true, not-true}
use Rattle.imp_slots.specs.Plain.{Numeric, Layout, Term, Literal, Slot, Length, Negative, Binary}
use Rattle.imp_slots.specs.Fits.{is_kind, fits_term}
use Rattle.imp_syntax.specs.declared.words.Operator.{Operator}
use Rattle.imp_syntax.specs.declared.words.Operator.TheVariants.{Add, Subtract, Multiply, Divide, Remainder}
use Rattle.imp_words.specs.declared.fault.FaultKind.{FaultKind}
use Rattle.imp_words.specs.declared.fault.FaultKind.TheVariants.{Overflow, Zero}
use Rattle.concrete_sem.specs.Values.{Number, Int, Array, Variables, Attempt, Gives, Faults, LacksInput, andthen, is_word, IsWord, as_int, as_array, number_at}
use Rattle.concrete_sem.specs.Evaluation.{word, quotient, combine, value_of}
use Rattle.concrete_sem.specs.Proper.{IsNumber, AreVariables}

pub gives_same : {A : Type 0} {a b : A} → Gives a ≡ Gives b → a ≡ b
gives_same h = cc

-- an attempt that gave something
pub record Given {A B : Type 0} (o : Attempt A) (f : A → Attempt B) (b : B) : Type 0 where
  pub value : A
  pub was : o ≡ Gives value
  pub gives : f value ≡ Gives b

pub given : {A B : Type 0} (o : Attempt A) (f : A → Attempt B) (b : B) → andthen o f ≡ Gives b → Given o f b
given (Gives a) f b e = record { value = a; was = refl; gives = e }
given (Faults k) f b e = absurd cc
given LacksInput f b e = absurd cc

pub word_of : (z : ℤ) → is_word z ≡ true → IsWord z
word_of (pos n) e = record { sfits = ltb-true n (2 ^ 63) e }
word_of (negsuc n) e = record { sfits = ltb-true n (2 ^ 63) e }

pub is_word_zero : IsWord (pos 0)
is_word_zero = word_of (pos 0) refl

word_if : (c : Bool) (x z : ℤ) (k : FaultKind) → is_word x ≡ c → (if c then Gives x else Faults k) ≡ Gives z → IsWord z
word_if true x z k i e = subst IsWord (gives_same e) (word_of x i)
word_if false x z k i e = absurd cc

pub word_gives : (x z : ℤ) → word x ≡ Gives z → IsWord z
word_gives x z e = word_if (is_word x) x z Overflow refl e

magnitude : (z : ℤ) → IsWord z → unsigned_abs z ≤ 2 ^ 63
magnitude (pos n) f = let h : n < 2 ^ 63 = f.sfits in omega arith
magnitude (negsuc n) f = let h : n < 2 ^ 63 = f.sfits in omega arith

not_zero : (y : ℤ) → int_eq y (pos 0) ≡ false → 0 < unsigned_abs y
not_zero (pos zero) e = absurd cc
not_zero (pos (suc n)) e = omega arith
not_zero (negsuc n) e = omega arith

quotient_by : (c : Bool) (x y z : ℤ) → (if c then Faults Zero else word (int_div x y)) ≡ Gives z → (c ≡ false) × IsWord z
quotient_by true x y z e = absurd cc
quotient_by false x y z e = (refl, word_gives (int_div x y) z e)

rem_word : (x y : ℤ) → IsWord y → 0 < unsigned_abs y → IsWord (int_rem x y)
rem_word x y f n =
    let k : unsigned_abs (int_rem x y) < unsigned_abs y = rem_below x y n in
    let m : unsigned_abs y ≤ 2 ^ 63 = magnitude y f in
    fits_signed_from_abs w64 (int_rem x y) (omega arith)

combine_gives : (o : Operator) (x y z : ℤ) → IsWord x → IsWord y → combine o x y ≡ Gives z → IsWord z
combine_gives Add x y z f g e = word_gives (x +ℤ y) z e
combine_gives Subtract x y z f g e = word_gives (x -ℤ y) z e
combine_gives Multiply x y z f g e = word_gives (x *ℤ y) z e
combine_gives Divide x y z f g e = (quotient_by (int_eq y (pos 0)) x y z e).1
combine_gives Remainder x y z f g e =
    let t = given (quotient x y) (λ q. Gives (int_rem x y)) z e in
    subst IsWord (gives_same t.gives) (rem_word x y g (not_zero y (quotient_by (int_eq y (pos 0)) x y t.value t.was).0))

-- Slots of a kind hold values of that kind.
pub slot_of : (k : Bool) (o : Option Numeric) → is_kind k o ≡ true → (n : Numeric) × (o ≡ Some n) × (n.is_array ≡ k)
slot_of true None e = absurd cc
slot_of false None e = absurd cc
slot_of true (Some n) e = (n, refl, e)
slot_of false (Some n) e = (n, refl, not-true n.is_array e)

pub int_is_word : (k : Numeric) (m : Number) → IsNumber k m → IsWord (as_int m)
int_is_word k (Int z) f = f.1
int_is_word k (Array zs) f = is_word_zero

none_is_word : All IsWord []
none_is_word k d h = absurd (omega arith)

pub array_is_words : (k : Numeric) (m : Number) → IsNumber k m → (length (as_array m) ≤ 1000000) × All IsWord (as_array m)
array_is_words k (Int z) f = (omega arith, none_is_word)
array_is_words k (Array zs) f = (f.1, f.2)

pub number_is : (ns : List Numeric) (ms : List Number) (x : ℕ) (k : Numeric) (d : Number) → AllZip IsNumber ns ms → slice_get ns x ≡ Some k → IsNumber k (slice_index_or ms x d)
number_is [] ms x k d a e = absurd cc
number_is (n ∷ ns) [] x k d a e = absurd a
number_is (n ∷ ns) (m ∷ ms) zero k d a e = let i : n ≡ k = cc in subst (λ n. IsNumber n m) i a.0
number_is (n ∷ ns) (m ∷ ms) (suc x) k d a e = number_is ns ms x k d a.1 e

pub numbers_kept : (ns : List Numeric) (ms : List Number) (x : ℕ) (k : Numeric) (m : Number) → AllZip IsNumber ns ms → slice_get ns x ≡ Some k → IsNumber k m → AllZip IsNumber ns (slice_set ms x m)
numbers_kept [] ms x k m a e f = absurd cc
numbers_kept (n ∷ ns) [] x k m a e f = absurd a
numbers_kept (n ∷ ns) (y ∷ ms) zero k m a e f = let i : n ≡ k = cc in (subst (λ n. IsNumber n m) (sym i) f, a.1)
numbers_kept (n ∷ ns) (y ∷ ms) (suc x) k m a e f = (a.0, numbers_kept ns ms x k m a.1 e f)

-- the slot x of this kind, in variables of the layout
pub at_slot : (cells : ℕ) (l : Layout) (v : Variables) (b : Bool) (x : ℕ) → AreVariables cells l v → is_kind b (slice_get l.numbers x) ≡ true → (k : Numeric) × (k.is_array ≡ b) × IsNumber k (number_at v x)
at_slot cells l v b x a e =
    let s = slot_of b (slice_get l.numbers x) e in
    (s.0, s.2, number_is l.numbers v.numbers x s.0 (Int (pos 0)) a.numbers s.1)

length_word : (n : ℕ) → n ≤ 1000000 → IsWord (pos n)
length_word n h = record { sfits = small n h }
  where
    small : (n : ℕ) → n ≤ 1000000 → n < 2 ^ 63
    small n h = omega arith

pub value_word : (cells : ℕ) (l : Layout) (v : Variables) → AreVariables cells l v → (e : Term) → fits_term l e ≡ true → (z : ℤ) → value_of v e ≡ Gives z → IsWord z
unfolding value_of fits_term
value_word cells l v a (Literal n) f z g = subst IsWord (gives_same g) (word_of (pos n) f)
value_word cells l v a (Slot x) f z g =
    let s = at_slot cells l v false x a f in subst IsWord (gives_same g) (int_is_word s.0 _ s.2)
value_word cells l v a (Length x) f z g =
    let s = at_slot cells l v true x a f in subst IsWord (gives_same g) (length_word _ (array_is_words s.0 _ s.2).0)
value_word cells l v a (Negative e) f z g =
    let t = given (value_of v e) (λ x. word (neg_ℤ x)) z g in word_gives (neg_ℤ t.value) z t.gives
value_word cells l v a (Binary o x y) f z g =
    let t = given (value_of v x) (λ x. andthen (value_of v y) (λ y. combine o x y)) z g in
    let u = given (value_of v y) (λ y. combine o t.value y) z t.gives in
    let k = and_parts (fits_term l x) (fits_term l y) f in
    combine_gives o t.value u.value z (value_word cells l v a x k.0 t.value t.was) (value_word cells l v a y k.1 u.value u.was) u.gives
