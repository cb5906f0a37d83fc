-- Comparisons of two operands that are not of one variable are assumed best.
use Rattle.std.proofs.Common.{◌≡◌, refl, sym, ap, ◌∙◌, subst, ℕ, ◌<◌, ◌^◌, ℤ, pos, ◌≤ℤ◌, neg_ℤ, Bool, true, false, List, [], ◌∷◌, length, Option, Some, arith}
use Rattle.std.proofs.lemmas.Int.{ints, clamps}
use Rattle.std.proofs.lemmas.Bool.{and_parts, not-true}
use Rattle.std.proofs.lemmas.List.{length-replicate}
use Rattle.std.proofs.lemmas.List.Elements.{All-nil}
use Rattle.std.specs.List.{AllZip}
use Rattle.base_values.proofs.Cases.{less_of}
use Rattle.imp_syntax.specs.declared.words.Relation.{Relation}
use Rattle.imp_slots.specs.Plain.{Layout, Term, Literal, Slot, Length, Negative, Binary, Guard, Compare, Effect, Assert, Does}
use Rattle.imp_slots.specs.Fits.{fits_term, fits_guard, fits_effect}
use Rattle.concrete_sem.specs.Values.{Variables, Heap, Gives, IsWord, as_int, as_array}
use Rattle.concrete_sem.specs.Evaluation.{value_of, truth_of, relates}
use Rattle.concrete_sem.specs.Effects.{effect_of}
use Rattle.concrete_sem.specs.Passing.{first_variables}
use Rattle.domain_laws.specs.Checks.{opposite}
use Rattle.domain_laws.proofs.CheckLaws.{relates-opposite}
use Rattle.num_bounds.specs.Bounds.{Bounds, IsRange, Within as Lies, greatest}
use Rattle.num_bounds.specs.Operations.{single, negations, word}
use Rattle.num_bounds.proofs.Ends.{word-some, true-le}
use Rattle.dom_numeric.specs.Ranges.{range_by}
use Rattle.dom_interval_meaning.specs.State.{Intervals, Empty, Within}
use Rattle.dom_interval_meaning.specs.Ranges.{range_at, range_of}
use Rattle.dom_interval_meaning.specs.Operations.{unless_empty, side_of, compare, compare_ranges, assume, does, post}
use Rattle.dom_interval_meaning.specs.Covers.{fits}
use Rattle.dom_interval_meaning.specs.declared.slot_range.SlotRange.{SlotRange}
use Rattle.dom_interval_meaning.proofs.SlotLaws.{FitsSlot, FitsRange, fits-range, at-fits, at-kind}
use Rattle.dom_interval_meaning.proofs.CompareLaws.{FitsState}
use Rattle.dom_interval_meaning.proofs.Laws.{fits-state, interval_laws}
use Rattle.dom_interval_precise.specs.Best.{Covers, IsBest}
use Rattle.dom_interval_precise.specs.Sets.{Where, After}
use Rattle.dom_interval_precise.specs.Claims.{IsNumeral, IsOperand, AreApart}
use Rattle.dom_interval_precise.proofs.Frames.{LieAll, as_length, linked, frame, first_frames, bare, length-measures, not-below, fill-at, fill-length, fits-length, frame-measures, lows, lows-lie, put, put-here, put-lies, put_at, put_at-here, put_at-else, put_at-lies}
use Rattle.dom_interval_precise.proofs.Tight.{HasSome, Takes, Tight, tight-smallest, tight-more}
use Rattle.dom_interval_precise.proofs.Own.{frame-of}
use Rattle.dom_interval_precise.proofs.Words.{word-fits}
use Rattle.dom_interval_precise.proofs.Stages.{Suits, related-each}

-- What a numeral is.
abbrev pub numeral : Term → ℤ
numeral (Literal n) = pos n
numeral (Slot x) = pos 0
numeral (Length a) = pos 0
numeral (Negative e) = pos 0
numeral (Binary o a b) = pos 0

pub numeral-range : (at : ℕ → Bounds) (t : Term) → IsNumeral t → range_by at t ≡ Some (single (numeral t))
unfolding range_by
numeral-range at (Literal n) i = refl
numeral-range at (Slot x) i = absurd i
numeral-range at (Length a) i = absurd i
numeral-range at (Negative e) i = absurd i
numeral-range at (Binary o a b) i = absurd i

pub numeral-value : (v : Variables) (t : Term) → IsNumeral t → value_of v t ≡ Gives (numeral t)
unfolding value_of
numeral-value v (Literal n) i = refl
numeral-value v (Slot x) i = absurd i
numeral-value v (Length a) i = absurd i
numeral-value v (Negative e) i = absurd i
numeral-value v (Binary o a b) i = absurd i

pub numeral-ends : (l : Layout) (t : Term) → IsNumeral t → fits_term l t ≡ true → (pos 0 ≤ℤ numeral t) × (numeral t ≤ℤ greatest)
unfolding fits_term
numeral-ends l (Literal n) i e = let lt = less_of n (2 ^ 63) e in (omega (arith, ints), omega (arith, ints))
numeral-ends l (Slot x) i e = absurd i
numeral-ends l (Length a) i e = absurd i
numeral-ends l (Negative t) i e = absurd i
numeral-ends l (Binary o a b) i e = absurd i

negative-range : (z : ℤ) → pos 0 ≤ℤ z → z ≤ℤ greatest → word (negations (single z)) ≡ Some (single (neg_ℤ z))
negative-range z p q =
    sym (word-some (negations (single z)) (neg_ℤ z) (neg_ℤ z) (omega (arith, ints, clamps)) (omega (arith, ints, clamps)) (true-le (neg_ℤ z) (neg_ℤ z) (omega (arith, ints))))

-- the range of an operand, and its value in a frame of our choice
abbrev pub operand_range : List SlotRange → Term → Bounds
operand_range rs (Literal n) = single (pos n)
operand_range rs (Slot x) = range_at rs x
operand_range rs (Length a) = range_at rs a
operand_range rs (Negative e) = single (neg_ℤ (numeral e))
operand_range rs (Binary o a b) = single (pos 0)

abbrev pub operand_value : (ℕ → ℤ) → Term → ℤ
operand_value f (Literal n) = pos n
operand_value f (Slot x) = f x
operand_value f (Length a) = f a
operand_value f (Negative e) = neg_ℤ (numeral e)
operand_value f (Binary o a b) = pos 0

pub range_of-operand : (l : Layout) (rs : List SlotRange) (t : Term) → IsOperand t → fits_term l t ≡ true → range_of rs t ≡ Some (operand_range rs t)
unfolding range_by fits_term
range_of-operand l rs (Literal n) i e = refl
range_of-operand l rs (Slot x) i e = refl
range_of-operand l rs (Length a) i e = refl
range_of-operand l rs (Negative t) i e = let k = numeral-ends l t i e in rw (numeral-range (range_at rs) t i) (negative-range (numeral t) k.0 k.1)
range_of-operand l rs (Binary o a b) i e = absurd i

pub linked-value : (l : Layout) (links : List (Option ℕ)) (rs : List SlotRange) (f : ℕ → ℤ) (t : Term) → IsOperand t → fits_term l t ≡ true → AllZip FitsSlot l.numbers rs → LieAll rs f → value_of (linked l links f) t ≡ Gives (operand_value f t)
unfolding value_of fits_term
linked-value l links rs f (Literal n) i e h w = refl
linked-value l links rs f (Slot x) i e h w = ap (λ m. Gives (as_int m)) (fill-at l.numbers f x false e)
linked-value l links rs f (Length a) i e h w =
    let kind = at-kind true l.numbers rs a h e in
    let low = not-below true (range_at rs a) (f a) (subst (λ b. FitsRange b (range_at rs a)) kind (at-fits l.numbers rs a h)) (w a) refl in
    ap (λ m. Gives (pos (length (as_array m)))) (fill-at l.numbers f a true e) ∙ ap (λ m. Gives (pos m)) (length-replicate (as_length (f a)) (pos 0)) ∙ ap Gives (length-measures (f a) low)
linked-value l links rs f (Negative t) i e h w =
    let k = numeral-ends l t i e in
    rw (numeral-value (linked l links f) t i) (word-fits (neg_ℤ (numeral t)) (neg_ℤ (numeral t)) refl (omega (arith, ints, k.1)) (omega (arith, ints, k.0)))
linked-value l links rs f (Binary o a b) i e h w = absurd i

pub value_of-operand : (l : Layout) (rs : List SlotRange) (f : ℕ → ℤ) (t : Term) → IsOperand t → fits_term l t ≡ true → AllZip FitsSlot l.numbers rs → LieAll rs f → value_of (frame l f) t ≡ Gives (operand_value f t)
value_of-operand l rs f t i e h w = linked-value l (first_variables l).links rs f t i e h w

-- an operand is a number or a slot's
pub operand-is : (rs : List SlotRange) (f : ℕ → ℤ) (t : Term) (z : ℤ) → IsOperand t → Lies z (operand_range rs t) → ((x : ℕ) → side_of t ≡ Some x → f x ≡ z) → operand_value f t ≡ z
operand-is rs f (Literal n) z i w g = let p : pos n ≤ℤ z = w.0 in let q : z ≤ℤ pos n = w.1 in omega (arith, ints)
operand-is rs f (Slot x) z i w g = g x refl
operand-is rs f (Length a) z i w g = g a refl
operand-is rs f (Negative t) z i w g = let p : neg_ℤ (numeral t) ≤ℤ z = w.0 in let q : z ≤ℤ neg_ℤ (numeral t) = w.1 in omega (arith, ints)
operand-is rs f (Binary o a b) z i w g = absurd i

pub operand_range-side : (rs : List SlotRange) (t : Term) (x : ℕ) → IsOperand t → side_of t ≡ Some x → range_at rs x ≡ operand_range rs t
operand_range-side rs (Literal n) x i e = cc
operand_range-side rs (Slot y) x i e = let same : y ≡ x = cc in ap (range_at rs) (sym same)
operand_range-side rs (Length a) x i e = let same : a ≡ x = cc in ap (range_at rs) (sym same)
operand_range-side rs (Negative t) x i e = cc
operand_range-side rs (Binary o a b) x i e = absurd i

pub operand_range-range : (l : Layout) (rs : List SlotRange) (t : Term) → IsOperand t → fits_term l t ≡ true → AllZip FitsSlot l.numbers rs → IsRange (operand_range rs t)
unfolding fits_term
operand_range-range l rs (Literal n) i e h = let lt = less_of n (2 ^ 63) e in record { low = omega (arith, ints); ordered = omega (arith, ints); high = omega (arith, ints) }
operand_range-range l rs (Slot x) i e h = fits-range _ (range_at rs x) (at-fits l.numbers rs x h)
operand_range-range l rs (Length a) i e h = fits-range _ (range_at rs a) (at-fits l.numbers rs a h)
operand_range-range l rs (Negative t) i e h = let k = numeral-ends l t i e in record { low = omega (arith, ints, k.1); ordered = omega (arith, ints); high = omega (arith, ints, k.0) }
operand_range-range l rs (Binary o a b) i e h = absurd i

-- numbers of our choice at which two operands have these values
abbrev pub two : Term → Term → ℤ → ℤ → (ℕ → ℤ) → ℕ → ℤ
two a b p q f = put_at (side_of b) q (put_at (side_of a) p f)

pub two-lie : (rs : List SlotRange) (a b : Term) (p q : ℤ) (f : ℕ → ℤ) → IsOperand a → IsOperand b → Lies p (operand_range rs a) → Lies q (operand_range rs b) → LieAll rs f → LieAll rs (two a b p q f)
two-lie rs a b p q f i j w u h =
    put_at-lies rs (side_of b) q (put_at (side_of a) p f) (λ x e. subst (λ r. Lies q r) (sym (operand_range-side rs b x j e)) u)
    (put_at-lies rs (side_of a) p f (λ x e. subst (λ r. Lies p r) (sym (operand_range-side rs a x i e)) w) h)

pub two-left : (rs : List SlotRange) (a b : Term) (p q : ℤ) (f : ℕ → ℤ) → IsOperand a → AreApart (side_of a) (side_of b) → Lies p (operand_range rs a) → operand_value (two a b p q f) a ≡ p
two-left rs a b p q f i apart w = operand-is rs (two a b p q f) a p i w (λ x e. put_at-else (side_of b) x q (put_at (side_of a) p f) (apart x e) ∙ put_at-here (side_of a) x p f e)

pub two-right : (rs : List SlotRange) (a b : Term) (p q : ℤ) (f : ℕ → ℤ) → IsOperand b → Lies q (operand_range rs b) → operand_value (two a b p q f) b ≡ q
two-right rs a b p q f i w = operand-is rs (two a b p q f) b q i w (λ x e. put_at-here (side_of b) x q (put_at (side_of a) p f) e)

truth-is : (v : Variables) (r : Relation) (a b : Term) (x y : ℤ) (sense : Bool) → value_of v a ≡ Gives x → value_of v b ≡ Gives y → relates r x y ≡ sense → truth_of v (Compare r a b) ≡ Gives sense
unfolding truth_of
truth-is v r a b x y sense e f g = rw e (rw f (ap Gives g))

module _ (l : Layout) (ls : List Layout) (rs : List SlotRange) (fit : AllZip FitsSlot l.numbers rs) (r c : Relation) (a b : Term) (sense : Bool) (means : (p q : ℤ) → relates c p q ≡ true → relates r p q ≡ sense) (i : IsOperand a) (j : IsOperand b) (apart : AreApart (side_of a) (side_of b)) (f : fits_term l a ≡ true) (g : fits_term l b ≡ true) where
  abbrev those : Heap → List Variables → Type 0
  those = Where (l ∷ ls) (Compare r a b) sense (Within rs)

  -- a frame of our choice in which the operands have these values is one of those
  chosen : (p q : ℤ) (at : ℕ → ℤ) → LieAll rs at → Lies p (operand_range rs a) → Lies q (operand_range rs b) → relates c p q ≡ true → those (bare []) (frame l (two a b p q at) ∷ first_frames ls)
  chosen p q at h w u t =
      let k = two-lie rs a b p q at i j w u h in
      let left = value_of-operand l rs (two a b p q at) a i f fit k ∙ ap Gives (two-left rs a b p q at i apart w) in
      let right = value_of-operand l rs (two a b p q at) b j g fit k ∙ ap Gives (two-right rs a b p q at j u) in
      (frame-of l ls [] rs (two a b p q at) (All-nil IsWord) fit k, truth-is (frame l (two a b p q at)) r a b p q sense left right (means p q t))

  takes : (x : ℕ) (p q z : ℤ) (at : ℕ → ℤ) → x < length l.numbers → LieAll rs at → Lies p (operand_range rs a) → Lies q (operand_range rs b) → relates c p q ≡ true → two a b p q at x ≡ z → Takes those x z
  takes x p q z at lt h w u t e =
      (bare [], frame l (two a b p q at), first_frames ls, chosen p q at h w u t, frame-measures l rs (two a b p q at) x (subst (λ n. x < n) (sym (fits-length l.numbers rs fit)) lt) fit (two-lie rs a b p q at i j w u h) ∙ e)

  suits : Suits (HasSome those (length l.numbers)) (length l.numbers) (Takes those) (side_of a) (side_of b) (operand_range rs a) (operand_range rs b) (λ p q. relates c p q ≡ true) rs
  suits =
      let low = lows-lie l.numbers rs fit in
      record {
        apart = apart;
        count = fits-length l.numbers rs fit;
        at_left = λ x e. operand_range-side rs a x i e;
        at_right = λ x e. operand_range-side rs b x j e;
        left_range = operand_range-range l rs a i f fit;
        right_range = operand_range-range l rs b j g fit;
        ordered = λ x. (at-fits l.numbers rs x fit).ordered;
        some = λ p q w u t. (bare [], frame l (two a b p q (lows rs)), first_frames ls, chosen p q (lows rs) low w u t, fill-length l.numbers (two a b p q (lows rs)));
        left = λ x p q e lt w u t. takes x p q p (lows rs) lt low w u t (put_at-else (side_of b) x q (put_at (side_of a) p (lows rs)) (apart x e) ∙ put_at-here (side_of a) x p (lows rs) e);
        right = λ x p q e lt w u t. takes x p q q (lows rs) lt low w u t (put_at-here (side_of b) x q (put_at (side_of a) p (lows rs)) e);
        other = λ x p q z e d lt w u t k.
            takes x p q z (put x z (lows rs)) lt (put-lies rs x z (lows rs) k low) w u t
            (put_at-else (side_of b) x q (put_at (side_of a) p (put x z (lows rs))) d ∙ put_at-else (side_of a) x p (put x z (lows rs)) e ∙ put-here x z (lows rs));
      }

  compared-tight : Tight those (length l.numbers) (compare_ranges c a b rs)
  compared-tight =
      rw (range_of-operand l rs a i f, range_of-operand l rs b j g)
      (related-each (HasSome those (length l.numbers)) (length l.numbers) (Takes those) c (side_of a) (side_of b) (operand_range rs a) (operand_range rs b) rs suits)

compare-tight : (l : Layout) (ls : List Layout) (s : Intervals) (r c : Relation) (a b : Term) (sense : Bool) → FitsState l s → ((p q : ℤ) → relates c p q ≡ true → relates r p q ≡ sense) → IsOperand a → IsOperand b → AreApart (side_of a) (side_of b) → fits_term l a ≡ true → fits_term l b ≡ true → Tight (Where (l ∷ ls) (Compare r a b) sense s) (length l.numbers) (compare c a b s)
compare-tight l ls Empty r c a b sense h means i j apart f g = tt
compare-tight l ls (Within rs) r c a b sense h means i j apart f g = compared-tight l ls rs h r c a b sense means i j apart f g

pub assume-tight : (l : Layout) (ls : List Layout) (s : Intervals) (r : Relation) (a b : Term) (sense : Bool) → FitsState l s → IsOperand a → IsOperand b → AreApart (side_of a) (side_of b) → fits_term l a ≡ true → fits_term l b ≡ true → Tight (Where (l ∷ ls) (Compare r a b) sense s) (length l.numbers) (assume (Compare r a b) sense s)
unfolding assume
assume-tight l ls s r a b true h i j apart f g = compare-tight l ls s r r a b true h (λ p q e. e) i j apart f g
assume-tight l ls s r a b false h i j apart f g = compare-tight l ls s r (opposite r) a b false h (λ p q e. not-true (relates r p q) (sym (relates-opposite r p q) ∙ e)) i j apart f g

-- What is asserted holds after.
asserted-tight : (l : Layout) (ls : List Layout) (g : Guard) (s : Intervals) → Tight (Where (l ∷ ls) g true s) (length l.numbers) (assume g true s) → Tight (After (l ∷ ls) (Assert g) s) (length l.numbers) (post (Does (Assert g)) s)
unfolding post does effect_of
asserted-tight l ls g s h = by (assume g true s) h
  where
    goes_on : (k : Heap) (vs : List Variables) → Where (l ∷ ls) g true s k vs → After (l ∷ ls) (Assert g) s k vs
    goes_on k [] d = absurd d
    goes_on k (v ∷ vs) d = (k, v, d.0, rw (d.1) refl)

    by : (t : Intervals) → Tight (Where (l ∷ ls) g true s) (length l.numbers) t → Tight (After (l ∷ ls) (Assert g) s) (length l.numbers) (unless_empty t (does (Assert g)))
    by Empty h = tt
    by (Within rs) h = tight-more (Where (l ∷ ls) g true s) (After (l ∷ ls) (Assert g) s) goes_on (length l.numbers) (Within rs) h

pub assume-sound : (l : Layout) (ls : List Layout) (q : Guard) (sense : Bool) (s : Intervals) → fits_guard l q ≡ true → fits s (l ∷ ls) ≡ true → Covers (Where (l ∷ ls) q sense s) (assume q sense s)
assume-sound l ls q sense s f g h [] d = absurd d
assume-sound l ls q sense s f g h (v ∷ vs) d = interval_laws.assume q sense l ls s h v vs f g d.0.0 d.1 d.0.1

pub after-sound : (l : Layout) (ls : List Layout) (e : Effect) (s : Intervals) → fits_effect l e ≡ true → fits s (l ∷ ls) ≡ true → Covers (After (l ∷ ls) e s) (post (Does e) s)
after-sound l ls e s f g h [] d = absurd d
after-sound l ls e s f g k (u ∷ vs) d = interval_laws.post e l ls s d.0 d.1 vs (k, u) f g d.2.0 d.3 d.2.1

fits-both : (l : Layout) (r : Relation) (a b : Term) → fits_guard l (Compare r a b) ≡ true → (fits_term l a ≡ true) × (fits_term l b ≡ true)
unfolding fits_guard
fits-both l r a b f = and_parts (fits_term l a) (fits_term l b) f

pub comparison-best : (l : Layout) (ls : List Layout) (r : Relation) (a b : Term) (sense : Bool) (s : Intervals) → IsOperand a → IsOperand b → AreApart (side_of a) (side_of b) → fits_guard l (Compare r a b) ≡ true → fits s (l ∷ ls) ≡ true → IsBest (Where (l ∷ ls) (Compare r a b) sense s) (assume (Compare r a b) sense s)
comparison-best l ls r a b sense s i j apart f g =
    let fit = fits-both l r a b f in record {
      sound = assume-sound l ls (Compare r a b) sense s f g;
      smallest = λ t c. tight-smallest (Where (l ∷ ls) (Compare r a b) sense s) (length l.numbers) (assume (Compare r a b) sense s) t (assume-tight l ls s r a b sense (fits-state s l ls g) i j apart fit.0 fit.1) c;
    }

fits-assert : (l : Layout) (g : Guard) → fits_guard l g ≡ true → fits_effect l (Assert g) ≡ true
unfolding fits_effect
fits-assert l g f = f

pub assert-best : (l : Layout) (ls : List Layout) (r : Relation) (a b : Term) (s : Intervals) → IsOperand a → IsOperand b → AreApart (side_of a) (side_of b) → fits_guard l (Compare r a b) ≡ true → fits s (l ∷ ls) ≡ true → IsBest (After (l ∷ ls) (Assert (Compare r a b)) s) (post (Does (Assert (Compare r a b))) s)
assert-best l ls r a b s i j apart f g =
    let fit = fits-both l r a b f in record {
      sound = after-sound l ls (Assert (Compare r a b)) s (fits-assert l (Compare r a b) f) g;
      smallest = λ t c. tight-smallest (After (l ∷ ls) (Assert (Compare r a b)) s) (length l.numbers) (post (Does (Assert (Compare r a b))) s) t
          (asserted-tight l ls (Compare r a b) s (assume-tight l ls s r a b true (fits-state s l ls g) i j apart fit.0 fit.1)) c;
    }
