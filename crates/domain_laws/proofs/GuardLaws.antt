-- A domain that assumes comparisons rightly assumes guards rightly, and its verdicts are right.
use Rattle.std.proofs.Common.{◌≡◌, refl, sym, ap, ◌∙◌, subst, ℕ, Option, Some, None, Bool, true, false, not, if◌then◌else◌, ◌⊎◌, inl, inr}
use Rattle.std.proofs.lemmas.Bool.{and_parts, not-false}
use Rattle.imp_syntax.specs.declared.words.Relation.{Relation}
use Rattle.imp_slots.specs.Plain.{Layout, Term, Guard, Compare, CompareLinks, Not, And, Or}
use Rattle.imp_slots.specs.Fits.{fits_term, fits_guard, is_side}
use Rattle.concrete_sem.specs.Values.{Variables, Attempt, Gives, Faults, LacksInput, andthen}
use Rattle.concrete_sem.specs.Evaluation.{value_of, truth_of, relates, same_link, side_at}
use Rattle.imp_slots.specs.Plain.{Effect, Does}
use Rattle.imp_words.specs.declared.verdict.Verdict.TheVariants.{Dead, Safe, May}
use Rattle.domain_laws.specs.Checks.{Check, check_of, checked_guard, opposite, positive}
use Rattle.domain_laws.specs.Guards.{assumed, verdict_on, verdict_by, Compares, Tells}
use Rattle.domain_laws.specs.Claims.{same_truth}
use Rattle.domain_laws.proofs.CheckLaws.{andthen-gives, relates-opposite}
use Rattle.concrete_sem.proofs.Numbers.{gives_same}
use Rattle.std.proofs.Math.Bool.{not-not}

not-gives : (m : Attempt Bool) (b : Bool) → andthen m (λ x. Gives (not x)) ≡ Gives b → m ≡ Gives (not b)
not-gives (Gives true) b h = ap (λ x. Gives (not x)) (gives_same h)
not-gives (Gives false) b h = ap (λ x. Gives (not x)) (gives_same h)
not-gives (Faults k) b h = cc
not-gives LacksInput b h = cc

both-true : (m n : Attempt Bool) → andthen m (λ b. if b then n else Gives false) ≡ Gives true → (m ≡ Gives true) × (n ≡ Gives true)
both-true (Gives true) n h = (refl, h)
both-true (Gives false) n h = cc
both-true (Faults k) n h = cc
both-true LacksInput n h = cc

one-false : (m n : Attempt Bool) → andthen m (λ b. if b then n else Gives false) ≡ Gives false → (m ≡ Gives false) ⊎ (n ≡ Gives false)
one-false (Gives true) n h = inr h
one-false (Gives false) n h = inl refl
one-false (Faults k) n h = cc
one-false LacksInput n h = cc

one-true : (m n : Attempt Bool) → andthen m (λ b. if b then Gives true else n) ≡ Gives true → (m ≡ Gives true) ⊎ (n ≡ Gives true)
one-true (Gives true) n h = inl refl
one-true (Gives false) n h = inr h
one-true (Faults k) n h = cc
one-true LacksInput n h = cc

both-false : (m n : Attempt Bool) → andthen m (λ b. if b then Gives true else n) ≡ Gives false → (m ≡ Gives false) × (n ≡ Gives false)
both-false (Gives true) n h = cc
both-false (Gives false) n h = (refl, h)
both-false (Faults k) n h = cc
both-false LacksInput n h = cc

module _ {S : Type 0} (compare : Relation → Term → Term → S → S) (links : Bool → Option ℕ → Option ℕ → S → S) (join : S → S → S) where
  -- assuming a guard is assuming it with the negation pushed inwards
  pub assumed-positive : (g : Guard) (b : Bool) (s : S) → assumed compare links join g b s ≡ assumed compare links join (positive b g) true s
  assumed-positive (Compare r x y) true s = refl
  assumed-positive (Compare r x y) false s = refl
  assumed-positive (CompareLinks equal p q) true s = refl
  assumed-positive (CompareLinks equal p q) false s = refl
  assumed-positive (Not g) true s = assumed-positive g false s
  assumed-positive (Not g) false s = assumed-positive g true s
  assumed-positive (And g h) true s = assumed-positive h true (assumed compare links join g true s) ∙ ap (assumed compare links join (positive true h) true) (assumed-positive g true s)
  assumed-positive (And g h) false s = λ i. join (assumed-positive g false s i) (assumed-positive h false s i)
  assumed-positive (Or g h) true s = λ i. join (assumed-positive g true s i) (assumed-positive h true s i)
  assumed-positive (Or g h) false s = assumed-positive h false (assumed compare links join g false s) ∙ ap (assumed compare links join (positive false h) true) (assumed-positive g false s)

  pub assumed-fits : (l : Layout) (Fits : S → Type 0) → Compares compare links join l Fits → (g : Guard) (b : Bool) (s : S) → fits_guard l g ≡ true → Fits s → Fits (assumed compare links join g b s)
  unfolding fits_guard
  assumed-fits l Fits keeps (Compare r x y) true s f k = let p = and_parts (fits_term l x) (fits_term l y) f in keeps.compare_keeps r x y s p.0 p.1 k
  assumed-fits l Fits keeps (Compare r x y) false s f k = let p = and_parts (fits_term l x) (fits_term l y) f in keeps.compare_keeps (opposite r) x y s p.0 p.1 k
  assumed-fits l Fits keeps (CompareLinks equal p q) true s f k = let w = and_parts (is_side l p) (is_side l q) f in keeps.links_keep equal p q s w.0 w.1 k
  assumed-fits l Fits keeps (CompareLinks equal p q) false s f k = let w = and_parts (is_side l p) (is_side l q) f in keeps.links_keep (not equal) p q s w.0 w.1 k
  assumed-fits l Fits keeps (Not g) true s f k = assumed-fits l Fits keeps g false s f k
  assumed-fits l Fits keeps (Not g) false s f k = assumed-fits l Fits keeps g true s f k
  assumed-fits l Fits keeps (And g h) true s f k = let p = and_parts (fits_guard l g) (fits_guard l h) f in assumed-fits l Fits keeps h true (assumed compare links join g true s) p.1 (assumed-fits l Fits keeps g true s p.0 k)
  assumed-fits l Fits keeps (And g h) false s f k = let p = and_parts (fits_guard l g) (fits_guard l h) f in keeps.join_keeps (assumed compare links join g false s) (assumed compare links join h false s) (assumed-fits l Fits keeps g false s p.0 k) (assumed-fits l Fits keeps h false s p.1 k)
  assumed-fits l Fits keeps (Or g h) true s f k = let p = and_parts (fits_guard l g) (fits_guard l h) f in keeps.join_keeps (assumed compare links join g true s) (assumed compare links join h true s) (assumed-fits l Fits keeps g true s p.0 k) (assumed-fits l Fits keeps h true s p.1 k)
  assumed-fits l Fits keeps (Or g h) false s f k = let p = and_parts (fits_guard l g) (fits_guard l h) f in assumed-fits l Fits keeps h false (assumed compare links join g false s) p.1 (assumed-fits l Fits keeps g false s p.0 k)

  module _ (l : Layout) (v : Variables) (Fits Covers : S → Type 0) (keeps : Compares compare links join l Fits) (tells : Tells compare links join l v Fits Covers) where
    compared : (r : Relation) (x y : Term) (b : Bool) (s : S) → fits_guard l (Compare r x y) ≡ true → Fits s → truth_of v (Compare r x y) ≡ Gives b → Covers s → Covers (assumed compare links join (Compare r x y) b s)
    unfolding fits_guard truth_of
    compared r x y true s f k t c =
        let p = and_parts (fits_term l x) (fits_term l y) f in
        let a = andthen-gives (value_of v x) (λ i. andthen (value_of v y) (λ j. Gives (relates r i j))) true t in
        let d = andthen-gives (value_of v y) (λ j. Gives (relates r a.0 j)) true a.2 in
        tells.compare_tells r x y a.0 d.0 s p.0 p.1 k a.1 d.1 (gives_same d.2) c
    compared r x y false s f k t c =
        let p = and_parts (fits_term l x) (fits_term l y) f in
        let a = andthen-gives (value_of v x) (λ i. andthen (value_of v y) (λ j. Gives (relates r i j))) false t in
        let d = andthen-gives (value_of v y) (λ j. Gives (relates r a.0 j)) false a.2 in
        tells.compare_tells (opposite r) x y a.0 d.0 s p.0 p.1 k a.1 d.1 (relates-opposite r a.0 d.0 ∙ ap not (gives_same d.2)) c

    linked : (equal : Bool) (p q : Option ℕ) (b : Bool) (s : S) → fits_guard l (CompareLinks equal p q) ≡ true → Fits s → truth_of v (CompareLinks equal p q) ≡ Gives b → Covers s → Covers (assumed compare links join (CompareLinks equal p q) b s)
    unfolding fits_guard truth_of
    linked equal p q true s f k t c = let w = and_parts (is_side l p) (is_side l q) f in tells.links_tell equal p q s w.0 w.1 k (gives_same t) c
    linked true p q false s f k t c = let w = and_parts (is_side l p) (is_side l q) f in tells.links_tell false p q s w.0 w.1 k (ap not (gives_same t)) c
    linked false p q false s f k t c = let w = and_parts (is_side l p) (is_side l q) f in tells.links_tell true p q s w.0 w.1 k (not-false (same_link (side_at v p) (side_at v q)) (gives_same t)) c

    -- a state that describes a frame describes it where a guard has its truth value there
    pub assumed-covers : (g : Guard) (b : Bool) (s : S) → fits_guard l g ≡ true → Fits s → truth_of v g ≡ Gives b → Covers s → Covers (assumed compare links join g b s)
    unfolding fits_guard truth_of
    assumed-covers (Compare r x y) b s f k t c = compared r x y b s f k t c
    assumed-covers (CompareLinks equal p q) b s f k t c = linked equal p q b s f k t c
    assumed-covers (Not g) true s f k t c = assumed-covers g false s f k (not-gives (truth_of v g) true t) c
    assumed-covers (Not g) false s f k t c = assumed-covers g true s f k (not-gives (truth_of v g) false t) c
    assumed-covers (And g h) true s f k t c =
        let p = and_parts (fits_guard l g) (fits_guard l h) f in
        let w = both-true (truth_of v g) (truth_of v h) t in
        assumed-covers h true (assumed compare links join g true s) p.1 (assumed-fits l Fits keeps g true s p.0 k) w.1 (assumed-covers g true s p.0 k w.0 c)
    assumed-covers (And g h) false s f k t c =
        let p = and_parts (fits_guard l g) (fits_guard l h) f in
        let m = assumed-fits l Fits keeps g false s p.0 k in
        let n = assumed-fits l Fits keeps h false s p.1 k in
        elim (one-false (truth_of v g) (truth_of v h) t) [
          | inl e ↦ tells.join_left (assumed compare links join g false s) (assumed compare links join h false s) m n (assumed-covers g false s p.0 k e c)
          | inr e ↦ tells.join_right (assumed compare links join g false s) (assumed compare links join h false s) m n (assumed-covers h false s p.1 k e c)
        ]
    assumed-covers (Or g h) true s f k t c =
        let p = and_parts (fits_guard l g) (fits_guard l h) f in
        let m = assumed-fits l Fits keeps g true s p.0 k in
        let n = assumed-fits l Fits keeps h true s p.1 k in
        elim (one-true (truth_of v g) (truth_of v h) t) [
          | inl e ↦ tells.join_left (assumed compare links join g true s) (assumed compare links join h true s) m n (assumed-covers g true s p.0 k e c)
          | inr e ↦ tells.join_right (assumed compare links join g true s) (assumed compare links join h true s) m n (assumed-covers h true s p.1 k e c)
        ]
    assumed-covers (Or g h) false s f k t c =
        let p = and_parts (fits_guard l g) (fits_guard l h) f in
        let w = both-false (truth_of v g) (truth_of v h) t in
        assumed-covers h false (assumed compare links join g false s) p.1 (assumed-fits l Fits keeps g false s p.0 k) w.1 (assumed-covers g false s p.0 k w.0 c)

-- Verdicts by an assumption: a dead one comes of an empty state, a safe one where the check's negation leaves it empty.
module _ {S : Type 0} (assume : Guard → Bool → S → S) (is_empty : S → Bool) where
  verdict-dead : (o : Option Check) (s : S) → verdict_on assume is_empty o s ≡ Dead → is_empty s ≡ true
  verdict-dead None s h = by (is_empty s) h
    where
      by : (b : Bool) → (if b then Dead else Safe) ≡ Dead → b ≡ true
      by true e = refl
      by false e = cc
  verdict-dead (Some c) s h = by (is_empty s) (is_empty (assume (checked_guard c) false s)) h
    where
      by : (b d : Bool) → (if b then Dead else (if d then Safe else May)) ≡ Dead → b ≡ true
      by true d e = refl
      by false true e = cc
      by false false e = cc

  pub verdict_by-dead : (e : Effect) (s : S) → verdict_by assume is_empty (Does e) s ≡ Dead → is_empty s ≡ true
  verdict_by-dead e s h = verdict-dead (check_of e) s h

  verdict-safe : (c : Check) (s : S) → verdict_on assume is_empty (Some c) s ≡ Safe → is_empty (assume (checked_guard c) false s) ≡ true
  verdict-safe c s h = by (is_empty s) (is_empty (assume (checked_guard c) false s)) h
    where
      by : (b d : Bool) → (if b then Dead else (if d then Safe else May)) ≡ Safe → d ≡ true
      by true d e = cc
      by false true e = refl
      by false false e = cc

  pub verdict_by-safe : (e : Effect) (c : Check) (s : S) → check_of e ≡ Some c → verdict_by assume is_empty (Does e) s ≡ Safe → is_empty (assume (checked_guard c) false s) ≡ true
  verdict_by-safe e c s k h = verdict-safe c s (subst (λ o. verdict_on assume is_empty o s ≡ Safe) k h)

-- the second side of && and ||, by the truth value of the first
and_true : (m n : Attempt Bool) (b c : Bool) → (m ≡ Gives c → n ≡ Gives c) → (if b then m else Gives false) ≡ Gives c → (if b then n else Gives false) ≡ Gives c
and_true m n true c f h = f h
and_true m n false c f h = h

and_not : (m n : Attempt Bool) (b c : Bool) → (m ≡ Gives c → n ≡ Gives (not c)) → (if b then m else Gives false) ≡ Gives c → (if not b then Gives true else n) ≡ Gives (not c)
and_not m n true c f h = f h
and_not m n false c f h = ap (λ x. Gives (not x)) (gives_same h)

or_true : (m n : Attempt Bool) (b c : Bool) → (m ≡ Gives c → n ≡ Gives c) → (if b then Gives true else m) ≡ Gives c → (if b then Gives true else n) ≡ Gives c
or_true m n true c f h = h
or_true m n false c f h = f h

or_not : (m n : Attempt Bool) (b c : Bool) → (m ≡ Gives c → n ≡ Gives (not c)) → (if b then Gives true else m) ≡ Gives c → (if not b then n else Gives false) ≡ Gives (not c)
or_not m n true c f h = ap (λ x. Gives (not x)) (gives_same h)
or_not m n false c f h = f h

pub positive-truth : (v : Variables) (g : Guard) (b c : Bool) → truth_of v g ≡ Gives c → truth_of v (positive b g) ≡ Gives (same_truth b c)
unfolding truth_of
positive-truth v (Compare r x y) true c t = t
positive-truth v (Compare r x y) false c t =
    let a = andthen-gives (value_of v x) (λ i. andthen (value_of v y) (λ j. Gives (relates r i j))) c t in
    let d = andthen-gives (value_of v y) (λ j. Gives (relates r a.0 j)) c a.2 in
    (λ i. andthen (a.1 i) (λ x. andthen (d.1 i) (λ y. Gives (relates (opposite r) x y)))) ∙ ap Gives (relates-opposite r a.0 d.0 ∙ ap not (gives_same d.2))
positive-truth v (CompareLinks equal p q) true c t = t
positive-truth v (CompareLinks true p q) false c t = ap (λ b. Gives (not b)) (gives_same t)
positive-truth v (CompareLinks false p q) false c t = ap Gives (sym (not-not (same_link (side_at v p) (side_at v q))) ∙ ap not (gives_same t))
positive-truth v (Not g) true c t = positive-truth v g false (not c) (not-gives (truth_of v g) c t) ∙ ap Gives (not-not c)
positive-truth v (Not g) false c t = positive-truth v g true (not c) (not-gives (truth_of v g) c t)
positive-truth v (And g h) true c t =
    let a = andthen-gives (truth_of v g) (λ b. if b then truth_of v h else Gives false) c t in
    (λ i. andthen (positive-truth v g true a.0 a.1 i) (λ b. if b then truth_of v (positive true h) else Gives false)) ∙ and_true (truth_of v h) (truth_of v (positive true h)) a.0 c (positive-truth v h true c) a.2
positive-truth v (And g h) false c t =
    let a = andthen-gives (truth_of v g) (λ b. if b then truth_of v h else Gives false) c t in
    (λ i. andthen (positive-truth v g false a.0 a.1 i) (λ b. if b then Gives true else truth_of v (positive false h))) ∙ and_not (truth_of v h) (truth_of v (positive false h)) a.0 c (positive-truth v h false c) a.2
positive-truth v (Or g h) true c t =
    let a = andthen-gives (truth_of v g) (λ b. if b then Gives true else truth_of v h) c t in
    (λ i. andthen (positive-truth v g true a.0 a.1 i) (λ b. if b then Gives true else truth_of v (positive true h))) ∙ or_true (truth_of v h) (truth_of v (positive true h)) a.0 c (positive-truth v h true c) a.2
positive-truth v (Or g h) false c t =
    let a = andthen-gives (truth_of v g) (λ b. if b then Gives true else truth_of v h) c t in
    (λ i. andthen (positive-truth v g false a.0 a.1 i) (λ b. if b then truth_of v (positive false h) else Gives false)) ∙ or_not (truth_of v h) (truth_of v (positive false h)) a.0 c (positive-truth v h false c) a.2
