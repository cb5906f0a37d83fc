-- How a domain assumes a guard, from what it does with comparisons: the negation is pushed inwards, both sides of && are
-- assumed in turn, and || is the join of its sides. What a check makes of it, and what is asked of comparisons and joins.
use Rattle.std.specs.Prelude.{◌≡◌, ℕ, ℤ, Option, Some, None, Bool, true, false, not, if◌then◌else◌}
use Rattle.imp_syntax.specs.declared.words.Relation.{Relation}
use Rattle.imp_slots.specs.Plain.{Layout, Term, Guard, Compare, CompareLinks, Not, And, Or, Act, DoBreak, Does}
use Rattle.imp_slots.specs.Fits.{fits_term, is_side}
use Rattle.concrete_sem.specs.Values.{Variables, Gives}
use Rattle.concrete_sem.specs.Evaluation.{value_of, relates, same_link, side_at}
use Rattle.imp_words.specs.declared.verdict.Verdict.{Verdict}
use Rattle.imp_words.specs.declared.verdict.Verdict.TheVariants.{Dead, Safe, May}
use Rattle.domain_laws.specs.Checks.{Check, check_of, checked_guard, opposite}

module _ {S : Type 0} (compare : Relation → Term → Term → S → S) (links : (equal : Bool) → (left right : Option ℕ) → S → S) (join : S → S → S) where
  -- the state where the guard has this truth value
  abbrev pub assumed : Guard → Bool → S → S
  assumed (Compare r a b) true s = compare r a b s
  assumed (Compare r a b) false s = compare (opposite r) a b s
  assumed (CompareLinks equal p q) true s = links equal p q s
  assumed (CompareLinks equal p q) false s = links (not equal) p q s
  assumed (Not g) true s = assumed g false s
  assumed (Not g) false s = assumed g true s
  assumed (And g h) true s = assumed h true (assumed g true s)
  assumed (And g h) false s = join (assumed g false s) (assumed h false s)
  assumed (Or g h) true s = join (assumed g true s) (assumed h true s)
  assumed (Or g h) false s = assumed h false (assumed g false s)

module _ {S : Type 0} (assume : Guard → Bool → S → S) where
  -- the check of the statement, assumed where it has one
  abbrev pub past_check : Option Check → S → S
  past_check None s = s
  past_check (Some c) s = assume (checked_guard c) true s

  -- dead where the state is empty, safe where it is empty once the check is assumed not to hold, else may
  abbrev pub verdict_on : (is_empty : S → Bool) → Option Check → S → Verdict
  verdict_on is_empty None s = if is_empty s then Dead else Safe
  verdict_on is_empty (Some c) s = if is_empty s then Dead else (if is_empty (assume (checked_guard c) false s) then Safe else May)

  abbrev pub verdict_by : (is_empty : S → Bool) → Act → S → Verdict
  verdict_by is_empty DoBreak s = verdict_on is_empty None s
  verdict_by is_empty (Does e) s = verdict_on is_empty (check_of e) s

-- What is asked of comparisons and joins: states that fit stay so, and what a state describes stays described.
pub record Compares {S : Type 0} (compare : Relation → Term → Term → S → S) (links : Bool → Option ℕ → Option ℕ → S → S) (join : S → S → S) (l : Layout) (Fits : S → Type 0) : Type 0 where
  pub compare_keeps : (r : Relation) (a b : Term) (s : S) → fits_term l a ≡ true → fits_term l b ≡ true → Fits s → Fits (compare r a b s)
  pub links_keep : (equal : Bool) (p q : Option ℕ) (s : S) → is_side l p ≡ true → is_side l q ≡ true → Fits s → Fits (links equal p q s)
  pub join_keeps : (s t : S) → Fits s → Fits t → Fits (join s t)

pub record Tells {S : Type 0} (compare : Relation → Term → Term → S → S) (links : Bool → Option ℕ → Option ℕ → S → S) (join : S → S → S) (l : Layout) (v : Variables) (Fits Covers : S → Type 0) : Type 0 where
  pub compare_tells : (r : Relation) (a b : Term) (x y : ℤ) (s : S) → fits_term l a ≡ true → fits_term l b ≡ true → Fits s → value_of v a ≡ Gives x → value_of v b ≡ Gives y → relates r x y ≡ true → Covers s → Covers (compare r a b s)
  pub links_tell : (equal : Bool) (p q : Option ℕ) (s : S) → is_side l p ≡ true → is_side l q ≡ true → Fits s → (if equal then same_link (side_at v p) (side_at v q) else not (same_link (side_at v p) (side_at v q))) ≡ true → Covers s → Covers (links equal p q s)
  pub join_left : (s t : S) → Fits s → Fits t → Covers s → Covers (join s t)
  pub join_right : (s t : S) → Fits s → Fits t → Covers t → Covers (join s t)
