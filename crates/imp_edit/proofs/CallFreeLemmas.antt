-- A part in which no call stands, as it is found from one statement to the next.
use Rattle.std.proofs.Common.{◌≡◌, ℕ, zero, suc, ◌-◌, ◌<◌, ◌≤◌, inl, inr, cond, List, [], ◌∷◌, ◌++◌, Option, Some, None, Bool, true, false, ◌&&◌, not, refl, sym, ap, ◌∙◌, arith, append-nil}
use Rattle.std.proofs.Math.Bool.{and_assoc, and-true}
use Rattle.imp_syntax.specs.Plain.{Statement, Statements, Ends, Starts, Procedure, numbers}
use Rattle.imp_syntax.specs.Plain as tree
use Rattle.imp_check.specs.Entries.{inside, inside_loop, entry_at, entries_of, entry_of, statement_entries, block_entries}
use Rattle.imp_check.specs.Parts.{first_or}
use Rattle.imp_check.specs.Programs.{block_count, program_count}
use Rattle.imp_check.specs.Rebuilt.{next_in}
use Rattle.imp_check.specs.Slots.{Resolver}
use Rattle.imp_check.specs.Walks.{walk}
use Rattle.imp_check.specs.declared.entry.Context.{Context}
use Rattle.imp_check.specs.declared.entry.Entry.{Entry}
use Rattle.imp_check.specs.declared.entry.Which.TheVariants as which
use Rattle.imp_check.proofs.RebuildLemmas.{in_left, in_right, Known, known_left, known_right}
use Rattle.imp_check.proofs.WalkLemmas.{walk_is, walk_nothing}
use Rattle.edit_entries.specs.Gaps.{are_quiet}
use Rattle.imp_edit.specs.Gaps.{gone_gap, of_entry, part_gap}
use Rattle.edit_breaks.specs.declared.gap.Gap.{Gap}
use Rattle.imp_edit.specs.CallFreeParts.{is_call, quiet_on, quiet_from, part_numbers, part_quiet}

-- Steps.
pub quiet_step : (at : ℕ → Option Entry) (left : ℕ) (o : Option ℕ) (e : Entry) → next_in at left o ≡ Some e →
    quiet_from at left o ≡ (not (is_call e.part) && (quiet_from at (left - 1) e.inner.first && (quiet_from at (left - 1) e.other.first && quiet_from at (left - 1) e.next)))
quiet_step at zero o e h = cc
quiet_step at (suc left) None e h = cc
quiet_step at (suc left) (Some n) e h =
    let p : suc left - 1 ≡ left = omega arith in
    ap (quiet_on (quiet_from at left)) h
    ∙ ap (λ k. not (is_call e.part) && (quiet_from at k e.inner.first && (quiet_from at k e.other.first && quiet_from at k e.next))) (sym p)

pub quiet_none : (at : ℕ → Option Entry) (left : ℕ) (o : Option ℕ) → next_in at left o ≡ None → quiet_from at left o ≡ true
quiet_none at zero o h = refl
quiet_none at (suc left) None h = refl
quiet_none at (suc left) (Some n) h = ap (quiet_on (quiet_from at left)) h

module _ (at : ℕ → Option Entry) (f : Resolver) where
  -- a statement whose entry is found, those of its blocks, and those after it
  step : (m : ℕ) (x : Entry) (p q r : Bool) → at x.number ≡ Some x → quiet_from at m x.inner.first ≡ p → quiet_from at m x.other.first ≡ q → quiet_from at m x.next ≡ r →
      quiet_from at (suc m) (Some x.number) ≡ (not (is_call x.part) && (p && (q && r)))
  step m x p q r k h i j =
      ap (quiet_on (quiet_from at m)) k
      ∙ ap (λ z. not (is_call x.part) && (z && (quiet_from at m x.other.first && quiet_from at m x.next))) h
      ∙ ap (λ z. not (is_call x.part) && (p && (z && quiet_from at m x.next))) i
      ∙ ap (λ z. not (is_call x.part) && (p && (q && z))) j

  no_call : (m : ℕ) → quiet_from at m None ≡ true
  no_call zero = refl
  no_call (suc m) = refl

  quiet_is : (m : ℕ) (b : Statements) (c : Context) (a : Option ℕ) → block_count b < m → Known at (block_entries f c a None b) → quiet_from at m (first_or b None) ≡ are_quiet b
  quiet_is zero b c a h k = absurd (omega arith)
  quiet_is (suc m) Ends c a h k = refl
  quiet_is (suc m) (Starts (tree.Simple n x) ss) c a h k =
      let e = entry_at f c a (first_or ss None) (tree.Simple n x) in
      step m e true true (are_quiet ss) (k e (inl refl)) (no_call m) (no_call m) (quiet_is m ss c (Some n) (omega arith) (λ y i. k y (inr i)))
  quiet_is (suc m) (Starts (tree.Break n) ss) c a h k =
      let e = entry_at f c a (first_or ss None) (tree.Break n) in
      step m e true true (are_quiet ss) (k e (inl refl)) (no_call m) (no_call m) (quiet_is m ss c (Some n) (omega arith) (λ y i. k y (inr i)))
  quiet_is (suc m) (Starts (tree.Call n x g es) ss) c a h k =
      let e = entry_at f c a (first_or ss None) (tree.Call n x g es) in
      step m e true true (are_quiet ss) (k e (inl refl)) (no_call m) (no_call m) (quiet_is m ss c (Some n) (omega arith) (λ y i. k y (inr i)))
  quiet_is (suc m) (Starts (tree.If n d t u) ss) c a h k =
      let e = entry_at f c a (first_or ss None) (tree.If n d t u) in
      let T = block_entries f (inside c n which.Then) None None t in
      let E = block_entries f (inside c n which.Else) None None u in
      let R = block_entries f c (Some n) None ss in
      let l : Known at (T ++ E) = λ y i. k y (inr (in_left y (T ++ E) R i)) in
      step m e (are_quiet t) (are_quiet u) (are_quiet ss) (k e (inl refl))
      (quiet_is m t (inside c n which.Then) None (omega arith) (known_left at T E l))
      (quiet_is m u (inside c n which.Else) None (omega arith) (known_right at T E l))
      (quiet_is m ss c (Some n) (omega arith) (λ y i. k y (inr (in_right y (T ++ E) R i))))
      ∙ sym (and_assoc (are_quiet t) (are_quiet u) (are_quiet ss))
  quiet_is (suc m) (Starts (tree.While n d b) ss) c a h k =
      let e = entry_at f c a (first_or ss None) (tree.While n d b) in
      let B = block_entries f (inside_loop c n) None None b in
      let R = block_entries f c (Some n) None ss in
      step m e (are_quiet b) true (are_quiet ss) (k e (inl refl))
      (quiet_is m b (inside_loop c n) None (omega arith) (λ y i. k y (inr (in_left y B R i))))
      (no_call m)
      (quiet_is m ss c (Some n) (omega arith) (λ y i. k y (inr (in_right y B R i))))

  -- Of a statement whose entry and those inside it are found, the numbers are found ..
  pub part_numbers_is : (m : ℕ) (s : Statement) (c : Context) (a p : Option ℕ) → block_count (Starts s Ends) < m → Known at (statement_entries f c a p s) → part_numbers at m (entry_at f c a p s) ≡ numbers (Starts s Ends)
  part_numbers_is m (tree.Simple n x) c a p h k = ap (λ ns. n ∷ (ns ++ walk at m None)) (walk_nothing at m) ∙ ap (λ ns. n ∷ ns) (walk_nothing at m)
  part_numbers_is m (tree.Break n) c a p h k = ap (λ ns. n ∷ (ns ++ walk at m None)) (walk_nothing at m) ∙ ap (λ ns. n ∷ ns) (walk_nothing at m)
  part_numbers_is m (tree.Call n x g es) c a p h k = ap (λ ns. n ∷ (ns ++ walk at m None)) (walk_nothing at m) ∙ ap (λ ns. n ∷ ns) (walk_nothing at m)
  part_numbers_is m (tree.If n d t e) c a p h k =
      let T = block_entries f (inside c n which.Then) None None t in
      let E = block_entries f (inside c n which.Else) None None e in
      let l : Known at (T ++ E) = λ y i. k y (inr i) in
      ap (λ ns. n ∷ (ns ++ walk at m (first_or e None))) (walk_is at f m t (inside c n which.Then) None (omega arith) (known_left at T E l))
      ∙ ap (λ ns. n ∷ (numbers t ++ ns)) (walk_is at f m e (inside c n which.Else) None (omega arith) (known_right at T E l))
      ∙ ap (λ ns. n ∷ ns) (sym (append-nil (numbers t ++ numbers e)))
  part_numbers_is m (tree.While n d b) c a p h k =
      ap (λ ns. n ∷ (ns ++ walk at m None)) (walk_is at f m b (inside_loop c n) None (omega arith) (λ y i. k y (inr i)))
      ∙ ap (λ ns. n ∷ (numbers b ++ ns)) (walk_nothing at m)

  -- .. and whether it calls is told.
  pub part_quiet_is : (m : ℕ) (s : Statement) (c : Context) (a p : Option ℕ) → block_count (Starts s Ends) < m → Known at (statement_entries f c a p s) → part_quiet at m (entry_at f c a p s) ≡ are_quiet (Starts s Ends)
  part_quiet_is m (tree.Simple n x) c a p h k = ap (λ z. z && quiet_from at m None) (no_call m) ∙ no_call m
  part_quiet_is m (tree.Break n) c a p h k = ap (λ z. z && quiet_from at m None) (no_call m) ∙ no_call m
  part_quiet_is m (tree.Call n x g es) c a p h k = refl
  part_quiet_is m (tree.If n d t e) c a p h k =
      let T = block_entries f (inside c n which.Then) None None t in
      let E = block_entries f (inside c n which.Else) None None e in
      let l : Known at (T ++ E) = λ y i. k y (inr i) in
      ap (λ z. z && quiet_from at m (first_or e None)) (quiet_is m t (inside c n which.Then) None (omega arith) (known_left at T E l))
      ∙ ap (λ z. are_quiet t && z) (quiet_is m e (inside c n which.Else) None (omega arith) (known_right at T E l))
      ∙ sym (and-true (are_quiet t && are_quiet e))
  part_quiet_is m (tree.While n d b) c a p h k =
      ap (λ z. z && quiet_from at m None) (quiet_is m b (inside_loop c n) None (omega arith) (λ y i. k y (inr i)))
      ∙ ap (λ z. are_quiet b && z) (no_call m)

pub own_count : (ps : List Procedure) (p : Procedure) (qs : List Procedure) → block_count p.body ≤ program_count (ps ++ p ∷ qs)
own_count [] p qs = omega arith
own_count (x ∷ ps) p qs = omega (arith, own_count ps p qs)

-- In the place of a statement in which no call is found.
pub gap_found : (P : List Procedure) (n m : ℕ) (e : Entry) (old gone : List ℕ) → entry_of (entries_of P) n ≡ Some e → m ≡ suc (program_count P) → is_call e.part ≡ false →
    (quiet_from (entry_of (entries_of P)) m e.inner.first && quiet_from (entry_of (entries_of P)) m e.other.first) ≡ true → old ≡ e.number ∷ [] →
    gone ≡ old ++ (walk (entry_of (entries_of P)) m e.inner.first ++ walk (entry_of (entries_of P)) m e.other.first) →
    Some (record { context = e.context; front = e.front; next = e.next; gone = gone }) ≡ part_gap n P
gap_found P n m e old gone known most no_call quiet first rest =
    let at = entry_of (entries_of P) in
    let inside = walk at m e.inner.first ++ walk at m e.other.first in
    let is : gone ≡ part_numbers at m e = rest ∙ ap (λ (ns : List ℕ). ns ++ inside) first in
    let told : part_quiet at m e ≡ true = ap (λ b. not b && (quiet_from at m e.inner.first && quiet_from at m e.other.first)) no_call ∙ quiet in
    ap {A = List ℕ} {B = Option Gap} (λ ns. Some (record { context = e.context; front = e.front; next = e.next; gone = ns })) is
    ∙ ap {A = Bool} {B = Option Gap} (λ b. cond b (Some (record { context = e.context; front = e.front; next = e.next; gone = part_numbers at m e })) None) (sym told)
    ∙ ap (λ k. gone_gap at k e) most
    ∙ ap (of_entry (gone_gap at (suc (program_count P)))) (sym known)
