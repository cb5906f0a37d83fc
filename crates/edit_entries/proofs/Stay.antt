-- What is known of the statements of a program, where statements of one procedure are exchanged for others: all stays but of
-- those that go or come, of their neighbours, of the statement that has the block, and of the innermost loop around it.
use Rattle.std.proofs.lemmas.Bool.Decides.{nat_tests}
use Rattle.std.proofs.Common.{◌≡◌, ◌≢◌, ℕ, ◌==◌, List, [], ◌∷◌, ◌++◌, Option, Some, None, Bool, true, false, refl, sym, ap, ◌∙◌, arith}
use Rattle.imp_syntax.specs.Plain.{Statement, Statements, Ends, Starts, Procedure, number_of, numbers_in, numbers}
use Rattle.imp_syntax.specs.Plain as tree
use Rattle.imp_slots.specs.Fits.{Absent}
use Rattle.imp_check.specs.Faults.{first}
use Rattle.imp_check.specs.Slots.{Resolver}
use Rattle.imp_check.specs.declared.entry.Which.TheVariants as which
use Rattle.imp_check.specs.declared.entry.Context.{Context}
use Rattle.imp_check.specs.Parts.{first_or, last_or}
use Rattle.imp_check.specs.Entries.{inside, inside_loop, statement_entries, block_entries, procedure_entries, entries_from, entries_of, entry_of, resolver_at, context_at}
use Rattle.edit_entries.specs.Spliced.{is}
use Rattle.edit_entries.specs.Holes.{Hole, Then, Else, Body, fill, plug, holder, loop_of, between}
use Rattle.edit_entries.proofs.Others.{entry_append, part_other, Alike}
use Rattle.edit_entries.proofs.Filled.{fill_same, fill_other, fill_then, fill_else, ends_filled, cut, has_loop, no_loop, some_loop}
use Rattle.edit_entries.proofs.Heads.{entries_alike}
use Rattle.edit_entries.proofs.Programs.{old_one, new_one, old_program, new_program, bares_at}
use Rattle.imp_slots.proofs.Distinct.{absent_left, absent_right}

-- the statement that has the block in the last hole
abbrev pub last_holder : List Hole → Option ℕ
last_holder [] = None
last_holder (h ∷ []) = Some (holder h)
last_holder (h ∷ g ∷ hs) = last_holder (g ∷ hs)

pub other_number : (n m : ℕ) → m ≢ n → (n == m) ≡ false
other_number n m h = go (n == m) refl
  where
    go : (b : Bool) → (n == m) ≡ b → b ≡ false
    go false e = refl
    go true e = absurd (h (grind (arith, nat_tests)))

-- A number that stands in no statement has no spot.
module _ (f : Resolver) (m : ℕ) where
  mutual
    statement_gone : (c : Context) (a p : Option ℕ) (s : Statement) → Absent m (numbers_in s) → entry_of (statement_entries f c a p s) m ≡ None
    statement_gone c a p (tree.Simple n x) h = rw (other_number n m h.0) refl
    statement_gone c a p (tree.Break n) h = rw (other_number n m h.0) refl
    statement_gone c a p (tree.Call n x g es) h = rw (other_number n m h.0) refl
    statement_gone c a p (tree.If n d t e) h =
        rw (other_number n m h.0)
        (entry_append (block_entries f (inside c n which.Then) None None t) (block_entries f (inside c n which.Else) None None e) m
        ∙ ap (λ o. first o (entry_of (block_entries f (inside c n which.Else) None None e) m)) (block_gone (inside c n which.Then) None None t (absent_left m (numbers t) (numbers e) h.1))
        ∙ block_gone (inside c n which.Else) None None e (absent_right m (numbers t) (numbers e) h.1))
    statement_gone c a p (tree.While n d b) h = rw (other_number n m h.0) (block_gone (inside_loop c n) None None b h.1)

    pub block_gone : (c : Context) (a p : Option ℕ) (b : Statements) → Absent m (numbers b) → entry_of (block_entries f c a p b) m ≡ None
    block_gone c a p Ends h = refl
    block_gone c a p (Starts s ss) h =
        entry_append (statement_entries f c a (first_or ss p) s) (block_entries f c (Some (number_of s)) p ss) m
        ∙ ap (λ o. first o (entry_of (block_entries f c (Some (number_of s)) p ss) m)) (statement_gone c a (first_or ss p) s (absent_left m (numbers_in s) (numbers ss) h))
        ∙ block_gone c (Some (number_of s)) p ss (absent_right m (numbers_in s) (numbers ss) h)

  -- Outside the block all stays but of the statement that has it, and of the innermost loop around it.
  plug_keep : (hs : List Hole) (x y : Statements) → is (last_holder hs) m ≡ false → is (loop_of None hs) m ≡ false → Alike f m x y → Alike f m (plug hs x) (plug hs y)
  plug_keep [] x y e l a = a
  plug_keep (h ∷ []) x y e l a = fill_other f m h x y e a
  plug_keep (Then b n c u r ∷ g ∷ hs) x y e l a = fill_then f m b n c u r (plug (g ∷ hs) x) (plug (g ∷ hs) y) (ends_filled g (plug hs x) (plug hs y)) (plug_keep (g ∷ hs) x y e l a)
  plug_keep (Else b n c t r ∷ g ∷ hs) x y e l a = fill_else f m b n c t r (plug (g ∷ hs) x) (plug (g ∷ hs) y) (ends_filled g (plug hs x) (plug hs y)) (plug_keep (g ∷ hs) x y e l a)
  plug_keep (Body b n c r ∷ g ∷ hs) x y e l a = go (has_loop (g ∷ hs)) refl (λ i. plug_keep (g ∷ hs) x y e i a)
    where
      go : (t : Bool) → has_loop (g ∷ hs) ≡ t → (is (loop_of None (g ∷ hs)) m ≡ false → Alike f m (plug (g ∷ hs) x) (plug (g ∷ hs) y)) → Alike f m (fill (Body b n c r) (plug (g ∷ hs) x)) (fill (Body b n c r) (plug (g ∷ hs) y))
      go true k rest = fill_same f m (Body b n c r) (plug (g ∷ hs) x) (plug (g ∷ hs) y) (ends_filled g (plug hs x) (plug hs y)) (cut (g ∷ hs) x y k) (rest (ap (λ o. is o m) (some_loop None (Some n) (g ∷ hs) k) ∙ l))
      go false k rest = fill_other f m (Body b n c r) (plug (g ∷ hs) x) (plug (g ∷ hs) y) (ap (λ o. is o m) (sym (no_loop (Some n) (g ∷ hs) k)) ∙ l) (rest (ap (λ o. is o m) (no_loop None (g ∷ hs) k)))

-- The number is none of those that an edit touches.
pub record Away (m : ℕ) (hs : List Hole) (before olds news behind : Statements) : Type 0 where
  pub not_gone : Absent m (numbers olds)
  pub not_new : Absent m (numbers news)
  pub not_front : is (last_or before None) m ≡ false
  pub not_next : is (first_or behind None) m ≡ false
  pub not_holder : is (last_holder hs) m ≡ false

module _ (p : Procedure) (hs : List Hole) (before olds news behind : Statements) (m : ℕ) (away : Away m hs before olds news behind) where
  abbrev O : Procedure
  O = old_one p hs before olds news behind

  abbrev N : Procedure
  N = new_one p hs before olds news behind

  part_stays : (f : Resolver) → Alike f m (between before behind olds) (between before behind news)
  part_stays f c = part_other f m c None None before olds news behind (λ a q. block_gone f m c a q olds away.not_gone) (λ a q. block_gone f m c a q news away.not_new) away.not_front away.not_next

  own_stays : (es : List Procedure) → is (loop_of None hs) m ≡ false → entry_of (procedure_entries es O) m ≡ entry_of (procedure_entries es N) m
  own_stays es l = let f = resolver_at es p in plug_keep f m hs (between before behind olds) (between before behind news) away.not_holder l (part_stays f) (context_at _)

  along : ((es : List Procedure) → entry_of (procedure_entries es O) m ≡ entry_of (procedure_entries es N) m) → (es ps qs : List Procedure) → entry_of (entries_from es (ps ++ O ∷ qs)) m ≡ entry_of (entries_from es (ps ++ N ∷ qs)) m
  along own es [] qs =
      entry_append (procedure_entries es O) (entries_from (es ++ O ∷ []) qs) m
      ∙ ap (λ o. first o (entry_of (entries_from (es ++ O ∷ []) qs) m)) (own es)
      ∙ ap (λ xs. first (entry_of (procedure_entries es N) m) (entry_of xs m)) (entries_alike (es ++ O ∷ []) (es ++ N ∷ []) qs (bares_at p hs before olds news behind es []))
      ∙ sym (entry_append (procedure_entries es N) (entries_from (es ++ N ∷ []) qs) m)
  along own es (x ∷ ps) qs =
      entry_append (procedure_entries es x) (entries_from (es ++ x ∷ []) (ps ++ O ∷ qs)) m
      ∙ ap (first (entry_of (procedure_entries es x) m)) (along own (es ++ x ∷ []) ps qs)
      ∙ sym (entry_append (procedure_entries es x) (entries_from (es ++ x ∷ []) (ps ++ N ∷ qs)) m)

  -- An edit touches no other statement but the innermost loop around it.
  pub others_stay : (ps qs : List Procedure) → is (loop_of None hs) m ≡ false → entry_of (entries_of (old_program p hs before olds news behind ps qs)) m ≡ entry_of (entries_of (new_program p hs before olds news behind ps qs)) m
  others_stay ps qs l = along (λ es. own_stays es l) [] ps qs
