-- The breaks of the loop around a place, as they are found from one statement to the next.
use Rattle.std.proofs.lemmas.Bool.Decides.{nat_tests}
use Rattle.std.proofs.Common.{◌≡◌, ℕ, zero, suc, ◌+◌, ◌-◌, ◌<◌, ◌==◌, cond, List, [], ◌∷◌, ◌++◌, length, Option, Some, None, Bool, true, false, refl, sym, ap, ◌∙◌, arith, append-nil}
use Rattle.std.specs.Option.{option_map}
use Rattle.imp_syntax.specs.Plain.{Statements, Procedure}
use Rattle.imp_check.specs.Entries.{entries_of, entry_of}
use Rattle.imp_check.specs.Parts.{leaving}
use Rattle.imp_check.specs.Programs.{program_count}
use Rattle.imp_check.specs.Rebuilt.{next_in}
use Rattle.imp_check.specs.declared.entry.Around.{Around}
use Rattle.imp_check.specs.declared.entry.Entry.{Entry}
use Rattle.edit_entries.specs.Spliced.{among, breaking, is, left_of, rebroken}
use Rattle.edit_entries.proofs.Breaks.{among_all, among_none}
use Rattle.edit_breaks.specs.Breaks.{above, breaks_of, breaks_with, counted, front_count, known_at, leaving_from, leaving_on, leaving_part, loop_breaks, passed}
use Rattle.edit_breaks.specs.declared.gap.Gap.{Gap}
use Rattle.edit_entries.proofs.Table.{is_some}

-- Steps.
pub leaving_step : (at : ℕ → Option Entry) (left : ℕ) (o : Option ℕ) (e : Entry) → next_in at left o ≡ Some e → leaving_from at left o ≡ leaving_part (leaving_from at (left - 1)) e e.part ++ leaving_from at (left - 1) e.next
leaving_step at zero o e h = cc
leaving_step at (suc left) None e h = cc
leaving_step at (suc left) (Some n) e h =
    let p : suc left - 1 ≡ left = omega arith in
    ap (leaving_on (leaving_from at left)) h
    ∙ ap (λ k. leaving_part (leaving_from at k) e e.part ++ leaving_from at k e.next) (sym p)

pub leaving_none : (at : ℕ → Option Entry) (left : ℕ) (o : Option ℕ) → next_in at left o ≡ None → leaving_from at left o ≡ []
leaving_none at zero o h = refl
leaving_none at (suc left) None h = refl
leaving_none at (suc left) (Some n) h = ap (leaving_on (leaving_from at left)) h

pub above_some : (at : ℕ → Option Entry) (left : ℕ) (w : Option Around) (o : Option ℕ) (e : Entry) → above at left w o ≡ Some e → 0 < left
above_some at zero w o e h = cc
above_some at (suc left) w o e h = omega arith

pub count_step : (at : ℕ → Option Entry) (left : ℕ) (w : Option Around) (o : Option ℕ) (e : Entry) → above at left w o ≡ Some e →
    front_count at left w o ≡ length (passed (leaving_from at (left - 1)) w o e) + front_count at (left - 1) e.context.around e.front
count_step at zero w o e h = cc
count_step at (suc left) w o e h =
    let p : suc left - 1 ≡ left = omega arith in
    ap (counted (front_count at left) (passed (leaving_from at left) w o)) h
    ∙ ap (λ k. length (passed (leaving_from at k) w o e) + front_count at k e.context.around e.front) (sym p)

pub count_none : (at : ℕ → Option Entry) (left : ℕ) (w : Option Around) (o : Option ℕ) → above at left w o ≡ None → front_count at left w o ≡ 0
count_none at zero w o h = refl
count_none at (suc left) w o h = ap (counted (front_count at left) (passed (leaving_from at left) w o)) h

-- Where none are left, or none come, it does not matter where they come.
pub none_left : (before : ℕ) (come left : List ℕ) → (length left == 0) ≡ true → come ++ left ≡ among before come left
none_left before come [] h = append-nil come ∙ sym (among_all before come [] refl)
none_left before come (n ∷ ns) h = absurd (grind (arith, nat_tests))

pub none_come : (before : ℕ) (come left : List ℕ) → come ≡ [] → come ++ left ≡ among before come left
none_come before come left e = ap (λ ns. ns ++ left) e ∙ sym (among_none before come left e)

-- The breaks that the loop then has.
module _ (ps : List Procedure) (g : Gap) (news : Statements) where
  abbrev at : ℕ → Option Entry
  at = entry_of (entries_of ps)

  pub loop_breaks_is : (m : ℕ) (x : Entry) → is g.context.head m ≡ true → at m ≡ Some x → loop_breaks ps g news ≡ breaks_with ps g news x
  loop_breaks_is m x h k = ap (λ o. breaks_of (breaks_with ps g news) (known_at at o)) (is_some g.context.head m h) ∙ ap (breaks_of (breaks_with ps g news)) k

  module _ (h : ℕ) (x : Entry) (around : g.context.head ≡ Some h) (known : at h ≡ Some x) where
    pub with_loop : loop_breaks ps g news ≡ breaks_with ps g news x
    with_loop = ap (λ o. breaks_of (breaks_with ps g news) (known_at at o)) around ∙ ap (breaks_of (breaks_with ps g news)) known

    broken : (m : ℕ) → rebroken g.context.head (loop_breaks ps g news) at m ≡ cond (h == m) (Some (breaking (breaks_with ps g news x) x)) (at m)
    broken m = ap (λ o. rebroken o (loop_breaks ps g news) at m) around ∙ ap (λ ns. rebroken (Some h) ns at m) with_loop ∙ go (h == m) refl
      where
        go : (b : Bool) → (h == m) ≡ b → cond b (option_map (breaking (breaks_with ps g news x)) (at m)) (at m) ≡ cond b (Some (breaking (breaks_with ps g news x) x)) (at m)
        go true e = let q : h ≡ m = grind (arith, nat_tests) in ap (option_map (breaking (breaks_with ps g news x))) (ap at (sym q) ∙ known)
        go false e = refl

    pub same_breaks : ((before : ℕ) → among before (leaving news) (left_of g.gone x.breaks) ≡ x.breaks) → (m : ℕ) → at m ≡ rebroken g.context.head (loop_breaks ps g news) at m
    same_breaks stay m = sym (broken m ∙ go (h == m) refl)
      where
        go : (b : Bool) → (h == m) ≡ b → cond b (Some (breaking (breaks_with ps g news x) x)) (at m) ≡ at m
        go true e =
            let q : h ≡ m = grind (arith, nat_tests) in
            ap (λ ns. Some (breaking ns x)) (stay (front_count at (suc (program_count ps)) g.context.around g.front)) ∙ sym known ∙ ap at q
        go false e = refl
