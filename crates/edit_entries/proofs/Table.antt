-- The table of a program after an edit of a block is that of before, changed at the statements that go and come, at their two
-- neighbours, at the statement that has the block, and at the loop around it, which has other breaks.
use Rattle.std.proofs.lemmas.Bool.Decides.{nat_tests}
use Rattle.std.proofs.Common.{◌≡◌, ℕ, ◌==◌, inl, inr, cond, List, [], ◌∷◌, ◌++◌, length, Option, Some, None, Bool, true, false, refl, sym, ap, ◌∙◌, subst, arith}
use Rattle.std.specs.Option.{option_map}
use Rattle.std.proofs.lemmas.Option.{same_Some}
use Rattle.imp_syntax.specs.Plain.{Statement, Statements, Ends, Starts, Procedure, number_of, numbers, program_numbers}
use Rattle.imp_slots.specs.Fits.{Absent, Distinct}
use Rattle.imp_check.specs.Faults.{first}
use Rattle.imp_check.specs.Programs.{has}
use Rattle.imp_check.specs.declared.entry.Entry.{Entry}
use Rattle.imp_check.specs.Parts.{ends_of, first_or, last_or}
use Rattle.imp_check.specs.Entries.{block_entries, procedure_entries, entries_from, entries_of, entry_of, resolver_at, context_at}
use Rattle.edit_entries.specs.Spliced.{is, Splice, spliced, rebroken, breaking, with_next, with_front}
use Rattle.edit_entries.specs.Holes.{append, Hole, Body, plug, loop_of, between}
use Rattle.edit_entries.proofs.Others.{entry_append}
use Rattle.edit_entries.proofs.Stay.{Away, last_holder, others_stay, block_gone}
use Rattle.edit_entries.proofs.Programs.{old_program, new_program}
use Rattle.imp_check.proofs.NumberLemmas.{absent}
use Rattle.imp_check.proofs.RebuildLemmas.{In, entry_numbers, block_numbers}
use Rattle.edit_entries.proofs.Touched.{context_of, part_found, front_found, next_found}
use Rattle.edit_entries.proofs.Located.{Has}
use Rattle.edit_entries.proofs.Numbers.{around_edit, has_true, middle_alone, Apart}
use Rattle.edit_entries.proofs.Breaks.{Looped, looped, loop_found, loop_with, rebroken_loop, ends_plugged, holder_last}
use Rattle.imp_slots.proofs.Distinct.{absent_both, absent_left, absent_right}

pub is_some : (o : Option ℕ) (m : ℕ) → is o m ≡ true → o ≡ Some m
is_some None m h = cc
is_some (Some n) m h = ap Some (grind (arith, nat_tests))

-- No spot of a number that the program has not.
program_gone : (m : ℕ) (es ps : List Procedure) → Absent m (program_numbers ps) → entry_of (entries_from es ps) m ≡ None
program_gone m es [] h = refl
program_gone m es (p ∷ ps) h =
    entry_append (procedure_entries es p) (entries_from (es ++ p ∷ []) ps) m
    ∙ ap (λ o. first o (entry_of (entries_from (es ++ p ∷ []) ps) m)) (block_gone (resolver_at es p) m (context_at _) None None p.body (absent_left m (numbers p.body) (program_numbers ps) h))
    ∙ program_gone m (es ++ p ∷ []) ps (absent_right m (numbers p.body) (program_numbers ps) h)

-- One of the spots has a number of theirs.
pub record Shown (m : ℕ) (xs : List Entry) : Type 0 where
  pub spot : Entry
  pub there : In spot xs
  pub found : entry_of xs m ≡ Some spot
  pub number : spot.number ≡ m

shown : (m : ℕ) (xs : List Entry) → Has m (entry_numbers xs) → Shown m xs
shown m [] h = absurd h
shown m (x ∷ xs) h = go (x.number == m) refl h (shown m xs)
  where
    go : (b : Bool) → (x.number == m) ≡ b → Has m (entry_numbers (x ∷ xs)) → (Has m (entry_numbers xs) → Shown m xs) → Shown m (x ∷ xs)
    go true e h f = record { spot = x; there = inl refl; found = ap (λ b. cond b (Some x) (entry_of xs m)) e; number = grind (arith, nat_tests) }
    go false e (inl q) f = absurd (grind (arith, nat_tests))
    go false e (inr h) f = let s = f h in record { spot = s.spot; there = inr s.there; found = ap (λ b. cond b (Some x) (entry_of xs m)) e ∙ s.found; number = s.number }

-- The last statement of a block.
pub record Last (b : Statements) (m : ℕ) : Type 0 where
  pub before : Statements
  pub stmt : Statement
  pub is : b ≡ append before (Starts stmt Ends)
  pub number : number_of stmt ≡ m

pub last_is : (b : Statements) (m : ℕ) → last_or b None ≡ Some m → Last b m
last_is Ends m e = absurd cc
last_is (Starts s Ends) m e = record { before = Ends; stmt = s; is = refl; number = same_Some (number_of s) m e }
last_is (Starts s (Starts t ss)) m e = let l = last_is (Starts t ss) m e in record { before = Starts s l.before; stmt = l.stmt; is = ap (Starts s) l.is; number = l.number }

-- The first one.
pub record First (b : Statements) (m : ℕ) : Type 0 where
  pub stmt : Statement
  pub behind : Statements
  pub is : b ≡ Starts stmt behind
  pub number : number_of stmt ≡ m

pub first_is : (b : Statements) (m : ℕ) → first_or b None ≡ Some m → First b m
first_is Ends m e = absurd cc
first_is (Starts s ss) m e = record { stmt = s; behind = ss; is = refl; number = same_Some (number_of s) m e }

module _ (ps qs : List Procedure) (p : Procedure) (hs : List Hole) (before olds news behind : Statements) (breaks : List ℕ) where
  abbrev O : List Procedure
  O = old_program p hs before olds news behind ps qs

  abbrev N : List Procedure
  N = new_program p hs before olds news behind ps qs

  abbrev pub the_splice : Splice
  the_splice = record {
    gone = numbers olds;
    come = block_entries (resolver_at ps p) (context_of (context_at (length ps)) hs) (last_or before None) (first_or behind None) news;
    come_numbers = numbers news;
    front = last_or before None;
    next = first_or behind None;
    holder = last_holder hs;
    loop = loop_of None hs;
    breaks = breaks;
    first = first_or news (first_or behind None);
    last = last_or news (last_or before None);
  }

  module _ (old_once : Distinct (program_numbers O)) (new_once : Distinct (program_numbers N)) (apart : Apart (numbers olds) (numbers news)) (told : (m : ℕ) (y : Entry) → loop_of None hs ≡ Some m → entry_of (entries_of N) m ≡ Some y → y.breaks ≡ breaks) (held : Entry → Entry)
      (holds : (m : ℕ) → is (last_holder hs) m ≡ true → entry_of (entries_of N) m ≡ option_map held (rebroken (loop_of None hs) breaks (entry_of (entries_of O)) m)) where
    gone : (m : ℕ) → has (numbers olds) m ≡ true → entry_of (entries_of N) m ≡ None
    gone m h =
        let a = around_edit ps qs p hs before behind in
        let i = has_true m (numbers olds) h in
        let alone : Absent m (a.left ++ a.right) = middle_alone a.left (numbers olds) a.right m (subst Distinct (a.is olds) old_once) i in
        program_gone m [] N
        (subst (Absent m) (sym (a.is news))
        (absent_both m a.left (numbers news ++ a.right) (absent_left m a.left a.right alone)
        (absent_both m (numbers news) a.right (apart m i) (absent_right m a.left a.right alone))))

    come : (m : ℕ) → has (numbers news) m ≡ true → entry_of (entries_of N) m ≡ entry_of the_splice.come m
    come m h =
        let xs = the_splice.come in
        let s = shown m xs (subst (Has m) (sym (block_numbers (resolver_at ps p) (context_of (context_at (length ps)) hs) (last_or before None) (first_or behind None) news)) (has_true m (numbers news) h)) in
        ap (entry_of (entries_of N)) (sym s.number) ∙ part_found ps qs p hs before news behind new_once s.spot s.there ∙ sym s.found

    in_front : (m : ℕ) → is (last_or before None) m ≡ true → entry_of (entries_of N) m ≡ option_map (with_next the_splice.first) (entry_of (entries_of O) m)
    in_front m h =
        let l = last_is before m (is_some (last_or before None) m h) in
        ap (entry_of (entries_of N)) (sym l.number)
        ∙ front_found ps qs p hs before news behind new_once l.before l.stmt l.is
        ∙ ap (option_map (with_next the_splice.first)) (sym (front_found ps qs p hs before olds behind old_once l.before l.stmt l.is) ∙ ap (entry_of (entries_of O)) l.number)

    in_back : (m : ℕ) → is (first_or behind None) m ≡ true → entry_of (entries_of N) m ≡ option_map (with_front the_splice.last) (entry_of (entries_of O) m)
    in_back m h =
        let l = first_is behind m (is_some (first_or behind None) m h) in
        ap (entry_of (entries_of N)) (sym l.number)
        ∙ next_found ps qs p hs before news behind new_once l.behind l.stmt l.is
        ∙ ap (option_map (with_front the_splice.last)) (sym (next_found ps qs p hs before olds behind old_once l.behind l.stmt l.is) ∙ ap (entry_of (entries_of O)) l.number)

    -- the loop around the block has the breaks that are told
    loses : (m : ℕ) → is (loop_of None hs) m ≡ true → is (last_holder hs) m ≡ false → entry_of (entries_of N) m ≡ option_map (breaking breaks) (entry_of (entries_of O) m)
    loses m i h =
        let l = looped hs m (is_some (loop_of None hs) m i) in
        let x = between before behind olds in
        let y = between before behind news in
        loop_found ps qs p hs m l y new_once
        ∙ ap Some (go l)
        ∙ ap (option_map (breaking breaks)) (sym (loop_found ps qs p hs m l x old_once))
      where
        by_inner : (l : Looped hs m) (gs : List Hole) → l.inner ≡ gs → loop_with ps qs p hs m l (between before behind news) ≡ breaking breaks (loop_with ps qs p hs m l (between before behind olds))
        by_inner l [] e =
            let t : is (Some m) m ≡ true = grind (arith, nat_tests) in
            let last : last_holder hs ≡ Some m = ap last_holder l.is ∙ ap (λ gs. last_holder (l.outer ++ Body l.before m l.condition l.behind ∷ gs)) e ∙ holder_last l.outer (Body l.before m l.condition l.behind) in
            let no : true ≡ false = sym t ∙ ap (λ o. is o m) (sym last) ∙ h in
            cc
        by_inner l (g ∷ gs) e =
            let x = between before behind olds in
            let y = between before behind news in
            rebroken_loop (resolver_at ps p) (context_of (context_at (length ps)) l.outer) (last_or l.before None) (first_or l.behind None) m l.condition breaks (plug l.inner x) (plug l.inner y)
            (ap (λ z. ends_of (plug z y)) e ∙ ends_plugged g gs x y ∙ ap (λ z. ends_of (plug z x)) (sym e))
            (told m (loop_with ps qs p hs m l y) (is_some (loop_of None hs) m i) (loop_found ps qs p hs m l y new_once))

        go : (l : Looped hs m) → loop_with ps qs p hs m l (between before behind news) ≡ breaking breaks (loop_with ps qs p hs m l (between before behind olds))
        go l = by_inner l l.inner refl

    -- The new table is the old one, spliced.
    pub table_is : (m : ℕ) → entry_of (entries_of N) m ≡ spliced the_splice held (entry_of (entries_of O)) m
    table_is m = by_gone (has (numbers olds) m) refl
      where
        t : Option Entry
        t = entry_of (entries_of N) m

        by_loop : (b : Bool) → is (loop_of None hs) m ≡ b → is (last_holder hs) m ≡ false → Away m hs before olds news behind →
            entry_of (entries_of N) m ≡ cond b (option_map (breaking breaks) (entry_of (entries_of O) m)) (entry_of (entries_of O) m)
        by_loop true i e a = loses m i e
        by_loop false i e a = sym (others_stay p hs before olds news behind m a ps qs i)

        by_holder : (b : Bool) → is (last_holder hs) m ≡ b → has (numbers olds) m ≡ false → has (numbers news) m ≡ false → is (last_or before None) m ≡ false → is (first_or behind None) m ≡ false →
            entry_of (entries_of N) m ≡ cond b (option_map held (rebroken (loop_of None hs) breaks (entry_of (entries_of O)) m)) (rebroken (loop_of None hs) breaks (entry_of (entries_of O)) m)
        by_holder true e g c f n = holds m e
        by_holder false e g c f n = by_loop (is (loop_of None hs) m) refl e (record { not_gone = absent (numbers olds) m g; not_new = absent (numbers news) m c; not_front = f; not_next = n; not_holder = e })

        by_next : (b : Bool) → is (first_or behind None) m ≡ b → has (numbers olds) m ≡ false → has (numbers news) m ≡ false → is (last_or before None) m ≡ false →
            entry_of (entries_of N) m ≡ cond b (option_map (with_front the_splice.last) (entry_of (entries_of O) m)) (cond (is (last_holder hs) m) (option_map held (rebroken (loop_of None hs) breaks (entry_of (entries_of O)) m)) (rebroken (loop_of None hs) breaks (entry_of (entries_of O)) m))
        by_next true e g c f = in_back m e
        by_next false e g c f = by_holder (is (last_holder hs) m) refl g c f e

        by_front : (b : Bool) → is (last_or before None) m ≡ b → has (numbers olds) m ≡ false → has (numbers news) m ≡ false →
            entry_of (entries_of N) m ≡ cond b (option_map (with_next the_splice.first) (entry_of (entries_of O) m)) (cond (is (first_or behind None) m) (option_map (with_front the_splice.last) (entry_of (entries_of O) m)) (cond (is (last_holder hs) m) (option_map held (rebroken (loop_of None hs) breaks (entry_of (entries_of O)) m)) (rebroken (loop_of None hs) breaks (entry_of (entries_of O)) m)))
        by_front true e g c = in_front m e
        by_front false e g c = by_next (is (first_or behind None) m) refl g c e

        by_come : (b : Bool) → has (numbers news) m ≡ b → has (numbers olds) m ≡ false →
            entry_of (entries_of N) m ≡ cond b (entry_of the_splice.come m) (cond (is (last_or before None) m) (option_map (with_next the_splice.first) (entry_of (entries_of O) m)) (cond (is (first_or behind None) m) (option_map (with_front the_splice.last) (entry_of (entries_of O) m)) (cond (is (last_holder hs) m) (option_map held (rebroken (loop_of None hs) breaks (entry_of (entries_of O)) m)) (rebroken (loop_of None hs) breaks (entry_of (entries_of O)) m))))
        by_come true e g = come m e
        by_come false e g = by_front (is (last_or before None) m) refl g e

        by_gone : (b : Bool) → has (numbers olds) m ≡ b →
            entry_of (entries_of N) m ≡ cond b None (cond (has (numbers news) m) (entry_of the_splice.come m) (cond (is (last_or before None) m) (option_map (with_next the_splice.first) (entry_of (entries_of O) m)) (cond (is (first_or behind None) m) (option_map (with_front the_splice.last) (entry_of (entries_of O) m)) (cond (is (last_holder hs) m) (option_map held (rebroken (loop_of None hs) breaks (entry_of (entries_of O)) m)) (rebroken (loop_of None hs) breaks (entry_of (entries_of O)) m)))))
        by_gone true e = gone m e
        by_gone false e = by_come (has (numbers news) m) refl e
