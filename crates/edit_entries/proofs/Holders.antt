-- What an edit of a block changes of the statement that has the block.
use Rattle.std.proofs.lemmas.Bool.{false≢true}
use Rattle.std.proofs.lemmas.Bool.Decides.{nat_tests}
use Rattle.std.proofs.Common.{◌≡◌, ℕ, List, [], ◌∷◌, ◌++◌, length, cond, Option, Some, None, Bool, true, false, refl, sym, ap, ◌∙◌, subst, arith}
use Rattle.std.specs.Option.{option_map}
use Rattle.imp_syntax.specs.Plain.{Statement, Simple, Break, Call, If, While, Statements, Procedure, numbers, program_numbers}
use Rattle.imp_slots.specs.Fits.{Distinct}
use Rattle.imp_check.specs.Slots.{Resolver}
use Rattle.imp_check.specs.declared.entry.Context.{Context}
use Rattle.imp_check.specs.declared.entry.Entry.{Entry}
use Rattle.imp_check.specs.declared.entry.BlockEnds.{BlockEnds}
use Rattle.imp_check.specs.Parts.{ends_of, first_or, last_or, leaving}
use Rattle.imp_check.specs.Entries.{entry_at, entries_of, entry_of, resolver_at, context_at}
use Rattle.edit_entries.specs.Spliced.{is, rebroken, spliced, breaking}
use Rattle.edit_entries.specs.Holes.{append, Hole, Then, Else, Body, fill, plug, holder, loop_of, between, with_body}
use Rattle.edit_entries.proofs.Others.{first_append, last_append, leaving_append}
use Rattle.edit_entries.proofs.Breaks.{holder_last, loop_last, looped, loop_found, loop_with}
use Rattle.edit_entries.proofs.Filled.{before as around_before, behind as around_behind, has_loop, holding, holding_number}
use Rattle.edit_entries.proofs.Stay.{last_holder}
use Rattle.edit_entries.proofs.Programs.{old_program, new_program}
use Rattle.edit_entries.proofs.Touched.{context_of, plug_last, holder_found}
use Rattle.edit_entries.proofs.Numbers.{Apart}
use Rattle.edit_entries.proofs.Table.{is_some, the_splice, table_is}

-- The ends of a block with a part exchanged.
pub ends_between : (before behind x : Statements) → ends_of (between before behind x) ≡ record { first = first_or before (first_or x (first_or behind None)); last = last_or behind (last_or x (last_or before None)) }
ends_between before behind x =
    ap (λ o. record { first = o; last = last_or (between before behind x) None }) (first_append before (append x behind) None ∙ ap (first_or before) (first_append x behind None))
    ∙ ap (λ o. record { first = first_or before (first_or x (first_or behind None)); last = o }) (last_append before (append x behind) None ∙ last_append x behind (last_or before None))

pub leaving_between : (before behind x y : Statements) → leaving x ≡ leaving y → leaving (between before behind x) ≡ leaving (between before behind y)
leaving_between before behind x y q =
    leaving_append before (append x behind) ∙ ap (λ k. leaving before ++ k) (leaving_append x behind ∙ ap (λ k. k ++ leaving behind) q ∙ sym (leaving_append y behind)) ∙ sym (leaving_append before (append y behind))

-- the statement that has the block, with these ends of it
abbrev pub held : Hole → BlockEnds → Entry → Entry
held (Then b n c e r) s x = record x { inner = s }
held (Else b n c t r) s x = record x { other = s }
held (Body b n c r) s x = record x { inner = s }

-- the same of a statement that had the block, and has other breaks where it is the loop around it
rebroken_held : (f : Resolver) (k : Context) (a p : Option ℕ) (ns : List ℕ) (h : Hole) (t : Bool) (x y : Statements) → t ≡ has_loop (h ∷ []) → (t ≡ true → leaving y ≡ ns) →
    Some (entry_at f k a p (holding h y)) ≡ option_map (held h (ends_of y)) (cond t (option_map (breaking ns) (Some (entry_at f k a p (holding h x)))) (Some (entry_at f k a p (holding h x))))
rebroken_held f k a p ns (Then b n c e r) true x y i q = cc
rebroken_held f k a p ns (Then b n c e r) false x y i q = refl
rebroken_held f k a p ns (Else b n c t r) true x y i q = cc
rebroken_held f k a p ns (Else b n c t r) false x y i q = refl
rebroken_held f k a p ns (Body b n c r) true x y i q = ap (λ ls. Some (record (entry_at f k a p (While n c y)) { breaks = ls })) (q refl)
rebroken_held f k a p ns (Body b n c r) false x y i q = cc

abbrev is_while : Statement → Bool
is_while (Simple n a) = false
is_while (Break n) = false
is_while (Call n x g es) = false
is_while (If n c t e) = false
is_while (While n c b) = true

pub some_is : (n m : ℕ) → is (Some n) m ≡ true → n ≡ m
some_is n m h = grind (arith, nat_tests)

module _ (ps qs : List Procedure) (p : Procedure) (gs : List Hole) (h : Hole) (before olds news behind : Statements) (breaks : List ℕ) where
  abbrev hs : List Hole
  hs = gs ++ h ∷ []

  abbrev O : List Procedure
  O = old_program p hs before olds news behind ps qs

  abbrev N : List Procedure
  N = new_program p hs before olds news behind ps qs

  whole : (x : Statements) → ps ++ with_body p (plug hs x) ∷ qs ≡ ps ++ with_body p (plug gs (fill h x)) ∷ qs
  whole x = ap (λ b. ps ++ with_body p b ∷ qs) (plug_last gs h x)

  pub shown : (x : Statements) → Distinct (program_numbers (ps ++ with_body p (plug hs x) ∷ qs)) →
      entry_of (entries_of (ps ++ with_body p (plug hs x) ∷ qs)) (holder h) ≡ Some (entry_at (resolver_at ps p) (context_of (context_at (length ps)) gs) (last_or (around_before h) None) (first_or (around_behind h) None) (holding h x))
  shown x once =
      ap (λ os. entry_of (entries_of os) (holder h)) (whole x)
      ∙ ap (entry_of (entries_of (ps ++ with_body p (plug gs (fill h x)) ∷ qs))) (sym (holding_number h x))
      ∙ holder_found ps qs p gs h x (subst (λ (os : List Procedure). Distinct (program_numbers os)) (whole x) once)

  -- what is told of the breaks of the loop around, in the new program
  abbrev pub Told : Type 0
  Told = (m : ℕ) (y : Entry) → loop_of None hs ≡ Some m → entry_of (entries_of N) m ≡ Some y → y.breaks ≡ breaks

  -- The statement that has the block is the loop around it only where it is a loop.
  module _ (old : Distinct (program_numbers O)) where
    abbrev is_loop : Bool
    is_loop = is (loop_of None hs) (holder h)

    no_loop_there : has_loop (h ∷ []) ≡ false → is_loop ≡ true → ⊥
    no_loop_there i t =
        let l = looped hs (holder h) (is_some (loop_of None hs) (holder h) t) in
        let x = between before behind olds in
        let a = loop_found ps qs p hs (holder h) l x old in
        let b = shown x old in
        differ h i (loop_with ps qs p hs (holder h) l x) (resolver_at ps p) (context_of (context_at (length ps)) gs) (last_or (around_before h) None) (first_or (around_behind h) None) x refl (sym a ∙ b)
      where
        differ : (h : Hole) → has_loop (h ∷ []) ≡ false → (y : Entry) (f : Resolver) (k : Context) (a p : Option ℕ) (x : Statements) → is_while y.part ≡ true → Some y ≡ Some (entry_at f k a p (holding h x)) → ⊥
        differ (Then b n c e r) i y f k a p x w q = let z : y ≡ entry_at f k a p (If n c x e) = cc in let no : true ≡ false = sym w ∙ ap (λ (o : Entry). is_while o.part) z in absurd cc
        differ (Else b n c t r) i y f k a p x w q = let z : y ≡ entry_at f k a p (If n c t x) = cc in let no : true ≡ false = sym w ∙ ap (λ (o : Entry). is_while o.part) z in absurd cc
        differ (Body b n c r) i y f k a p x w q = absurd cc

    loop_here : is_loop ≡ has_loop (h ∷ [])
    loop_here = go (has_loop (h ∷ [])) refl is_loop refl
      where
        go : (a : Bool) → has_loop (h ∷ []) ≡ a → (b : Bool) → is_loop ≡ b → b ≡ a
        go true i true t = refl
        go false i false t = refl
        go true i false t = let u : is_loop ≡ true = ap (λ o. is o (holder h)) (loop_last None gs h i) ∙ same (holder h) in let no : false ≡ true = sym t ∙ u in cc
          where
            same : (n : ℕ) → is (Some n) n ≡ true
            same n = grind (arith, nat_tests)
        go false i true t = absurd (no_loop_there i t)

  pub holds : Distinct (program_numbers O) → Distinct (program_numbers N) → Told → (m : ℕ) → is (last_holder hs) m ≡ true →
      entry_of (entries_of N) m ≡ option_map (held h (ends_of (between before behind news))) (rebroken (loop_of None hs) breaks (entry_of (entries_of O)) m)
  holds old new told m e =
      let same : holder h ≡ m = some_is (holder h) m (ap (λ o. is o m) (sym (holder_last gs h)) ∙ e) in
      let f = resolver_at ps p in
      let k = context_of (context_at (length ps)) gs in
      let a = last_or (around_before h) None in
      let b = first_or (around_behind h) None in
      let x = between before behind olds in
      let y = between before behind news in
      let t = is (loop_of None hs) m in
      let was : entry_of (entries_of O) m ≡ Some (entry_at f k a b (holding h x)) = ap (entry_of (entries_of O)) (sym same) ∙ shown x old in
      let now : entry_of (entries_of N) m ≡ Some (entry_at f k a b (holding h y)) = ap (entry_of (entries_of N)) (sym same) ∙ shown y new in
      let here : t ≡ has_loop (h ∷ []) = ap (is (loop_of None hs)) (sym same) ∙ loop_here old in
      now
      ∙ rebroken_held f k a b breaks h t x y here (λ i. told_breaks h f k a b y (sym here ∙ i) (told m (entry_at f k a b (holding h y)) (some_loop_at i) now))
      ∙ ap (λ o. option_map (held h (ends_of y)) (cond t (option_map (breaking breaks) o) o)) (sym was)
    where
      some_loop_at : is (loop_of None hs) m ≡ true → loop_of None hs ≡ Some m
      some_loop_at i = is_some (loop_of None hs) m i

      told_breaks : (h : Hole) (f : Resolver) (k : Context) (a b : Option ℕ) (y : Statements) → has_loop (h ∷ []) ≡ true → (entry_at f k a b (holding h y)).breaks ≡ breaks → leaving y ≡ breaks
      told_breaks (Then v n c e r) f k a b y i w = absurd cc
      told_breaks (Else v n c t r) f k a b y i w = absurd cc
      told_breaks (Body v n c r) f k a b y i w = w

-- The table after an edit of a block that is the body of a procedure: no statement has it.
pub edit_body_table : (ps qs : List Procedure) (p : Procedure) (before olds news behind : Statements) (breaks : List ℕ) → let O = old_program p [] before olds news behind ps qs in let N = new_program p [] before olds news behind ps qs in
    Distinct (program_numbers O) → Distinct (program_numbers N) → Apart (numbers olds) (numbers news) → (m : ℕ) →
    entry_of (entries_of N) m ≡ spliced (the_splice ps qs p [] before olds news behind breaks) (λ x. x) (entry_of (entries_of O)) m
edit_body_table ps qs p before olds news behind breaks old new apart m = table_is ps qs p [] before olds news behind breaks old new apart (λ n x l w. cc) (λ x. x) (λ n e. absurd (false≢true e)) m
