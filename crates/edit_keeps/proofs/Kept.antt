-- What edits make of programs keeps the seats of the statements that stay.
use Rattle.std.proofs.lemmas.List.{reverse-append}
use Rattle.std.specs.List.{All}
use Rattle.std.specs.Str.{bytes_eq}
use Rattle.std.specs.Cmp.Lexicographic.{bytes_decides}
use Rattle.std.specs.Prelude.{codes}
use Rattle.std.proofs.Common.{◌≡◌, ℕ, zero, suc, ◌<◌, ◌≤◌, ◌-◌, ◌==◌, ◌⊎◌, inl, inr, List, [], ◌∷◌, ◌++◌, reverse, length, slice_get, option_map, Option, Some, None, Bool, true, false, cond, refl, sym, ap, ◌∙◌, subst, append_assoc, append-nil, arith}
use Rattle.imp_syntax.specs.Plain.{Condition, Statement, Statements, Procedure, number_of, numbers, program_numbers}
use Rattle.imp_syntax.specs.Plain as tree
use Rattle.imp_syntax.specs.declared.words.Declaration.{Declaration}
use Rattle.imp_syntax.specs.declared.edit.Edit.{Edit}
use Rattle.imp_syntax.specs.declared.edit.Edit.TheVariants as edit
use Rattle.imp_syntax.specs.declared.edit.Place.{Place}
use Rattle.imp_syntax.specs.declared.edit.Place.TheVariants as place
use Rattle.imp_slots.specs.Plain.{Routine}
use Rattle.imp_slots.specs.Fits.{Distinct}
use Rattle.imp_check.specs.Fine.{IsFine}
use Rattle.imp_check.specs.Faults.{unless, first, at, in_procedure}
use Rattle.imp_check.specs.declared.fault.Fault.TheVariants.{NoMain, MainHasParameters}
use Rattle.imp_check.specs.Programs.{check_fault, last_of, name_of, size_fault, procedures_fault, ending_fault, takes_nothing, chains_fault}
use Rattle.imp_check.specs.Slots.{routine_of, routines_from, routines_of}
use Rattle.edit_entries.specs.Holes.{append}
use Rattle.imp_edit.specs.Changes.{in_statement, in_block, in_program, deleted, exchanged, followed, then_started, else_started, body_started, guarded, at_named, started, declared_in, preceded, dropped}
use Rattle.imp_edit.specs.Edited.{placed, edited, brought, uses, counting, Continues}
use Rattle.imp_check.proofs.FewLemmas.{first_none, unless_none, at_none, in_none}
use Rattle.base_values.proofs.Members.{Member, here, there, in_left, in_right, Each, each_more, each_both, none_there, each_as, keys, key_member}
use Rattle.batch_meaning.specs.Places.{find}
use Rattle.batch_meaning.proofs.Places.{found, found_member}
use Rattle.cell_rows.specs.Flat.{Flat, flat}
use Rattle.cell_kept_set.specs.Places.{first_name, SamePlace, KeepPlaces}
use Rattle.edit_keeps.specs.Seats.{Seat, seat, seats_in, seats, program_seats}
use Rattle.edit_keeps.proofs.Seen.{keys_block, keys_program, all_seen}
use Rattle.std.proofs.lemmas.Option.{same_Some}
use Rattle.imp_check.proofs.FitsPrograms.{all_numbers}

-- Each entry is new or one of the others.
module _ (new : ℕ → Type 0) where
  abbrev pub Or : List (ℕ × Seat) → ℕ × Seat → Type 0
  Or xs x = new x.0 ⊎ Member x xs

  abbrev pub From : List (ℕ × Seat) → List (ℕ × Seat) → Type 0
  From xs ys = Each (Or xs) ys

  or_more : (xs zs : List (ℕ × Seat)) → ((x : ℕ × Seat) → Member x xs → Member x zs) → (x : ℕ × Seat) → Or xs x → Or zs x
  or_more xs zs h x (inl n) = inl n
  or_more xs zs h x (inr m) = inr (h x m)

  pub from_more : (xs zs ys : List (ℕ × Seat)) → ((x : ℕ × Seat) → Member x xs → Member x zs) → From xs ys → From zs ys
  from_more xs zs ys h e = each_as (Or xs) (Or zs) ys (or_more xs zs h) e

  pub from_self : (xs : List (ℕ × Seat)) → From xs xs
  from_self xs = record { at = λ x m. inr m }

  pub from_both : (xs ys us vs : List (ℕ × Seat)) → From xs us → From ys vs → From (xs ++ ys) (us ++ vs)
  from_both xs ys us vs e f = each_both (Or (xs ++ ys)) us vs (from_more xs (xs ++ ys) us (λ x m. in_left ys m) e) (from_more ys (xs ++ ys) vs (λ x m. in_right xs m) f)

  pub all_new : (xs ys : List (ℕ × Seat)) → Each new (keys ys) → From xs ys
  all_new xs ys e = record { at = λ y m. inl (e.at y.0 (key_member y ys m)) }

  pub in_front : (xs us ys : List (ℕ × Seat)) → Each new (keys us) → From xs ys → From xs (us ++ ys)
  in_front xs us ys n e = each_both (Or xs) us ys (all_new xs us n) e

seats_append : (p ls : List ℕ) (xs ys : Statements) → seats p ls (append xs ys) ≡ seats p ls xs ++ seats p ls ys
seats_append p ls tree.Ends ys = refl
seats_append p ls (tree.Starts s xs) ys = ap (λ k. seats_in p ls s ++ k) (seats_append p ls xs ys) ∙ sym (append_assoc (seats_in p ls s) (seats p ls xs) (seats p ls ys))

module _ (new : ℕ → Type 0) where
  -- what is made of a statement
  abbrev Made : (Statement → Statements) → Type 0
  Made f = (p ls : List ℕ) (s : Statement) → From new (seats_in p ls s) (seats p ls (f s))

  module _ (n : ℕ) (f : Statement → Statements) (made : Made f) where
    mutual
      from_statement : (p ls : List ℕ) (s : Statement) → From new (seats_in p ls s) (seats_in p ls (in_statement n f s))
      from_statement p ls (tree.Simple m a) = from_self new _
      from_statement p ls (tree.Break m) = from_self new _
      from_statement p ls (tree.Call m x g es) = from_self new _
      from_statement p ls (tree.If m c t e) =
          from_both new ((m, seat p ls None) ∷ []) (seats p ls t ++ seats p ls e) ((m, seat p ls None) ∷ []) (seats p ls (in_block n f t) ++ seats p ls (in_block n f e)) (from_self new ((m, seat p ls None) ∷ []))
          (from_both new (seats p ls t) (seats p ls e) (seats p ls (in_block n f t)) (seats p ls (in_block n f e)) (from_block p ls t) (from_block p ls e))
      from_statement p ls (tree.While m c b) =
          from_both new ((m, seat p ls None) ∷ []) (seats p (ls ++ m ∷ []) b) ((m, seat p ls None) ∷ []) (seats p (ls ++ m ∷ []) (in_block n f b)) (from_self new ((m, seat p ls None) ∷ [])) (from_block p (ls ++ m ∷ []) b)

      from_block : (p ls : List ℕ) (ss : Statements) → From new (seats p ls ss) (seats p ls (in_block n f ss))
      from_block p ls tree.Ends = from_self new []
      from_block p ls (tree.Starts s ss) = go (number_of s == n) (from_statement p ls s) (from_block p ls ss)
        where
          go : (b : Bool) → From new (seats_in p ls s) (seats_in p ls (in_statement n f s)) → From new (seats p ls ss) (seats p ls (in_block n f ss)) → From new (seats p ls (tree.Starts s ss)) (seats p ls (cond b (append (f s) ss) (tree.Starts (in_statement n f s) (in_block n f ss))))
          go true h k =
              subst (From new (seats_in p ls s ++ seats p ls ss)) (sym (seats_append p ls (f s) ss))
              (from_both new (seats_in p ls s) (seats p ls ss) (seats p ls (f s)) (seats p ls ss) (made p ls s) (from_self new (seats p ls ss)))
          go false h k = from_both new (seats_in p ls s) (seats p ls ss) (seats_in p ls (in_statement n f s)) (seats p ls (in_block n f ss)) h k

    pub from_program : (ps : List Procedure) → From new (program_seats ps) (program_seats (in_program n f ps))
    from_program [] = from_self new []
    from_program (p ∷ ps) = from_both new (seats p.name [] p.body) (program_seats ps) (seats p.name [] (in_block n f p.body)) (program_seats (in_program n f ps)) (from_block p.name [] p.body) (from_program ps)

  abbrev New : Statements → Type 0
  New more = Each new (numbers more)

  new_keys : (p ls : List ℕ) (more : Statements) → New more → Each new (keys (seats p ls more))
  new_keys p ls more h = subst (Each new) (sym (keys_block p ls more)) h

  put_in_front : (p ls : List ℕ) (more b : Statements) → New more → From new (seats p ls b) (seats p ls (append more b))
  put_in_front p ls more b h = subst (From new (seats p ls b)) (sym (seats_append p ls more b)) (in_front new (seats p ls b) (seats p ls more) (seats p ls b) (new_keys p ls more h) (from_self new (seats p ls b)))

  from_nothing : (xs : List (ℕ × Seat)) → From new xs []
  from_nothing xs = record { at = λ x m. elim m [ ] }

  made_deleted : Made deleted
  made_deleted p ls s = from_nothing (seats_in p ls s)

  made_exchanged : (t : Statement) → New (tree.Starts t tree.Ends) → Made (exchanged t)
  made_exchanged t h p ls s = all_new new (seats_in p ls s) (seats p ls (tree.Starts t tree.Ends)) (new_keys p ls (tree.Starts t tree.Ends) h)

  -- a statement alone, whose seats are from the old ones
  alone : (p ls : List ℕ) (s t : Statement) → From new (seats_in p ls s) (seats_in p ls t) → From new (seats_in p ls s) (seats p ls (tree.Starts t tree.Ends))
  alone p ls s t e = subst (From new (seats_in p ls s)) (sym (append-nil (seats_in p ls t))) e

  stays : (p ls : List ℕ) (s : Statement) → From new (seats_in p ls s) (seats p ls (tree.Starts s tree.Ends))
  stays p ls s = alone p ls s s (from_self new (seats_in p ls s))

  made_followed : (more : Statements) → New more → Made (followed more)
  made_followed more h p ls s =
      subst (λ xs. From new xs (seats p ls (tree.Starts s more))) (append-nil (seats_in p ls s))
      (from_both new (seats_in p ls s) [] (seats_in p ls s) (seats p ls more) (from_self new (seats_in p ls s)) (all_new new [] (seats p ls more) (new_keys p ls more h)))

  made_then : (more : Statements) → New more → Made (then_started more)
  made_then more h p ls (tree.If n c t e) =
      alone p ls (tree.If n c t e) (tree.If n c (append more t) e)
      (from_both new ((n, seat p ls None) ∷ []) (seats p ls t ++ seats p ls e) ((n, seat p ls None) ∷ []) (seats p ls (append more t) ++ seats p ls e) (from_self new ((n, seat p ls None) ∷ []))
      (from_both new (seats p ls t) (seats p ls e) (seats p ls (append more t)) (seats p ls e) (put_in_front p ls more t h) (from_self new (seats p ls e))))
  made_then more h p ls (tree.Simple n a) = stays p ls (tree.Simple n a)
  made_then more h p ls (tree.Break n) = stays p ls (tree.Break n)
  made_then more h p ls (tree.Call n x g es) = stays p ls (tree.Call n x g es)
  made_then more h p ls (tree.While n c b) = stays p ls (tree.While n c b)

  made_else : (more : Statements) → New more → Made (else_started more)
  made_else more h p ls (tree.If n c t e) =
      alone p ls (tree.If n c t e) (tree.If n c t (append more e))
      (from_both new ((n, seat p ls None) ∷ []) (seats p ls t ++ seats p ls e) ((n, seat p ls None) ∷ []) (seats p ls t ++ seats p ls (append more e)) (from_self new ((n, seat p ls None) ∷ []))
      (from_both new (seats p ls t) (seats p ls e) (seats p ls t) (seats p ls (append more e)) (from_self new (seats p ls t)) (put_in_front p ls more e h)))
  made_else more h p ls (tree.Simple n a) = stays p ls (tree.Simple n a)
  made_else more h p ls (tree.Break n) = stays p ls (tree.Break n)
  made_else more h p ls (tree.Call n x g es) = stays p ls (tree.Call n x g es)
  made_else more h p ls (tree.While n c b) = stays p ls (tree.While n c b)

  made_body : (more : Statements) → New more → Made (body_started more)
  made_body more h p ls (tree.While n c b) =
      alone p ls (tree.While n c b) (tree.While n c (append more b))
      (from_both new ((n, seat p ls None) ∷ []) (seats p (ls ++ n ∷ []) b) ((n, seat p ls None) ∷ []) (seats p (ls ++ n ∷ []) (append more b)) (from_self new ((n, seat p ls None) ∷ [])) (put_in_front p (ls ++ n ∷ []) more b h))
  made_body more h p ls (tree.Simple n a) = stays p ls (tree.Simple n a)
  made_body more h p ls (tree.Break n) = stays p ls (tree.Break n)
  made_body more h p ls (tree.Call n x g es) = stays p ls (tree.Call n x g es)
  made_body more h p ls (tree.If n c t e) = stays p ls (tree.If n c t e)

  made_guarded : (d : Condition) → Made (guarded d)
  made_guarded d p ls (tree.If n c t e) = stays p ls (tree.If n d t e)
  made_guarded d p ls (tree.While n c b) = stays p ls (tree.While n d b)
  made_guarded d p ls (tree.Simple n a) = stays p ls (tree.Simple n a)
  made_guarded d p ls (tree.Break n) = stays p ls (tree.Break n)
  made_guarded d p ls (tree.Call n x g es) = stays p ls (tree.Call n x g es)

  -- what is made of a procedure
  abbrev MadeOf : (Procedure → List Procedure) → Type 0
  MadeOf f = (p : Procedure) → From new (seats p.name [] p.body) (program_seats (f p))

  split : (ps qs : List Procedure) → program_seats (ps ++ qs) ≡ program_seats ps ++ program_seats qs
  split [] qs = refl
  split (p ∷ ps) qs = ap (λ k. seats p.name [] p.body ++ k) (split ps qs) ∙ sym (append_assoc (seats p.name [] p.body) (program_seats ps) (program_seats qs))

  pub from_named : (x : List ℕ) (f : Procedure → List Procedure) → MadeOf f → (ps : List Procedure) → From new (program_seats ps) (program_seats (at_named x f ps))
  from_named x f made [] = from_self new []
  from_named x f made (p ∷ ps) = go (bytes_eq p.name x) (from_named x f made ps)
    where
      go : (b : Bool) → From new (program_seats ps) (program_seats (at_named x f ps)) → From new (program_seats (p ∷ ps)) (program_seats (cond b (f p ++ ps) (p ∷ at_named x f ps)))
      go true h =
          subst (From new (seats p.name [] p.body ++ program_seats ps)) (sym (split (f p) ps))
          (from_both new (seats p.name [] p.body) (program_seats ps) (program_seats (f p)) (program_seats ps) (made p) (from_self new (program_seats ps)))
      go false h = from_both new (seats p.name [] p.body) (program_seats ps) (seats p.name [] p.body) (program_seats (at_named x f ps)) (from_self new (seats p.name [] p.body)) h

  only : (p : Procedure) (ys : List (ℕ × Seat)) → From new (seats p.name [] p.body) ys → From new (seats p.name [] p.body) (ys ++ [])
  only p ys e = subst (From new (seats p.name [] p.body)) (sym (append-nil ys)) e

  made_started : (more : Statements) → New more → MadeOf (started more)
  made_started more h p = only p (seats p.name [] (append more p.body)) (put_in_front p.name [] more p.body h)

  made_declared : (d : Declaration) → MadeOf (declared_in d)
  made_declared d p = only p (seats p.name [] p.body) (from_self new (seats p.name [] p.body))

  made_preceded : (q : Procedure) → New q.body → MadeOf (preceded q)
  made_preceded q h p = in_front new (seats p.name [] p.body) (seats q.name [] q.body) (seats p.name [] p.body ++ []) (new_keys q.name [] q.body h) (only p (seats p.name [] p.body) (from_self new (seats p.name [] p.body)))

  made_dropped : MadeOf dropped
  made_dropped p = from_nothing (seats p.name [] p.body)

  from_placed : (at : Place) (more : Statements) → New more → (ps : List Procedure) → From new (program_seats ps) (program_seats (placed at more ps))
  from_placed (place.After n) more h ps = from_program n (followed more) (made_followed more h) ps
  from_placed (place.ThenStart n) more h ps = from_program n (then_started more) (made_then more h) ps
  from_placed (place.ElseStart n) more h ps = from_program n (else_started more) (made_else more h) ps
  from_placed (place.BodyStart n) more h ps = from_program n (body_started more) (made_body more h) ps
  from_placed (place.ProcStart x) more h ps = from_named x (started more) (made_started more h) ps

  pub from_edit : (e : Edit) → New (brought e) → (ps : List Procedure) → From new (program_seats ps) (program_seats (edited e ps))
  from_edit (edit.Replace n t) h ps = from_program n (exchanged t) (made_exchanged t h) ps
  from_edit (edit.Insert at more) h ps = from_placed at more h ps
  from_edit (edit.Delete n) h ps = from_program n deleted made_deleted ps
  from_edit (edit.Guard n c) h ps = from_program n (guarded c) (made_guarded c) ps
  from_edit (edit.Declare x d) h ps = from_named x (declared_in d) (made_declared d) ps
  from_edit (edit.AddProc x p) h ps = from_named x (preceded p) (made_preceded p h) ps
  from_edit (edit.DropProc x) h ps = from_named x dropped made_dropped ps

-- The numbers from the next one on, which the program lacks.
high : (next count : ℕ) → Each (λ (k : ℕ). next ≤ k) (counting next count)
high next zero = none_there (λ (k : ℕ). next ≤ k)
high next (suc count) = each_more (λ (k : ℕ). next ≤ k) next (counting (suc next) count) (omega arith) (each_as (λ (k : ℕ). suc next ≤ k) (λ (k : ℕ). next ≤ k) (counting (suc next) count) (λ k h. omega arith) (high (suc next) count))

low : (next : ℕ) (ns : List ℕ) → All (λ (n : ℕ). n < next) ns → (k : ℕ) → Member k ns → k < next
low next [] h k m = elim m [ ]
low next (n ∷ ns) h _ here = h 0 n (omega arith)
low next (n ∷ ns) h k (there m) = low next ns (λ i d lt. h (suc i) d (omega arith)) k m

-- The last procedure's name.
abbrev last_name : List Procedure → Option (List ℕ)
last_name [] = None
last_name (p ∷ []) = Some p.name
last_name (p ∷ q ∷ ps) = last_name (q ∷ ps)

first_both : (xs : List Routine) (x : Routine) (ys : List Routine) → first_name ((xs ++ x ∷ []) ++ ys) ≡ first_name (xs ++ x ∷ [])
first_both [] x ys = refl
first_both (r ∷ xs) x ys = refl

last_is : (es ps : List Procedure) → first_name (reverse (routines_from es ps)) ≡ last_name ps
last_is es [] = refl
last_is es (p ∷ []) = refl
last_is es (p ∷ q ∷ ps) =
    let r = routine_of es p in
    let s = routine_of (es ++ p ∷ []) q in
    let rest = routines_from ((es ++ p ∷ []) ++ q ∷ []) ps in
    let e : reverse (s ∷ rest) ≡ reverse rest ++ s ∷ [] = reverse-append (s ∷ []) rest in
    ap first_name (reverse-append (r ∷ []) (s ∷ rest)) ∙ ap (λ z. first_name (z ++ r ∷ [])) e ∙ first_both (reverse rest) s (r ∷ []) ∙ sym (ap first_name e) ∙ last_is (es ++ p ∷ []) (q ∷ ps)

-- the last check of a program
ends : (ps : List Procedure) → check_fault ps ≡ None → bytes_eq (name_of (last_of ps)) (codes "main") ≡ true
ends ps h =
    let a = first_none (in_procedure (name_of (last_of ps)) (at 0 (size_fault ps))) (first (procedures_fault [] ps) (in_procedure (name_of (last_of ps)) (at 0 (ending_fault ps)))) h in
    let b = first_none (procedures_fault [] ps) (in_procedure (name_of (last_of ps)) (at 0 (ending_fault ps))) a.1 in
    let c = at_none 0 (ending_fault ps) (in_none (name_of (last_of ps)) (at 0 (ending_fault ps)) b.1) in
    let d = first_none (unless (bytes_eq (name_of (last_of ps)) (codes "main")) NoMain) (first (unless (takes_nothing (last_of ps)) MainHasParameters) (chains_fault ps)) c in
    unless_none (bytes_eq (name_of (last_of ps)) (codes "main")) NoMain d.0

last_got : (p : Procedure) (ps : List Procedure) → last_name (p ∷ ps) ≡ option_map (λ (p : Procedure). p.name) (slice_get (p ∷ ps) (length ps))
last_got p [] = refl
last_got p (q ∷ ps) = last_got q ps

-- A program without faults ends with main.
main_last : (ps : List Procedure) → check_fault ps ≡ None → last_name ps ≡ Some (codes "main")
main_last [] h = let e : false ≡ true = ends [] h in absurd cc
main_last (p ∷ ps) h =
    let k : length (p ∷ ps) - 1 ≡ length ps = omega arith in
    last_got p ps ∙ named (slice_get (p ∷ ps) (length ps)) (subst (λ i. bytes_eq (name_of (slice_get (p ∷ ps) i)) (codes "main") ≡ true) k (ends (p ∷ ps) h))
  where
    named : (o : Option Procedure) → bytes_eq (name_of o) (codes "main") ≡ true → option_map (λ (p : Procedure). p.name) o ≡ Some (codes "main")
    named None e = absurd cc
    named (Some q) e = ap (λ n. Some n) ((bytes_decides q.name (codes "main")).0 e)

module _ (e : Edit) (old : List Procedure) (next : ℕ) (fine : IsFine old) (after : IsFine (edited e old)) (below : All (λ (n : ℕ). n < next) (program_numbers old)) (continues : Continues e next) where
  abbrev IsLater : ℕ → Type 0
  IsLater k = next ≤ k

  brings : Each IsLater (numbers (brought e))
  brings = subst (Each IsLater) (sym continues) (high next (uses e))

  once : Distinct (keys (program_seats old))
  once = subst Distinct (all_numbers [] old ∙ sym (keys_program old)) fine.fit.numbers_once

  same_seat : (n : ℕ) (s t : Seat) → Member (n, s) (program_seats old) → Or IsLater (program_seats old) (n, t) → s ≡ t
  same_seat n s t m (inl a) =
      let lt : n < next = low next (program_numbers old) below n (subst (Member n) (keys_program old) (key_member (n, s) (program_seats old) m)) in
      absurd (omega arith)
  same_seat n s t m (inr k) = same_Some s t (sym (found (n, s) (program_seats old) once m) ∙ found (n, t) (program_seats old) once k)

  statements : (n : ℕ) (u v : Flat) → find n (flat (reverse (routines_of old))) ≡ Some u → find n (flat (reverse (routines_of (edited e old)))) ≡ Some v → SamePlace u v
  statements n u v h f =
      let s = (all_seen old).at (n, u) (found_member n u (flat (reverse (routines_of old))) h) in
      let t = (all_seen (edited e old)).at (n, v) (found_member n v (flat (reverse (routines_of (edited e old)))) f) in
      let q = same_seat n (seat u.routine.name u.text.loops s.callee) (seat v.routine.name v.text.loops t.callee) s.sits ((from_edit IsLater e brings old).at _ t.sits) in
      record {
        procedure = ap (λ (s : Seat). s.procedure) q;
        loops = ap (λ (s : Seat). s.loops) q;
        callee = λ f g h k. same_Some f g (sym (s.told f h) ∙ ap (λ (s : Seat). s.callee) q ∙ t.told g k);
      }

  pub keep_places : KeepPlaces (routines_of old) (routines_of (edited e old))
  keep_places = record {
    main = last_is [] old ∙ main_last old fine.faultless ∙ sym (main_last (edited e old) after.faultless) ∙ sym (last_is [] (edited e old));
    statements = statements;
  }
