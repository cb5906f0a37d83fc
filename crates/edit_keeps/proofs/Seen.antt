-- The statements over slots have the seats of the tree.
use Rattle.std.proofs.lemmas.List.{reverse-reverse}
use Rattle.std.specs.Str.{bytes_eq}
use Rattle.std.specs.Cmp.Lexicographic.{bytes_decides}
use Rattle.std.proofs.Common.{◌≡◌, ℕ, suc, List, [], ◌∷◌, ◌++◌, map, reverse, slice_get, Option, Some, None, Bool, true, false, cond, refl, sym, ap, ◌∙◌, subst, append_assoc, append-nil}
use Rattle.imp_syntax.specs.Plain.{Statement, Statements, Procedure, numbers_in, numbers, program_numbers}
use Rattle.imp_syntax.specs.Plain as tree
use Rattle.imp_slots.specs.Plain.{Invoke, Code, Simple, If, While, Call, Break, Routine}
use Rattle.imp_check.specs.Names.{place_named}
use Rattle.imp_check.specs.Slots.{Resolver, layout_in, guard_in, effect_in, invoke_in, callee_in, statement_in, code_in, routine_of, routines_from, routines_of}
use Rattle.batch_meaning.specs.Places.{from, if_some}
use Rattle.cell_names.specs.declared.frame.Point.{Point}
use Rattle.cell_names.specs.declared.frame.Point.TheVariants.{Entry, Then, Else, Body, Post}
use Rattle.batch_meaning.proofs.Procedures.{look_get, look_from}
use Rattle.base_values.proofs.Members.{Member, here, there, in_left, in_right, Each, each_more, each_both, none_there, each_as, keys, keys_both}
use Rattle.cell_rows.specs.Targets.{Text, deeper, texts, callee_of}
use Rattle.cell_rows.specs.Flat.{Flat, flat_of, flat}
use Rattle.cell_kept_set.specs.Places.{first_name, callee_name}
use Rattle.cell_rows.proofs.Listed.{each_map, one}
use Rattle.edit_keeps.specs.Seats.{Seat, seat, seats_in, seats, program_seats}
use Rattle.std.proofs.lemmas.Option.{same_Some}
use Rattle.imp_check.proofs.SlotLemmas.{routines_push}

-- numbers
mutual
  pub keys_in : (p ls : List ℕ) (s : Statement) → keys (seats_in p ls s) ≡ numbers_in s
  keys_in p ls (tree.Simple n a) = refl
  keys_in p ls (tree.Break n) = refl
  keys_in p ls (tree.Call n x g es) = refl
  keys_in p ls (tree.If n c t e) = ap (λ k. n ∷ k) (keys_both (seats p ls t) (seats p ls e) ∙ ap (λ k. k ++ keys (seats p ls e)) (keys_block p ls t) ∙ ap (λ k. numbers t ++ k) (keys_block p ls e))
  keys_in p ls (tree.While n c b) = ap (λ k. n ∷ k) (keys_block p (ls ++ n ∷ []) b)

  pub keys_block : (p ls : List ℕ) (ss : Statements) → keys (seats p ls ss) ≡ numbers ss
  keys_block p ls tree.Ends = refl
  keys_block p ls (tree.Starts s ss) = keys_both (seats_in p ls s) (seats p ls ss) ∙ ap (λ k. k ++ keys (seats p ls ss)) (keys_in p ls s) ∙ ap (λ k. numbers_in s ++ k) (keys_block p ls ss)

pub keys_program : (ps : List Procedure) → keys (program_seats ps) ≡ program_numbers ps
keys_program [] = refl
keys_program (p ∷ ps) = keys_both (seats p.name [] p.body) (program_seats ps) ∙ ap (λ k. k ++ keys (program_seats ps)) (keys_block p.name [] p.body) ∙ ap (λ k. numbers p.body ++ k) (keys_program ps)

-- The first procedure of a name has that name.
named : (es earlier : List Procedure) (g : List ℕ) (c : Routine) → slice_get (routines_from es earlier) (place_named earlier g) ≡ Some c → c.name ≡ g
named es [] g c e = absurd cc
named es (p ∷ ps) g c e = go (bytes_eq p.name g) refl e (named (es ++ p ∷ []) ps g c)
  where
    go : (b : Bool) → bytes_eq p.name g ≡ b → slice_get (routine_of es p ∷ routines_from (es ++ p ∷ []) ps) (cond b 0 (suc (place_named ps g))) ≡ Some c → (slice_get (routines_from (es ++ p ∷ []) ps) (place_named ps g) ≡ Some c → c.name ≡ g) → c.name ≡ g
    go true k e h = ap (λ (r : Routine). r.name) (sym (same_Some _ _ e)) ∙ (bytes_decides p.name g).0 k
    go false k e h = h e

callee_is : (earlier : List Procedure) (g m : List ℕ) → first_name (from (reverse (routines_of earlier)) (place_named earlier g)) ≡ Some m → m ≡ g
callee_is earlier g m e = go (from (reverse (routines_of earlier)) (place_named earlier g)) refl e
  where
    go : (rs : List Routine) → from (reverse (routines_of earlier)) (place_named earlier g) ≡ rs → first_name rs ≡ Some m → m ≡ g
    go [] k e = absurd cc
    go (c ∷ rest) k e =
        let l = look_from (reverse (routines_of earlier)) (place_named earlier g) c rest k in
        let s = sym (ap (λ rs. slice_get rs (place_named earlier g)) (reverse-reverse (routines_of earlier))) ∙ sym (look_get (reverse (routines_of earlier)) (place_named earlier g)) ∙ l in
        sym (same_Some _ _ e) ∙ named [] earlier g c s

module _ (f : Resolver) (name : List ℕ) where
  -- A text has its seat among these, in these loops.
  pub record TextSeen (xs : List (ℕ × Seat)) (ls : List ℕ) (q : ℕ × Text) : Type 0 where
    pub callee : Option (List ℕ)
    pub sits : Member (q.0, seat name (ls ++ q.1.loops) callee) xs
    pub told : (c : Invoke × ℕ) → callee_of q.1.code ≡ Some c → (g : List ℕ) × (callee ≡ Some g) × (c.1 ≡ callee_in f g)

  seen_more : (xs ys : List (ℕ × Seat)) (ls : List ℕ) → ((x : ℕ × Seat) → Member x xs → Member x ys) → (qs : List (ℕ × Text)) → Each (TextSeen xs ls) qs → Each (TextSeen ys ls) qs
  seen_more xs ys ls h qs e = each_as (TextSeen xs ls) (TextSeen ys ls) qs (λ q s. record { callee = s.callee; sits = h _ s.sits; told = s.told }) e

  own : (ls : List ℕ) (n : ℕ) (g : Option (List ℕ)) (xs : List (ℕ × Seat)) → Member (n, seat name (ls ++ []) g) ((n, seat name ls g) ∷ xs)
  own ls n g xs = subst (λ ks. Member (n, seat name ks g) ((n, seat name ls g) ∷ xs)) (sym (append-nil ls)) here

  deeper_seen : (xs ys : List (ℕ × Seat)) (ls : List ℕ) (n : ℕ) → ((x : ℕ × Seat) → Member x xs → Member x ys) → (q : ℕ × Text) → TextSeen xs (ls ++ n ∷ []) q → TextSeen ys ls (deeper n q)
  deeper_seen xs ys ls n h q s = record {
    callee = s.callee;
    sits = h _ (subst (λ ks. Member (q.0, seat name ks s.callee) xs) (append_assoc ls (n ∷ []) q.1.loops) s.sits);
    told = s.told;
  }

  mutual
    statement_seen : (ls : List ℕ) (s : Statement) (r : Code) (p : Point) (ys : List (ℕ × Seat)) → ((q : Point) → Each (TextSeen ys ls) (texts r q)) → Each (TextSeen (seats_in name ls s ++ ys) ls) (texts (statement_in f s r) p)
    statement_seen ls (tree.Simple n a) r p ys h =
        each_more (TextSeen ((n, seat name ls None) ∷ ys) ls) (one p (Simple n (effect_in f.layout a) r)) _ (record { callee = None; sits = own ls n None ys; told = λ c e. absurd cc })
        (seen_more ys ((n, seat name ls None) ∷ ys) ls (λ x. there) _ (h (Post n)))
    statement_seen ls (tree.Break n) r p ys h =
        each_more (TextSeen ((n, seat name ls None) ∷ ys) ls) (one p (Break n r)) _ (record { callee = None; sits = own ls n None ys; told = λ c e. absurd cc })
        (seen_more ys ((n, seat name ls None) ∷ ys) ls (λ x. there) _ (h (Post n)))
    statement_seen ls (tree.Call n x g es) r p ys h =
        each_more (TextSeen ((n, seat name ls (Some g)) ∷ ys) ls) (one p (Call n (invoke_in f x g es) (callee_in f g) r)) _
        (record { callee = Some g; sits = own ls n (Some g) ys; told = λ c e. (g, refl, ap (λ (k : Invoke × ℕ). k.1) (sym (same_Some _ _ e))) })
        (seen_more ys ((n, seat name ls (Some g)) ∷ ys) ls (λ x. there) _ (h (Post n)))
    statement_seen ls (tree.If n c t e) r p ys h =
        let xt = seats name ls t in
        let xe = seats name ls e in
        let xs = ((n, seat name ls None) ∷ (xt ++ xe)) ++ ys in
        each_more (TextSeen xs ls) (one p (If n (guard_in f.layout c) (code_in f t) (code_in f e) r)) _ (record { callee = None; sits = own ls n None ((xt ++ xe) ++ ys); told = λ c e. absurd cc })
        (each_both (TextSeen xs ls) _ _ (seen_more xt xs ls (λ x m. there (in_left ys (in_left xe m))) _ (block_seen ls t (Then n)))
        (each_both (TextSeen xs ls) _ _ (seen_more xe xs ls (λ x m. there (in_left ys (in_right xt m))) _ (block_seen ls e (Else n)))
        (seen_more ys xs ls (λ x m. there (in_right (xt ++ xe) m)) _ (h (Post n)))))
    statement_seen ls (tree.While n c b) r p ys h =
        let xb = seats name (ls ++ n ∷ []) b in
        let xs = ((n, seat name ls None) ∷ xb) ++ ys in
        each_more (TextSeen xs ls) (one p (While n (guard_in f.layout c) (code_in f b) r)) _ (record { callee = None; sits = own ls n None (xb ++ ys); told = λ c e. absurd cc })
        (each_both (TextSeen xs ls) _ _ (each_map (deeper n) (TextSeen xb (ls ++ n ∷ [])) (TextSeen xs ls) (deeper_seen xb xs ls n (λ x m. there (in_left ys m))) (texts (code_in f b) Body) (block_seen (ls ++ n ∷ []) b Body))
        (seen_more ys xs ls (λ x m. there (in_right xb m)) _ (h (Post n))))

    pub block_seen : (ls : List ℕ) (ss : Statements) (p : Point) → Each (TextSeen (seats name ls ss) ls) (texts (code_in f ss) p)
    block_seen ls tree.Ends p = none_there (TextSeen [] ls)
    block_seen ls (tree.Starts s ss) p = statement_seen ls s (code_in f ss) p (seats name ls ss) (λ q. block_seen ls ss q)

-- A statement by number has its seat in the program.
pub record IsSeen (xs : List (ℕ × Seat)) (x : ℕ × Flat) : Type 0 where
  pub callee : Option (List ℕ)
  pub sits : Member (x.0, seat x.1.routine.name x.1.text.loops callee) xs
  pub told : (m : List ℕ) → callee_name x.1 ≡ Some m → callee ≡ Some m

is_more : (xs ys : List (ℕ × Seat)) → ((x : ℕ × Seat) → Member x xs → Member x ys) → (us : List (ℕ × Flat)) → Each (IsSeen xs) us → Each (IsSeen ys) us
is_more xs ys h us e = each_as (IsSeen xs) (IsSeen ys) us (λ u s. record { callee = s.callee; sits = h _ s.sits; told = s.told }) e

procedure_seen : (es : List Procedure) (p : Procedure) → Each (IsSeen (seats p.name [] p.body)) (map (flat_of (routine_of es p) (reverse (routines_of es))) (texts (routine_of es p).code Entry))
procedure_seen es p =
    let f : Resolver = record { layout = layout_in p; earlier = es } in
    each_map (flat_of (routine_of es p) (reverse (routines_of es))) (TextSeen f p.name (seats p.name [] p.body) []) (IsSeen (seats p.name [] p.body)) seen (texts (routine_of es p).code Entry) (block_seen f p.name [] p.body Entry)
  where
    told : (c : Invoke × ℕ) (callee : Option (List ℕ)) → (g : List ℕ) × (callee ≡ Some g) × (c.1 ≡ place_named es g) → (m : List ℕ) → first_name (from (reverse (routines_of es)) c.1) ≡ Some m → callee ≡ Some m
    told c callee h m e = h.1 ∙ ap (λ k. Some k) (sym (callee_is es h.0 m (ap (λ q. first_name (from (reverse (routines_of es)) q)) (sym h.2) ∙ e)))

    by_code : (o : Option (Invoke × ℕ)) (callee : Option (List ℕ)) → ((c : Invoke × ℕ) → o ≡ Some c → (g : List ℕ) × (callee ≡ Some g) × (c.1 ≡ place_named es g)) → (m : List ℕ) → if_some o (λ i. first_name (from (reverse (routines_of es)) i.1)) ≡ Some m → callee ≡ Some m
    by_code None callee h m e = absurd cc
    by_code (Some c) callee h m e = told c callee (h c refl) m e

    seen : (q : ℕ × Text) → TextSeen (record { layout = layout_in p; earlier = es }) p.name (seats p.name [] p.body) [] q → IsSeen (seats p.name [] p.body) (flat_of (routine_of es p) (reverse (routines_of es)) q)
    seen q s = record { callee = s.callee; sits = s.sits; told = λ m e. by_code (callee_of q.1.code) s.callee s.told m e }

-- The same for procedures after others.
rest_seen : (es ps : List Procedure) (xs : List (ℕ × Seat)) → Each (IsSeen xs) (flat (reverse (routines_of es))) → Each (IsSeen (xs ++ program_seats ps)) (flat (reverse (routines_of (es ++ ps))))
rest_seen es [] xs e =
    subst (λ ys. Each (IsSeen ys) (flat (reverse (routines_of (es ++ []))))) (sym (append-nil xs)) (subst (λ zs. Each (IsSeen xs) (flat (reverse (routines_of zs)))) (sym (append-nil es)) e)
rest_seen es (p ∷ ps) xs e =
    let one_more = seats p.name [] p.body in
    let h : Each (IsSeen (xs ++ one_more)) (flat (routine_of es p ∷ reverse (routines_of es))) =
    each_both (IsSeen (xs ++ one_more)) (map (flat_of (routine_of es p) (reverse (routines_of es))) (texts (routine_of es p).code Entry)) (flat (reverse (routines_of es)))
    (is_more one_more (xs ++ one_more) (λ x m. in_right xs m) _ (procedure_seen es p))
    (is_more xs (xs ++ one_more) (λ x m. in_left one_more m) _ e) in
    let i = rest_seen (es ++ p ∷ []) ps (xs ++ one_more) (subst (λ rs. Each (IsSeen (xs ++ one_more)) (flat rs)) (sym (routines_push es p)) h) in
    subst (λ ys. Each (IsSeen ys) (flat (reverse (routines_of (es ++ p ∷ ps))))) (append_assoc xs one_more (program_seats ps))
    (subst (λ zs. Each (IsSeen ((xs ++ one_more) ++ program_seats ps)) (flat (reverse (routines_of zs)))) (append_assoc es (p ∷ []) ps) i)

pub all_seen : (ps : List Procedure) → Each (IsSeen (program_seats ps)) (flat (reverse (routines_of ps)))
all_seen ps = rest_seen [] ps [] (none_there (IsSeen []))
