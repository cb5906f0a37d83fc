-- What is known of a program in which statements come at a place of a block, and others go from it, where none of them calls.
use Rattle.std.proofs.Common.{◌≡◌, ℕ, ◌-◌, ◌+◌, nat_lt, ◌⊎◌, inl, inr, List, [], ◌∷◌, ◌++◌, length, cond, Option, Some, None, Bool, true, false, refl, sym, ap, ◌∙◌, subst, arith}
use Rattle.std.specs.Option.{option_map}
use Rattle.imp_syntax.specs.Plain.{Statements, Ends, Starts, Procedure, number_of, numbers, program_numbers}
use Rattle.imp_slots.specs.Fits.{Distinct, FitsCode, IsChecked}
use Rattle.imp_check.specs.Chains.{calls}
use Rattle.imp_check.specs.Faults.{first, unless, at, in_procedure}
use Rattle.imp_check.specs.Names.{variables}
use Rattle.imp_check.specs.Programs.{AreNumbered, block_count, program_count, nesting, name_of, last_of, check_fault}
use Rattle.imp_check.specs.Slots.{layout_in, code_in, routines_of}
use Rattle.imp_check.specs.Statements.{block_fault}
use Rattle.imp_check.specs.Parts.{ends_of, first_or, last_or, leaving}
use Rattle.imp_check.specs.Entries.{block_entries, entry_at, entries_of, entry_of, resolver_at, context_at, head_of, heads_of, sites_of}
use Rattle.imp_check.specs.declared.entry.Around.{Around}
use Rattle.imp_check.specs.declared.entry.BlockEnds.{BlockEnds}
use Rattle.imp_check.specs.declared.entry.Context.{Context}
use Rattle.imp_check.specs.declared.entry.Entry.{Entry}
use Rattle.imp_check.specs.declared.entry.ProcHeader.{ProcHeader}
use Rattle.imp_check.specs.declared.entry.Which.{Which}
use Rattle.imp_check.specs.declared.entry.Which.TheVariants as of
use Rattle.imp_check.specs.declared.fault.Fault.TheVariants.{Statements as TooManyStatements, Nesting}
use Rattle.edit_entries.specs.Gaps.{are_quiet, are_closed, closed_at, lone, or_new, ends_with, ends_in, holder_of, held_in, head_with, heads_in, gap_splice}
use Rattle.edit_entries.specs.Holes.{Hole, Then, Else, Body, plug, holder, in_loop, loop_of, between, with_body}
use Rattle.edit_entries.specs.Spliced.{is, rebroken, spliced, breaking}
use Rattle.edit_entries.proofs.Breaks.{looped, loop_found, loop_with, context_head, holder_last, none_leaves}
use Rattle.edit_entries.proofs.Closed.{closed_quiet, closed_leaving, closed_fault}
use Rattle.edit_entries.proofs.Exchange.{context_depth}
use Rattle.edit_entries.proofs.Filled.{before as around_before, behind as around_behind, cut, has_loop, holding, ends_filled}
use Rattle.edit_entries.proofs.Fitting.{NoneLeaves, program_fits}
use Rattle.edit_entries.proofs.Holders.{ends_between, held, holds, shown, some_is, edit_body_table}
use Rattle.edit_entries.proofs.Located.{Has}
use Rattle.edit_entries.proofs.Numbers.{Apart, around_edit}
use Rattle.edit_entries.proofs.Programs.{old_program, new_program, scope_at, news_fault, program_fault}
use Rattle.edit_entries.proofs.CallFree.{quiet_calls, quiet_sites, quiet_fault, quiet_fits}
use Rattle.edit_entries.proofs.Sites.{sites_stay, heads_stay}
use Rattle.edit_entries.proofs.Standing.{has_left, has_right, known_has}
use Rattle.edit_entries.proofs.Stay.{last_holder}
use Rattle.edit_entries.proofs.Table.{table_is, first_is, last_is}
use Rattle.edit_entries.proofs.Touched.{context_of, front_found, next_found}

-- The ends of a block, with statements put between two of it.
some_last : (b : Statements) (n : ℕ) (x y : Option ℕ) → or_new (last_or b (Some n)) x y ≡ y
some_last Ends n x y = refl
some_last (Starts s ss) n x y = some_last ss (number_of s) x y

first_with : (before behind olds news : Statements) → first_or before (first_or news (first_or behind None)) ≡ or_new (last_or before None) (first_or news (first_or behind None)) (first_or before (first_or olds (first_or behind None)))
first_with Ends behind olds news = refl
first_with (Starts s ss) behind olds news = sym (some_last ss (number_of s) (first_or news (first_or behind None)) (Some (number_of s)))

last_with : (before behind olds news : Statements) → last_or behind (last_or news (last_or before None)) ≡ or_new (first_or behind None) (last_or news (last_or before None)) (last_or behind (last_or olds (last_or before None)))
last_with before Ends olds news = refl
last_with before (Starts s r) olds news = refl

pub ends_changed : (before behind olds news : Statements) → ends_of (between before behind news) ≡ ends_with (last_or before None) (first_or behind None) news (ends_of (between before behind olds))
ends_changed before behind olds news =
    ends_between before behind news
    ∙ ap (λ o. record { first = o; last = last_or behind (last_or news (last_or before None)) }) (first_with before behind olds news)
    ∙ ap (λ o. record { first = or_new (last_or before None) (first_or news (first_or behind None)) (first_or before (first_or olds (first_or behind None))); last = o }) (last_with before behind olds news)
    ∙ ap (ends_with (last_or before None) (first_or behind None) news) (sym (ends_between before behind olds))

-- The block that a hole is.
abbrev pub which_of : Hole → Which
which_of (Then b n c e r) = of.Then
which_of (Else b n c t r) = of.Else
which_of (Body b n c r) = of.Body

abbrev pub around_of : Hole → Option Around
around_of h = Some (record { stmt = holder h; which = which_of h })

pub around_last : (k : Context) (gs : List Hole) (h : Hole) → (context_of k (gs ++ h ∷ [])).around ≡ around_of h
around_last k [] (Then b n c e r) = refl
around_last k [] (Else b n c t r) = refl
around_last k [] (Body b n c r) = refl
around_last k (g ∷ gs) h = around_last _ gs h

looping : (hs : List Hole) → in_loop false hs ≡ true → has_loop hs ≡ true
looping [] i = i
looping (Then b n c e r ∷ hs) i = looping hs i
looping (Else b n c t r ∷ hs) i = looping hs i
looping (Body b n c r ∷ hs) i = refl

-- Whether a block is closed is told by the loop around it.
pub closed_in : (hs : List Hole) (o : Option ℕ) (i : Bool) (b : Statements) → closed_at o b ≡ are_closed i b → closed_at (loop_of o hs) b ≡ are_closed (in_loop i hs) b
closed_in [] o i b e = e
closed_in (Then v n c x r ∷ hs) o i b e = closed_in hs o i b e
closed_in (Else v n c t r ∷ hs) o i b e = closed_in hs o i b e
closed_in (Body v n c r ∷ hs) o i b e = closed_in hs (Some n) true b refl

-- Holes are none, or there is a last one.
pub record Inmost (hs : List Hole) : Type 0 where
  pub outer : List Hole
  pub inner : Hole
  pub is : hs ≡ outer ++ inner ∷ []

pub inmost : (hs : List Hole) → (hs ≡ []) ⊎ Inmost hs
inmost [] = inl refl
inmost (h ∷ hs) = go (inmost hs)
  where
    go : (hs ≡ []) ⊎ Inmost hs → (h ∷ hs ≡ []) ⊎ Inmost (h ∷ hs)
    go (inl e) = inr (record { outer = []; inner = h; is = ap (λ gs. h ∷ gs) e })
    go (inr i) = inr (record { outer = h ∷ i.outer; inner = i.inner; is = ap (λ gs. h ∷ gs) i.is })

by_inmost : (P : List Hole → Type 0) → P [] → ((gs : List Hole) (h : Hole) → P (gs ++ h ∷ [])) → (hs : List Hole) → P hs
by_inmost P none some hs = go (inmost hs)
  where
    go : (hs ≡ []) ⊎ Inmost hs → P hs
    go (inl e) = subst P (sym e) none
    go (inr i) = subst P (sym i.is) (some i.outer i.inner)

module _ (ps qs : List Procedure) (p : Procedure) (before olds news behind : Statements) where
  abbrev O : List Hole → List Procedure
  O hs = old_program p hs before olds news behind ps qs

  abbrev N : List Hole → List Procedure
  N hs = new_program p hs before olds news behind ps qs

  abbrev k : List Hole → Context
  k hs = context_of (context_at (length ps)) hs

  abbrev a : Option ℕ
  a = last_or before None

  abbrev b : Option ℕ
  b = first_or behind None

  abbrev E : BlockEnds → BlockEnds
  E = ends_with a b news

  -- of the statement that has the block
  held_is : (h : Hole) (x : Entry) → ends_in (which_of h) x ≡ ends_of (between before behind olds) → held h (ends_of (between before behind news)) x ≡ held_in (around_of h) E x
  held_is (Then v n c e r) x q = ap (λ s. record x { inner = s }) (ends_changed before behind olds news ∙ ap E (sym q))
  held_is (Else v n c t r) x q = ap (λ s. record x { other = s }) (ends_changed before behind olds news ∙ ap E (sym q))
  held_is (Body v n c r) x q = ap (λ s. record x { inner = s }) (ends_changed before behind olds news ∙ ap E (sym q))

  had_ends : (h : Hole) (f : _) (c : Context) (o u : Option ℕ) (x : Statements) → ends_in (which_of h) (entry_at f c o u (holding h x)) ≡ ends_of x
  had_ends (Then v n d e r) f c o u x = refl
  had_ends (Else v n d t r) f c o u x = refl
  had_ends (Body v n d r) f c o u x = refl

  -- .. that may have other breaks
  held_rebroken : (breaks : List ℕ) (h : Hole) (t : Bool) (x : Entry) → ends_in (which_of h) x ≡ ends_of (between before behind olds) →
      option_map (held h (ends_of (between before behind news))) (cond t (option_map (breaking breaks) (Some x)) (Some x)) ≡ option_map (held_in (around_of h) E) (cond t (option_map (breaking breaks) (Some x)) (Some x))
  held_rebroken breaks h true x q = ap Some (held_is h (breaking breaks x) (kept_ends h ∙ q))
    where
      kept_ends : (h : Hole) → ends_in (which_of h) (breaking breaks x) ≡ ends_in (which_of h) x
      kept_ends (Then v n c e r) = refl
      kept_ends (Else v n c e r) = refl
      kept_ends (Body v n c r) = refl
  held_rebroken breaks h false x q = ap Some (held_is h x q)

  -- what is told of the breaks of the loop around, in the new program
  abbrev pub Told : List Hole → (breaks : List ℕ) → Type 0
  Told hs breaks = (m : ℕ) (y : Entry) → (k hs).head ≡ Some m → entry_of (entries_of (N hs)) m ≡ Some y → y.breaks ≡ breaks

  module _ (breaks : List ℕ) (apart : Apart (numbers olds) (numbers news)) where
    abbrev Tabled : List Hole → Type 0
    Tabled hs = Distinct (program_numbers (O hs)) → Distinct (program_numbers (N hs)) → Told hs breaks → (m : ℕ) →
        entry_of (entries_of (N hs)) m ≡ spliced (gap_splice (resolver_at ps p) (k hs) a b (numbers olds) news breaks) (held_in (k hs).around E) (entry_of (entries_of (O hs))) m

    tabled_in : (gs : List Hole) (h : Hole) → Tabled (gs ++ h ∷ [])
    tabled_in gs h old new told m =
        let hs : List Hole = gs ++ h ∷ [] in
        let known = λ (n : ℕ) (x : Entry) (l : loop_of None hs ≡ Some n) (w : entry_of (entries_of (N hs)) n ≡ Some x). told n x (context_head (context_at (length ps)) hs ∙ l) w in
        let at = entry_of (entries_of (O hs)) in
        let c = block_entries (resolver_at ps p) (k hs) a b news in
        table_is ps qs p hs before olds news behind breaks old new apart known (held_in (around_of h) E) (holding_is known) m
        ∙ ap (λ o. spliced (record { gone = numbers olds; come = c; come_numbers = numbers news; front = a; next = b; holder = o; loop = loop_of None hs; breaks = breaks; first = first_or news b; last = last_or news a }) (held_in (around_of h) E) at m) (holder_last gs h)
        ∙ ap (λ o. spliced (record { gone = numbers olds; come = c; come_numbers = numbers news; front = a; next = b; holder = holder_of o; loop = loop_of None hs; breaks = breaks; first = first_or news b; last = last_or news a }) (held_in o E) at m) (sym (around_last (context_at (length ps)) gs h))
        ∙ ap (λ o. spliced (record { gone = numbers olds; come = c; come_numbers = numbers news; front = a; next = b; holder = holder_of (k hs).around; loop = o; breaks = breaks; first = first_or news b; last = last_or news a }) (held_in (k hs).around E) at m) (sym (context_head (context_at (length ps)) hs))
      where
        holding_is : ((n : ℕ) (x : Entry) → loop_of None (gs ++ h ∷ []) ≡ Some n → entry_of (entries_of (N (gs ++ h ∷ []))) n ≡ Some x → x.breaks ≡ breaks) → (n : ℕ) → is (last_holder (gs ++ h ∷ [])) n ≡ true → entry_of (entries_of (N (gs ++ h ∷ []))) n ≡ option_map (held_in (around_of h) E) (rebroken (loop_of None (gs ++ h ∷ [])) breaks (entry_of (entries_of (O (gs ++ h ∷ [])))) n)
        holding_is known n e =
            let x = entry_at (resolver_at ps p) (context_of (context_at (length ps)) gs) (last_or (around_before h) None) (first_or (around_behind h) None) (holding h (between before behind olds)) in
            let s : holder h ≡ n = some_is (holder h) n (ap (λ o. is o n) (sym (holder_last gs h)) ∙ e) in
            let w : entry_of (entries_of (O (gs ++ h ∷ []))) n ≡ Some x = ap (entry_of (entries_of (O (gs ++ h ∷ [])))) (sym s) ∙ shown ps qs p gs h before olds news behind breaks (between before behind olds) old in
            let t = is (loop_of None (gs ++ h ∷ [])) n in
            holds ps qs p gs h before olds news behind breaks old new known n e
            ∙ ap (λ o. option_map (held h (ends_of (between before behind news))) (cond t (option_map (breaking breaks) o) o)) w
            ∙ held_rebroken breaks h t x (had_ends h (resolver_at ps p) (context_of (context_at (length ps)) gs) (last_or (around_before h) None) (first_or (around_behind h) None) (between before behind olds))
            ∙ ap (λ o. option_map (held_in (around_of h) E) (cond t (option_map (breaking breaks) o) o)) (sym w)

    -- Entries.
    pub gap_table : (hs : List Hole) → Tabled hs
    gap_table hs = by_inmost Tabled (λ old new told m. edit_body_table ps qs p before olds news behind breaks old new apart m) tabled_in hs

  -- Procedures.
  abbrev Headed : List Hole → Type 0
  Headed hs = heads_of (N hs) ≡ heads_in (k hs).around (heads_of (O hs)) (length ps) E

  body_headed : (x y : Statements) (os : List Procedure) → ends_of y ≡ E (ends_of x) → heads_of (os ++ with_body p y ∷ qs) ≡ head_with (heads_of (os ++ with_body p x ∷ qs)) (length os) E
  body_headed x y [] e = ap (λ o. record (head_of (with_body p x)) { body = o } ∷ heads_of qs) e
  body_headed x y (q ∷ os) e = ap (λ (hs : List ProcHeader). head_of q ∷ hs) (body_headed x y os e)

  plug_filled : (gs : List Hole) (h : Hole) (x y : Statements) → ends_of (plug (gs ++ h ∷ []) x) ≡ ends_of (plug (gs ++ h ∷ []) y)
  plug_filled [] h x y = ends_filled h x y
  plug_filled (g ∷ gs) h x y = ends_filled g (plug (gs ++ h ∷ []) x) (plug (gs ++ h ∷ []) y)

  headed_in : (gs : List Hole) (h : Hole) → Headed (gs ++ h ∷ [])
  headed_in gs h =
      let hs : List Hole = gs ++ h ∷ [] in
      heads_stay p (plug hs (between before behind olds)) (plug hs (between before behind news)) ps qs (plug_filled gs h (between before behind olds) (between before behind news))
      ∙ ap (λ o. heads_in o (heads_of (O hs)) (length ps) E) (sym (around_last (context_at (length ps)) gs h))

  pub gap_heads : (hs : List Hole) → Headed hs
  gap_heads hs = by_inmost Headed (body_headed (between before behind olds) (between before behind news) ps (ends_changed before behind olds news)) headed_in hs

  module _ (hs : List Hole) (quiet : are_quiet olds ≡ true) (closed : are_closed (in_loop false hs) news ≡ true) where
    silent : are_quiet news ≡ true
    silent = closed_quiet (in_loop false hs) news closed

    pub same_calls : (g : List ℕ) → calls g olds ≡ calls g news
    same_calls g = quiet_calls g olds quiet ∙ sym (quiet_calls g news silent)

    abbrev counted : ℕ
    counted = (program_count (O hs) - block_count olds) + block_count news

    -- The first fault: too many statements, or a block that is too deep, or that of those that come.
    pub gap_fault : check_fault (O hs) ≡ None →
        check_fault (N hs) ≡ first (in_procedure (name_of (last_of (O hs))) (at 0 (first (unless (nat_lt counted 10001) TooManyStatements) (unless (nat_lt ((k hs).depth + nesting news) 33) Nesting)))) (in_procedure p.name (block_fault (lone (variables p)) true news))
    gap_fault z =
        let deep : length hs ≡ (k hs).depth = omega (arith, context_depth (context_at (length ps)) hs) in
        let sc = scope_at p hs before olds news behind ps qs in
        program_fault p hs before olds news behind ps qs z same_calls
        ∙ ap (λ n. first (in_procedure (name_of (last_of (O hs))) (at 0 (first (unless (nat_lt counted 10001) TooManyStatements) (unless (nat_lt (n + nesting news) 33) Nesting)))) (news_fault p hs before olds news behind ps qs)) deep
        ∙ ap (λ o. first (in_procedure (name_of (last_of (O hs))) (at 0 (first (unless (nat_lt counted 10001) TooManyStatements) (unless (nat_lt ((k hs).depth + nesting news) 33) Nesting)))) (in_procedure p.name o))
        (quiet_fault sc (in_loop false hs) news silent ∙ closed_fault (lone (variables p)) (in_loop false hs) news closed)

    pub gap_sites : sites_of (N hs) ≡ sites_of (O hs)
    gap_sites = sites_stay p hs before olds news behind (λ es n. quiet_sites (resolver_at es p) n (context_at 0) None None olds quiet ∙ sym (quiet_sites (resolver_at es p) n (context_at 0) None None news silent)) ps qs

    none_out : NoneLeaves p hs before olds news behind
    none_out z = go (in_loop false hs) refl closed
      where
        go : (i : Bool) → in_loop false hs ≡ i → are_closed i news ≡ true → leaving (plug hs (between before behind news)) ≡ []
        go true i w = cut hs (between before behind news) (between before behind olds) (looping hs i) ∙ z
        go false i w = none_leaves hs before olds news behind (closed_leaving news w) z

    pub gap_fits : FitsCode [] (layout_in p) (code_in (resolver_at [] p) news) → IsChecked (routines_of (O hs)) → AreNumbered (N hs) → IsChecked (routines_of (N hs))
    gap_fits w c d = program_fits p hs before olds news behind ps qs (λ rs es v. quiet_fits (layout_in p) [] es [] rs news silent w) none_out c d

  -- The statements around the place are statements of the program.
  module _ (hs : List Hole) (once : Distinct (program_numbers (O hs))) where
    pub front_has : (n : ℕ) → a ≡ Some n → Has n (program_numbers (O hs))
    front_has n e =
        let l = last_is before n e in
        subst (λ m. Has m (program_numbers (O hs))) l.number (known_has (number_of l.stmt) (O hs) _ (front_found ps qs p hs before olds behind once l.before l.stmt l.is))

    pub next_has : (n : ℕ) → b ≡ Some n → Has n (program_numbers (O hs))
    next_has n e =
        let l = first_is behind n e in
        subst (λ m. Has m (program_numbers (O hs))) l.number (known_has (number_of l.stmt) (O hs) _ (next_found ps qs p hs before olds behind once l.behind l.stmt l.is))

    pub old_has : (n : ℕ) → Has n (numbers olds) → Has n (program_numbers (O hs))
    old_has n i = let r = around_edit ps qs p hs before behind in subst (Has n) (sym (r.is olds)) (has_right n r.left (numbers olds ++ r.right) (has_left n (numbers olds) r.right i))

  pub holder_has : (hs : List Hole) → Distinct (program_numbers (O hs)) → (n : ℕ) → holder_of (k hs).around ≡ Some n → Has n (program_numbers (O hs))
  holder_has hs = by_inmost (λ gs. Distinct (program_numbers (O gs)) → (n : ℕ) → holder_of (k gs).around ≡ Some n → Has n (program_numbers (O gs))) (λ once n e. cc) has_in hs
    where
      has_in : (gs : List Hole) (h : Hole) → Distinct (program_numbers (O (gs ++ h ∷ []))) → (n : ℕ) → holder_of (k (gs ++ h ∷ [])).around ≡ Some n → Has n (program_numbers (O (gs ++ h ∷ [])))
      has_in gs h once n e =
          let q : Some (holder h) ≡ Some n = sym (ap holder_of (around_last (context_at (length ps)) gs h)) ∙ e in
          let s : holder h ≡ n = cc in
          subst (λ m. Has m (program_numbers (O (gs ++ h ∷ [])))) s (known_has (holder h) (O (gs ++ h ∷ [])) _ (shown ps qs p gs h before olds news behind [] (between before behind olds) once))

  -- .. and so is the loop around it.
  pub loop_has : (hs : List Hole) → Distinct (program_numbers (O hs)) → (n : ℕ) → (k hs).head ≡ Some n → Has n (program_numbers (O hs))
  loop_has hs once n e =
      let l = looped hs n (sym (context_head (context_at (length ps)) hs) ∙ e) in
      let x = between before behind olds in
      known_has n (O hs) (loop_with ps qs p hs n l x) (loop_found ps qs p hs n l x once)
