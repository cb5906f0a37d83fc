-- Where a statement of a program stands.
use Rattle.std.proofs.lemmas.Bool.Decides.{nat_tests}
use Rattle.std.proofs.Common.{◌≡◌, ℕ, suc, ◌==◌, ◌⊎◌, inl, inr, cond, Bool, true, false, List, [], ◌∷◌, ◌++◌, length, slice_get, Some, None, refl, sym, ap, ◌∙◌, subst, arith}
use Rattle.std.specs.List.{All}
use Rattle.imp_syntax.specs.Plain.{Statement, Statements, Ends, Starts, Procedure, number_of, numbers_in, numbers, program_numbers}
use Rattle.imp_syntax.specs.Plain as tree
use Rattle.imp_slots.specs.Fits.{Distinct}
use Rattle.imp_check.specs.Parts.{first_or, last_or}
use Rattle.imp_check.specs.Entries.{entry_at, statement_entries, entries_of, entry_of, resolver_at, context_at, head_of, heads_of}
use Rattle.imp_check.specs.declared.entry.Context.{Context}
use Rattle.imp_check.specs.declared.entry.Entry.{Entry}
use Rattle.imp_check.specs.declared.entry.ProcHeader.{ProcHeader}
use Rattle.imp_check.proofs.RebuildLemmas.{in_left, entry_numbers, all_numbers}
use Rattle.edit_entries.specs.Holes.{append, Hole, Then, Else, Body, fill, plug, with_body}
use Rattle.edit_entries.proofs.Filled.{context_in}
use Rattle.edit_entries.proofs.Programs.{old_program}
use Rattle.edit_entries.proofs.Touched.{context_of, part_found, own_in}
use Rattle.edit_entries.proofs.Located.{Has, Located, locate, has_parts}
use Rattle.edit_entries.proofs.Numbers.{numbers_append, filled}
use Rattle.imp_slots.proofs.Distinct.{absent_left}

pub record Stands (n : ℕ) (ps : List Procedure) : Type 0 where
  pub front : List Procedure
  pub own : Procedure
  pub back : List Procedure
  pub place : Located n own.body
  pub is : ps ≡ front ++ own ∷ back

pub stands : (n : ℕ) (ps : List Procedure) → Has n (program_numbers ps) → Stands n ps
stands n [] h = absurd h
stands n (p ∷ ps) h = go (has_parts n (numbers p.body) (program_numbers ps) h) (stands n ps)
  where
    go : Has n (numbers p.body) ⊎ Has n (program_numbers ps) → (Has n (program_numbers ps) → Stands n ps) → Stands n (p ∷ ps)
    go (inl i) f = record { front = []; own = p; back = ps; place = locate n p.body i; is = refl }
    go (inr i) f = let s = f i in record { front = p ∷ s.front; own = s.own; back = s.back; place = s.place; is = ap (λ (os : List Procedure). p ∷ os) s.is }

-- A number of a block in holes stands in none of what is around it.
pub has_left : (n : ℕ) (xs ys : List ℕ) → Has n xs → Has n (xs ++ ys)
has_left n [] ys h = absurd h
has_left n (x ∷ xs) ys (inl e) = inl e
has_left n (x ∷ xs) ys (inr h) = inr (has_left n xs ys h)

pub has_right : (n : ℕ) (xs ys : List ℕ) → Has n ys → Has n (xs ++ ys)
has_right n [] ys h = h
has_right n (x ∷ xs) ys h = inr (has_right n xs ys h)

pub has_filled : (n : ℕ) (h : Hole) (x : Statements) → Has n (numbers x) → Has n (numbers (fill h x))
has_filled n h x i = let f = filled h in subst (Has n) (sym (f.2 x)) (has_right n f.0 (numbers x ++ f.1) (has_left n (numbers x) f.1 i))

pub has_plugged : (n : ℕ) (hs : List Hole) (x : Statements) → Has n (numbers x) → Has n (numbers (plug hs x))
has_plugged n [] x i = i
has_plugged n (h ∷ hs) x i = has_filled n h (plug hs x) (has_plugged n hs x i)

pub distinct_left : (xs ys : List ℕ) → Distinct (xs ++ ys) → Distinct xs
distinct_left [] ys d = tt
distinct_left (x ∷ xs) ys d = (absent_left x xs ys d.0, distinct_left xs ys d.1)

pub distinct_right : (xs ys : List ℕ) → Distinct (xs ++ ys) → Distinct ys
distinct_right [] ys d = d
distinct_right (x ∷ xs) ys d = distinct_right xs ys d.1

pub inner_once : (h : Hole) (x : Statements) → Distinct (numbers (fill h x)) → Distinct (numbers x)
inner_once h x d = let g = filled h in distinct_left (numbers x) g.1 (distinct_right g.0 (numbers x ++ g.1) (subst Distinct (g.2 x) d))

pub deep_once : (hs : List Hole) (x : Statements) → Distinct (numbers (plug hs x)) → Distinct (numbers x)
deep_once [] x d = d
deep_once (h ∷ hs) x d = deep_once hs x (inner_once h (plug hs x) d)

pub head_has : (n : ℕ) (s : Statement) → number_of s ≡ n → Has n (numbers_in s)
head_has n (tree.Simple m a) e = inl (sym e)
head_has n (tree.Break m) e = inl (sym e)
head_has n (tree.Call m x g es) e = inl (sym e)
head_has n (tree.If m c t u) e = inl (sym e)
head_has n (tree.While m c b) e = inl (sym e)

pub own_distinct : (ps : List Procedure) (p : Procedure) (qs : List Procedure) → Distinct (program_numbers (ps ++ p ∷ qs)) → Distinct (numbers p.body)
own_distinct [] p qs d = distinct_left (numbers p.body) (program_numbers qs) d
own_distinct (x ∷ ps) p qs d = own_distinct ps p qs (distinct_right (numbers x.body) (program_numbers (ps ++ p ∷ qs)) d)

pub located_has : (n : ℕ) (b : Statements) (l : Located n b) → Has n (numbers b)
located_has n b l =
    let x = append l.before (Starts l.stmt l.behind) in
    subst (λ z. Has n (numbers z)) (sym l.is)
    (has_plugged n l.holes x
    (subst (Has n) (sym (numbers_append l.before (Starts l.stmt l.behind))) (has_right n (numbers l.before) (numbers_in l.stmt ++ numbers l.behind) (has_left n (numbers_in l.stmt) (numbers l.behind) (head_has n l.stmt l.number)))))

-- The program, with the statement as a part of a block.
pub old_is : (n : ℕ) (ps : List Procedure) (s : Stands n ps) → ps ≡ old_program s.own s.place.holes s.place.before (Starts s.place.stmt Ends) Ends s.place.behind s.front s.back
old_is n ps s = s.is ∙ ap (λ b. s.front ++ with_body s.own b ∷ s.back) s.place.is

-- What is known of the statement is where it stands.
pub known_is : (n : ℕ) (ps : List Procedure) → Distinct (program_numbers ps) → (s : Stands n ps) →
    entry_of (entries_of ps) n ≡ Some (entry_at (resolver_at s.front s.own) (context_of (context_at (length s.front)) s.place.holes) (last_or s.place.before None) (first_or s.place.behind None) s.place.stmt)
known_is n ps d s =
    let l = s.place in
    let f = resolver_at s.front s.own in
    let k = context_of (context_at (length s.front)) l.holes in
    let e = entry_at f k (last_or l.before None) (first_or l.behind None) l.stmt in
    ap (λ os. entry_of (entries_of os) n) (old_is n ps s)
    ∙ ap (entry_of (entries_of (old_program s.own l.holes l.before (Starts l.stmt Ends) Ends l.behind s.front s.back))) (sym l.number)
    ∙ part_found s.front s.back s.own l.holes l.before (Starts l.stmt Ends) l.behind (subst (λ (os : List Procedure). Distinct (program_numbers os)) (old_is n ps s) d) e
    (in_left e (statement_entries f k (last_or l.before None) (first_or l.behind None) l.stmt) [] (own_in f k (last_or l.before None) (first_or l.behind None) l.stmt))

-- What is found of a number is of a statement of the program.
has_known : (n : ℕ) (xs : List Entry) (e : Entry) → entry_of xs n ≡ Some e → Has n (entry_numbers xs)
has_known n [] e h = cc
has_known n (x ∷ xs) e h = go (x.number == n) refl h (has_known n xs e)
  where
    go : (b : Bool) → (x.number == n) ≡ b → cond b (Some x) (entry_of xs n) ≡ Some e → (entry_of xs n ≡ Some e → Has n (entry_numbers xs)) → Has n (entry_numbers (x ∷ xs))
    go true q h f = inl (grind (arith, nat_tests))
    go false q h f = inr (f h)

pub context_proc : (k : Context) (hs : List Hole) → (context_of k hs).proc ≡ k.proc
context_proc k [] = refl
context_proc k (Then b n c e r ∷ hs) = context_proc (context_in k (Then b n c e r)) hs
context_proc k (Else b n c t r ∷ hs) = context_proc (context_in k (Else b n c t r)) hs
context_proc k (Body b n c r ∷ hs) = context_proc (context_in k (Body b n c r)) hs

pub own_head : (ps : List Procedure) (p : Procedure) (qs : List Procedure) → slice_get (heads_of (ps ++ p ∷ qs)) (length ps) ≡ Some (head_of p)
own_head [] p qs = refl
own_head (x ∷ ps) p qs = own_head ps p qs

-- Where a statement stands of which this is known, in a procedure of which that is known.
pub record Site (n : ℕ) (ps : List Procedure) (e : Entry) (h : ProcHeader) : Type 0 where
  pub place : Stands n ps
  pub entry : e ≡ entry_at (resolver_at place.front place.own) (context_of (context_at (length place.front)) place.place.holes) (last_or place.place.before None) (first_or place.place.behind None) place.place.stmt
  pub head : h ≡ head_of place.own

pub site : (n : ℕ) (ps : List Procedure) (e : Entry) (h : ProcHeader) → Distinct (program_numbers ps) → entry_of (entries_of ps) n ≡ Some e → slice_get (heads_of ps) e.context.proc ≡ Some h → Site n ps e h
site n ps e h once k l =
    let s = stands n ps (subst (Has n) (all_numbers ps) (has_known n (entries_of ps) e k)) in
    let f = resolver_at s.front s.own in
    let x = entry_at f (context_of (context_at (length s.front)) s.place.holes) (last_or s.place.before None) (first_or s.place.behind None) s.place.stmt in
    let q : Some e ≡ Some x = sym k ∙ known_is n ps once s in
    let same : e ≡ x = cc in
    let proc : e.context.proc ≡ length s.front = ap (λ (z : Entry). z.context.proc) same ∙ context_proc (context_at (length s.front)) s.place.holes in
    let r : Some h ≡ Some (head_of s.own) = sym l ∙ ap (slice_get (heads_of ps)) proc ∙ ap (λ (os : List Procedure). slice_get (heads_of os) (length s.front)) s.is ∙ own_head s.front s.own s.back in
    record { place = s; entry = same; head = cc }

-- All numbers of a list.
pub all_has : (P : ℕ → Type 0) (xs : List ℕ) (n : ℕ) → All P xs → Has n xs → P n
all_has P [] n a h = absurd h
all_has P (x ∷ xs) n a (inl e) = subst P (sym e) (a 0 x (omega arith))
all_has P (x ∷ xs) n a (inr h) = all_has P xs n (λ i d l. a (suc i) d (omega arith)) h

pub known_has : (n : ℕ) (ps : List Procedure) (e : Entry) → entry_of (entries_of ps) n ≡ Some e → Has n (program_numbers ps)
known_has n ps e k = subst (Has n) (all_numbers ps) (has_known n (entries_of ps) e k)
