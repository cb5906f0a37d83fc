-- What is known of the statements that an edit touches.
use Rattle.std.proofs.Common.{◌≡◌, ℕ, ◌⊎◌, inl, inr, List, [], ◌∷◌, ◌++◌, length, Option, Some, None, refl, sym, ap, subst, append_assoc, append-nil}
use Rattle.imp_syntax.specs.Plain.{Statement, Simple, Break, Call, Statements, Ends, Starts, If, While, Procedure, number_of, program_numbers}
use Rattle.imp_slots.specs.Fits.{Distinct}
use Rattle.imp_check.specs.Slots.{Resolver}
use Rattle.imp_check.specs.declared.entry.Which.TheVariants as which
use Rattle.imp_check.specs.declared.entry.Context.{Context}
use Rattle.imp_check.specs.declared.entry.Entry.{Entry}
use Rattle.imp_check.specs.Parts.{first_or, last_or}
use Rattle.imp_check.specs.Entries.{inside, entry_at, statement_entries, block_entries, procedure_entries, entries_from, entries_of, entry_of, resolver_at, context_at}
use Rattle.edit_entries.specs.Holes.{append, Hole, Then, Else, Body, fill, plug, between, with_body}
use Rattle.edit_entries.proofs.Others.{first_append, entries_append}
use Rattle.edit_entries.proofs.Filled.{before as around_before, behind as around_behind, holding, context_in, fill_is}
use Rattle.imp_check.proofs.RebuildLemmas.{In, in_left, in_right, all_numbers, found}

-- Where a block in holes stands.
abbrev pub context_of : Context → List Hole → Context
context_of k [] = k
context_of k (h ∷ hs) = context_of (context_in k h) hs

pub plug_last : (hs : List Hole) (h : Hole) (x : Statements) → plug (hs ++ h ∷ []) x ≡ plug hs (fill h x)
plug_last [] h x = refl
plug_last (g ∷ hs) h x = ap (fill g) (plug_last hs h x)

-- A statement's own spot.
pub own_in : (f : Resolver) (k : Context) (a p : Option ℕ) (s : Statement) → In (entry_at f k a p s) (statement_entries f k a p s)
own_in f k a p (Simple n x) = inl refl
own_in f k a p (Break n) = inl refl
own_in f k a p (Call n y g es) = inl refl
own_in f k a p (If n c t u) = inl refl
own_in f k a p (While n c t) = inl refl

module _ (f : Resolver) (e : Entry) where
  in_part : (k : Context) (a p : Option ℕ) (xs ys : Statements) → In e (block_entries f k a (first_or ys p) xs) ⊎ In e (block_entries f k (last_or xs a) p ys) → In e (block_entries f k a p (append xs ys))
  in_part k a p xs ys (inl i) = subst (In e) (sym (entries_append f k a p xs ys)) (in_left e (block_entries f k a (first_or ys p) xs) (block_entries f k (last_or xs a) p ys) i)
  in_part k a p xs ys (inr i) = subst (In e) (sym (entries_append f k a p xs ys)) (in_right e (block_entries f k a (first_or ys p) xs) (block_entries f k (last_or xs a) p ys) i)

  -- a statement in a block
  in_among : (k : Context) (b r : Statements) (s : Statement) → In e (statement_entries f k (last_or b None) (first_or r None) s) → In e (block_entries f k None None (append b (Starts s r)))
  in_among k b r s i = in_part k None None b (Starts s r) (inr (in_left e (statement_entries f k (last_or b None) (first_or r None) s) (block_entries f k (Some (number_of s)) None r) i))

  in_fill : (k : Context) (h : Hole) (x : Statements) → In e (block_entries f (context_in k h) None None x) → In e (block_entries f k None None (fill h x))
  in_fill k (Then b n c u r) x i = in_among k b r (If n c x u) (inr (in_left e (block_entries f (inside k n which.Then) None None x) (block_entries f (inside k n which.Else) None None u) i))
  in_fill k (Else b n c t r) x i = in_among k b r (If n c t x) (inr (in_right e (block_entries f (inside k n which.Then) None None t) (block_entries f (inside k n which.Else) None None x) i))
  in_fill k (Body b n c r) x i = in_among k b r (While n c x) (inr i)

  pub in_plug : (k : Context) (hs : List Hole) (x : Statements) → In e (block_entries f (context_of k hs) None None x) → In e (block_entries f k None None (plug hs x))
  in_plug k [] x i = i
  in_plug k (h ∷ hs) x i = in_fill k h (plug hs x) (in_plug (context_in k h) hs x i)

in_program : (e : Entry) (es ps : List Procedure) (p : Procedure) (qs : List Procedure) → In e (procedure_entries (es ++ ps) p) → In e (entries_from es (ps ++ p ∷ qs))
in_program e es [] p qs i = in_left e (procedure_entries es p) (entries_from (es ++ p ∷ []) qs) (subst (λ (os : List Procedure). In e (procedure_entries os p)) (append-nil es) i)
in_program e es (x ∷ ps) p qs i =
    in_right e (procedure_entries es x) (entries_from (es ++ x ∷ []) (ps ++ p ∷ qs)) (in_program e (es ++ x ∷ []) ps p qs (subst (λ (os : List Procedure). In e (procedure_entries os p)) (sym (append_assoc es (x ∷ []) ps)) i))

-- A program that has statements `part` between others, in holes; its numbers stand once.
module _ (ps qs : List Procedure) (p : Procedure) (hs : List Hole) (before part behind : Statements) where
  abbrev pub program : List Procedure
  program = ps ++ with_body p (plug hs (between before behind part)) ∷ qs

  abbrev pub resolver : Resolver
  resolver = resolver_at ps p

  abbrev pub context : Context
  context = context_of (context_at (length ps)) hs

  module _ (once : Distinct (program_numbers program)) where
    -- what is found in the block is found in the program
    pub in_block : (e : Entry) → In e (block_entries resolver context None None (between before behind part)) → entry_of (entries_of program) e.number ≡ Some e
    in_block e i =
        found (entries_of program) (subst Distinct (sym (all_numbers program)) once) e
        (in_program e [] ps (with_body p (plug hs (between before behind part))) qs (in_plug resolver e (context_at (length ps)) hs (between before behind part) i))

    -- the statements of the part stand between their neighbours
    pub part_found : (e : Entry) → In e (block_entries resolver context (last_or before None) (first_or behind None) part) → entry_of (entries_of program) e.number ≡ Some e
    part_found e i = in_block e (in_part resolver e context None None before (append part behind) (inr (in_part resolver e context (last_or before None) None part behind (inl i))))

    -- the statement before is before the first of the part, or of what is after it
    pub front_found : (b : Statements) (s : Statement) → before ≡ append b (Starts s Ends) →
        entry_of (entries_of program) (number_of s) ≡ Some (entry_at resolver context (last_or b None) (first_or part (first_or behind None)) s)
    front_found b s e =
        let x = entry_at resolver context (last_or b None) (first_or part (first_or behind None)) s in
        in_block x
        (in_part resolver x context None None before (append part behind)
        (inl (subst (λ o. In x (block_entries resolver context None o before)) (sym (first_append part behind None))
        (subst (λ z. In x (block_entries resolver context None (first_or part (first_or behind None)) z)) (sym e)
        (in_part resolver x context None (first_or part (first_or behind None)) b (Starts s Ends) (inr (in_left x (statement_entries resolver context (last_or b None) (first_or part (first_or behind None)) s) [] (own_in resolver context (last_or b None) (first_or part (first_or behind None)) s))))))))

    -- the statement after is after the last of the part, or what is before it
    pub next_found : (r : Statements) (s : Statement) → behind ≡ Starts s r →
        entry_of (entries_of program) (number_of s) ≡ Some (entry_at resolver context (last_or part (last_or before None)) (first_or r None) s)
    next_found r s e =
        let x = entry_at resolver context (last_or part (last_or before None)) (first_or r None) s in
        in_block x
        (in_part resolver x context None None before (append part behind)
        (inr (in_part resolver x context (last_or before None) None part behind
        (inr (subst (λ z. In x (block_entries resolver context (last_or part (last_or before None)) None z)) (sym e)
        (in_left x (statement_entries resolver context (last_or part (last_or before None)) (first_or r None) s) (block_entries resolver context (Some (number_of s)) None r) (own_in resolver context (last_or part (last_or before None)) (first_or r None) s)))))))

-- The statement that has a block tells the block's ends, and a loop its breaks.
pub holder_found : (ps qs : List Procedure) (p : Procedure) (hs : List Hole) (h : Hole) (x : Statements) → Distinct (program_numbers (ps ++ with_body p (plug hs (fill h x)) ∷ qs)) →
    entry_of (entries_of (ps ++ with_body p (plug hs (fill h x)) ∷ qs)) (number_of (holding h x)) ≡ Some (entry_at (resolver_at ps p) (context_of (context_at (length ps)) hs) (last_or (around_before h) None) (first_or (around_behind h) None) (holding h x))
holder_found ps qs p hs h x once =
    let f = resolver_at ps p in
    let k = context_of (context_at (length ps)) hs in
    let s = holding h x in
    let e = entry_at f k (last_or (around_before h) None) (first_or (around_behind h) None) s in
    found (entries_of (ps ++ with_body p (plug hs (fill h x)) ∷ qs)) (subst Distinct (sym (all_numbers (ps ++ with_body p (plug hs (fill h x)) ∷ qs))) once) e
    (in_program e [] ps (with_body p (plug hs (fill h x))) qs
    (in_plug f e (context_at (length ps)) hs (fill h x)
    (subst (λ z. In e (block_entries f k None None z)) (sym (fill_is h x)) (in_among f e k (around_before h) (around_behind h) s (own_in f k (last_or (around_before h) None) (first_or (around_behind h) None) s)))))
