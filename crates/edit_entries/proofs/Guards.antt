-- Another condition changes what is known of its statement alone.
use Rattle.std.proofs.Common.{◌≡◌, ℕ, ◌==◌, List, [], ◌∷◌, ◌++◌, length, Option, Some, None, false, refl, sym, ap, ◌∙◌}
use Rattle.std.proofs.lemmas.Option.{same_Some}
use Rattle.imp_syntax.specs.Plain.{Condition, Statement, Simple, Break, Call, If, While, Statements, Ends, Starts, Procedure, number_of, program_numbers}
use Rattle.imp_syntax.specs.Changes.{with_condition}
use Rattle.imp_slots.specs.Fits.{Distinct}
use Rattle.imp_check.specs.Faults.{first}
use Rattle.imp_check.specs.Slots.{Resolver}
use Rattle.imp_check.specs.Entries.{form_in, entry_at, statement_entries, block_entries, procedure_entries, entries_from, entries_of, entry_of, resolver_at, context_at}
use Rattle.imp_check.specs.declared.entry.Context.{Context}
use Rattle.imp_check.specs.declared.entry.Entry.{Entry}
use Rattle.imp_check.specs.Parts.{part_of, ends_of, first_or, last_or, leaving}
use Rattle.edit_entries.specs.Holes.{append, Hole, plug, between, with_body}
use Rattle.edit_entries.proofs.Others.{entries_append, entry_append, Alike}
use Rattle.edit_entries.proofs.Filled.{plug_same}
use Rattle.edit_entries.proofs.Holders.{ends_between, leaving_between}
use Rattle.edit_entries.proofs.Heads.{entries_alike}
use Rattle.edit_entries.proofs.Programs.{bares_at}
use Rattle.edit_entries.proofs.Touched.{context_of, part_found, own_in}
use Rattle.imp_check.proofs.RebuildLemmas.{in_left}

-- a block of one statement
abbrev pub one : Statement → Statements
one s = Starts s Ends

same_first : (s : Statement) (d : Condition) (o : Option ℕ) → first_or (one (with_condition s d)) o ≡ first_or (one s) o
same_first (Simple n a) d o = refl
same_first (Break n) d o = refl
same_first (Call n x g es) d o = refl
same_first (If n c t e) d o = refl
same_first (While n c b) d o = refl

same_last : (s : Statement) (d : Condition) (o : Option ℕ) → last_or (one (with_condition s d)) o ≡ last_or (one s) o
same_last (Simple n a) d o = refl
same_last (Break n) d o = refl
same_last (Call n x g es) d o = refl
same_last (If n c t e) d o = refl
same_last (While n c b) d o = refl

pub same_leaving : (s : Statement) (d : Condition) → leaving (one s) ≡ leaving (one (with_condition s d))
same_leaving (Simple n a) d = refl
same_leaving (Break n) d = refl
same_leaving (Call n x g es) d = refl
same_leaving (If n c t e) d = refl
same_leaving (While n c b) d = refl

module _ (f : Resolver) (m : ℕ) where
  guard_head : (k : Context) (a p : Option ℕ) (s : Statement) (d : Condition) → (number_of s == m) ≡ false → entry_of (block_entries f k a p (one s)) m ≡ entry_of (block_entries f k a p (one (with_condition s d))) m
  guard_head k a p (Simple n x) d h = refl
  guard_head k a p (Break n) d h = refl
  guard_head k a p (Call n x g es) d h = refl
  guard_head k a p (If n c t e) d h = rw h refl
  guard_head k a p (While n c b) d h = rw h refl

  middle : (k : Context) (before behind : Statements) (s : Statement) →
      entry_of (block_entries f k None None (between before behind (one s))) m ≡ first (entry_of (block_entries f k None (first_or (one s) None) before) m) (first (entry_of (block_entries f k (last_or before None) (first_or behind None) (one s)) m) (entry_of (block_entries f k (last_or (one s) None) None behind) m))
  middle k before behind s =
      ap (λ xs. entry_of xs m) (entries_append f k None None before (append (one s) behind))
      ∙ entry_append (block_entries f k None (first_or (one s) None) before) (block_entries f k (last_or before None) None (append (one s) behind)) m
      ∙ ap (first (entry_of (block_entries f k None (first_or (one s) None) before) m)) (ap (λ xs. entry_of xs m) (entries_append f k (last_or before None) None (one s) behind) ∙ entry_append (block_entries f k (last_or before None) (first_or behind None) (one s)) (block_entries f k (last_or (one s) None) None behind) m)

  guard_alike : (before behind : Statements) (s : Statement) (d : Condition) → (number_of s == m) ≡ false → Alike f m (between before behind (one s)) (between before behind (one (with_condition s d)))
  guard_alike before behind s d h k =
      let t = with_condition s d in
      middle k before behind s
      ∙ ap (λ o. first (entry_of (block_entries f k None o before) m) (first (entry_of (block_entries f k (last_or before None) (first_or behind None) (one s)) m) (entry_of (block_entries f k (last_or (one s) None) None behind) m))) (sym (same_first s d None))
      ∙ ap (λ o. first (entry_of (block_entries f k None (first_or (one t) None) before) m) (first o (entry_of (block_entries f k (last_or (one s) None) None behind) m))) (guard_head k (last_or before None) (first_or behind None) s d h)
      ∙ ap (λ o. first (entry_of (block_entries f k None (first_or (one t) None) before) m) (first (entry_of (block_entries f k (last_or before None) (first_or behind None) (one t)) m) (entry_of (block_entries f k o None behind) m))) (sym (same_last s d None))
      ∙ sym (middle k before behind t)

pub guard_ends : (before behind : Statements) (s : Statement) (d : Condition) → ends_of (between before behind (one s)) ≡ ends_of (between before behind (one (with_condition s d)))
guard_ends before behind s d =
    let t = with_condition s d in
    ends_between before behind (one s)
    ∙ ap (λ o. record { first = first_or before o; last = last_or behind (last_or (one s) (last_or before None)) }) (sym (same_first s d (first_or behind None)))
    ∙ ap (λ o. record { first = first_or before (first_or (one t) (first_or behind None)); last = last_or behind o }) (sym (same_last s d (last_or before None)))
    ∙ sym (ends_between before behind (one t))

module _ (ps qs : List Procedure) (p : Procedure) (hs : List Hole) (before behind : Statements) (s : Statement) (d : Condition) where
  abbrev at : Statement → List Procedure
  at t = ps ++ with_body p (plug hs (between before behind (one t))) ∷ qs

  -- Of all other statements the same is known.
  pub guard_other : (m : ℕ) → (number_of s == m) ≡ false → entry_of (entries_of (at s)) m ≡ entry_of (entries_of (at (with_condition s d))) m
  guard_other m h = along [] ps
    where
      own : (es : List Procedure) → entry_of (procedure_entries es (with_body p (plug hs (between before behind (one s))))) m ≡ entry_of (procedure_entries es (with_body p (plug hs (between before behind (one (with_condition s d)))))) m
      own es =
          plug_same (resolver_at es p) m hs (between before behind (one s)) (between before behind (one (with_condition s d))) (guard_ends before behind s d) (leaving_between before behind (one s) (one (with_condition s d)) (same_leaving s d))
          (guard_alike (resolver_at es p) m before behind s d h) (context_at _)

      along : (es os : List Procedure) → entry_of (entries_from es (os ++ with_body p (plug hs (between before behind (one s))) ∷ qs)) m ≡ entry_of (entries_from es (os ++ with_body p (plug hs (between before behind (one (with_condition s d)))) ∷ qs)) m
      along es [] =
          let O = with_body p (plug hs (between before behind (one s))) in
          let N = with_body p (plug hs (between before behind (one (with_condition s d)))) in
          entry_append (procedure_entries es O) (entries_from (es ++ O ∷ []) qs) m
          ∙ ap (λ o. first o (entry_of (entries_from (es ++ O ∷ []) qs) m)) (own es)
          ∙ ap (λ xs. first (entry_of (procedure_entries es N) m) (entry_of xs m)) (entries_alike (es ++ O ∷ []) (es ++ N ∷ []) qs (bares_at p hs before (one s) (one (with_condition s d)) behind es []))
          ∙ sym (entry_append (procedure_entries es N) (entries_from (es ++ N ∷ []) qs) m)
      along es (x ∷ os) =
          entry_append (procedure_entries es x) (entries_from (es ++ x ∷ []) (os ++ with_body p (plug hs (between before behind (one s))) ∷ qs)) m
          ∙ ap (first (entry_of (procedure_entries es x) m)) (along (es ++ x ∷ []) os)
          ∙ sym (entry_append (procedure_entries es x) (entries_from (es ++ x ∷ []) (os ++ with_body p (plug hs (between before behind (one (with_condition s d)))) ∷ qs)) m)

  guarded_entry : (a q : Option ℕ) (k : Context) (s : Statement) → entry_at (resolver_at ps p) k a q (with_condition s d) ≡ record (entry_at (resolver_at ps p) k a q s) { part = part_of (with_condition s d); form = form_in (resolver_at ps p) (with_condition s d) }
  guarded_entry a q k (Simple n x) = refl
  guarded_entry a q k (Break n) = refl
  guarded_entry a q k (Call n x g es) = refl
  guarded_entry a q k (If n c t e) = refl
  guarded_entry a q k (While n c b) = refl

  number_kept : (s : Statement) → number_of (with_condition s d) ≡ number_of s
  number_kept (Simple n a) = refl
  number_kept (Break n) = refl
  number_kept (Call n x g es) = refl
  number_kept (If n c t e) = refl
  number_kept (While n c b) = refl

  -- Of the statement itself the same is known except its condition.
  pub guard_own : Distinct (program_numbers (at s)) → Distinct (program_numbers (at (with_condition s d))) → (x : Entry) → entry_of (entries_of (at s)) (number_of s) ≡ Some x →
      entry_of (entries_of (at (with_condition s d))) (number_of s) ≡ Some (record x { part = part_of (with_condition s d); form = form_in (resolver_at ps p) (with_condition s d) })
  guard_own old new x e =
      let f = resolver_at ps p in
      let k = context_of (context_at (length ps)) hs in
      let a = last_or before None in
      let b = first_or behind None in
      let t = with_condition s d in
      let o = part_found ps qs p hs before (one s) behind old (entry_at f k a b s) (in_left (entry_at f k a b s) (statement_entries f k a b s) [] (own_in f k a b s)) in
      let n = part_found ps qs p hs before (one t) behind new (entry_at f k a b t) (in_left (entry_at f k a b t) (statement_entries f k a b t) [] (own_in f k a b t)) in
      let same : entry_at f k a b s ≡ x = same_Some (entry_at f k a b s) x (sym o ∙ e) in
      ap (entry_of (entries_of (at t))) (sym (number_kept s)) ∙ n ∙ ap {A = Entry} {B = Option Entry} Some (guarded_entry a b k s) ∙ ap {A = Entry} {B = Option Entry} (λ y. Some (record y { part = part_of t; form = form_in f t })) same
