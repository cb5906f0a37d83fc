-- What is known of the statements of a procedure depends on the heads of the procedures around it, and not on their bodies.
use Rattle.std.proofs.lemmas.List.{map-append}
use Rattle.std.proofs.Common.{◌≡◌, ℕ, zero, suc, cond, List, [], ◌∷◌, ◌++◌, length, map, slice_get, Option, Some, None, Bool, true, false, ◌||◌, refl, sym, ap, ◌∙◌}
use Rattle.std.specs.Str.{bytes_eq}
use Rattle.imp_syntax.specs.Plain.{Operand, Statement, Statements, Ends, Starts, Procedure, number_of}
use Rattle.imp_syntax.specs.Plain as tree
use Rattle.imp_syntax.specs.declared.words.Declaration.{Declaration}
use Rattle.imp_slots.specs.Plain.{Layout}
use Rattle.imp_check.specs.Faults.{first, unless, at}
use Rattle.imp_check.specs.declared.fault.Fault.{Fault}
use Rattle.imp_check.specs.declared.fault.Fault.TheVariants.{UnknownName, CallsLater}
use Rattle.imp_check.specs.Names.{place_named, is_named, procedure_named}
use Rattle.imp_check.specs.Slots.{Resolver, layout_in, invoke_of}
use Rattle.imp_check.specs.Entries.{form_in, inside, inside_loop, entry_at, statement_entries, block_entries, context_at, procedure_entries, entries_from}
use Rattle.imp_check.specs.Statements.{Scope, condition_fault, knows_target, arguments_fault, call_fault, statement_fault, block_fault}
use Rattle.imp_check.specs.Kinds.{knows_operands}
use Rattle.imp_check.specs.declared.entry.Which.TheVariants as which
use Rattle.imp_check.specs.declared.entry.SlotForm.{SlotForm}
use Rattle.imp_check.specs.declared.entry.SlotForm.TheVariants as form
use Rattle.imp_check.specs.declared.entry.Context.{Context}
use Rattle.imp_check.specs.declared.entry.Entry.{Entry}
use Rattle.imp_check.specs.Parts.{first_or}

abbrev pub bare : Procedure → Procedure
bare p = record { name = p.name; parameters = p.parameters; outcome = p.outcome; locals = p.locals; body = Ends }

abbrev pub bares : List Procedure → List Procedure
bares ps = map bare ps

abbrev bared : Option Procedure → Option Procedure
bared None = None
bared (Some p) = Some (bare p)

pub place_bare : (ps : List Procedure) (g : List ℕ) → place_named ps g ≡ place_named (bares ps) g
place_bare [] g = refl
place_bare (p ∷ ps) g = ap (λ n. cond (bytes_eq p.name g) 0 (suc n)) (place_bare ps g)

pub get_bare : (ps : List Procedure) (i : ℕ) → slice_get (bares ps) i ≡ bared (slice_get ps i)
get_bare [] i = refl
get_bare (p ∷ ps) zero = refl
get_bare (p ∷ ps) (suc i) = get_bare ps i

pub named_bare : (ps : List Procedure) (g : List ℕ) → is_named ps g ≡ is_named (bares ps) g
named_bare [] g = refl
named_bare (p ∷ ps) g = ap (λ b. bytes_eq p.name g || b) (named_bare ps g)

procedure_bare : (ps : List Procedure) (g : List ℕ) → procedure_named (bares ps) g ≡ bared (procedure_named ps g)
procedure_bare [] g = refl
procedure_bare (p ∷ ps) g = go (bytes_eq p.name g) (procedure_bare ps g)
  where
    go : (b : Bool) → procedure_named (bares ps) g ≡ bared (procedure_named ps g) → cond b (Some (bare p)) (procedure_named (bares ps) g) ≡ bared (cond b (Some p) (procedure_named ps g))
    go true e = refl
    go false e = e

pub invoke_bare : (l : Layout) (x : Option (List ℕ)) (es : List Operand) (o : Option Procedure) → invoke_of l x es o ≡ invoke_of l x es (bared o)
invoke_bare l x es None = refl
invoke_bare l x es (Some p) = refl

module _ (l : Layout) (ps : List Procedure) where
  abbrev f : Resolver
  f = record { layout = l; earlier = ps }

  abbrev g : Resolver
  g = record { layout = l; earlier = bares ps }

  form_bare : (s : Statement) → form_in f s ≡ form_in g s
  form_bare (tree.Simple n a) = refl
  form_bare (tree.Break n) = refl
  form_bare (tree.Call n x q es) =
      ap (λ i. form.Call i (place_named ps q)) (invoke_bare l x es (slice_get ps (place_named ps q)) ∙ ap (invoke_of l x es) (sym (get_bare ps (place_named ps q))))
      ∙ ap (λ n. form.Call (invoke_of l x es (slice_get (bares ps) n)) n) (place_bare ps q)
  form_bare (tree.If n c t e) = refl
  form_bare (tree.While n c b) = refl

  entry_bare : (k : Context) (a p : Option ℕ) (s : Statement) → entry_at f k a p s ≡ entry_at g k a p s
  entry_bare k a p s = ap (λ (o : SlotForm). record (entry_at f k a p s) { form = o }) (form_bare s)

  mutual
    statement_bare : (k : Context) (a p : Option ℕ) (s : Statement) → statement_entries f k a p s ≡ statement_entries g k a p s
    statement_bare k a p (tree.Simple n x) = ap (λ (o : Entry). o ∷ []) (entry_bare k a p (tree.Simple n x))
    statement_bare k a p (tree.Break n) = ap (λ (o : Entry). o ∷ []) (entry_bare k a p (tree.Break n))
    statement_bare k a p (tree.Call n x q es) = ap (λ (o : Entry). o ∷ []) (entry_bare k a p (tree.Call n x q es))
    statement_bare k a p (tree.If n c t e) =
        ap (λ (o : Entry). o ∷ (block_entries f (inside k n which.Then) None None t ++ block_entries f (inside k n which.Else) None None e)) (entry_bare k a p (tree.If n c t e))
        ∙ ap (λ (os : List Entry). entry_at g k a p (tree.If n c t e) ∷ (os ++ block_entries f (inside k n which.Else) None None e)) (block_bare (inside k n which.Then) None None t)
        ∙ ap (λ (os : List Entry). entry_at g k a p (tree.If n c t e) ∷ (block_entries g (inside k n which.Then) None None t ++ os)) (block_bare (inside k n which.Else) None None e)
    statement_bare k a p (tree.While n c b) =
        ap (λ (o : Entry). o ∷ block_entries f (inside_loop k n) None None b) (entry_bare k a p (tree.While n c b))
        ∙ ap (λ (os : List Entry). entry_at g k a p (tree.While n c b) ∷ os) (block_bare (inside_loop k n) None None b)

    pub block_bare : (k : Context) (a p : Option ℕ) (b : Statements) → block_entries f k a p b ≡ block_entries g k a p b
    block_bare k a p Ends = refl
    block_bare k a p (Starts s ss) =
        ap (λ (os : List Entry). os ++ block_entries f k (Some (number_of s)) p ss) (statement_bare k a (first_or ss p) s)
        ∙ ap (λ (os : List Entry). statement_entries g k a (first_or ss p) s ++ os) (block_bare k (Some (number_of s)) p ss)

-- Procedures after others whose bodies differ.
pub as_many : (ps : List Procedure) → length (bares ps) ≡ length ps
as_many [] = refl
as_many (p ∷ ps) = ap suc (as_many ps)

same_place : (es ds : List Procedure) → bares es ≡ bares ds → length es ≡ length ds
same_place es ds h = sym (as_many es) ∙ ap length h ∙ as_many ds

pub one_more : (es ds : List Procedure) (p : Procedure) → bares es ≡ bares ds → bares (es ++ p ∷ []) ≡ bares (ds ++ p ∷ [])
one_more es ds p h = map-append bare es (p ∷ []) ∙ ap (λ (os : List Procedure). os ++ bare p ∷ []) h ∙ sym (map-append bare ds (p ∷ []))

pub procedure_alike : (es ds : List Procedure) (p : Procedure) → bares es ≡ bares ds → procedure_entries es p ≡ procedure_entries ds p
procedure_alike es ds p h =
    block_bare (layout_in p) es (context_at (length es)) None None p.body
    ∙ ap (λ (os : List Procedure). block_entries (record { layout = layout_in p; earlier = os }) (context_at (length es)) None None p.body) h
    ∙ ap (λ n. block_entries (record { layout = layout_in p; earlier = bares ds }) (context_at n) None None p.body) (same_place es ds h)
    ∙ sym (block_bare (layout_in p) ds (context_at (length ds)) None None p.body)

pub entries_alike : (es ds qs : List Procedure) → bares es ≡ bares ds → entries_from es qs ≡ entries_from ds qs
entries_alike es ds [] h = refl
entries_alike es ds (q ∷ qs) h =
    ap (λ (os : List Entry). os ++ entries_from (es ++ q ∷ []) qs) (procedure_alike es ds q h)
    ∙ ap (λ (os : List Entry). procedure_entries ds q ++ os) (entries_alike (es ++ q ∷ []) (ds ++ q ∷ []) qs (one_more es ds q h))

-- Faults depend on the heads alone, too.
arguments_bare : (vs : List Declaration) (x : Option (List ℕ)) (es : List Operand) (o : Option Procedure) → arguments_fault vs x es o ≡ arguments_fault vs x es (bared o)
arguments_bare vs x es None = refl
arguments_bare vs x es (Some p) = refl

module _ (es os : List Procedure) (vs : List Declaration) where
  abbrev whole : Scope
  whole = record { earlier = es; others = os; variables = vs }

  abbrev heads : Scope
  heads = record { earlier = bares es; others = bares os; variables = vs }

  abbrev by : Option (List ℕ) → List Operand → Bool → Bool → Option Fault → Option Fault
  by x bs a b o = first (unless (knows_target vs x) UnknownName) (first (first (unless (a || b) UnknownName) (unless a CallsLater)) (first (unless (knows_operands vs bs) UnknownName) o))

  call_bare : (x : Option (List ℕ)) (g : List ℕ) (bs : List Operand) → call_fault whole x g bs ≡ call_fault heads x g bs
  call_bare x g bs =
      ap (λ a. by x bs a (is_named os g) (arguments_fault vs x bs (procedure_named es g))) (named_bare es g)
      ∙ ap (λ b. by x bs (is_named (bares es) g) b (arguments_fault vs x bs (procedure_named es g))) (named_bare os g)
      ∙ ap (by x bs (is_named (bares es) g) (is_named (bares os) g)) (arguments_bare vs x bs (procedure_named es g) ∙ ap (arguments_fault vs x bs) (sym (procedure_bare es g)))

  mutual
    statement_fault_bare : (i : Bool) (s : Statement) → statement_fault whole i s ≡ statement_fault heads i s
    statement_fault_bare i (tree.Simple n a) = refl
    statement_fault_bare i (tree.Break n) = refl
    statement_fault_bare i (tree.Call n x q bs) = ap (at n) (call_bare x q bs)
    statement_fault_bare i (tree.If n c t e) =
        ap (λ o. first (at n (condition_fault vs c)) (first o (block_fault whole i e))) (block_fault_bare i t)
        ∙ ap (λ o. first (at n (condition_fault vs c)) (first (block_fault heads i t) o)) (block_fault_bare i e)
    statement_fault_bare i (tree.While n c b) = ap (first (at n (condition_fault vs c))) (block_fault_bare true b)

    pub block_fault_bare : (i : Bool) (b : Statements) → block_fault whole i b ≡ block_fault heads i b
    block_fault_bare i Ends = refl
    block_fault_bare i (Starts s ss) =
        ap (λ o. first o (block_fault whole i ss)) (statement_fault_bare i s)
        ∙ ap (first (statement_fault heads i s)) (block_fault_bare i ss)
