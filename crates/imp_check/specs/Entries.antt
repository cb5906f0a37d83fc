-- What is known of each statement, told by its neighbours: all statements in the order of the text.
use Rattle.std.specs.Prelude.{ℕ, zero, suc, Bool, false, List, [], ◌∷◌, ◌++◌, length, Option, Some, None, cond, ◌==◌, ◌||◌}
use Rattle.std.specs.Str.{bytes_eq}
use Rattle.imp_syntax.specs.Plain.{Statement, Statements, Procedure, number_of}
use Rattle.imp_syntax.specs.Plain as tree
use Rattle.imp_slots.specs.ActionViews.{action_of}
use Rattle.imp_slots.specs.declared.actions.SlotStmt.TheVariants as act
use Rattle.imp_check.specs.Slots.{Resolver, layout_in, effect_in, guard_in, invoke_in, callee_in}
use Rattle.imp_check.specs.Parts.{part_of, first_or, first_ends, second_ends, breaks_of, ends_of}
use Rattle.imp_check.specs.declared.entry.Entry.{Entry}
use Rattle.imp_check.specs.declared.entry.ProcHeader.{ProcHeader}
use Rattle.imp_check.specs.declared.entry.SlotForm.{SlotForm}
use Rattle.imp_check.specs.declared.entry.SlotForm.TheVariants as form
use Rattle.imp_check.specs.declared.entry.Which.{Which}
use Rattle.imp_check.specs.declared.entry.Which.TheVariants.{Then, Else, Body}
use Rattle.imp_check.specs.declared.entry.Context.{Context}

-- what a statement does, over slots
abbrev pub form_in : Resolver → Statement → SlotForm
form_in f (tree.Simple n a) = form.Stmt (act.Simple (action_of (effect_in f.layout a)))
form_in f (tree.Break n) = form.Stmt act.Break
form_in f (tree.Call n x g es) = form.Call (invoke_in f x g es) (callee_in f g)
form_in f (tree.If n c t e) = form.Cond (guard_in f.layout c)
form_in f (tree.While n c b) = form.Cond (guard_in f.layout c)

-- a statement between these two of its block
abbrev pub entry_at : Resolver → Context → (front next : Option ℕ) → Statement → Entry
entry_at f c front next s = record {
  number = number_of s;
  part = part_of s;
  form = form_in f s;
  context = c;
  front = front;
  next = next;
  inner = first_ends s;
  other = second_ends s;
  breaks = breaks_of s;
}

-- the blocks of an if, and the body of a while
abbrev pub inside : Context → ℕ → Which → Context
inside c n which = record { proc = c.proc; around = Some (record { stmt = n; which = which }); head = c.head; depth = suc c.depth }

abbrev pub inside_loop : Context → ℕ → Context
inside_loop c n = record { proc = c.proc; around = Some (record { stmt = n; which = Body }); head = Some n; depth = suc c.depth }

-- a statement, then those inside it
abbrev mutual
  pub statement_entries : Resolver → Context → (front next : Option ℕ) → Statement → List Entry
  statement_entries f c front next (tree.Simple n a) = entry_at f c front next (tree.Simple n a) ∷ []
  statement_entries f c front next (tree.Break n) = entry_at f c front next (tree.Break n) ∷ []
  statement_entries f c front next (tree.Call n x g es) = entry_at f c front next (tree.Call n x g es) ∷ []
  statement_entries f c front next (tree.If n d t e) = entry_at f c front next (tree.If n d t e) ∷ (block_entries f (inside c n Then) None None t ++ block_entries f (inside c n Else) None None e)
  statement_entries f c front next (tree.While n d b) = entry_at f c front next (tree.While n d b) ∷ block_entries f (inside_loop c n) None None b

  pub block_entries : Resolver → Context → (front next : Option ℕ) → Statements → List Entry
  block_entries f c front next tree.Ends = []
  block_entries f c front next (tree.Starts s ss) = statement_entries f c front (first_or ss next) s ++ block_entries f c (Some (number_of s)) next ss

-- a procedure's own block, with those before it
abbrev pub resolver_at : (earlier : List Procedure) → Procedure → Resolver
resolver_at earlier p = record { layout = layout_in p; earlier = earlier }

abbrev pub context_at : (place : ℕ) → Context
context_at place = record { proc = place; around = None; head = None; depth = 0 }

abbrev pub procedure_entries : (earlier : List Procedure) → Procedure → List Entry
procedure_entries earlier p = block_entries (resolver_at earlier p) (context_at (length earlier)) None None p.body

abbrev pub entries_from : (earlier : List Procedure) → List Procedure → List Entry
entries_from earlier [] = []
entries_from earlier (p ∷ later) = procedure_entries earlier p ++ entries_from (earlier ++ p ∷ []) later

-- all statements of a program
abbrev pub entries_of : List Procedure → List Entry
entries_of ps = entries_from [] ps

-- the entry of a number
abbrev pub entry_of : List Entry → ℕ → Option Entry
entry_of [] n = None
entry_of (e ∷ es) n = cond (e.number == n) (Some e) (entry_of es n)

-- the procedures without their statements
abbrev pub bare_of : Procedure → Procedure
bare_of p = record { name = p.name; parameters = p.parameters; outcome = p.outcome; locals = p.locals; body = tree.Ends }

abbrev pub head_of : Procedure → ProcHeader
head_of p = record { bare = bare_of p; layout = layout_in p; body = ends_of p.body }

abbrev pub heads_of : List Procedure → List ProcHeader
heads_of [] = []
heads_of (p ∷ ps) = head_of p ∷ heads_of ps

-- whether one of these has a name, and the place of the first one
abbrev pub is_headed : List ProcHeader → List ℕ → Bool
is_headed [] x = false
is_headed (h ∷ hs) x = bytes_eq h.bare.name x || is_headed hs x

abbrev pub place_headed : List ProcHeader → List ℕ → ℕ
place_headed [] x = 0
place_headed (h ∷ hs) x = cond (bytes_eq h.bare.name x) 0 (suc (place_headed hs x))

-- whether a statement calls the procedure at a place
abbrev pub calls_here : SlotForm → ℕ → Bool
calls_here (form.Stmt s) p = false
calls_here (form.Cond c) p = false
calls_here (form.Call i q) p = q == p

-- the call statements of a procedure, in the order of the text, and those of each of the first procedures
abbrev pub sites_in : List Entry → ℕ → List ℕ
sites_in [] p = []
sites_in (e ∷ es) p = cond (calls_here e.form p) (e.number ∷ sites_in es p) (sites_in es p)

abbrev pub sites_below : List Entry → ℕ → List (List ℕ)
sites_below es zero = []
sites_below es (suc n) = sites_below es n ++ sites_in es n ∷ []

-- the call statements of each procedure of a program
abbrev pub sites_of : List Procedure → List (List ℕ)
sites_of ps = sites_below (entries_of ps) (length ps)
