-- Where an edit that brings statements changes a block, and what it changes there.
use Rattle.std.specs.Prelude.{◌≡◌, ℕ, suc, ◌+◌, ◌-◌, ◌<◌, List, [], length, Option, Some, None, true, cond, nat_lt, slice_get, unwrap_or}
use Rattle.std.specs.List.{All}
use Rattle.std.specs.Option.{option_map}
use Rattle.imp_syntax.specs.Plain.{Statements, Procedure, numbers}
use Rattle.imp_syntax.specs.declared.edit.Edit.{Edit}
use Rattle.imp_syntax.specs.declared.edit.Edit.TheVariants as edit
use Rattle.imp_syntax.specs.declared.edit.Place.{Place}
use Rattle.imp_syntax.specs.declared.edit.Place.TheVariants as place
use Rattle.imp_table.specs.Changes.{AreWithin, overlay}
use Rattle.imp_check.specs.Entries.{inside, inside_loop, context_at, entries_of, entry_of, resolver_at, heads_of}
use Rattle.imp_check.specs.Faults.{first, unless, at, in_procedure}
use Rattle.imp_check.specs.Names.{named_in, variables}
use Rattle.imp_check.specs.Programs.{block_count, program_count, nesting, name_of, last_of}
use Rattle.imp_check.specs.Statements.{block_fault}
use Rattle.imp_table.specs.declared.change.Change.{Change}
use Rattle.imp_check.specs.declared.entry.Context.{Context}
use Rattle.imp_check.specs.declared.entry.Entry.{Entry}
use Rattle.imp_check.specs.declared.entry.ProcHeader.{ProcHeader}
use Rattle.imp_check.specs.declared.entry.Which.TheVariants as which
use Rattle.imp_check.specs.declared.fault.Fault.TheVariants.{Statements as TooManyStatements, Nesting}
use Rattle.imp_check.specs.declared.fault.LocatedFault.{LocatedFault}
use Rattle.edit_entries.specs.Gaps.{ends_with, holder_of, held_in, heads_in, gap_splice, lone}
use Rattle.edit_entries.specs.Spliced.{spliced}
use Rattle.edit_breaks.specs.Bounds.{IsBelow}
use Rattle.edit_breaks.specs.Breaks.{loop_breaks}
use Rattle.edit_breaks.specs.declared.gap.Gap.{Gap}
use Rattle.imp_edit.specs.CallFreeParts.{part_numbers, part_quiet}

-- in the place of a statement in which no call stands
abbrev pub gone_gap : (at : ℕ → Option Entry) → (most : ℕ) → Entry → Option Gap
gone_gap at most e = cond (part_quiet at most e) (Some (record { context = e.context; front = e.front; next = e.next; gone = part_numbers at most e })) None

-- after a statement
abbrev pub behind_gap : Entry → Option Gap
behind_gap e = Some (record { context = e.context; front = Some e.number; next = e.next; gone = [] })

-- before a block, whose first statement is this one: a block of a statement, or the body of the procedure at a place
abbrev pub first_gap : Context → (first : Option ℕ) → Gap
first_gap k first = record { context = k; front = None; next = first; gone = [] }

abbrev pub then_gap : Entry → Option Gap
then_gap e = Some (first_gap (inside e.context e.number which.Then) e.inner.first)

abbrev pub else_gap : Entry → Option Gap
else_gap e = Some (first_gap (inside e.context e.number which.Else) e.other.first)

abbrev pub body_gap : Entry → Option Gap
body_gap e = Some (first_gap (inside_loop e.context e.number) e.inner.first)

abbrev pub start_gap : (place : ℕ) → ProcHeader → Gap
start_gap place h = first_gap (context_at place) h.body.first

abbrev pub of_entry : (Entry → Option Gap) → Option Entry → Option Gap
of_entry gap None = None
of_entry gap (Some e) = gap e

abbrev pub of_place : List ProcHeader → Option ℕ → Option Gap
of_place heads None = None
of_place heads (Some p) = option_map (start_gap p) (slice_get heads p)

abbrev pub part_gap : ℕ → List Procedure → Option Gap
part_gap n ps = of_entry (gone_gap (entry_of (entries_of ps)) (suc (program_count ps))) (entry_of (entries_of ps) n)

abbrev pub place_gap : Place → List Procedure → Option Gap
place_gap (place.After n) ps = of_entry behind_gap (entry_of (entries_of ps) n)
place_gap (place.ThenStart n) ps = of_entry then_gap (entry_of (entries_of ps) n)
place_gap (place.ElseStart n) ps = of_entry else_gap (entry_of (entries_of ps) n)
place_gap (place.BodyStart n) ps = of_entry body_gap (entry_of (entries_of ps) n)
place_gap (place.ProcStart x) ps = of_place (heads_of ps) (named_in ps x)

-- Where an edit puts statements, or takes one away in which no call stands.
abbrev pub gap_of : Edit → List Procedure → Option Gap
gap_of (edit.Replace n t) ps = part_gap n ps
gap_of (edit.Insert at more) ps = place_gap at ps
gap_of (edit.Delete n) ps = part_gap n ps
gap_of (edit.Guard n c) ps = None
gap_of (edit.Declare x d) ps = None
gap_of (edit.AddProc x p) ps = None
gap_of (edit.DropProc x) ps = None

-- how many statements the program then has
abbrev pub count_with : List Procedure → Gap → Statements → ℕ
count_with ps g news = (program_count ps - length g.gone) + block_count news

-- The first fault of all: too many statements, or a block that is too deep.
abbrev pub size_fault : List Procedure → Gap → Statements → Option LocatedFault
size_fault ps g news = in_procedure (name_of (last_of ps)) (at 0 (first (unless (nat_lt (count_with ps g news) 10001) TooManyStatements) (unless (nat_lt (g.context.depth + nesting news) 33) Nesting)))

-- The first fault: that, or the first one of the statements that come, whose breaks stand in loops.
abbrev pub splice_fault : List Procedure → ProcHeader → Gap → Statements → Option LocatedFault
splice_fault ps h g news = first (size_fault ps g news) (in_procedure h.bare.name (block_fault (lone (variables h.bare)) true news))

-- what is then known of the statements
abbrev pub entries_with : List Procedure → ProcHeader → Gap → Statements → ℕ → Option Entry
entries_with ps h g news = spliced (gap_splice (resolver_at [] h.bare) g.context g.front g.next g.gone news (loop_breaks ps g news)) (held_in g.context.around (ends_with g.front g.next news)) (entry_of (entries_of ps))

-- The numbers of the statements around a place, and of those that come and go, are below a bound.
pub record AreBelow (b : ℕ) (g : Gap) (news : Statements) : Type 0 where
  pub gone : All (λ (n : ℕ). n < b) g.gone
  pub front : IsBelow b g.front
  pub next : IsBelow b g.next
  pub holder : IsBelow b (holder_of g.context.around)
  pub loop : IsBelow b g.context.head
  pub come : All (λ (n : ℕ). n < b) (numbers news)

-- The change puts statements at a place, and takes away what goes.
pub record IsSplice (ps : List Procedure) (h : ProcHeader) (g : Gap) (news : Statements) (change : Change) : Type 0 where
  pub entries : (m : ℕ) → overlay change.entries.items (entry_of (entries_of ps)) m ≡ entries_with ps h g news m
  pub heads : unwrap_or change.heads (heads_of ps) ≡ heads_in g.context.around (heads_of ps) g.context.proc (ends_with g.front g.next news)
  pub counted : change.count ≡ count_with ps g news
  pub sites : change.sites ≡ None
  pub within : (b : ℕ) → AreBelow b g news → AreWithin b change.entries.items
