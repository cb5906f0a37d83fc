-- Budgets from which on no reply is an over, for the domains that the words name.
use Rattle.std.specs.Prelude.{◌≡◌, ℕ, List}
use Rattle.imp_syntax.specs.Plain.{Procedure}
use Rattle.imp_check.specs.Slots.{routines_of}
use Rattle.batch_meaning.specs.Batch.{LoopOptions}
use Rattle.dom_interval_meaning.specs.Convergence.{most_changes}
use Rattle.dom_octagon_meaning.specs.Convergence.{most_changes as most_rises}
use Rattle.batch_converges.specs.Converges.{Converge, IsEnough, from_the_first, most_graphs, most_shapes, until_widening}
use Rattle.batch_product.specs.Claims.{changes_of_both, later_of_both}
use Rattle.serve_script.specs.Replies.{machine_after}
use Rattle.serve_command.specs.declared.job.DomainName.{DomainName}
use Rattle.serve_command.specs.declared.job.DomainName.TheVariants.{Interval, Octagon, ListSeg, IntervalListSeg, OctagonListSeg, Shapes, IntervalShapes, OctagonShapes}
use Rattle.request_json.specs.declared.reply.Reply.TheVariants as r
use Rattle.serve_answers.specs.Readings.{Readings}
use Rattle.serve_answers.specs.Lines.{Served, line_turn, server}
use Rattle.serve_answers.specs.Fine.{opening}
use Rattle.serve_output.specs.Domains.{meaning_of}

-- From which round of a loop on the changes of a state are counted, and how many there are at most, by the slots and the
-- thresholds.
abbrev pub wait_of : DomainName → (delay : ℕ) → ℕ
wait_of Interval = until_widening
wait_of Octagon = until_widening
wait_of ListSeg = from_the_first
wait_of IntervalListSeg = later_of_both until_widening from_the_first
wait_of OctagonListSeg = later_of_both until_widening from_the_first
wait_of Shapes = from_the_first
wait_of IntervalShapes = later_of_both until_widening from_the_first
wait_of OctagonShapes = later_of_both until_widening from_the_first

abbrev pub most_of : DomainName → (slots thresholds : ℕ) → ℕ
most_of Interval = most_changes
most_of Octagon = most_rises
most_of ListSeg = most_graphs
most_of IntervalListSeg = changes_of_both most_changes most_graphs
most_of OctagonListSeg = changes_of_both most_rises most_graphs
most_of Shapes = most_shapes
most_of IntervalShapes = changes_of_both most_changes most_shapes
most_of OctagonShapes = changes_of_both most_rises most_shapes

-- The budget is enough for a program: the changes, the rounds before they are counted, and two more.
abbrev pub HasBudget : DomainName → LoopOptions → List Procedure → Type 0
HasBudget name engine program = IsEnough (wait_of name) (most_of name) engine (routines_of program)

-- So no answer of a checked program is an Over.
abbrev pub NamedDomainsConverge : Type 0
NamedDomainsConverge = (name : DomainName) → Converge (meaning_of name).operations (wait_of name) (most_of name)

-- What answers a line after these lines, where the domain has this name.
abbrev pub served_after : DomainName → Readings → LoopOptions → List Procedure → (before : List (List ℕ)) → Served
served_after name readings engine program before = machine_after (server (meaning_of name).operations) (opening readings engine program) before

-- At that moment, where the budget is enough for the program that is then present, the line is not replied by an over.
abbrev pub SettlesAt : DomainName → Served → (line : List ℕ) → Type 0
SettlesAt name s line =
    (loop : ℕ) (chain : List ℕ) → HasBudget name s.machine.engine s.machine.program →
    (line_turn s.readings (meaning_of name).operations line s.machine).reply ≡ r.Over loop chain → ⊥

abbrev pub IsSettledAfter : DomainName → Readings → LoopOptions → List Procedure → (before : List (List ℕ)) → (line : List ℕ) → Type 0
IsSettledAfter name readings engine program before line = SettlesAt name (served_after name readings engine program before) line
