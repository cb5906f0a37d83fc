-- The domains that the words name.
use Rattle.std.specs.Prelude.{◌≡◌, ℕ, List}
use Rattle.imp_slots.specs.Plain.{Routine}
use Rattle.concrete_sem.specs.Values.{Variables, Heap}
use Rattle.domain_laws.specs.Operations.{Operations}
use Rattle.batch_meaning.specs.Batch.{LoopOptions}
use Rattle.batch_meaning.specs.Report.{report}
use Rattle.fault_verdicts.specs.Report.{faults}
use Rattle.dom_interval_meaning.specs.Covers.{covers as covered_by_intervals}
use Rattle.dom_interval_meaning.specs.Domain.{intervals}
use Rattle.dom_interval_words.specs.Words.{interval_port}
use Rattle.dom_octagon_meaning.specs.Covers.{covers as covered_by_octagons}
use Rattle.dom_octagon_meaning.specs.Domain.{octagons}
use Rattle.dom_octagon_words.specs.Words.{octagon_port}
use Rattle.dom_listseg_meaning.specs.Covers.{covers as covered_by_segments}
use Rattle.dom_listseg_meaning.specs.Domain.{segments}
use Rattle.dom_listseg_words.specs.Words.{segment_port}
use Rattle.dom_shapes_meaning.specs.Domain.{shapes}
use Rattle.cert_meaning.specs.Portable.{Portable}
use Rattle.cert_lines.specs.Theorem.{IsYesSound}
use Rattle.dom_product_meaning.specs.Product.{product, covered_by_both}
use Rattle.daig_machine.specs.Machine.{Machine}
use Rattle.serve_answers.specs.Readings.{Readings}
use Rattle.serve_answers.specs.Lines.{line_turn}
use Rattle.serve_command.specs.declared.job.DomainName.{DomainName}
use Rattle.serve_command.specs.declared.job.DomainName.TheVariants.{Interval, Octagon, ListSeg, IntervalListSeg, OctagonListSeg, Shapes, IntervalShapes, OctagonShapes}
use Rattle.serve_command.specs.declared.job.SingleDomain.{SingleDomain}
use Rattle.serve_command.specs.declared.job.SingleDomain.TheVariants as single

-- What a domain means: its states, the operations on them, and which configurations a state describes.
pub record Meaning : Type 1 where
  pub State : Type 0
  pub operations : Operations State
  pub covers : State → Heap → List Variables → Type 0

abbrev pub meaning : {S : Type 0} → Operations S → (S → Heap → List Variables → Type 0) → Meaning
meaning {S} operations covers = record { State = S; operations = operations; covers = covers }

abbrev pub by_intervals : Meaning
by_intervals = meaning intervals covered_by_intervals

abbrev pub by_octagons : Meaning
by_octagons = meaning octagons covered_by_octagons

abbrev pub by_segments : Meaning
by_segments = meaning segments covered_by_segments

-- a state describes what it describes as one of list segments
abbrev pub by_shapes : Meaning
by_shapes = meaning shapes covered_by_segments

-- two of them as one
abbrev pub both : Meaning → Meaning → Meaning
both a b = meaning (product a.operations b.operations) (covered_by_both a.covers b.covers)

abbrev pub meaning_of : DomainName → Meaning
meaning_of Interval = by_intervals
meaning_of Octagon = by_octagons
meaning_of ListSeg = by_segments
meaning_of IntervalListSeg = both by_intervals by_segments
meaning_of OctagonListSeg = both by_octagons by_segments
meaning_of Shapes = by_shapes
meaning_of IntervalShapes = both by_intervals by_shapes
meaning_of OctagonShapes = both by_octagons by_shapes

-- What a domain means whose states can be written, read back and compared.
pub record Carried : Type 1 where
  pub meaning : Meaning
  pub port : Portable meaning.State

abbrev pub carried_of : SingleDomain → Carried
carried_of single.Interval = record { meaning = by_intervals; port = interval_port }
carried_of single.Octagon = record { meaning = by_octagons; port = octagon_port }
carried_of single.ListSeg = record { meaning = by_segments; port = segment_port }

-- With these operations each line is answered, and each report made, of checks and of faults, as by the domain of this name.
pub record AnswersAs {S : Type 0} (name : DomainName) (dom : Operations S) : Type 0 where
  pub turns : (readings : Readings) (line : List ℕ) (m : Machine) → line_turn readings dom line m ≡ line_turn readings (meaning_of name).operations line m
  pub reports : (engine : LoopOptions) (program : List Routine) → report dom engine program ≡ report (meaning_of name).operations engine program
  pub faults : (engine : LoopOptions) (program : List Routine) → faults dom engine program ≡ faults (meaning_of name).operations engine program

-- What a yes says of a certificate holds by the domain of this name.
abbrev pub IsYesSoundBy : SingleDomain → Type 0
IsYesSoundBy name = IsYesSound (carried_of name).meaning.operations (carried_of name).meaning.covers (carried_of name).port
