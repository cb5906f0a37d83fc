-- Sound answers and reports: what is claimed of the lines of an accepted program.
use Rattle.std.specs.Prelude.{ℕ, List}
use Rattle.imp_syntax.specs.Plain.{Procedure}
use Rattle.imp_check.specs.Slots.{routines_of}
use Rattle.batch_meaning.specs.Batch.{LoopOptions}
use Rattle.batch_meaning.specs.Report.{report}
use Rattle.serve_script.specs.Replies.{machine_after}
use Rattle.serve_answers.specs.Readings.{Readings}
use Rattle.serve_answers.specs.Lines.{server}
use Rattle.serve_answers.specs.Fine.{opening}
use Rattle.serve_answers.specs.Sound.{IsReportSound, IsSoundAt}
use Rattle.serve_command.specs.declared.job.SingleDomain.{SingleDomain}
use Rattle.cert_check.specs.Verified.{CoversRuns}
use Rattle.serve_output.specs.Domains.{carried_of, Meaning}

-- At the moment after these lines the line is answered soundly: a state, to a question or to a step of a ticket, describes the
-- runs of the program that is then present, a report, of checks or of faults, is sound, and the statements that an answer
-- depends on are all.
abbrev pub IsSoundAfter : Meaning → Readings → LoopOptions → List Procedure → (before : List (List ℕ)) → (line : List ℕ) → Type 0
IsSoundAfter domain readings engine program before line =
    IsSoundAt domain.operations domain.covers (machine_after (server domain.operations) (opening readings engine program) before) line

-- The report of the program is sound.
abbrev pub IsBatchSound : Meaning → LoopOptions → List Procedure → Type 0
IsBatchSound domain engine program = IsReportSound program (report domain.operations engine (routines_of program))

-- What a yes says of a certificate of the program: each configuration of a run that stands at the test of a loop is described
-- by the state of a line of that loop under the configuration's call sites.
abbrev pub AreRunsCovered : SingleDomain → List Procedure → (cert : List ℕ) → Type 0
AreRunsCovered domain program cert = CoversRuns (carried_of domain).meaning.covers (carried_of domain).port (routines_of program) cert
