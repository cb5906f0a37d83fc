-- No line is replied by an over where the budget is enough for the program present.
use Rattle.std.proofs.Common.{ℕ, List}
use Rattle.imp_syntax.specs.Plain.{Procedure}
use Rattle.imp_check.specs.Slots.{routines_of}
use Rattle.batch_meaning.specs.Batch.{LoopOptions}
use Rattle.serve_command.specs.declared.job.DomainName.{DomainName}
use Rattle.serve_answers.specs.Fine.{IsProgramOf, opening}
use Rattle.serve_answers.specs.Readings.{Readings}
use Rattle.serve_answers.proofs.FineTurns.{after_fine}
use Rattle.serve_answers.proofs.Overs.{overs_are_answers}
use Rattle.serve_answers.proofs.Sources.{sources_fine}
use Rattle.serve_output.specs.Domains.{meaning_of}
use Rattle.serve_output.specs.Settles.{IsSettledAfter, NamedDomainsConverge, served_after}

pub settled : NamedDomainsConverge → (name : DomainName) (readings : Readings) (engine : LoopOptions) (source : List ℕ) (program : List Procedure) (before : List (List ℕ)) (line : List ℕ) →
    IsProgramOf readings source program → IsSettledAfter name readings engine program before line
settled converge name readings engine source program before line is = λ loop chain enough over.
    let operations = (meaning_of name).operations in
    let s = served_after name readings engine program before in
    let fine = after_fine operations (opening readings engine program) before (sources_fine readings engine source program is) in
    let found = overs_are_answers operations s.readings s.machine line loop chain over in
    converge name s.machine.engine (routines_of s.machine.program) found.at found.string loop found.chain fine.present.fine.fit enough found.answers
