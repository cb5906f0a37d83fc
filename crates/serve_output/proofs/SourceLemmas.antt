-- From the reading of a source and the check of its program to its numbers.
use Rattle.std.proofs.Common.{◌≡◌, ℕ, List, None, Result, Ok, Err, IfOk}
use Rattle.imp_syntax.specs.Plain.{Procedure}
use Rattle.imp_check.specs.Programs.{check_fault}
use Rattle.batch_meaning.specs.Batch.{LoopOptions}
use Rattle.serve_answers.specs.Readings.{Readings}
use Rattle.serve_answers.specs.Fine.{SourcesAreFine}
use Rattle.serve_output.specs.Sources.{IsNumbered}

pub numbered : {T E : Type 0} (r : Result T E) (program_of : T → List Procedure) (readings : Readings) (engine : LoopOptions) (source : List ℕ) (program : List Procedure) → SourcesAreFine →
    ((readings : Readings) → readings.program.answer source ≡ Ok program) →
    IfOk r (λ t. program_of t ≡ program) → IfOk r (λ _. check_fault program ≡ None) → IfOk r (λ t. IsNumbered (program_of t))
numbered (Ok t) program_of readings engine source program fine read is faultless =
    rw is (fine readings engine source program (record { read = read readings; faultless = faultless })).present.below
numbered (Err e) program_of readings engine source program fine read is faultless = tt
