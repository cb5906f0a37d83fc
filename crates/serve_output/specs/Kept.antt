-- Certificates that are found to hold as they were written.
use Rattle.std.specs.Prelude.{◌≡◌, ◌≤◌, ℕ, List, length, Option, Some}
use Rattle.imp_syntax.specs.Plain.{Procedure}
use Rattle.imp_check.specs.Slots.{routines_of}
use Rattle.imp_chains.specs.declared.widening.Widening.{Widening}
use Rattle.batch_meaning.specs.Batch.{LoopOptions}
use Rattle.serve_command.specs.declared.job.Job.TheVariants as job
use Rattle.serve_command.specs.declared.job.Task.TheVariants.{Cert, Verify}
use Rattle.serve_command.specs.declared.job.SingleDomain.{SingleDomain}
use Rattle.cert_lines.specs.Certificate.{certificate}
use Rattle.cert_lines.specs.Verify.{verified_line, Yes}
use Rattle.cert_accepted.specs.Accepted.{IsWhole}
use Rattle.serve_answers.specs.Readings.{Readings}
use Rattle.serve_output.specs.Domains.{carried_of}
use Rattle.serve_output.specs.Output.{done, most_certificate, output, IsProgram}

-- the certificate of a program has lines, and no over in place of them
abbrev pub HasCertificate : SingleDomain → LoopOptions → List Procedure → Type 0
HasCertificate domain engine program = IsWhole (certificate (carried_of domain).meaning.operations (carried_of domain).port engine (routines_of program))

-- The file of the certificate has what `cert` writes of the program by a domain, and no more bytes than `verify` reads.
pub record IsWritten (readings : Readings) (domain : SingleDomain) (widening : Widening) (budget : ℕ) (folder : List ℕ → Option (List ℕ)) (file cert : List ℕ) : Type 0 where
  pub program : List Procedure
  pub read : IsProgram readings (folder file) program
  pub whole : HasCertificate domain (record { budget = budget; widening = widening }) program
  pub script : List ℕ
  pub kept : folder cert ≡ Some (output readings (Some (job.File file (Cert domain widening budget))) folder script).bytes
  pub short : length (output readings (Some (job.File file (Cert domain widening budget))) folder script).bytes ≤ most_certificate

-- What `cert` wrote of a program, `verify` finds to hold by the same domain.
abbrev pub WrittenAreAccepted : Type 0
WrittenAreAccepted =
    (readings : Readings) (domain : SingleDomain) (widening : Widening) (budget : ℕ) (folder : List ℕ → Option (List ℕ)) (file cert script : List ℕ) →
    IsWritten readings domain widening budget folder file cert →
    output readings (Some (job.File file (Verify domain cert))) folder script ≡ done (verified_line Yes)
