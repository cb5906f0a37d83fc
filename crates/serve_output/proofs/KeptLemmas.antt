-- What `cert` wrote of a program, `verify` finds to hold.
use Rattle.std.proofs.Common.{◌≡◌, ◌∙◌, ◌≤◌, ◌<◌, ℕ, Bool, List, [], length, Option, Some, if◌then◌else◌, refl, ap, sym, subst, arith}
use Rattle.std.specs.Prelude.{Contains}
use Rattle.std.proofs.lemmas.Bool.{le-leb}
use Rattle.std.proofs.lemmas.List.Elements.{All-contains}
use Rattle.imp_syntax.specs.Plain.{Procedure, program_numbers}
use Rattle.imp_check.specs.Slots.{routines_of}
use Rattle.imp_check.proofs.FitsPrograms.{all_numbers}
use Rattle.batch_meaning.specs.Batch.{LoopOptions}
use Rattle.serve_command.specs.declared.job.SingleDomain.{SingleDomain}
use Rattle.serve_command.specs.declared.job.SingleDomain.TheVariants as single
use Rattle.serve_command.specs.declared.job.Task.TheVariants.{Cert, Verify}
use Rattle.dom_interval_meaning.specs.Domain.{intervals}
use Rattle.dom_interval_words.specs.Words.{interval_port}
use Rattle.dom_octagon_meaning.specs.Domain.{octagons}
use Rattle.dom_octagon_words.specs.Words.{octagon_port}
use Rattle.dom_listseg_meaning.specs.Domain.{segments}
use Rattle.dom_listseg_words.specs.Words.{segment_port}
use Rattle.cert_lines.specs.Verify.{verified_line, Yes}
use Rattle.cert_accepted.specs.Accepted.{AreAccepted, CheckedHaveLines, HasSmallNumbers}
use Rattle.serve_answers.specs.Fine.{IsProgramOf}
use Rattle.serve_answers.specs.Readings.{Readings}
use Rattle.serve_answers.proofs.Sources.{source_numbers, sources_fine}
use Rattle.serve_output.specs.Domains.{carried_of}
use Rattle.serve_output.specs.Kept.{HasCertificate, WrittenAreAccepted}
use Rattle.serve_output.specs.Output.{Output, cert_bytes, done, most_certificate, of_file, task_output, verify_bytes}
use Rattle.serve_output.proofs.OutputLemmas.{file_read, of_program}

-- the numbers of a source's program are small
small_numbers : (readings : Readings) (source : List ℕ) (program : List Procedure) → IsProgramOf readings source program → HasSmallNumbers (routines_of program)
small_numbers readings source program is n within =
    let low : n < 10001 = All-contains (λ (n : ℕ). n < 10001) (program_numbers program) n (source_numbers readings source program is)
    (subst (λ (ns : List ℕ). Contains ns n) (all_numbers [] program) within) in
    omega (arith, low)

-- a file that is there and not too long gives what its bytes give
short_file : (bytes : List ℕ) (give : List ℕ → Output) (file : Option (List ℕ)) → file ≡ Some bytes → length bytes ≤ most_certificate → of_file most_certificate file give ≡ give bytes
short_file bytes give file there short =
    subst (λ (f : Option (List ℕ)). of_file most_certificate f give ≡ give bytes) (sym there)
    (subst (λ (b : Bool). (if b then give bytes else record { status = 9; bytes = [] }) ≡ give bytes) (sym (le-leb (length bytes) most_certificate short)) refl)

module _ (lines : CheckedHaveLines) (accepted : (domain : SingleDomain) → AreAccepted (carried_of domain).meaning.operations (carried_of domain).port) where
  yes_of : (domain : SingleDomain) (engine : LoopOptions) (readings : Readings) (source : List ℕ) (program : List Procedure) → IsProgramOf readings source program →
      HasCertificate domain engine program → length (cert_bytes domain engine program) ≤ most_certificate → verify_bytes domain program (cert_bytes domain engine program) ≡ verified_line Yes
  unfolding cert_bytes verify_bytes
  yes_of domain engine readings source program is whole short =
      let fine = (sources_fine readings engine source program is).present.fine in
      ap verified_line (accepted domain engine (routines_of program) fine.fit (lines program is.faultless fine.fit (small_numbers readings source program is)) whole (omega (arith, short)))

  pub written_accepted : WrittenAreAccepted
  written_accepted readings domain widening budget folder file cert script written =
      let program = written.program in
      let engine : LoopOptions = record { budget = budget; widening = widening } in
      let read = file_read readings (folder file) program written.read in
      let wrote = ap (λ (o : Output). o.bytes) (of_program readings (folder file) program (task_output readings (Cert domain widening budget) folder written.script) written.read) in
      let kept = written.kept ∙ ap Some wrote in
      let short = subst (λ (bytes : List ℕ). length bytes ≤ most_certificate) wrote written.short in
      of_program readings (folder file) program (task_output readings (Verify domain cert) folder script) written.read
      ∙ short_file (cert_bytes domain engine program) (λ text. done (verify_bytes domain program text)) (folder cert) kept short
      ∙ ap done (yes_of domain engine readings read.0 program read.1 written.whole short)

-- by each domain
pub accepted_by : AreAccepted intervals interval_port → AreAccepted octagons octagon_port → AreAccepted segments segment_port →
    (domain : SingleDomain) → AreAccepted (carried_of domain).meaning.operations (carried_of domain).port
accepted_by by_ranges by_matrices by_graphs single.Interval = by_ranges
accepted_by by_ranges by_matrices by_graphs single.Octagon = by_matrices
accepted_by by_ranges by_matrices by_graphs single.ListSeg = by_graphs
