-- What the program writes, and the status that it ends with.
use Rattle.std.specs.Prelude.{◌≡◌, ◌≤◌, ℕ, nat_le, List, [], ◌∷◌, ◌++◌, ◌⊎◌, length, Option, Some, None, Result, Ok, Err, codes, if◌then◌else◌}
use Rattle.imp_syntax.specs.Plain.{Procedure}
use Rattle.imp_check.specs.Slots.{routines_of}
use Rattle.batch_meaning.specs.Batch.{LoopOptions}
use Rattle.batch_meaning.specs.Report.{report}
use Rattle.fault_verdicts.specs.Report.{faults}
use Rattle.io_edge.specs.Outside.{Lacks, Rose}
use Rattle.serve_script.specs.Lines.{all_lines, whole_lines}
use Rattle.serve_script.specs.Replies.{replies}
use Rattle.request_json.specs.declared.reply.Reply.TheVariants as r
use Rattle.request_json.specs.declared.reply.Refusal.{Refusal}
use Rattle.request_json.specs.Replies.{reply_text}
use Rattle.serve_command.specs.declared.job.AnalysisOptions.{AnalysisOptions}
use Rattle.serve_command.specs.declared.job.DomainName.{DomainName}
use Rattle.serve_command.specs.declared.job.Job.{Job}
use Rattle.serve_command.specs.declared.job.Job.TheVariants as job
use Rattle.serve_command.specs.declared.job.SingleDomain.{SingleDomain}
use Rattle.serve_command.specs.declared.job.Task.{Task}
use Rattle.serve_command.specs.declared.job.Task.TheVariants.{Serve, Batch, Faults, Cert, Verify}
use Rattle.cert_lines.specs.Certificate.{certificate, certificate_text}
use Rattle.cert_lines.specs.Verify.{verify, verified_line}
use Rattle.serve_replies.specs.Texts.{listing}
use Rattle.domain_laws.specs.Operations.{Operations}
use Rattle.daig_gen.specs.Script.{script_of}
use Rattle.daig_gen.specs.Source as generated
use Rattle.gen_summary.specs.declared.tally.ReplyTally.{ReplyTally}
use Rattle.gen_summary.specs.Summary.{tally_with, nothing, summary_text}
use Rattle.serve_answers.specs.Readings.{Readings}
use Rattle.serve_answers.specs.Lines.{Served, line_turn, server}
use Rattle.serve_answers.specs.Fine.{opening}
use Rattle.serve_output.specs.Sources.{source_of}
use Rattle.serve_output.specs.Domains.{carried_of, meaning_of}
use Rattle.serve_output.specs.Jobs.{by_default, engine_of}

-- the line that is written where the words are not taken
unfoldable pub usage : List ℕ
usage = codes "usage: daig serve|batch|gen [OPTIONS] [FILE]" ++ 10 ∷ []

-- the most bytes of a source
abbrev pub most_source : ℕ
most_source = 1048576

-- the most bytes of a certificate
abbrev pub most_certificate : ℕ
most_certificate = 67108864

-- A status, and the bytes that are written.
pub record Output : Type 0 where
  pub status : ℕ
  pub bytes : List ℕ

-- the replies to the lines of a script
abbrev pub served_bytes : DomainName → Served → List ℕ → List ℕ
served_bytes domain first script = replies (server (meaning_of domain).operations) first (all_lines script)

-- the line of the report
abbrev pub report_bytes : DomainName → LoopOptions → List Procedure → List ℕ
report_bytes domain engine program = reply_text (r.Report (report (meaning_of domain).operations engine (routines_of program)))

-- the listing, then the line of the report
unfoldable pub batch_bytes : DomainName → LoopOptions → List Procedure → List ℕ
batch_bytes domain engine program = listing program ++ report_bytes domain engine program

-- .. by these settings
abbrev pub batch_of : AnalysisOptions → List Procedure → List ℕ
batch_of settings program = batch_bytes settings.domain (engine_of settings) program

-- the line of the report of faults
abbrev pub fault_bytes : DomainName → LoopOptions → List Procedure → List ℕ
fault_bytes domain engine program = reply_text (r.Faults (faults (meaning_of domain).operations engine (routines_of program)))

-- .. by these settings
abbrev pub faults_of : AnalysisOptions → List Procedure → List ℕ
faults_of settings program = fault_bytes settings.domain (engine_of settings) program

-- what the replies to lines come to, each added to the tally
abbrev pub tally_output : {S : Type 0} → Operations S → List (List ℕ) → Served → ReplyTally → ReplyTally
tally_output dom [] s t = t
tally_output dom (line ∷ lines) s t = tally_output dom lines ((server dom).next s line) (tally_with (line_turn s.readings dom line s.machine).reply t)

-- the summary of the generated script
unfoldable pub gen_bytes : DomainName → Served → (seed size : ℕ) → List ℕ
gen_bytes domain first seed size = summary_text (tally_output (meaning_of domain).operations (whole_lines [] (script_of seed size)) first nothing)

-- the lines of the certificate of a program
unfoldable pub cert_bytes : SingleDomain → LoopOptions → List Procedure → List ℕ
cert_bytes domain engine program = certificate_text (certificate (carried_of domain).meaning.operations (carried_of domain).port engine (routines_of program))

-- the line that says whether a certificate of a program holds
unfoldable pub verify_bytes : SingleDomain → List Procedure → (cert : List ℕ) → List ℕ
verify_bytes domain program cert = verified_line (verify (carried_of domain).meaning.operations (carried_of domain).port (routines_of program) cert)

abbrev pub done : List ℕ → Output
done bytes = record { status = 0; bytes = bytes }

-- a source that is refused
abbrev pub refused : Refusal → Output
refused why = record { status = 3; bytes = reply_text (r.Refused why) }

-- what a source that is refused gives, or its program
abbrev pub of_source : Result (List Procedure) Refusal → (List Procedure → Output) → Output
of_source (Err why) give = refused why
of_source (Ok program) give = give program

-- what a file that is absent or too long gives, or its bytes
abbrev pub of_file : (most : ℕ) → Option (List ℕ) → (List ℕ → Output) → Output
of_file most None give = record { status = 7; bytes = [] }
of_file most (Some bytes) give = if nat_le (length bytes) most then give bytes else record { status = 9; bytes = [] }

-- what the program gives that a file is
abbrev pub program_output : Readings → Option (List ℕ) → (List Procedure → Output) → Output
program_output readings file give = of_file most_source file (λ source. of_source (source_of readings source) give)

-- What a task gives of a program. serve: the replies to the lines of the script; how many results are remembered gives
-- nothing. batch: the listing and the report. faults: the report of faults. cert: the lines of the certificate. verify: whether those of a file hold.
abbrev pub task_output : Readings → Task → (files : List ℕ → Option (List ℕ)) → (script : List ℕ) → List Procedure → Output
task_output readings (Serve settings memo) files script program = done (served_bytes settings.domain (opening readings (engine_of settings) program) script)
task_output readings (Batch settings) files script program = done (batch_of settings program)
task_output readings (Faults settings) files script program = done (faults_of settings program)
task_output readings (Cert domain widening budget) files script program = done (cert_bytes domain (record { budget = budget; widening = widening }) program)
task_output readings (Verify domain cert) files script program = of_file most_certificate (files cert) (λ text. done (verify_bytes domain program text))

-- the summary of the generated script over the generated program, whose loops are interpreted by default
abbrev pub generated_output : Readings → (seed size : ℕ) → DomainName → Output
generated_output readings seed size domain =
    of_source (source_of readings (generated.source_of seed size)) (λ program. done (gen_bytes domain (opening readings (engine_of (by_default domain)) program) seed size))

-- What the job that the words name, the files and the script give.
abbrev pub output : Readings → Option Job → (files : List ℕ → Option (List ℕ)) → (script : List ℕ) → Output
output readings None files script = record { status = 2; bytes = usage }
output readings (Some (job.File file task)) files script = program_output readings (files file) (task_output readings task files script)
output readings (Some (job.Gen seed size domain)) files script = generated_output readings seed size domain

-- the file is there, and the program without faults that it is
abbrev pub IsProgram : Readings → Option (List ℕ) → List Procedure → Type 0
IsProgram readings None program = ⊥
IsProgram readings (Some source) program = (length source ≤ most_source) × (source_of readings source ≡ Ok program)

-- the words name a job, and its source is this program
abbrev pub IsAccepted : Readings → Option Job → (List ℕ → Option (List ℕ)) → List Procedure → Type 0
IsAccepted readings None files program = ⊥
IsAccepted readings (Some (job.File file task)) files program = IsProgram readings (files file) program
IsAccepted readings (Some (job.Gen seed size domain)) files program = source_of readings (generated.source_of seed size) ≡ Ok program

-- the files are told, and this one is a program
abbrev pub HasProgram : Option (List ℕ → Option (List ℕ)) → (name : List ℕ) → Type 0
HasProgram None name = ⊥
HasProgram (Some files) name = (readings : Readings) → (program : List Procedure) × IsProgram readings (files name) program

-- the files are told, and the certificate that is to be checked is not among them
abbrev pub LacksCertificate : Option (List ℕ → Option (List ℕ)) → Task → Type 0
LacksCertificate files (Serve settings memo) = ⊥
LacksCertificate files (Batch settings) = ⊥
LacksCertificate files (Faults settings) = ⊥
LacksCertificate files (Cert domain widening budget) = ⊥
LacksCertificate files (Verify domain cert) = Lacks files cert

-- the files are told, and that of the program is not among them; or it is a program, and that of its certificate is not
abbrev pub LacksFor : Option (List ℕ → Option (List ℕ)) → (name : List ℕ) → Task → Type 0
LacksFor files name task = Lacks files name ⊎ (HasProgram files name × LacksCertificate files task)

-- the files are told, and one that the job needs is not among them
abbrev pub LacksFile : Option (List ℕ → Option (List ℕ)) → Option Job → Type 0
LacksFile files None = ⊥
LacksFile files (Some (job.File file task)) = LacksFor files file task
LacksFile files (Some (job.Gen seed size domain)) = ⊥

-- A call of the files failed, or one that the job needs is not there.
abbrev pub FailsOnFiles : {S : Type 0} → (faults : S → ℕ) → (told : S → Option (List ℕ → Option (List ℕ))) → (before after : S) → Option Job → Type 0
FailsOnFiles faults told before after asked = Rose (faults before) (faults after) ⊎ LacksFile (told before) asked
