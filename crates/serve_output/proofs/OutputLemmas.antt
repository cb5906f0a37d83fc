-- From how the program ends to what its status says.
use Rattle.std.proofs.Common.{◌≡◌, ◌≢◌, ℕ, ◌<◌, ◌≤◌, ◌^◌, ◌++◌, ◌⊎◌, inl, inr, List, [], length, Bool, true, false, nat_le, Option, Some, None, Result, Ok, Err, if◌then◌else◌, append-nil, length-append, sym, ◌∙◌, ap, refl, arith}
use Rattle.std.proofs.lemmas.Bool.Decides.{nat_tests}
use Rattle.imp_syntax.specs.Plain.{Procedure}
use Rattle.imp_parse.specs.declared.error.ParseError.{ParseError}
use Rattle.imp_check.specs.declared.fault.LocatedFault.{LocatedFault}
use Rattle.imp_check.specs.Programs.{check_fault}
use Rattle.request_json.specs.declared.reply.Refusal.{Refusal}
use Rattle.serve_answers.specs.Readings.{Readings}
use Rattle.serve_answers.specs.Fine.{IsProgramOf}
use Rattle.serve_command.specs.declared.job.DomainName.{DomainName}
use Rattle.serve_command.specs.declared.job.Job.{Job}
use Rattle.serve_command.specs.declared.job.Job.TheVariants as job
use Rattle.daig_gen.specs.Source as generated
use Rattle.serve_command.specs.declared.job.Task.{Task}
use Rattle.serve_command.specs.declared.job.Task.TheVariants.{Serve, Batch, Faults, Cert, Verify}
use Rattle.serve_output.specs.declared.status.Status.{Status}
use Rattle.serve_output.specs.declared.status.Status.TheVariants.{Done, Words, Source, Script, Sink, Memory, Files, LongScript, LongFile}
use Rattle.serve_output.specs.Jobs.{AsksToServe}
use Rattle.serve_output.specs.Sources.{checked, source_of, unless_faulty}
use Rattle.serve_output.specs.Output.{Output, done, generated_output, of_file, of_source, output, program_output, task_output, verify_bytes, most_certificate, most_source, IsAccepted, IsProgram, LacksCertificate, LacksFile, LacksFor}
use Rattle.serve_output.specs.Told.{TellsFiles}
use Rattle.serve_output.specs.Ends.{code_of, status_of, Caused, EndsBy, Fits, IsStatus, Wrote, WroteAll}

-- the number of a status tells it
pub status_is : (s : Status) → status_of (code_of s) ≡ s
status_is Done = refl
status_is Words = refl
status_is Source = refl
status_is Script = refl
status_is Sink = refl
status_is Memory = refl
status_is Files = refl
status_is LongScript = refl
status_is LongFile = refl

pub same_status : (s t : Status) (n : ℕ) → n ≡ code_of s → n ≡ code_of t → s ≡ t
same_status s t n is also = sym (status_is s) ∙ ap status_of (sym is ∙ also) ∙ status_is t

pub named_by : (s : Status) (n : ℕ) → n ≡ code_of s → IsStatus n
named_by s n is = is ∙ ap code_of (sym (status_is s) ∙ ap status_of (sym is))

pub told_by : (s : Status) (n : ℕ) → n ≡ code_of s → status_of n ≡ s
told_by s n is = ap status_of is ∙ status_is s

-- from status 7 on nothing is written
done_quiet : (bytes : List ℕ) → 7 ≤ (done bytes).status → (done bytes).bytes ≡ []
done_quiet bytes late = absurd (omega (arith, late))

short_quiet : (file : List ℕ) (give : List ℕ → Output) (short : Bool) → (7 ≤ (give file).status → (give file).bytes ≡ []) →
    let given = if short then give file else record { status = 9; bytes = [] } in 7 ≤ given.status → given.bytes ≡ []
short_quiet file give true quiet late = quiet late
short_quiet file give false quiet late = refl

file_quiet : (most : ℕ) (file : Option (List ℕ)) (give : List ℕ → Output) → ((bytes : List ℕ) → 7 ≤ (give bytes).status → (give bytes).bytes ≡ []) →
    7 ≤ (of_file most file give).status → (of_file most file give).bytes ≡ []
file_quiet most None give quiet late = refl
file_quiet most (Some bytes) give quiet late = short_quiet bytes give (nat_le (length bytes) most) (quiet bytes) late

source_quiet : (source : Result (List Procedure) Refusal) (give : List Procedure → Output) → ((program : List Procedure) → 7 ≤ (give program).status → (give program).bytes ≡ []) →
    7 ≤ (of_source source give).status → (of_source source give).bytes ≡ []
source_quiet (Err why) give quiet late = absurd (omega (arith, late))
source_quiet (Ok program) give quiet late = quiet program late

program_quiet : (readings : Readings) (file : Option (List ℕ)) (give : List Procedure → Output) → ((program : List Procedure) → 7 ≤ (give program).status → (give program).bytes ≡ []) →
    7 ≤ (program_output readings file give).status → (program_output readings file give).bytes ≡ []
program_quiet readings file give quiet late =
    file_quiet most_source file (λ source. of_source (source_of readings source) give) (λ source. source_quiet (source_of readings source) give quiet) late

task_quiet : (readings : Readings) (task : Task) (files : List ℕ → Option (List ℕ)) (script : List ℕ) (program : List Procedure) →
    7 ≤ (task_output readings task files script program).status → (task_output readings task files script program).bytes ≡ []
task_quiet readings (Serve settings memo) files script program late = absurd (omega (arith, late))
task_quiet readings (Batch settings) files script program late = absurd (omega (arith, late))
task_quiet readings (Faults settings) files script program late = absurd (omega (arith, late))
task_quiet readings (Cert domain widening budget) files script program late = absurd (omega (arith, late))
task_quiet readings (Verify domain cert) files script program late =
    file_quiet most_certificate (files cert) (λ text. done (verify_bytes domain program text)) (λ text. done_quiet (verify_bytes domain program text)) late

generated_quiet : (readings : Readings) (seed size : ℕ) (domain : DomainName) → 7 ≤ (generated_output readings seed size domain).status → (generated_output readings seed size domain).bytes ≡ []
generated_quiet readings seed size domain late =
    source_quiet (source_of readings (generated.source_of seed size)) _ (λ program late. absurd (omega (arith, late))) late

pub quiet_output : (readings : Readings) (job : Option Job) (folder : List ℕ → Option (List ℕ)) (script : List ℕ) →
    7 ≤ (output readings job folder script).status → (output readings job folder script).bytes ≡ []
quiet_output readings None folder script late = absurd (omega (arith, late))
quiet_output readings (Some (job.File file task)) folder script late =
    program_quiet readings (folder file) (task_output readings task folder script) (task_quiet readings task folder script) late
quiet_output readings (Some (job.Gen seed size domain)) folder script late = generated_quiet readings seed size domain late

-- the bytes of a file that is not too long
short_bytes : (most : ℕ) (bytes : List ℕ) (give : List ℕ → Output) (test : Bool) → nat_le (length bytes) most ≡ test → length bytes ≤ most →
    (if test then give bytes else record { status = 9; bytes = [] }) ≡ give bytes
short_bytes most bytes give true is short = refl
short_bytes most bytes give false is short = absurd (grind (arith, nat_tests))

pub short_file : (most : ℕ) (file : Option (List ℕ)) (bytes : List ℕ) (give : List ℕ → Output) → file ≡ Some bytes → length bytes ≤ most → of_file most file give ≡ give bytes
short_file most file bytes give is short =
    ap (λ (found : Option (List ℕ)). of_file most found give) is ∙ short_bytes most bytes give (nat_le (length bytes) most) refl short

-- a file that is a program
pub of_program : (readings : Readings) (file : Option (List ℕ)) (program : List Procedure) (give : List Procedure → Output) → IsProgram readings file program → program_output readings file give ≡ give program
of_program readings (Some source) program give is =
    short_file most_source (Some source) source (λ bytes. of_source (source_of readings bytes) give) refl is.0 ∙ ap (λ (r : Result (List Procedure) Refusal). of_source r give) is.1
of_program readings None program give is = absurd is

-- a file that the folder lacks gives status 7
lacking_file : (readings : Readings) (file : Option (List ℕ)) (give : List Procedure → Output) → file ≡ None → (program_output readings file give).status ≡ 7
lacking_file readings file give none = rw none refl

lacking_certificate : (readings : Readings) (task : Task) (files : List ℕ → Option (List ℕ)) (script : List ℕ) (program : List Procedure) →
    LacksCertificate (Some files) task → (task_output readings task files script program).status ≡ 7
lacking_certificate readings (Verify domain cert) files script program lacks = rw lacks refl
lacking_certificate readings (Serve settings memo) files script program lacks = absurd lacks
lacking_certificate readings (Batch settings) files script program lacks = absurd lacks
lacking_certificate readings (Faults settings) files script program lacks = absurd lacks
lacking_certificate readings (Cert domain widening budget) files script program lacks = absurd lacks

lacking_either : (readings : Readings) (task : Task) (folder : List ℕ → Option (List ℕ)) (name script : List ℕ) → LacksFor (Some folder) name task →
    (program_output readings (folder name) (task_output readings task folder script)).status ≡ 7
lacking_either readings task folder name script (inl none) = lacking_file readings (folder name) (task_output readings task folder script) none
lacking_either readings task folder name script (inr (has, lacks)) =
    let found = has readings in
    ap (λ (o : Output). o.status) (of_program readings (folder name) found.0 (task_output readings task folder script) found.1) ∙ lacking_certificate readings task folder script found.0 lacks

pub lacking_output : (readings : Readings) (job : Option Job) (told : Option (List ℕ → Option (List ℕ))) (folder : List ℕ → Option (List ℕ)) (script : List ℕ) →
    TellsFiles job told folder → LacksFile told job → (output readings job folder script).status ≡ 7
lacking_output readings None told folder script is lacks = absurd lacks
lacking_output readings (Some (job.File file task)) told folder script is lacks =
    let either : LacksFor (Some folder) file task = rw is at lacks in lacking_either readings task folder file script either
lacking_output readings (Some (job.Gen seed size domain)) told folder script is lacks = absurd lacks

-- an output that succeeds is that of an accepted program
source_zero : (source : Result (List Procedure) Refusal) (give : List Procedure → Output) → (of_source source give).status ≡ 0 → (program : List Procedure) × (source ≡ Ok program)
source_zero (Ok program) give is = (program, refl)
source_zero (Err why) give is = absurd (omega (arith, is))

if_zero : (readings : Readings) (source : List ℕ) (give : List Procedure → Output) (test : Bool) → nat_le (length source) most_source ≡ test →
    (if test then of_source (source_of readings source) give else record { status = 9; bytes = [] }).status ≡ 0 → (program : List Procedure) × IsProgram readings (Some source) program
if_zero readings source give true short is =
    let found = source_zero (source_of readings source) give is in
    let few : length source ≤ most_source = grind (arith, nat_tests) in
    (found.0, (few, found.1))
if_zero readings source give false short is = absurd (omega (arith, is))

program_zero : (readings : Readings) (file : Option (List ℕ)) (give : List Procedure → Output) → (program_output readings file give).status ≡ 0 → (program : List Procedure) × IsProgram readings file program
program_zero readings None give is = absurd (omega (arith, is))
program_zero readings (Some source) give is = if_zero readings source give (nat_le (length source) most_source) refl is

pub zero_accepted : (readings : Readings) (job : Option Job) (folder : List ℕ → Option (List ℕ)) (script : List ℕ) → (output readings job folder script).status ≡ 0 → (program : List Procedure) × IsAccepted readings job folder program
zero_accepted readings None folder script is = absurd (omega (arith, is))
zero_accepted readings (Some (job.File file task)) folder script is = program_zero readings (folder file) (task_output readings task folder script) is
zero_accepted readings (Some (job.Gen seed size domain)) folder script is = source_zero (source_of readings (generated.source_of seed size)) _ is

-- numbers of ends
pub end_number : (wanted s : Status) (n : ℕ) (fails : Type 0) → n ≡ code_of s → EndsBy wanted fails s → (n ≡ code_of wanted) ⊎ (n ≡ 5) ⊎ (n ≡ 6)
end_number wanted s n fails is (inl ends) = inl (is ∙ ap code_of ends)
end_number wanted s n fails is (inr (inl sink)) = inr (inl (is ∙ ap code_of sink.0))
end_number wanted s n fails is (inr (inr memory)) = inr (inr (is ∙ ap code_of memory))

-- at the end of all without a fault
pub wrote_complete : (s : Status) (readings : Readings) (job : Option Job) (files : Option (List ℕ → Option (List ℕ))) (folder : List ℕ → Option (List ℕ)) (script taken : List ℕ) (told rest written : Option (List ℕ))
    (words quiet files_rose script_rose sink_rose : Type 0) →
    TellsFiles job files folder →
    (files_rose ⊎ script_rose ⊎ sink_rose → ⊥) →
    length script < 2 ^ 40 → code_of s ≢ 6 →
    (s ≡ LongScript → told ≡ Some script) →
    Caused words (AsksToServe job) quiet (files_rose ⊎ LacksFile files job) script_rose sink_rose told rest s →
    Fits s (output readings job folder script).status →
    Wrote s (output readings job folder script) script taken rest written →
    WroteAll (code_of s) (output readings job folder script) taken written
wrote_complete Done readings job files folder script taken told rest written w q f i o is none short out read caused fits wrote = wrote
wrote_complete Words readings job files folder script taken told rest written w q f i o is none short out read caused fits wrote = wrote
wrote_complete Source readings job files folder script taken told rest written w q f i o is none short out read caused fits wrote = wrote
wrote_complete Script readings job files folder script taken told rest written w q f i o is none short out read caused fits wrote = absurd (none (inr (inl caused.1)))
wrote_complete Sink readings job files folder script taken told rest written w q f i o is none short out read caused fits wrote = absurd (none (inr (inr caused)))
wrote_complete Memory readings job files folder script taken told rest written w q f i o is none short out read caused fits wrote = absurd (out refl)
wrote_complete Files readings job files folder script taken told rest written w q f i o is none short out read caused fits wrote =
    elim caused.1 [
      | inl rose ↦ absurd (none (inl rose))
      | inr lacks ↦
          let status : (output readings job folder script).status ≡ 7 = lacking_output readings job files folder script is lacks in
          let quiet : (output readings job folder script).bytes ≡ [] = quiet_output readings job folder script (omega (arith, status)) in
          record { same = status; all = wrote ∙ ap Some (sym (append-nil taken)) ∙ ap (λ xs. Some (taken ++ xs)) (sym quiet) }
    ]
wrote_complete LongScript readings job files folder script taken told rest written w q f i o is none short out read caused fits wrote =
    let all = caused.1 script (read refl) in
    absurd (omega (arith, short, all.many, ap length all.split, length-append all.read all.left))
wrote_complete LongFile readings job files folder script taken told rest written w q f i o is none short out read caused fits wrote =
    let quiet : (output readings job folder script).bytes ≡ [] = quiet_output readings job folder script (omega (arith, fits)) in
    record { same = fits; all = wrote ∙ ap Some (sym (append-nil taken)) ∙ ap (λ xs. Some (taken ++ xs)) (sym quiet) }

-- an accepted program is that of a source, and has no fault
pub unfaulted : (ps program : List Procedure) (fault : Option LocatedFault) → unless_faulty ps fault ≡ Ok program → (ps ≡ program) × (fault ≡ None)
unfaulted ps program None is = (cc, refl)
unfaulted ps program (Some found) is = cc

read_program : (answer : Result (List Procedure) ParseError) (program : List Procedure) → checked answer ≡ Ok program → (answer ≡ Ok program) × (check_fault program ≡ None)
read_program (Ok ps) program is =
    let both = unfaulted ps program (check_fault ps) is in
    (ap Ok both.0, rw (sym both.0) both.1)
read_program (Err error) program is = cc

pub source_read : (readings : Readings) (source : List ℕ) (program : List Procedure) → source_of readings source ≡ Ok program → IsProgramOf readings source program
source_read readings source program is =
    let both = read_program (readings.program.answer source) program is in
    record { read = both.0; faultless = both.1 }

pub file_read : (readings : Readings) (file : Option (List ℕ)) (program : List Procedure) → IsProgram readings file program → (source : List ℕ) × IsProgramOf readings source program
file_read readings (Some source) program is = (source, source_read readings source program is.1)
file_read readings None program is = absurd is

pub accepted_read : (readings : Readings) (job : Option Job) (folder : List ℕ → Option (List ℕ)) (program : List Procedure) → IsAccepted readings job folder program → (source : List ℕ) × IsProgramOf readings source program
accepted_read readings (Some (job.File file task)) folder program is = file_read readings (folder file) program is
accepted_read readings (Some (job.Gen seed size domain)) folder program is = (generated.source_of seed size, source_read readings (generated.source_of seed size) program is)
accepted_read readings None folder program is = absurd is
