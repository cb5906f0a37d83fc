-- What was answered of a script is answered by the session that the words ask for.
use Rattle.std.proofs.Common.{◌≡◌, ◌∙◌, ◌++◌, ℕ, List, [], Option, Some, None, append_assoc, sym, ap}
use Rattle.imp_syntax.specs.Plain.{Procedure}
use Rattle.serve_script.specs.Lines.{all_lines, last_line, last_part, whole_lines}
use Rattle.serve_script.specs.Replies.{AnsweredRead, replies}
use Rattle.serve_script.proofs.LineLemmas.{whole_lines-append}
use Rattle.serve_command.specs.declared.job.DomainName.{DomainName}
use Rattle.serve_command.specs.declared.job.Job.{Job}
use Rattle.serve_command.specs.declared.job.Job.TheVariants as job
use Rattle.serve_command.specs.declared.job.Task.TheVariants.{Serve, Batch, Faults, Cert, Verify}
use Rattle.serve_answers.specs.Fine.{opening}
use Rattle.serve_answers.specs.Lines.{Served, server}
use Rattle.serve_answers.specs.Readings.{Readings}
use Rattle.reply_lines.proofs.Replied.{replies_are_told}
use Rattle.serve_output.specs.Domains.{meaning_of}
use Rattle.serve_output.specs.Ends.{WroteRead}
use Rattle.serve_output.specs.Jobs.{AsksToServe, domain_in, engine_in, engine_of}
use Rattle.serve_output.specs.Output.{IsAccepted, Output, done, output, served_bytes}
use Rattle.serve_output.proofs.OutputLemmas.{of_program}

-- the lines whose LF was read are the first of all lines
first_lines : (script read left : List ℕ) → script ≡ read ++ left → all_lines script ≡ whole_lines [] read ++ (whole_lines (last_part [] read) left ++ last_line (last_part [] script))
first_lines script read left split =
    ap (λ (lines : List (List ℕ)). lines ++ last_line (last_part [] script)) (ap (whole_lines []) split ∙ whole_lines-append [] read left)
    ∙ append_assoc (whole_lines [] read) (whole_lines (last_part [] read) left) (last_line (last_part [] script))

-- the output tells who answers: another that would write it too answers these lines alike
answered_alike : (name other : DomainName) (s t : Served) (script taken : List ℕ) (rest written : Option (List ℕ)) → served_bytes name s script ≡ served_bytes other t script →
    AnsweredRead (server (meaning_of name).operations) s script taken rest written → AnsweredRead (server (meaning_of other).operations) t script taken rest written
answered_alike name other s t script taken rest written same answered =
    let lines = whole_lines [] answered.read in
    let more = whole_lines (last_part [] answered.read) answered.left ++ last_line (last_part [] script) in
    let all = first_lines script answered.read answered.left answered.split in
    let told = replies_are_told (meaning_of name).operations (meaning_of other).operations s t lines more (
    sym (ap (replies (server (meaning_of name).operations) s) all) ∙ same ∙ ap (replies (server (meaning_of other).operations) t) all) in
    record {
      read = answered.read;
      left = answered.left;
      split = answered.split;
      stands = answered.stands;
      written = answered.written ∙ ap (λ (bytes : List ℕ). Some (taken ++ bytes)) told;
    }

pub answered_by_words : (readings : Readings) (asked : Option Job) (folder : List ℕ → Option (List ℕ)) (program : List Procedure) (script taken : List ℕ) (rest written : Option (List ℕ)) →
    IsAccepted readings asked folder program → AsksToServe asked → WroteRead (output readings asked folder script) script taken rest written →
    AnsweredRead (server (meaning_of (domain_in asked)).operations) (opening readings (engine_in asked) program) script taken rest written
answered_by_words readings None folder program script taken rest written is serves wrote = absurd serves
answered_by_words readings (Some (job.File file (Serve settings memo))) folder program script taken rest written is serves wrote =
    let first = opening readings (engine_of settings) program in
    let given = of_program readings (folder file) program (λ other. done (served_bytes settings.domain (opening readings (engine_of settings) other) script)) is in
    answered_alike wrote.domain settings.domain wrote.first first script taken rest written (sym wrote.is ∙ ap (λ (o : Output). o.bytes) given) wrote.answered
answered_by_words readings (Some (job.File file (Batch settings))) folder program script taken rest written is serves wrote = absurd serves
answered_by_words readings (Some (job.File file (Faults settings))) folder program script taken rest written is serves wrote = absurd serves
answered_by_words readings (Some (job.File file (Cert domain widening budget))) folder program script taken rest written is serves wrote = absurd serves
answered_by_words readings (Some (job.File file (Verify domain cert))) folder program script taken rest written is serves wrote = absurd serves
answered_by_words readings (Some (job.Gen seed size domain)) folder program script taken rest written is serves wrote = absurd serves
