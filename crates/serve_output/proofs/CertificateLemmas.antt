-- From the line that is written where a certificate is checked to what a yes says.
use Rattle.std.proofs.Common.{◌≡◌, ◌∙◌, ℕ, nat_le, ◌++◌, List, [], length, Bool, true, false, Option, Some, None, if◌then◌else◌, ap, sym, refl, arith}
use Rattle.std.proofs.lemmas.List.{append_cancel_left}
use Rattle.imp_syntax.specs.Plain.{Procedure}
use Rattle.imp_slots.specs.Fits.{IsChecked}
use Rattle.imp_check.specs.Slots.{routines_of}
use Rattle.serve_command.specs.declared.job.SingleDomain.{SingleDomain}
use Rattle.serve_command.specs.declared.job.SingleDomain.TheVariants.{Interval, Octagon, ListSeg}
use Rattle.cert_lines.specs.Theorem.{IsYesSound}
use Rattle.cert_lines.specs.Verify.{verify, verified_line, Yes}
use Rattle.cert_check.proofs.LineLemmas.{yes_alone}
use Rattle.serve_answers.specs.Readings.{Readings}
use Rattle.serve_command.specs.declared.job.Task.TheVariants.{Verify}
use Rattle.serve_output.specs.Domains.{carried_of}
use Rattle.serve_output.specs.Ends.{WroteAll}
use Rattle.serve_output.specs.Output.{Output, done, of_file, program_output, task_output, verify_bytes, most_certificate, IsProgram}
use Rattle.serve_output.specs.Sound.{AreRunsCovered}
use Rattle.serve_output.proofs.OutputLemmas.{of_program}
use Rattle.std.proofs.lemmas.Option.{same_Some}

-- a file that is there, where what it gives succeeds
if_gives : (text : List ℕ) (give : List ℕ → Output) (test : Bool) → (if test then give text else record { status = 9; bytes = [] }).status ≡ 0 →
    (if test then give text else record { status = 9; bytes = [] }) ≡ give text
if_gives text give true is = refl
if_gives text give false is = absurd (omega (arith, is))

file_gives : (most : ℕ) (file : Option (List ℕ)) (text : List ℕ) (give : List ℕ → Output) → file ≡ Some text → (of_file most file give).status ≡ 0 → of_file most file give ≡ give text
file_gives most (Some bytes) text give there is =
    let same : bytes ≡ text = same_Some bytes text there in
    if_gives bytes give (nat_le (length bytes) most) is ∙ ap give same
file_gives most None text give there is = absurd (omega (arith, is))

-- the line that is written is the one that checking comes to
checked_line : (readings : Readings) (domain : SingleDomain) (folder : List ℕ → Option (List ℕ)) (file cert script text : List ℕ) (program : List Procedure) →
    IsProgram readings (folder file) program → folder cert ≡ Some text → (program_output readings (folder file) (task_output readings (Verify domain cert) folder script)).status ≡ 0 →
    (program_output readings (folder file) (task_output readings (Verify domain cert) folder script)).bytes ≡ verify_bytes domain program text
checked_line readings domain folder file cert script text program accepted there zero =
    let given = of_program readings (folder file) program (task_output readings (Verify domain cert) folder script) accepted in
    let gives = file_gives most_certificate (folder cert) text (λ t. done (verify_bytes domain program t)) there (sym (ap (λ (o : Output). o.status) given) ∙ zero) in
    ap (λ (o : Output). o.bytes) (given ∙ gives)

yes_found : (domain : SingleDomain) (program : List Procedure) (text : List ℕ) → verify_bytes domain program text ≡ verified_line Yes →
    verify (carried_of domain).meaning.operations (carried_of domain).port (routines_of program) text ≡ Yes
unfolding verify_bytes
yes_found domain program text is = yes_alone (verify (carried_of domain).meaning.operations (carried_of domain).port (routines_of program) text) is

pub yes_covers : (readings : Readings) (domain : SingleDomain) (folder : List ℕ → Option (List ℕ)) (file cert script text taken : List ℕ) (program : List Procedure) (written : Option (List ℕ)) →
    IsYesSound (carried_of domain).meaning.operations (carried_of domain).meaning.covers (carried_of domain).port → IsChecked (routines_of program) →
    IsProgram readings (folder file) program → folder cert ≡ Some text → WroteAll 0 (program_output readings (folder file) (task_output readings (Verify domain cert) folder script)) taken written →
    written ≡ Some (taken ++ verified_line Yes) → AreRunsCovered domain program text
yes_covers readings domain folder file cert script text taken program written sound checked accepted there wrote is =
    let line = checked_line readings domain folder file cert script text program accepted there wrote.same in
    let same : taken ++ verify_bytes domain program text ≡ taken ++ verified_line Yes = same_Some _ _ (ap (λ xs. Some (taken ++ xs)) (sym line) ∙ sym wrote.all ∙ is) in
    let found = yes_found domain program text (append_cancel_left taken (verify_bytes domain program text) (verified_line Yes) same) in
    λ n c reach. sound (routines_of program) text n c checked found reach

-- what a yes says by each domain that the words name
abbrev IsSoundBy : SingleDomain → Type 0
IsSoundBy name = IsYesSound (carried_of name).meaning.operations (carried_of name).meaning.covers (carried_of name).port

pub by_each : IsSoundBy Interval → IsSoundBy Octagon → IsSoundBy ListSeg → (name : SingleDomain) → IsSoundBy name
by_each intervals octagons segments Interval = intervals
by_each intervals octagons segments Octagon = octagons
by_each intervals octagons segments ListSeg = segments
