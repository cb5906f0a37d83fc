-- What a tally of replies comes to while a server answers the lines of a script.
use Rattle.std.specs.Prelude.{◌≡◌, ℕ, suc, List, [], ◌∷◌, Result, Vec}
use Rattle.imp_syntax.specs.Plain.{Procedure}
use Rattle.domain_laws.specs.Operations.{Operations}
use Rattle.gen_summary.specs.declared.tally.ReplyTally.{ReplyTally}
use Rattle.serve_command.specs.declared.job.DomainName.{DomainName}
use Rattle.serve_command.specs.declared.job.AnalysisOptions.{AnalysisOptions}
use Rattle.serve_answers.specs.Fine.{opening}
use Rattle.serve_answers.specs.Lines.{Served, server}
use Rattle.serve_answers.specs.Readings.{Readings}
use Rattle.serve_output.specs.Domains.{meaning_of}
use Rattle.serve_output.specs.Given.{GivesBytes}
use Rattle.serve_output.specs.Jobs.{engine_of}
use Rattle.serve_output.specs.Output.{gen_bytes, tally_output}

-- the summary of the generated script over a program
abbrev pub summary_bytes : Readings → AnalysisOptions → List Procedure → (seed size : ℕ) → List ℕ
summary_bytes readings settings program seed size = gen_bytes settings.domain (opening readings (engine_of settings) program) seed size

-- This is given of the program, if any bytes are.
abbrev pub GivesSummary : {Z E : Type 0} → AnalysisOptions → List Procedure → (seed size : ℕ) → Result (Vec ℕ Z) E → Type 0
GivesSummary settings program seed size given = (readings : Readings) → GivesBytes (summary_bytes readings settings program seed size) given

-- what serves after lines, however long they are
abbrev pub after_lines : {S : Type 0} → Operations S → List (List ℕ) → Served → Served
after_lines dom [] s = s
after_lines dom (line ∷ lines) s = after_lines dom lines ((server dom).next s line)

-- One line is used up of those that it can answer.
abbrev pub UsesOne : {A : Type 0} → (lasts : A → ℕ → Type 0) → (old new : A) → Type 0
UsesOne lasts old new = (n : ℕ) → lasts old (suc n) → lasts new n

-- From each machine that it stood for it goes on to the machine after the lines.
abbrev pub ServesOn : {A : Type 0} → DomainName → (stands : A → Served → Type 0) → (lines : List (List ℕ)) → (old new : A) → Type 0
ServesOn name stands lines old new =
    (s : Served) → stands old s → stands new (after_lines (meaning_of name).operations lines s)

-- The replies to the lines, by each machine that it stood for, are added to the tally.
abbrev pub Tallies : DomainName → (stands : Served → Type 0) → (lines : List (List ℕ)) → (old new : ReplyTally) → Type 0
Tallies name stands lines old new =
    (s : Served) → stands s → new ≡ tally_output (meaning_of name).operations lines s old
