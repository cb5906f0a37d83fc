-- What a report fills, and what its verdicts are made of.
use Rattle.std.proofs.Common.{◌≡◌, ℕ, Bool, List, [], map, ap, ◌∙◌}
use Rattle.imp_syntax.specs.declared.edit.Location.TheVariants.{Before}
use Rattle.imp_slots.specs.Plain.{Routine}
use Rattle.imp_slots.specs.Fits.{IsChecked}
use Rattle.domain_laws.specs.Operations.{Operations}
use Rattle.imp_words.specs.declared.findings.Finding.{Finding}
use Rattle.batch_meaning.specs.Batch.{LoopOptions}
use Rattle.batch_meaning.specs.Answers.{Answer, In, procedure_of, answer_in, summed}
use Rattle.domain_laws.specs.Checks.{kind_of}
use Rattle.batch_meaning.specs.Report.{CheckedStatement, verdict_on, finding}
use Rattle.std.specs.Prelude.{Some}
use Rattle.cell_names.specs.Paths.{CellName}
use Rattle.cell_rows.specs.Names.{IsSame}
use Rattle.cell_rows.specs.Targets.{Target, targets, value_of_target}
use Rattle.daig_demands.specs.Claims.{found_by}
use Rattle.daig_demands.proofs.Demanded.{answer_at}

module _ {S : Type 0} (dom : Operations S) (engine : LoopOptions) (program : List Routine) (same : CellName → CellName → Bool) (is : IsSame same) (checked : IsChecked program) where
  abbrev found_as : CheckedStatement → Answer S → Finding
  found_as c a = record { id = c.number; check = kind_of c.check; verdict = verdict_on dom engine c.effect a }

  pub verdict_at : (c : CheckedStatement) (p : ℕ) (ts : List Target) → procedure_of program (Before c.number) ≡ In p → targets program p (Before c.number) [] ≡ Some ts →
      finding dom engine program c ≡ found_as c (summed dom engine (map (value_of_target (found_by dom engine program same)) ts))
  verdict_at c p ts e t =
      ap (λ q. found_as c (answer_in dom engine program (Before c.number) [] q)) e
      ∙ ap (found_as c) (answer_at dom engine program same is checked (Before c.number) [] p ts t)
