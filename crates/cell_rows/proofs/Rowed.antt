-- A name of a program has a row by number.
use Rattle.std.proofs.Common.{reverse, List, [], true, false, sym, ◌∙◌}
use Rattle.imp_slots.specs.Plain.{Routine}
use Rattle.imp_slots.specs.Fits.{IsChecked}
use Rattle.imp_words.specs.declared.verdict.Verdict.TheVariants.{May}
use Rattle.domain_laws.specs.Operations.{Operations}
use Rattle.batch_meaning.specs.Batch.{LoopOptions}
use Rattle.cell_names.specs.Paths.{CellName}
use Rattle.cell_rows.specs.Cells.{row_of_name}
use Rattle.cell_rows.specs.Claims.{HasName, HasRow}
use Rattle.cell_rows.proofs.Answered.{valued}
use Rattle.cell_rows.proofs.FlatOnce.{flat_once, all_fine}
use Rattle.cell_rows.proofs.FlatRows.{flat_row_is}
use Rattle.cell_rows.proofs.TableProofs.{tie, by_tie, mark_at_name}

-- Rows hang on no domain, so any will do: one with a single state.
abbrev single : Operations (Unit {0})
single = record { init = λ l. tt; post = λ a s. s; assume = λ g b s. s; join = λ s t. s; widen = λ ms s t. s; enter = λ e s. s; leave = λ r s d. s; shed = λ s. s; check = λ a s. May; same = λ s t. true; dead = λ s. false; text = λ l s. []; fits = λ s ls. true }

pub has_row : (engine : LoopOptions) (program : List Routine) → IsChecked program → (x : CellName) → HasName engine program x → HasRow engine program x
has_row engine program c x h =
    let v = valued single engine program c x h in
    by_tie single engine (reverse program) (all_fine program c) (row_of_name single engine (reverse program) x) (mark_at_name single engine (reverse program) (all_fine program c) x) (tie single engine (reverse program) (all_fine program c) x)
    (λ a b. let e = sym b ∙ v.1 in absurd cc)
    (λ r m a b k. (r, flat_row_is engine (reverse program) (flat_once program c) x.path x.point r a))
