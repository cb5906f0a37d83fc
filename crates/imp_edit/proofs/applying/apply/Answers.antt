use Rattle.std.proofs.Common.{ℕ, ◌<◌, List, sym, ap, ◌∙◌, subst}
use Rattle.std.specs.List.{All}
use Rattle.imp_syntax.specs.Plain.{Procedure, program_numbers}
use Rattle.imp_edit.specs.Edited.{edited}
use Rattle.imp_edit.proofs.Numbered.{below_again}
use Rattle.imp_edit.proofs.ApplyLemmas.{next_is}
use Rattle.imp_edit.proofs.applying.apply.Goals as goal

pub into_change-requires-clause-new : goal.into_change-requires-clause-new
into_change-requires-clause-new c =
    let e = c.args.edit.now in
    let ps = c.args.table.now.program in
    let after = c.in-Some-next_after.after in
    let below = below_again e ps c.args.next c.procs.ensures.numbered c.requires.below c.requires.continues in
    let is = c.in_ok-made.ensures.is ∙ c.in_ok-program-2.ensures.is ∙ ap (edited e) (c.procs-2.ensures.is ∙ c.in_ok-program.ensures.is) in
    subst (λ (qs : List Procedure). All (λ (n : ℕ). n < after) (program_numbers qs)) (sym is)
    (subst (λ (b : ℕ). All (λ (n : ℕ). n < b) (program_numbers (edited e ps))) (sym (next_is e c.args.next after c.in-Some-next_after.ensures.is)) below)

pub returns-clause-still_below : goal.returns-clause-still_below
returns-clause-still_below c =
    let e = c.args.edit.now in
    let ps = c.args.table.now.program in
    let after = c.in-Some-next_after.after in
    let below = below_again e ps c.args.next c.procs.ensures.numbered c.requires.below c.requires.continues in
    subst (λ (b : ℕ). All (λ (n : ℕ). n < b) (program_numbers (edited e ps))) (sym (next_is e c.args.next after c.in-Some-next_after.ensures.is)) below
