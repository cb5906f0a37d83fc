use Rattle.std.proofs.Common.{ℕ, ◌≡◌, ◌+◌, IfOk, IfErr, MatchOption, sym, subst, arith}
use Rattle.std.specs.Prelude.{⊤}
use Rattle.std.specs.Option.{option_map}
use Rattle.imp_syntax.specs.declared.edit.Edit.{Edit}
use Rattle.imp_check.specs.Programs.{check_fault}
use Rattle.imp_edit.specs.Changes.{guarded, in_program}
use Rattle.imp_edit.specs.Edited.{edited, next_after}
use Rattle.imp_edit.specs.Refusals.{IsRefusal}
use Rattle.imp_edit.specs.EditChange.{IsMade}
use Rattle.imp_edit.specs.declared.error.EditError.TheVariants.{Fault}
use Rattle.imp_edit.proofs.part_changes.short_change.Goals as goal

pub returns-in-Some-clause-made : goal.returns-in-Some-clause-made
returns-in-Some-clause-made c =
    let ps = c.args.table.now.program in
    let r = c.guard_change.result in
    let z : c.args.next + 0 ≡ c.args.next = omega arith in
    subst (λ (e : Edit). IfOk r (λ change. MatchOption change ⊤ (IsMade ps (edited e ps) (next_after e c.args.next)))) (sym c.in-Guard.is)
    (subst (λ (k : ℕ). IfOk r (λ change. MatchOption change ⊤ (IsMade ps (in_program c.in-Guard.stmt (guarded c.in-Guard.cond) ps) k))) (sym z) c.guard_change.ensures.made)

pub returns-in-Some-clause-refused : goal.returns-in-Some-clause-refused
returns-in-Some-clause-refused c =
    let ps = c.args.table.now.program in
    subst (λ (e : Edit). IfErr c.guard_change.result (IsRefusal (option_map Fault (check_fault (edited e ps))))) (sym c.in-Guard.is) c.guard_change.ensures.refused
