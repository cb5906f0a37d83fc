use Rattle.std.proofs.Common.{◌≡◌, ◌∙◌, [], List, None, Err, IfErr, refl, rules, sym, ap, subst, slice_get}
use Rattle.std.specs.Option.{option_map}
use Rattle.imp_syntax.specs.Plain.{Procedure, Statement}
use Rattle.imp_syntax.specs.Changes.{with_condition}
use Rattle.imp_check.specs.Names.{variables}
use Rattle.imp_check.specs.Programs.{check_fault, program_count}
use Rattle.imp_check.specs.Entries.{form_in, resolver_at, heads_of}
use Rattle.imp_check.specs.declared.entry.SlotForm.{SlotForm}
use Rattle.imp_check.specs.Single.{FitsAlone, own_fault}
use Rattle.imp_edit.specs.Changes.{guarded, in_program}
use Rattle.imp_edit.specs.Refusals.{IsRefusal}
use Rattle.imp_edit.specs.declared.error.EditError.TheVariants.{Fault}
use Rattle.imp_edit.proofs.GuardLemmas.{fine_of, guard_variables, guard_made, guard_refused, guarded_fault, guarded_fits, guarded_form, head_layout}
use Rattle.imp_edit.proofs.part_changes.guard_change.Goals as goal

pub form_alone-requires-clause-fine : goal.form_alone-requires-clause-fine
form_alone-requires-clause-fine c =
    let ps = c.args.table.now.program in
    let e = c.args.entry.now in
    guard_variables c.args.stmt ps e c.in-Some.head.now (fine_of ps c.procs.ensures.faultless c.procs.ensures.numbered c.procs.ensures.fit) c.requires.known
    (ap (λ (os : List Procedure). slice_get (heads_of os) e.context.proc) (sym c.view.ensures.is) ∙ sym c.in-Some.ensures.is)

pub form_alone-requires-clause-layout : goal.form_alone-requires-clause-layout
form_alone-requires-clause-layout c =
    let e = c.args.entry.now in
    head_layout c.args.table.now.program e.context.proc c.in-Some.head.now
    (ap (λ (os : List Procedure). slice_get (heads_of os) e.context.proc) (sym c.view.ensures.is) ∙ sym c.in-Some.ensures.is)

pub returns-in_err-form-clause-refused : goal.returns-in_err-form-clause-refused
returns-in_err-form-clause-refused c =
    let ps = c.args.table.now.program in
    let e = c.args.entry.now in
    let d = c.args.cond.now in
    let r = c.in_err-form.field-0.0 in
    let w = guard_refused c.args.stmt d ps e c.in-Some.head.now c.in_ok-part.part r
    (fine_of ps c.procs.ensures.faultless c.procs.ensures.numbered c.procs.ensures.fit)
    c.requires.known
    (ap (λ (os : List Procedure). slice_get (heads_of os) e.context.proc) (sym c.view.ensures.is) ∙ sym c.in-Some.ensures.is)
    c.requires.fits
    (c.in_ok-part.ensures.is ∙ ap (with_condition e.part) c.in_ok-clone.ensures.cases)
    c.in_err-form.ensures.refused in
    let z : c.from_residual-in_err-form.result ≡ Err r = search rules in
    subst (λ o. IfErr o (IsRefusal (option_map Fault (check_fault (in_program c.args.stmt (guarded d) ps))))) (sym z) w

pub returns-clause-made : goal.returns-clause-made
returns-clause-made c =
    let ps = c.args.table.now.program in
    let e = c.args.entry.now in
    let d = c.args.cond.now in
    let h = c.in-Some.head.now in
    let is = c.in_ok-part.ensures.is ∙ ap (with_condition e.part) c.in_ok-clone.ensures.cases in
    guard_made c.args.stmt d ps e c.changed_entry.result h c.args.next
    (record { entries = c.in_ok-entries.entries; heads = None; count = c.count.result; sites = None })
    (fine_of ps c.procs.ensures.faultless c.procs.ensures.numbered c.procs.ensures.fit)
    c.requires.known
    (ap (λ (os : List Procedure). slice_get (heads_of os) e.context.proc) (sym c.view.ensures.is) ∙ sym c.in-Some.ensures.is)
    c.requires.fits
    c.requires.below
    c.requires.numbered
    (sym (guarded_fault (variables h.bare) e.part d c.requires.fits) ∙ ap (own_fault (variables h.bare)) (sym is) ∙ c.in_ok-form.ensures.faultless)
    (guarded_fits h.bare e.part d c.requires.fits (subst (FitsAlone h.bare) is c.in_ok-form.ensures.fits))
    (c.changed_entry.ensures.is
    ∙ ap (λ (z : Statement). record e { part = z; form = c.in_ok-form.form }) is
    ∙ ap (λ (z : SlotForm). record e { part = with_condition e.part d; form = z }) (c.in_ok-form.ensures.form ∙ ap (form_in (resolver_at [] h.bare)) is ∙ guarded_form (resolver_at [] h.bare) e.part d c.requires.fits))
    c.in_ok-entries.ensures.is
    refl
    (c.count.ensures.is ∙ ap program_count c.view-2.ensures.is)
    refl
