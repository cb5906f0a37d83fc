use Rattle.std.proofs.Common.{◌∙◌, ◌≡◌, [], true, List, sym, ap, subst, slice_get}
use Rattle.std.specs.Option.{option_map}
use Rattle.imp_syntax.specs.Plain.{Procedure, Statements}
use Rattle.imp_slots.specs.Fits.{FitsCode}
use Rattle.imp_check.specs.Slots.{code_in, layout_in}
use Rattle.imp_check.specs.Entries.{resolver_at, heads_of}
use Rattle.edit_entries.specs.Gaps.{closed_at}
use Rattle.edit_entries.proofs.Closed.{quiet_at}
use Rattle.imp_edit.specs.Edited.{brought}
use Rattle.imp_edit.specs.Gaps.{IsSplice, splice_fault}
use Rattle.imp_edit.specs.Refusals.{IsRefusal}
use Rattle.imp_edit.specs.declared.error.EditError.TheVariants.{Fault}
use Rattle.imp_edit.proofs.GuardLemmas.{fine_of, head_layout}
use Rattle.imp_edit.proofs.SpliceMade.{gap_variables, gap_refused, gap_made}
use Rattle.imp_edit.proofs.part_changes.gap_change.Goals as goal

pub splice-requires-clause-fine : goal.splice-requires-clause-fine
splice-requires-clause-fine c =
    let P = c.args.table.now.program in
    let g = c.args.gap.now in
    gap_variables c.args.edit.now P g c.in-Some.head.now (fine_of P c.procs.ensures.faultless c.procs.ensures.numbered c.procs.ensures.fit) c.requires.site c.requires.here
    (ap (λ (os : List Procedure). slice_get (heads_of os) g.context.proc) (sym c.view.ensures.is) ∙ sym c.in-Some.ensures.is)

pub splice-requires-clause-layout : goal.splice-requires-clause-layout
splice-requires-clause-layout c =
    let g = c.args.gap.now in
    head_layout c.args.table.now.program g.context.proc c.in-Some.head.now
    (ap (λ (os : List Procedure). slice_get (heads_of os) g.context.proc) (sym c.view.ensures.is) ∙ sym c.in-Some.ensures.is)

pub splice-requires-clause-quiet : goal.splice-requires-clause-quiet
splice-requires-clause-quiet c = quiet_at c.args.gap.now.context.head c.in_ok-news.news (sym c.closed_at.ensures.is ∙ c.if-not-closed_at.false)

pub returns-clause-refused : goal.returns-clause-refused
returns-clause-refused c =
    let d = c.args.edit.now in
    let P = c.args.table.now.program in
    let g = c.args.gap.now in
    let h = c.in-Some.head.now in
    let is = c.in_ok-news.ensures.is in
    let closed : closed_at g.context.head (brought d) ≡ true = ap (closed_at g.context.head) (sym is) ∙ sym c.closed_at.ensures.is ∙ c.if-not-closed_at.false in
    gap_refused d P g h (fine_of P c.procs.ensures.faultless c.procs.ensures.numbered c.procs.ensures.fit) c.requires.site c.requires.here
    (ap (λ (os : List Procedure). slice_get (heads_of os) g.context.proc) (sym c.view.ensures.is) ∙ sym c.in-Some.ensures.is)
    closed c.in-Err.error
    (subst (λ (b : Statements). IsRefusal (option_map Fault (splice_fault P h g b)) c.in-Err.error) is c.in-Err.ensures.refused)

pub returns-in-Ok-clause-made : goal.returns-in-Ok-clause-made
returns-in-Ok-clause-made c =
    let d = c.args.edit.now in
    let P = c.args.table.now.program in
    let g = c.args.gap.now in
    let h = c.in-Some.head.now in
    let is = c.in_ok-news.ensures.is in
    let closed : closed_at g.context.head (brought d) ≡ true = ap (closed_at g.context.head) (sym is) ∙ sym c.closed_at.ensures.is ∙ c.if-not-closed_at.false in
    gap_made d P g h (fine_of P c.procs.ensures.faultless c.procs.ensures.numbered c.procs.ensures.fit) c.requires.site c.requires.here
    (ap (λ (os : List Procedure). slice_get (heads_of os) g.context.proc) (sym c.view.ensures.is) ∙ sym c.in-Some.ensures.is)
    closed c.args.next c.requires.below c.requires.continues c.requires.numbered
    (subst (λ (b : Statements). FitsCode [] (layout_in h.bare) (code_in (resolver_at [] h.bare) b)) is c.in-Ok.ensures.fit)
    (ap (splice_fault P h g) (sym is) ∙ c.in-Ok.ensures.faultless)
    c.in-Ok.change
    (subst (λ (b : Statements). IsSplice P h g b c.in-Ok.change) is c.in-Ok.ensures.is)
