use Rattle.std.proofs.Common.{◌≡◌, ◌≤◌, List, None, sym, subst, ◌∙◌}
use Rattle.imp_syntax.specs.Plain.{Procedure}
use Rattle.imp_check.specs.Slots.{routines_of}
use Rattle.imp_edit.specs.Edited.{edited}
use Rattle.imp_edit.specs.Refusals.{edit_refusal}
use Rattle.call_contexts.specs.Settings.{setting_of}
use Rattle.edit_history.specs.After.{changed_program, Leads}
use Rattle.edit_keeps.specs.Apart.{flow_of}
use Rattle.daig_query.specs.Right.{IsRight}
use Rattle.daig_session.specs.Books.{AreBelow}
use Rattle.daig_session.specs.Moves.{IsMoving}
use Rattle.daig_session.proofs.Accepted.{low_after}
use Rattle.daig_session.proofs.Moved.{plan_after, plan_leads}
use Rattle.daig_session.proofs.parts.Parts.planned.Goals as goal

pub apply-requires-clause-positive : goal.apply-requires-clause-positive
apply-requires-clause-positive g c = c.requires.ready.order.some

pub apply-requires-clause-below : goal.apply-requires-clause-below
apply-requires-clause-below g c = subst (AreBelow c.args.self.now.book.next) (sym c.table.ensures.is) c.requires.ready.order.below

pub planned_move-requires-clause-right : goal.planned_move-requires-clause-right
planned_move-requires-clause-right g c =
    let s = c.args.self.now in
    subst (λ (p : List Procedure). IsRight (g.D.Domain.operations s.engine.domain) (flow_of s.book.setting.engine p) s.engine.store) (sym (c.table-2.ensures.is ∙ c.make_room.ensures.now)) c.requires.ready.right

pub planned_move-requires-clause-leads : goal.planned_move-requires-clause-leads
planned_move-requires-clause-leads g c =
    let e = c.in_ok-edited.edited in
    let h = c.make_room.new.self in
    let leads = plan_leads c.args.edit.now h.places h.now c.table.result.now.program e.change (c.table.ensures.is ∙ sym c.make_room.ensures.now) c.in_ok-edited.ensures.makes c.in_ok-edited.ensures.fine c.in_ok-edited.ensures.within.falling c.in_ok-make_room.ensures.places in
    subst (λ r. Leads r c.table-2.result.now.program e.change) (sym c.table-2.ensures.places) (
    subst (λ (p : List Procedure). Leads h.places p e.change) (sym c.table-2.ensures.is) leads)

pub planned_move-requires-clause-set : goal.planned_move-requires-clause-set
planned_move-requires-clause-set g c =
    let b = c.args.self.now.book in
    subst (λ (p : List Procedure). b.setting ≡ setting_of b.setting.engine (routines_of p)) (sym (c.table-2.ensures.is ∙ c.make_room.ensures.now)) c.requires.ready.order.set

pub returns-clause-planned : goal.returns-clause-planned
returns-clause-planned g c =
    let s = c.args.self.now in
    let e = c.in_ok-edited.edited in
    let h = c.make_room.new.self in
    let ed = c.args.edit.now in
    let same = c.table.ensures.is ∙ sym c.make_room.ensures.now in
    let accepted = subst (λ (p : List Procedure). edit_refusal ed p s.book.next ≡ None) c.table.ensures.is c.in_ok-edited.ensures.accepted in
    let is = plan_after ed h.places h.now c.table.result.now.program e.change same c.in_ok-edited.ensures.makes c.in_ok-edited.ensures.fine c.in_ok-edited.ensures.within.falling c.in_ok-make_room.ensures.places in
    record {
      leads = plan_leads ed h.places h.now c.table.result.now.program e.change same c.in_ok-edited.ensures.makes c.in_ok-edited.ensures.fine c.in_ok-edited.ensures.within.falling c.in_ok-make_room.ensures.places;
      makes = is;
      continues = c.requires.continues;
      next = c.in_ok-edited.ensures.numbers;
      low = subst (λ n. n ≤ 1000001) (sym c.in_ok-edited.ensures.numbers) (low_after ed s.book.history.now s.book.next c.requires.ready.order.low accepted);
      below = subst (λ (p : List Procedure). AreBelow e.next (edited ed p)) same c.in_ok-edited.ensures.still_below;
      moving =
          subst (λ (q : List Procedure). IsMoving s.engine.store s.book.setting.engine h.now q c.in_ok-moving.moving) is (
          subst (λ (p : List Procedure). IsMoving s.engine.store s.book.setting.engine p (changed_program p e.change) c.in_ok-moving.moving) c.table-2.ensures.is c.in_ok-moving.ensures.moving);
    }

pub returns-clause-accepted : goal.returns-clause-accepted
returns-clause-accepted g c =
    let s = c.args.self.now in
    subst (λ (p : List Procedure). edit_refusal c.args.edit.now p s.book.next ≡ None) c.table.ensures.is c.in_ok-edited.ensures.accepted
