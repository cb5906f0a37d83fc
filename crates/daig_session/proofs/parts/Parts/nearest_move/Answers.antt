use Rattle.std.proofs.Common.{◌≡◌, List, sym, subst}
use Rattle.imp_syntax.specs.Plain.{Procedure}
use Rattle.imp_check.specs.Slots.{routines_of}
use Rattle.call_contexts.specs.Settings.{setting_of}
use Rattle.edit_history.specs.After.{changed_program, Leads, LeadsOn}
use Rattle.edit_keeps.specs.Apart.{flow_of}
use Rattle.daig_query.specs.Right.{IsRight}
use Rattle.daig_session.specs.Moves.{IsMoving, IsNearest}
use Rattle.daig_session.specs.Sides.{programs_of}
use Rattle.daig_session.proofs.Moved.{leads_first, moving_first}
use Rattle.daig_session.proofs.parts.Parts.nearest_move.Goals as goal

pub planned_move-requires-clause-right : goal.planned_move-requires-clause-right
planned_move-requires-clause-right g c =
    let s = c.args.self.now in
    subst (λ (p : List Procedure). IsRight (g.D.Domain.operations s.engine.domain) (flow_of s.book.setting.engine p) s.engine.store) (sym c.table-table.ensures.is) c.requires.ready.right

pub planned_move-requires-clause-leads : goal.planned_move-requires-clause-leads
planned_move-requires-clause-leads g c =
    let b = c.args.self.now.book in
    let h = b.history in
    let side = programs_of c.args.side b in
    let near : LeadsOn h.places h.now c.in-Some.change.now side = c.in-Some.ensures.is in
    subst (λ r. Leads r c.table-table.result.now.program c.in-Some.change.now) (sym c.table-table.ensures.places) (
    subst (λ (p : List Procedure). Leads h.places p c.in-Some.change.now) (sym c.table-table.ensures.is) (leads_first h.places h.now c.in-Some.change.now side near))

pub planned_move-requires-clause-set : goal.planned_move-requires-clause-set
planned_move-requires-clause-set g c =
    let b = c.args.self.now.book in
    subst (λ (p : List Procedure). b.setting ≡ setting_of b.setting.engine (routines_of p)) (sym c.table-table.ensures.is) c.requires.ready.order.set

pub returns-clause-moving : goal.returns-clause-moving
returns-clause-moving g c =
    let s = c.args.self.now in
    let h = s.book.history in
    let side = programs_of c.args.side s.book in
    let near : LeadsOn h.places h.now c.in-Some.change.now side = c.in-Some.ensures.is in
    moving_first s.engine.store s.book.setting.engine h.places h.now c.in-Some.change.now side c.in_ok-moving.moving near (
    subst (λ (p : List Procedure). IsMoving s.engine.store s.book.setting.engine p (changed_program p c.in-Some.change.now) c.in_ok-moving.moving) c.table-table.ensures.is c.in_ok-moving.ensures.moving)
