use Rattle.std.proofs.Common.{List, inl, sym, subst, ◌∙◌, ap}
use Rattle.imp_syntax.specs.Plain.{Procedure}
use Rattle.imp_check.specs.Slots.{routines_of}
use Rattle.imp_edit.specs.Edited.{edited}
use Rattle.call_contexts.specs.Settings.{setting_of}
use Rattle.daig_machine.specs.Turns.{after_edit}
use Rattle.daig_session.specs.Holds.{Holds, IsReady}
use Rattle.daig_query.proofs.Sweeps.{right-in-tables}
use Rattle.daig_session.specs.Books.{flow_in}
use Rattle.daig_session.proofs.Moved.{edit_apart, edit_holds, edit_ready}
use Rattle.daig_session.proofs.parts.Parts.make.Goals as goal

pub leave-requires : goal.leave-requires
leave-requires g c =
    let s = c.args.self.now in
    record {
      order = c.requires.planned.1.moving.empties.removes.order;
      held = right-in-tables (g.D.Domain.operations s.engine.domain) (flow_in s.book) s.engine.store c.requires.ready.right;
      renaming = c.requires.planned.1.moving.names;
    }

pub remember-requires-clause-leads : goal.remember-requires-clause-leads
remember-requires-clause-leads g c = c.requires.planned.1.leads

pub remember-requires-clause-set : goal.remember-requires-clause-set
remember-requires-clause-set g c =
    let p = c.requires.planned.1 in
    p.moving.set ∙ ap (λ (q : List Procedure). setting_of c.args.self.now.book.setting.engine (routines_of q)) (sym p.makes)

pub returns-clause-ready : goal.returns-clause-ready
returns-clause-ready g c =
    let s = c.args.self.now in
    let ops = g.D.Domain.operations in
    let e = c.requires.planned.0 in
    let p = c.requires.planned.1 in
    let left = c.leave.ensures.leaves s.book.setting.engine s.book.history.now (edited e s.book.history.now) (inl (edit_apart (ops s.engine.domain) s.engine.store s.book c.args.planned e c.requires.ready p)) c.requires.ready.right p.moving.empties in
    subst (λ d. IsReady (ops d) c.leave.new.engine.store c.remember.new.self) (sym c.leave.ensures.setup.0) (edit_ready (ops s.engine.domain) s.engine.store c.leave.new.engine.store s.book c.remember.new.self c.args.planned e c.requires.ready p c.remember.ensures.turned left)

pub returns-clause-committed : goal.returns-clause-committed
returns-clause-committed g c = λ e m p h.
    let s = c.args.self.now in
    let ops = g.D.Domain.operations in
    let left = c.leave.ensures.leaves s.book.setting.engine s.book.history.now (edited e s.book.history.now) (inl (edit_apart (ops s.engine.domain) s.engine.store s.book c.args.planned e c.requires.ready p)) c.requires.ready.right p.moving.empties in
    subst (λ d. Holds (ops d) c.leave.new.engine.store c.remember.new.self (after_edit (ops s.engine.domain) e m)) (sym c.leave.ensures.setup.0) (edit_holds (ops s.engine.domain) s.engine.store c.leave.new.engine.store s.book c.remember.new.self c.args.planned e c.requires.ready p c.remember.ensures.turned left m h)
