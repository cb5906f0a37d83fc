use Rattle.std.proofs.Common.{◌≡◌, ◌<◌, length, Err, rules, sym, ap, subst, ◌∙◌}
use Rattle.daig_machine.specs.Machine.{Machine}
use Rattle.daig_session.specs.Holds.{Holds, IsReady}
use Rattle.daig_session.specs.Sides.{gone_to, programs_of, side_of}
use Rattle.daig_session.specs.Turns.{Goes, IsStopped}
use Rattle.daig_query.proofs.Sweeps.{right-in-tables}
use Rattle.daig_session.specs.Books.{flow_in}
use Rattle.daig_session.proofs.Moved.{first_move, moving_names, moving_order, moving_some, stopped_goes}
use Rattle.daig_session.proofs.Turned.{go_apart, go_holds, go_ready, side_here}
use Rattle.daig_session.proofs.parts.Parts.go.Goals as goal

pub leave-requires : goal.leave-requires
leave-requires g c =
    let s = c.args.self.now in
    let moving = c.in_ok-setting.ensures.moving in
    let programs = programs_of c.args.side s.book in
    record {
      order = moving_order s.engine.store s.book.setting.engine s.book.history.now programs c.in_ok-setting.field-0 moving;
      held = right-in-tables (g.D.Domain.operations s.engine.domain) (flow_in s.book) s.engine.store c.requires.ready.right;
      renaming = moving_names s.engine.store s.book.setting.engine s.book.history.now programs c.in_ok-setting.field-0 moving;
    }

pub turn-requires : goal.turn-requires
turn-requires g c =
    let s = c.args.self.now in
    record { there = moving_some s.engine.store s.book.setting.engine s.book.history.now (programs_of c.args.side s.book) c.in_ok-setting.field-0 c.in_ok-setting.ensures.moving }

pub returns-clause-ready : goal.returns-clause-ready
returns-clause-ready g c =
    let s = c.args.self.now in
    let ops = g.D.Domain.operations in
    let side = c.args.side in
    let after = c.turn.new.self in
    let move = first_move s.engine.store s.book.setting.engine s.book.history.now after.history.now (programs_of side after) (programs_of side s.book) c.in_ok-setting.field-0 c.turn.ensures.nearest c.in_ok-setting.ensures.moving in
    let turned = c.turn.ensures.turned move.set in
    let left = c.leave.ensures.leaves s.book.setting.engine s.book.history.now after.history.now (go_apart (ops s.engine.domain) s.engine.store side s.book after c.requires.ready c.turn.ensures.nearest) c.requires.ready.right move.empties in
    subst (λ d. IsReady (ops d) c.leave.new.engine.store after) (sym c.leave.ensures.setup.0) (go_ready (ops s.engine.domain) s.engine.store c.leave.new.engine.store side s.book after c.requires.ready c.turn.ensures.nearest turned left)

pub returns-clause-goes : goal.returns-clause-goes
returns-clause-goes g c = λ m h.
    let s = c.args.self.now in
    let ops = g.D.Domain.operations in
    let side = c.args.side in
    let after = c.turn.new.self in
    let move = first_move s.engine.store s.book.setting.engine s.book.history.now after.history.now (programs_of side after) (programs_of side s.book) c.in_ok-setting.field-0 c.turn.ensures.nearest c.in_ok-setting.ensures.moving in
    let turned = c.turn.ensures.turned move.set in
    let left = c.leave.ensures.leaves s.book.setting.engine s.book.history.now after.history.now (go_apart (ops s.engine.domain) s.engine.store side s.book after c.requires.ready c.turn.ensures.nearest) c.requires.ready.right move.empties in
    let some = moving_some s.engine.store s.book.setting.engine s.book.history.now (programs_of side s.book) c.in_ok-setting.field-0 c.in_ok-setting.ensures.moving in (
      subst (λ (z : Machine). 0 < length (side_of side z)) h.is (subst (λ ps. 0 < length ps) (side_here side s.book m.kept) some),
      turned.next_is ∙ ap (λ (z : Machine). z.next) h.is,
      subst (λ d. Holds (ops d) c.leave.new.engine.store after (gone_to side (ops s.engine.domain) m)) (sym c.leave.ensures.setup.0) (go_holds (ops s.engine.domain) s.engine.store c.leave.new.engine.store side s.book after c.requires.ready c.turn.ensures.nearest turned left m h),
    )

pub returns-clause-next_ticket : goal.returns-clause-next_ticket
returns-clause-next_ticket g c =
    let s = c.args.self.now in
    let side = c.args.side in
    let after = c.turn.new.self in
    let move = first_move s.engine.store s.book.setting.engine s.book.history.now after.history.now (programs_of side after) (programs_of side s.book) c.in_ok-setting.field-0 c.turn.ensures.nearest c.in_ok-setting.ensures.moving in
    (c.turn.ensures.turned move.set).next_ticket

pub returns-in_err-setting-clause-goes : goal.returns-in_err-setting-clause-goes
returns-in_err-setting-clause-goes g c = λ m h.
    let s = c.args.self.now in
    let ops = g.D.Domain.operations in
    let side = c.args.side in
    let stands = Holds (ops s.engine.domain) s.engine.store s.book in
    let r = c.in_err-setting.field-0.0 in
    let e : c.from_residual.result ≡ Err r = search rules in
    let stopped = subst (λ (z : Machine). IsStopped (side_of side z) r) h.is (subst (λ ps. IsStopped ps r) (side_here side s.book m.kept) c.in_err-setting.ensures.stopped) in
    subst (Goes m stands (side_of side m) (gone_to side (ops s.engine.domain) m)) (sym e) (stopped_goes m stands (side_of side m) (gone_to side (ops s.engine.domain) m) r stopped h)
