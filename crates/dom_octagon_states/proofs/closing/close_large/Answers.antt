use Rattle.std.proofs.Common.{ap, subst, sym, ◌∙◌}
use Rattle.dbm_close.specs.declared.closed.Closed.TheVariants as closed
use Rattle.dbm_incremental.specs.ClosedMatrices.{IsClosed}
use Rattle.dom_octagon_states.specs.Tasks.{Does, DoesIf}
use Rattle.dom_octagon_states.proofs.closing.close_large.Goals as goal

pub returns-in-Empty : goal.returns-in-Empty
returns-in-Empty c = record { does = subst (Does c.args.m.now c.args.task) (sym c.empty.ensures.exact) (subst (DoesIf c.args.m.now c.args.task) c.in-Empty.is c.in_ok-close_by.ensures.does) }

pub bounded-requires : goal.bounded-requires
bounded-requires c =
    let h : Does c.args.m.now c.args.task (closed.Matrix c.in-Matrix.closed) × IsClosed c.in-Matrix.closed = subst (DoesIf c.args.m.now c.args.task) c.in-Matrix.is c.in_ok-close_by.ensures.does in
    record { closed = subst IsClosed (sym c.in_ok-hold-in-Matrix.ensures.same) h.1 }

pub returns-in_ok-hold-in-Matrix : goal.returns-in_ok-hold-in-Matrix
returns-in_ok-hold-in-Matrix c =
    let h : Does c.args.m.now c.args.task (closed.Matrix c.in-Matrix.closed) × IsClosed c.in-Matrix.closed = subst (DoesIf c.args.m.now c.args.task) c.in-Matrix.is c.in_ok-close_by.ensures.does in
    record { does = subst (Does c.args.m.now c.args.task) (sym (c.bounded.ensures.exact ∙ ap closed.Matrix c.in_ok-hold-in-Matrix.ensures.same)) h.0 }
