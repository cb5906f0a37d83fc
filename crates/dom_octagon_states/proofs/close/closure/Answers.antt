use Rattle.std.specs.Prelude.{◌≡◌, ◌^◌}
use Rattle.std.specs.Option.{option_copied}
use Rattle.std.proofs.Common.{◌∙◌, ap, sym, subst}
use Rattle.dbm_core.specs.Limits.{IsLimited}
use Rattle.dbm_close.specs.CloseOf.{close_of}
use Rattle.dbm_close.specs.declared.closed.Closed.TheVariants.{Matrix}
use Rattle.dbm_incremental.proofs.LawLemmas.{closed-same}
use Rattle.dbm_incremental.specs.ClosedMatrices.{IsClosed}
use Rattle.dom_octagon_meaning.specs.States.{closed}
use Rattle.dom_octagon_states.proofs.Tight.{limited_closed, tight_if}
use Rattle.dom_octagon_states.specs.Kept.{IsKept, bounded_if, state_of}
use Rattle.dom_octagon_states.proofs.close.closure.Goals as goal

pub returns-in-Bounded-clause-exact : goal.returns-in-Bounded-clause-exact
returns-in-Bounded-clause-exact c =
    let h : IsClosed c.in-Bounded.m = subst IsKept c.in-Bounded.is c.s.invariant in
    let e : c.args.s.now ≡ Matrix c.in-Bounded.m = sym c.s.view_is ∙ ap state_of c.in-Bounded.is in
    sym (ap closed e ∙ closed-same c.in-Bounded.m h)

pub returns-in-Widened-clause-tight : goal.returns-in-Widened-clause-tight
returns-in-Widened-clause-tight c =
    let h : IsLimited (2 ^ 64) c.in-Widened.m × (bounded_if c.in-Widened.closure ≡ close_of c.in-Widened.m) = subst IsKept c.in-Widened.is c.s.invariant in
    tight_if (option_copied c.as_ref.result) (bounded_if c.in-Widened.closure) (ap bounded_if c.as_ref.ensures.value)
    (limited_closed c.in-Widened.m (bounded_if c.in-Widened.closure) c.kinds-kinds.ensures.matrix h.0 h.1)
