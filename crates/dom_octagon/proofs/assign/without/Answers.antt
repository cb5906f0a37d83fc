use Rattle.std.specs.Prelude.{◌≡◌, ◌^◌}
use Rattle.dbm_core.proofs.ValuationLemmas.{entries-if_ok-then}
use Rattle.dbm_core.specs.Half.{HasEntries, entry}
use Rattle.dbm_core.specs.Operations.{forgotten}
use Rattle.dom_octagon_meaning.proofs.Exact.{without-is}
use Rattle.dom_octagon_meaning.specs.Matrices as matrices
use Rattle.dbm_incremental.proofs.KeepLemmas.{forget-closed}
use Rattle.dbm_incremental.proofs.LawLemmas.{closed-same}
use Rattle.dbm_incremental.specs.ClosedMatrices.{IsClosed}
use Rattle.dom_octagon.proofs.Bounds.{without-entries}
use Rattle.dom_octagon.proofs.Stood.{forgotten_limited}
use Rattle.dom_octagon_states.proofs.Tight.{limited_ready}
use Rattle.dom_octagon_states.specs.Limits.{IsReady}
use Rattle.dom_octagon.proofs.assign.without.Goals as goal

pub returns-clause-value : goal.returns-clause-value
returns-clause-value c = entries-if_ok-then (HasEntries c.args.m.now.kinds (forgotten (entry c.args.m.now) c.args.k)) (λ r. r ≡ matrices.without c.args.m.now c.args.k) c.forget.result
    (λ r. without-is c.args.m.now r c.args.k c.kinds-kinds.ensures.matrix) c.forget.ensures.entries

pub returns-clause-ready : goal.returns-clause-ready
returns-clause-ready c = entries-if_ok-then (HasEntries c.args.m.now.kinds (forgotten (entry c.args.m.now) c.args.k)) IsReady c.forget.result
    (λ r e. limited_ready r (forgotten_limited (2 ^ 64) c.args.m.now r c.args.k c.requires.limited e)) c.forget.ensures.entries

pub returns-clause-closed : goal.returns-clause-closed
returns-clause-closed c = λ h. entries-if_ok-then (HasEntries c.args.m.now.kinds (forgotten (entry c.args.m.now) c.args.k)) IsClosed c.forget.result
    (λ r e. forget-closed c.args.m.now r c.args.k h e) c.forget.ensures.entries

pub returns-clause-same : goal.returns-clause-same
returns-clause-same c = λ h. closed-same (matrices.without c.args.m.now c.args.k) (forget-closed c.args.m.now (matrices.without c.args.m.now c.args.k) c.args.k h (without-entries c.args.m.now c.args.k h.1.matrix))
