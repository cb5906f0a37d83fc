use Rattle.std.specs.Prelude.{◌≡◌}
use Rattle.std.proofs.Common.{sym, subst}
use Rattle.dbm_core.proofs.ValuationLemmas.{entries-if_ok-then}
use Rattle.dbm_core.specs.Half.{HalfMatrix, HasEntries}
use Rattle.dbm_core.specs.Operations.{joined}
use Rattle.dbm_core.specs.Tables.{matrix_of}
use Rattle.dbm_close.specs.CloseOf.{close_of}
use Rattle.dbm_close.specs.declared.closed.Closed.TheVariants.{Matrix}
use Rattle.dbm_incremental.proofs.KeepLemmas.{join-closed}
use Rattle.dbm_incremental.proofs.LawLemmas.{closed-same}
use Rattle.dbm_incremental.specs.ClosedMatrices.{IsClosed}
use Rattle.dom_octagon_meaning.proofs.Exact.{join-is}
use Rattle.dom_octagon_states.proofs.joins.join_of.Goals as goal

pub returns : goal.returns
returns c =
    let closes : (r : HalfMatrix) → HasEntries c.args.a.now.kinds (joined c.args.a.now c.args.b.now) r → IsClosed r =
    λ r e. join-closed c.args.a.now c.args.b.now r c.requires.same c.requires.left.closed c.requires.right.closed e in
    record {
      value = entries-if_ok-then (HasEntries c.args.a.now.kinds (joined c.args.a.now c.args.b.now)) (λ r. Matrix r ≡ close_of (matrix_of c.args.a.now.kinds (joined c.args.a.now c.args.b.now))) c.join.result
          (λ r e. subst (λ z. Matrix r ≡ close_of z) (join-is c.args.a.now c.args.b.now r c.kinds-left.ensures.matrix c.kinds-right.ensures.matrix c.requires.same e) (sym (closed-same r (closes r e)))) c.join.ensures.entries;
      closed = entries-if_ok-then (HasEntries c.args.a.now.kinds (joined c.args.a.now c.args.b.now)) IsClosed c.join.result closes c.join.ensures.entries;
    }
