use Rattle.std.specs.Prelude.{IfOk, ◌≡◌, ◌*◌, Some, pos}
use Rattle.std.proofs.Common.{length}
use Rattle.dom_octagon_meaning.proofs.Calls.{zeros-coherent}
use Rattle.dbm_core.specs.Tables.{matrix_of}
use Rattle.dom_octagon.proofs.Tables.{table-if_ok, if_ok-by, zeros-are_ready}
use Rattle.dom_octagon_states.specs.Limits.{IsReady}
use Rattle.dom_octagon.proofs.calls.zeros.Goals as goal

pub returns : goal.returns
returns c =
    let e : IfOk c.from_fn.result (λ r. r ≡ matrix_of c.args.kinds.now (λ i j. Some (pos 0))) =
    table-if_ok c.from_fn.result c.args.kinds.now (λ i j. Some (pos 0)) c.requires.few (zeros-coherent (2 * length c.args.kinds.now)) c.from_fn.ensures.matrix c.from_fn.ensures.same_kinds c.from_fn.ensures.kept in
    record { value = e; ready = if_ok-by c.from_fn.result (matrix_of c.args.kinds.now (λ i j. Some (pos 0))) IsReady e (zeros-are_ready c.args.kinds.now c.requires.few) }
