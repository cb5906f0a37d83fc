use Rattle.std.specs.Prelude.{IfOk, ◌≡◌, ◌*◌}
use Rattle.std.proofs.Common.{length, sym, ◌∙◌}
use Rattle.dom_octagon_meaning.proofs.Calls.{entered-coherent}
use Rattle.dom_octagon_meaning.specs.Operations.{entered}
use Rattle.dbm_core.specs.Tables.{matrix_of}
use Rattle.dom_octagon.proofs.Tables.{table-if_ok, if_ok-by, coherent-diagonal, entered-is_ready}
use Rattle.dom_octagon_states.specs.Limits.{IsReady}
use Rattle.dom_octagon.proofs.calls.entered_matrix.Goals as goal

pub from_fn-requires-clause-diagonal : goal.from_fn-requires-clause-diagonal
from_fn-requires-clause-diagonal c = λ h a b l p q.
    p ∙ coherent-diagonal (entered c.args.m.now c.args.sources.now) (length c.args.kinds.now) h (entered-coherent c.args.m.now c.kinds-slots.ensures.matrix c.args.sources.now (2 * length c.args.kinds.now)) l ∙ sym q

pub returns : goal.returns
returns c =
    let e : IfOk c.from_fn.result (λ r. r ≡ matrix_of c.args.kinds.now (entered c.args.m.now c.args.sources.now)) =
    table-if_ok c.from_fn.result c.args.kinds.now (entered c.args.m.now c.args.sources.now) c.requires.few (entered-coherent c.args.m.now c.kinds-slots.ensures.matrix c.args.sources.now (2 * length c.args.kinds.now)) c.from_fn.ensures.matrix c.from_fn.ensures.same_kinds c.from_fn.ensures.kept in
    record { value = e; ready = if_ok-by c.from_fn.result (matrix_of c.args.kinds.now (entered c.args.m.now c.args.sources.now)) IsReady e (entered-is_ready c.args.m.now c.args.kinds.now c.args.sources.now c.kinds-slots.ensures.matrix c.requires.limited c.requires.few) }
