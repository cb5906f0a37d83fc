use Rattle.std.specs.Prelude.{◌≡◌}
use Rattle.std.specs.Int.{int_max, int_min}
use Rattle.std.proofs.Common.{◌∙◌, ap}
use Rattle.dbm_narrow.proofs.RowLemmas.{Spans-next}
use Rattle.dbm_narrow.specs.Entries.{at, or_zero}
use Rattle.dbm_narrow.proofs.rows.are_within.Goals as goal

pub loop-j-preserved : goal.loop-j-preserved
loop-j-preserved gen c =
    let r : c.read-bound.result ≡ at gen.W.Width.unit c.args.entries.now c.loop-j.j = c.read-bound.ensures.value in
    let el : c.lesser-low.result ≡ int_min c.loop-j.low c.read-bound.result = c.lesser-low.ensures.value in
    let eh : c.greater-high.result ≡ int_max c.loop-j.high (or_zero gen.W.Width.unit c.read-bound.result) =
    c.greater-high.ensures.value ∙ ap (int_max c.loop-j.high) (c.bound_or_zero.ensures.value) in
    Spans-next gen.W.Width.unit gen.W.Width.positive c.args.entries.now c.loop-j.j c.loop-j.low c.loop-j.high c.read-bound.result _ _ c.loop-j.invariant r el eh
