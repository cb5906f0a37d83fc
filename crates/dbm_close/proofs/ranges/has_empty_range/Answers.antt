use Rattle.std.proofs.Common.{below_more, arith, ◌≡◌, ap, ◌∙◌, subst, get_or, false}
use Rattle.std.specs.Prelude.{◌≤ℤ◌}
use Rattle.std.proofs.lemmas.Int.{ints}
use Rattle.dbm_close.specs.Close.{slot_high, slot_low}
use Rattle.dbm_close.specs.Steps.{range_high, range_low}
use Rattle.dbm_core.specs.Half.{entry}
use Rattle.dbm_close.proofs.ranges.has_empty_range.Goals as goal

pub loop-k-preserved : goal.loop-k-preserved
loop-k-preserved c = below_more _ _ c.loop-k.invariant
    (let p : c.low_end.result ≤ℤ c.high_end.result = grind (arith, ints) in
    let e : c.low_end.result ≡ slot_low c.kinds-kinds.result.now (entry c.args.r.now) c.loop-k.k =
    c.low_end.ensures.low ∙ ap (range_low (get_or c.kinds-kinds.result.now c.loop-k.k false)) c.get-in-loop-k.ensures.bound in
    let f : c.high_end.result ≡ slot_high c.kinds-kinds.result.now (entry c.args.r.now) c.loop-k.k =
    c.high_end.ensures.high ∙ ap (range_high (get_or c.kinds-kinds.result.now c.loop-k.k false)) c.get.ensures.bound in
    subst (λ x. x ≤ℤ slot_high c.kinds-kinds.result.now (entry c.args.r.now) c.loop-k.k) e (subst (λ x. c.low_end.result ≤ℤ x) f p))
