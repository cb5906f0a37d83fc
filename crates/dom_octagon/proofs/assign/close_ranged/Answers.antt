use Rattle.std.specs.Prelude.{◌≡◌, ◌+◌, ◌*◌, neg_ℤ, refl}
use Rattle.std.proofs.Common.{◌∙◌, ap}
use Rattle.dbm_core.specs.Half.{HalfMatrix}
use Rattle.dom_octagon_meaning.specs.Matrices.{meets_end, meets_range, without}
use Rattle.dom_octagon.proofs.Bounds.{bound-kinds}
use Rattle.dom_octagon.specs.Added.{with_bound_if}
use Rattle.dom_octagon_states.proofs.Tight.{closed_tight}
use Rattle.dom_octagon.proofs.assign.close_ranged.Goals as goal

pub close_with-requires-clause-tight : goal.close_with-requires-clause-tight
close_with-requires-clause-tight c = closed_tight c.in_ok-free.free (c.in_ok-free.ensures.closed c.requires.tight.closed)

pub returns : goal.returns
returns c =
    let free : HalfMatrix = c.in_ok-free.free in
    let e : with_bound_if (with_bound_if free c.high_bound-high.result) c.low_bound-low.result ≡ meets_range (without c.args.m.now c.args.x) c.args.x c.args.range =
    c.low_bound-low.ensures.value (with_bound_if free c.high_bound-high.result) (bound-kinds free c.high_bound-high.result)
    ∙ ap (λ n. meets_end n (2 * c.args.x + 1) (neg_ℤ c.args.range.lo)) (c.high_bound-high.ensures.value free refl)
    ∙ ap (λ n. meets_range n c.args.x c.args.range) c.in_ok-free.ensures.value in
    record { exact = rw e at c.close_with.ensures.exact }
