use Rattle.std.specs.Prelude.{◌≡◌, refl}
use Rattle.std.proofs.Common.{◌∙◌, ap}
use Rattle.dbm_core.specs.Half.{HalfMatrix}
use Rattle.dom_octagon_meaning.specs.Matrices.{meets_range}
use Rattle.dom_octagon.proofs.Bounds.{bound-kinds}
use Rattle.dom_octagon.proofs.Collected.{ends_meet}
use Rattle.dom_octagon.specs.Added.{with_bound_if, with_four}
use Rattle.dom_octagon.specs.Assigned.{ranged_within}
use Rattle.dom_octagon.proofs.assign.close_ranged_within.Goals as goal

pub returns : goal.returns
returns c =
    let free : HalfMatrix = c.in_ok-free.free in
    let first : HalfMatrix = with_bound_if free c.high_bound-high.result in
    let second : HalfMatrix = with_bound_if first c.low_bound-low.result in
    let met : second ≡ meets_range free c.args.x c.args.range =
    ends_meet free.kinds free c.args.x c.args.range c.high_bound-high.result c.low_bound-low.result refl c.high_bound-high.ensures.value c.low_bound-low.ensures.value in
    let within : with_four free c.high_bound-high.result c.low_bound-low.result c.high_bound-most.result c.low_bound-least.result ≡ meets_range second c.args.x c.args.within =
    ends_meet free.kinds second c.args.x c.args.within c.high_bound-most.result c.low_bound-least.result (bound-kinds first c.low_bound-low.result ∙ bound-kinds free c.high_bound-high.result) c.high_bound-most.ensures.value c.low_bound-least.ensures.value in
    let e : with_four free c.high_bound-high.result c.low_bound-low.result c.high_bound-most.result c.low_bound-least.result ≡ ranged_within c.args.m.now c.args.x c.args.range c.args.within =
    within ∙ ap (λ n. meets_range n c.args.x c.args.within) (met ∙ ap (λ n. meets_range n c.args.x c.args.range) c.in_ok-free.ensures.value) in
    record { exact = rw e at c.close_with_more.ensures.exact }
