use Rattle.std.specs.Prelude.{◌≡◌, pos}
use Rattle.std.proofs.Common.{◌∙◌, ap}
use Rattle.dbm_core.specs.Half.{HalfMatrix}
use Rattle.dom_octagon_meaning.specs.Forms.{slot_form}
use Rattle.dom_octagon_meaning.specs.Matrices.{meets_range, with_difference, with_equation}
use Rattle.dom_octagon.proofs.Bounds.{bound-kinds}
use Rattle.dom_octagon.proofs.Collected.{ends_meet}
use Rattle.dom_octagon.specs.Added.{with_bound_if, with_four}
use Rattle.dom_octagon.specs.Assigned.{equal_within}
use Rattle.dom_octagon_states.proofs.Tight.{closed_tight}
use Rattle.dom_octagon.proofs.assign.close_form_within.Goals as goal

pub close_with_more-requires-clause-tight : goal.close_with_more-requires-clause-tight
close_with_more-requires-clause-tight c = closed_tight c.in_ok-free.free (c.in_ok-free.ensures.closed c.requires.tight.closed)

pub returns : goal.returns
returns c =
    let free : HalfMatrix = c.in_ok-free.free in
    let first : HalfMatrix = with_bound_if free c.difference-there.result in
    let second : HalfMatrix = with_bound_if first c.difference-back.result in
    let there : first ≡ with_difference free (slot_form c.args.x) c.args.form (pos 0) = rw c.slot_form.ensures.exact at c.difference-there.ensures.value free in
    let back : second ≡ with_difference first c.args.form (slot_form c.args.x) (pos 0) = rw c.slot_form-2.ensures.exact at c.difference-back.ensures.value first in
    let equal : second ≡ with_equation free (slot_form c.args.x) c.args.form = back ∙ ap (λ n. with_difference n c.args.form (slot_form c.args.x) (pos 0)) there in
    let within : with_four free c.difference-there.result c.difference-back.result c.high_bound-high.result c.low_bound-low.result ≡ meets_range second c.args.x c.args.within =
    ends_meet free.kinds second c.args.x c.args.within c.high_bound-high.result c.low_bound-low.result (bound-kinds first c.difference-back.result ∙ bound-kinds free c.difference-there.result) c.high_bound-high.ensures.value c.low_bound-low.ensures.value in
    let e : with_four free c.difference-there.result c.difference-back.result c.high_bound-high.result c.low_bound-low.result ≡ equal_within c.args.m.now c.args.x c.args.form c.args.within =
    within ∙ ap (λ n. meets_range n c.args.x c.args.within) (equal ∙ ap (λ n. with_equation n (slot_form c.args.x) c.args.form) c.in_ok-free.ensures.value) in
    record { exact = rw e at c.close_with_more.ensures.exact }
