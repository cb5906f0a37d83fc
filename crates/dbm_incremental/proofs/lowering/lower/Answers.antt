use Rattle.std.specs.Prelude.{◌≡◌, Some, pos, negsuc}
use Rattle.std.proofs.Common.{◌∙◌, ap, subst, length}
use Rattle.std.proofs.lemmas.Int.{to_z-of_z}
use mir.Syntax.{w128}
use Rattle.dbm_core.specs.Half.{entry, nodes}
use Rattle.dbm_core.specs.Nodes.{flip}
use Rattle.dbm_core.specs.Weights.{AtMost, add_weight}
use Rattle.dbm_incremental.specs.Ends.{HasEnds}
use Rattle.dbm_incremental.specs.Triangles.{edged}
use Rattle.dbm_incremental.proofs.EndsLemmas.{pass-weights, pass-within}
use Rattle.dbm_incremental.proofs.InsertLemmas.{kept-weights, negative-first, negative-second}
use Rattle.dbm_incremental.proofs.lowering.lower.Goals as goal

pub returns-then-is_not_above-clause-lowered : goal.returns-then-is_not_above-clause-lowered
returns-then-is_not_above-clause-lowered c = λ w k p.
    let l : AtMost c.get.result (Some c.args.bound) = rw (to_z-of_z w128 c.args.bound c.ranges.bound) at c.if-is_not_above.ensures.below in
    kept-weights w (entry c.args.weights.now) (length c.args.weights.now.kinds) c.args.i c.args.j c.args.bound k c.requires.row c.requires.column p
    (subst (λ v. AtMost v (Some c.args.bound)) c.get.ensures.bound l)

pub returns-then-is_negative-clause-lowered : goal.returns-then-is_negative-clause-lowered
returns-then-is_negative-clause-lowered c = λ w k p.
    let s : c.plus.result ≡ add_weight (Some c.args.bound) c.get-2.result = c.plus.ensures.sum ∙ ap (λ v. add_weight (Some v) c.get-2.result) (to_z-of_z w128 c.args.bound c.ranges.bound) in
    negative-first w (entry c.args.weights.now) (nodes c.args.weights.now) c.args.i c.args.j c.args.bound c.requires.row c.requires.column p.weights
    (subst (λ v. AtMost v (Some (negsuc 0))) (s ∙ ap (add_weight (Some c.args.bound)) c.get-2.ensures.bound) c.if-is_negative.ensures.negative)

pub returns-then-is_negative-2-clause-lowered : goal.returns-then-is_negative-2-clause-lowered
returns-then-is_negative-2-clause-lowered c = λ w k p.
    let s : c.plus-2.result ≡ add_weight (Some c.args.bound) c.over_edge-around.result = c.plus-2.ensures.sum ∙ ap (λ v. add_weight (Some v) c.over_edge-around.result) (to_z-of_z w128 c.args.bound c.ranges.bound) in
    let e : c.over_edge-around.result ≡ edged (entry c.args.weights.now) c.args.i c.args.j c.args.bound c.other_sign.result c.other_sign-2.result = rw (to_z-of_z w128 c.args.bound c.ranges.bound) at c.over_edge-around.ensures.bound in
    let f : c.over_edge-around.result ≡ edged (entry c.args.weights.now) c.args.i c.args.j c.args.bound (flip c.args.i) (flip c.args.j) =
    e ∙ ap (λ x. edged (entry c.args.weights.now) c.args.i c.args.j c.args.bound x c.other_sign-2.result) c.other_sign.ensures.flipped ∙ ap (λ x. edged (entry c.args.weights.now) c.args.i c.args.j c.args.bound (flip c.args.i) x) c.other_sign-2.ensures.flipped in
    negative-second w (entry c.args.weights.now) (length c.args.weights.now.kinds) c.args.i c.args.j c.args.bound c.requires.row c.requires.column p.weights
    (subst (λ v. AtMost v (Some (negsuc 0))) (s ∙ ap (add_weight (Some c.args.bound)) f) c.if-is_negative-2.ensures.negative)

pub returns-clause-lowered : goal.returns-clause-lowered
returns-clause-lowered c = λ w k p.
    let s : c.plus.result ≡ add_weight (Some c.args.bound) c.get-2.result = c.plus.ensures.sum ∙ ap (λ v. add_weight (Some v) c.get-2.result) (to_z-of_z w128 c.args.bound c.ranges.bound) in
    let t : c.plus-2.result ≡ add_weight (Some c.args.bound) c.over_edge-around.result = c.plus-2.ensures.sum ∙ ap (λ v. add_weight (Some v) c.over_edge-around.result) (to_z-of_z w128 c.args.bound c.ranges.bound) in
    let e : c.over_edge-around.result ≡ edged (entry c.args.weights.now) c.args.i c.args.j c.args.bound c.other_sign.result c.other_sign-2.result = rw (to_z-of_z w128 c.args.bound c.ranges.bound) at c.over_edge-around.ensures.bound in
    let f : c.over_edge-around.result ≡ edged (entry c.args.weights.now) c.args.i c.args.j c.args.bound (flip c.args.i) (flip c.args.j) =
    e ∙ ap (λ x. edged (entry c.args.weights.now) c.args.i c.args.j c.args.bound x c.other_sign-2.result) c.other_sign.ensures.flipped ∙ ap (λ x. edged (entry c.args.weights.now) c.args.i c.args.j c.args.bound (flip c.args.i) x) c.other_sign-2.ensures.flipped in
    let h : HasEnds (nodes c.args.weights.now) (entry c.args.weights.now) c.args.i c.args.j c.args.bound c.ends_of-ends.result = rw (to_z-of_z w128 c.args.bound c.ranges.bound) at c.ends_of-ends.ensures.bounds in
    pass-weights c.args.weights.now c.go_over.new.d c.ends_of-ends.result c.args.i c.args.j c.args.bound w c.kinds-slots.ensures.matrix c.go_over.ensures.matrix c.go_over.ensures.same_kinds c.requires.row c.requires.column h c.go_over.ensures.kept
    (subst (λ v. AtMost (Some (pos 0)) v) (s ∙ ap (add_weight (Some c.args.bound)) c.get-2.ensures.bound) c.if-is_negative.ensures.negative)
    (subst (λ v. AtMost (Some (pos 0)) v) (t ∙ ap (add_weight (Some c.args.bound)) f) c.if-is_negative-2.ensures.negative)
    k p

pub returns-clause-within : goal.returns-clause-within
returns-clause-within c = λ b p w.
    let h : HasEnds (nodes c.args.weights.now) (entry c.args.weights.now) c.args.i c.args.j c.args.bound c.ends_of-ends.result = rw (to_z-of_z w128 c.args.bound c.ranges.bound) at c.ends_of-ends.ensures.bounds in
    pass-within c.args.weights.now c.go_over.new.d c.ends_of-ends.result c.args.i c.args.j c.args.bound b c.go_over.ensures.matrix c.go_over.ensures.same_kinds c.requires.row c.requires.column h c.go_over.ensures.kept p w
