use Rattle.std.specs.Prelude.{◌≡◌, ◌-ℤ◌, Some, FitsSigned}
use Rattle.std.proofs.Common.{rules, ◌∙◌, ap, to_z, of_z}
use Rattle.std.proofs.lemmas.Int.{to_z-of_z}
use mir.Syntax.{w128}
use Rattle.dbm_core.specs.Half.{entry}
use Rattle.dbm_core.specs.Weights.{add_weight}
use Rattle.dbm_incremental.specs.Equations.{stand_node, stand_shift}
use Rattle.dbm_incremental.proofs.equation.equated_entry.Goals as goal

pub returns : goal.returns
returns c =
    let f : FitsSigned w128 (c.shift_at.result -ℤ c.shift_at-2.result) = search rules in
    let fa : FitsSigned w128 c.shift_at.result = search rules in
    let fb : FitsSigned w128 c.shift_at-2.result = search rules in
    let a : c.shift_at.result ≡ stand_shift c.args.q c.args.c c.args.j = rw (to_z-of_z w128 c.args.c c.ranges.c) at c.shift_at.ensures.shift in
    let b : c.shift_at-2.result ≡ stand_shift c.args.q c.args.c c.args.i = rw (to_z-of_z w128 c.args.c c.ranges.c) at c.shift_at-2.ensures.shift in
    record {
      bound = c.plus.ensures.sum
          ∙ ap (λ v. add_weight c.get.result (Some (to_z w128 (of_z w128 (v -ℤ to_z w128 (of_z w128 c.shift_at-2.result)))))) (to_z-of_z w128 c.shift_at.result fa)
          ∙ ap (λ v. add_weight c.get.result (Some (to_z w128 (of_z w128 (c.shift_at.result -ℤ v))))) (to_z-of_z w128 c.shift_at-2.result fb)
          ∙ ap (λ v. add_weight c.get.result (Some v)) (to_z-of_z w128 (c.shift_at.result -ℤ c.shift_at-2.result) f)
          ∙ ap (λ v. add_weight c.get.result (Some (v -ℤ c.shift_at-2.result))) a
          ∙ ap (λ v. add_weight c.get.result (Some (stand_shift c.args.q c.args.c c.args.j -ℤ v))) b
          ∙ ap (λ v. add_weight v (Some (stand_shift c.args.q c.args.c c.args.j -ℤ stand_shift c.args.q c.args.c c.args.i)))
          (c.get.ensures.bound
          ∙ ap (λ v. entry c.args.m.now v c.stands_for-2.result) c.stands_for.ensures.node
          ∙ ap (λ v. entry c.args.m.now (stand_node c.args.q c.args.y c.args.i) v) c.stands_for-2.ensures.node);
    }
