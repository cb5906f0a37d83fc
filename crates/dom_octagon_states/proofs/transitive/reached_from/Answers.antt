use Rattle.std.specs.Prelude.{◌≡◌, false, slice_index_or, slice_set, refl}
use Rattle.std.proofs.Common.{arith, ap, below_more, get_or-set_other, get_or-set_same, length, length-set, ◌∙◌}
use Rattle.dbm_core.specs.Half.{entry}
use Rattle.dom_octagon_states.specs.Transitive.{is_bound}
use Rattle.dom_octagon_states.proofs.transitive.reached_from.Goals as goal

pub loop-j-init : goal.loop-j-init
loop-j-init c = record { size = refl; done = λ k l. absurd (omega arith) }

pub loop-j-preserved : goal.loop-j-preserved
loop-j-preserved c = record {
  size = length-set c.loop-j.reached c.loop-j.j c.is_bound.result ∙ c.loop-j.invariant.size;
  done = below_more (λ k. slice_index_or (slice_set c.loop-j.reached c.loop-j.j c.is_bound.result) k false ≡ is_bound (entry c.args.m.now c.args.i k)) c.loop-j.j
      (λ k l. get_or-set_other c.loop-j.reached c.loop-j.j k c.is_bound.result false (λ e. absurd (omega arith)) ∙ c.loop-j.invariant.done k l)
      (get_or-set_same c.loop-j.reached c.loop-j.j c.is_bound.result false (omega (arith, c.loop-j.invariant.size, c.kinds.ensures.matrix.few, ap length c.kinds.ensures.value)) ∙ c.is_bound.ensures.exact ∙ ap is_bound c.get.ensures.bound);
}
