use Rattle.std.proofs.Common.{◌≡◌, true, subst}
use Rattle.std.specs.declared.cmp.Ordering.TheVariants.{Equal}
use Rattle.std.specs.Ordering.{eq_by_cmp}
use Rattle.shape_graph.specs.Shape.{Shape}
use Rattle.shape_graph.specs.Order.{shape_cmp, shape_total, shape_equiv, shape_cmp-same, shape_cmp-self, shape_eq-same, shape_hash-same}
use Rattle.shape_graph.proofs.laws.order_is_exact.Goals as goal

pub returns-clause-total : goal.returns-clause-total
returns-clause-total c = shape_total

pub returns-clause-ties : goal.returns-clause-ties
returns-clause-ties c = λ g h. (shape_cmp-same g h, λ e. subst (λ (x : Shape). shape_cmp g x ≡ Equal) e (shape_cmp-self g))

pub returns-clause-equality : goal.returns-clause-equality
returns-clause-equality c = λ g h. (shape_eq-same g h, λ e. subst (λ (x : Shape). eq_by_cmp shape_cmp g x ≡ true) e (shape_equiv.refl g))

pub returns-clause-hash : goal.returns-clause-hash
returns-clause-hash c = shape_hash-same
