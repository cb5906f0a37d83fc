use Rattle.dom_product_meaning.specs.Product.{product, covered_by_both}
use Rattle.dom_product_meaning.proofs.Laws.{product_laws}
use Rattle.batch_converges.proofs.Whole.{converges}
use Rattle.batch_product.specs.Claims.{later_of_both, changes_of_both}
use Rattle.batch_product.proofs.Changes.{pair_ending, pair_grows}
use Rattle.batch_product.proofs.laws.products_converge.Goals as goal

pub returns-clause-changes : goal.returns-clause-changes
returns-clause-changes g c = λ a b u v f h p q. pair_ending (g.A.Domain.operations a) (g.B.Domain.operations b) u v f h p q

pub returns-clause-end : goal.returns-clause-end
returns-clause-end g c = λ a b u v f h p q i j.
    converges (product (g.A.Domain.operations a) (g.B.Domain.operations b)) (covered_by_both (g.A.Domain.covers a) (g.B.Domain.covers b))
    (product_laws (g.A.Domain.operations a) (g.B.Domain.operations b) (g.A.Domain.covers a) (g.B.Domain.covers b) (g.met.A.Domain.laws a) (g.met.B.Domain.laws b))
    c.thresholds_rise.ensures.rising (later_of_both u v) (changes_of_both f h)
    (pair_ending (g.A.Domain.operations a) (g.B.Domain.operations b) u v f h p q) (pair_grows (g.A.Domain.operations a) (g.B.Domain.operations b) u v f h i j)
