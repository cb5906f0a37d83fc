use Rattle.dom_product_meaning.proofs.Laws.{product_laws, product_keeps_dead}
use Rattle.dom_product_meaning.proofs.products_are_domains.Goals as goal

pub returns : goal.returns
returns g c = record {
  laws = λ a b. product_laws (g.A.Domain.operations a) (g.B.Domain.operations b) (g.A.Domain.covers a) (g.B.Domain.covers b) (g.met.A.Domain.laws a) (g.met.B.Domain.laws b);
  keeps_dead = λ a b. product_keeps_dead (g.A.Domain.operations a) (g.B.Domain.operations b) (g.met.A.Domain.keeps_dead a) (g.met.B.Domain.keeps_dead b);
}
