use Rattle.dom_product.proofs.Decided.{states_decided}
use Rattle.dom_product.proofs.pair.Pair.share.Goals as goal

pub share-requires : goal.share-requires
share-requires g c = let d = c.self.inside.first in record { decided = states_decided (g.met.A.Domain.laws d).same (g.met.A.Domain.tests_equality d) }

pub share-requires-2 : goal.share-requires-2
share-requires-2 g c = let d = c.self.inside.second in record { decided = states_decided (g.met.B.Domain.laws d).same (g.met.B.Domain.tests_equality d) }
