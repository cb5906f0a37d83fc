use Rattle.batch_product.proofs.Answers.{answers_pairs}
use Rattle.batch_product.proofs.laws.products_answer_pairs.Goals as goal

pub returns : goal.returns
returns g c = record { pair = λ a b. answers_pairs (g.A.Domain.operations a) (g.B.Domain.operations b) (g.met.A.Domain.laws a).same (g.met.B.Domain.laws b).same }
