use Rattle.std.proofs.Common.{◌∙◌, arith}
use Rattle.std.proofs.lemmas.Grind.{common_steps}
use Rattle.imp_parse.specs.Kinds.{kinds}
use Rattle.imp_parse.proofs.Expressions.{factor_eq}
use Rattle.imp_parse.proofs.expression.+expression.Goals as goal

pub factor-returns-in_default-clause-read : goal.factor-returns-in_default-clause-read
factor-returns-in_default-clause-read t c = factor_eq (kinds c.args.tokens.now) ∙ grind (arith, common_steps)
