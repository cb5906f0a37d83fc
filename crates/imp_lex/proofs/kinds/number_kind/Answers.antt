use Rattle.std.proofs.Common.{sym, ◌∙◌}
use Rattle.imp_lex.proofs.Digits.{too_great}
use Rattle.imp_lex.proofs.kinds.number_kind.Goals as goal

pub returns-then-value-digit : goal.returns-then-value-digit
returns-then-value-digit c = record { is = sym (too_great c.args.digits.now c.loop-digit.digit-index c.loop-digit.value c.from-digit.result c.loop-digit-test.true c.loop-digit.invariant.1 (c.from-digit.ensures ∙ c.saturating_sub.ensures) c.if-value-digit.true) }
