use Rattle.std.proofs.Common.{◌+◌, ◌≤◌, false, length, ap, ◌∙◌, arith}
use Rattle.imp_parse.specs.Kinds.{kinds}
use Rattle.imp_parse.specs.Limits.{place, too_deep}
use Rattle.imp_parse.proofs.Texts.{few_tokens}
use Rattle.imp_parse.proofs.scanned.Scanned.new.Goals as goal

pub returns-clause-scanned : goal.returns-clause-scanned
returns-clause-scanned c =
    let few : 0 + length c.in_ok-tokens.tokens ≤ length c.args.text.now = few_tokens 0 (length c.args.text.now) c.in_ok-tokens.tokens c.in_ok-tokens.ensures.in_order (omega arith) in
    record {
      lexed = c.in_ok-tokens.ensures.lexed;
      only = c.in_ok-tokens.ensures.only;
      deep = c.first_too_deep-deep.ensures.is ∙ ap (λ q. too_deep q (kinds c.as_slice.result.now)) c.new.ensures.is ∙ ap (λ ts. too_deep (place c.args.depth 0 false) (kinds ts)) c.as_slice.ensures.same;
      few = omega (arith, few);
    }
