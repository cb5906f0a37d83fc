use Rattle.std.proofs.Common.{◌≡◌, ◌++◌, ◌∷◌, [], sym, ap, ◌∙◌, true, false, arith}
use Rattle.std.proofs.lemmas.Result.{err_from_is_err_and}
use Rattle.imp_parse.specs.Kinds.{kinds}
use Rattle.imp_parse.specs.Lists.{begun, with_front}
use Rattle.imp_parse.specs.ProgramReading.{declaration_at}
use Rattle.imp_parse.specs.Commas.{is_comma, commas_at}
use Rattle.imp_parse.proofs.Commas.{commas_go_on, commas_stop, commas_done}
use Rattle.imp_parse.proofs.Procedures.{declarations}
use Rattle.imp_parse.proofs.procedure.declarations.Goals as goal

pub each-init : goal.each-init
each-init c =
    let added : c.push.new.self ≡ c.args.first ∷ [] = c.in_ok-push.ensures.added ∙ ap (λ q. q ++ c.args.first ∷ []) c.new-found.ensures.empty in
    record { read = ap (λ q. with_front q (commas_at declaration_at (kinds c.args.tokens.now))) added; shorter = omega arith }

pub returns-in_err-one-clause-read : goal.returns-in_err-one-clause-read
returns-in_err-one-clause-read c =
    let p = err_from_is_err_and c.from_residual-in_err-one.result c.from_residual-in_err-one.ensures.1 in
    let begins : begun is_comma (kinds c.each.rest.now) ≡ true = sym c.begins_with_comma.ensures.is ∙ c.each-test.true in
    rw (p.1, p.2) (commas_stop declarations tt c.each.found (kinds c.each.rest.now) c.in_err-one.field-0.0 (with_front (c.args.first ∷ []) (commas_at declaration_at (kinds c.args.tokens.now))) begins c.in_err-one.ensures.read c.each.invariant.read)

pub each-preserved : goal.each-preserved
each-preserved c =
    let begins : begun is_comma (kinds c.each.rest.now) ≡ true = sym c.begins_with_comma.ensures.is ∙ c.each-test.true in
    record {
      read = rw (c.in_ok-push-2.ensures.added) (commas_go_on declarations tt c.each.found (kinds c.each.rest.now) ((c.in_ok-one.one, tt), kinds c.in_ok-one.left.now) (with_front (c.args.first ∷ []) (commas_at declaration_at (kinds c.args.tokens.now))) begins c.in_ok-one.ensures.read c.each.invariant.read);
      shorter = omega (arith, c.in_ok-one.ensures.shorter, c.each.invariant.shorter);
    }

pub returns-clause-read : goal.returns-clause-read
returns-clause-read c =
    let over : begun is_comma (kinds c.each.rest.now) ≡ false = sym c.begins_with_comma.ensures.is ∙ c.each-test.false in
    commas_done declarations tt c.each.found (kinds c.each.rest.now) (with_front (c.args.first ∷ []) (commas_at declaration_at (kinds c.args.tokens.now))) over c.each.invariant.read

pub returns-clause-shorter : goal.returns-clause-shorter
returns-clause-shorter c = omega (arith, c.each.invariant.shorter)
