use Rattle.std.proofs.Common.{◌≡◌, ◌++◌, ◌∷◌, [], sym, ap, ◌∙◌, true, false, arith}
use Rattle.std.proofs.lemmas.Result.{err_from_is_err_and}
use Rattle.imp_parse.specs.Kinds.{kinds}
use Rattle.imp_parse.specs.Lists.{begun, with_front}
use Rattle.imp_parse.specs.ProgramReading.{begins_procedure, procedures_at}
use Rattle.imp_parse.proofs.Procedures.{procedures_go_on, procedures_stop, procedures_done}
use Rattle.imp_parse.proofs.procedure.procedures.Goals as goal

pub each-init : goal.each-init
each-init c =
    let added : c.push.new.self ≡ c.args.first ∷ [] = c.in_ok-push.ensures.added ∙ ap (λ q. q ++ c.args.first ∷ []) c.new-found.ensures.empty in
    record { read = ap (λ q. with_front q (procedures_at c.args.number (kinds c.args.tokens.now))) added; numbers = omega arith }

pub returns-in_err-one : goal.returns-in_err-one
returns-in_err-one c =
    let p = err_from_is_err_and c.from_residual-in_err-one.result c.from_residual-in_err-one.ensures.1 in
    let begins : begun begins_procedure (kinds c.each.rest.now) ≡ true = sym c.begins_procedure.ensures.is ∙ c.each-test.true in
    rw (p.1, p.2) (record { read = procedures_stop c.each.next c.each.found (kinds c.each.rest.now) c.in_err-one.field-0.0 (with_front (c.args.first ∷ []) (procedures_at c.args.number (kinds c.args.tokens.now))) begins c.in_err-one.ensures.read c.each.invariant.read })

pub each-preserved : goal.each-preserved
each-preserved c =
    let begins : begun begins_procedure (kinds c.each.rest.now) ≡ true = sym c.begins_procedure.ensures.is ∙ c.each-test.true in
    record {
      read = rw (c.in_ok-push-2.ensures.added) (procedures_go_on c.each.next c.each.found (kinds c.each.rest.now) ((c.in_ok-one.one, c.in_ok-one.after), kinds c.in_ok-one.left.now) (with_front (c.args.first ∷ []) (procedures_at c.args.number (kinds c.args.tokens.now))) begins c.in_ok-one.ensures.read c.each.invariant.read);
      numbers = omega (arith, c.in_ok-one.ensures.numbers, c.each.invariant.numbers);
    }

pub returns : goal.returns
returns c =
    let over : begun begins_procedure (kinds c.each.rest.now) ≡ false = sym c.begins_procedure.ensures.is ∙ c.each-test.false in
    record { read = procedures_done c.each.next c.each.found (kinds c.each.rest.now) (with_front (c.args.first ∷ []) (procedures_at c.args.number (kinds c.args.tokens.now))) over c.each.invariant.read }
