use Rattle.std.proofs.Common.{rules, ◌≡◌, inl, inr, sym, ◌∙◌, ap, arith}
use Rattle.std.specs.Prelude.{decimal}
use Rattle.serve_command.proofs.NumberLemmas.{number_is, number_not_read, written_otherwise, written_so}
use Rattle.serve_command.proofs.values.number_in.Goals as goal

pub returns-in_default-clause-number : goal.returns-in_default-clause-number
returns-in_default-clause-number c =
    sym (number_not_read c.args.least c.args.most c.args.text.now c.parse.result (search rules) c.parse.ensures.value.0 (λ n is same low high. c.in_default.not-Ok n is))

pub returns-then-number-least-clause-number : goal.returns-then-number-least-clause-number
returns-then-number-least-clause-number c =
    sym (number_not_read c.args.least c.args.most c.args.text.now c.parse.result (search rules) c.parse.ensures.value.0
    (λ n is same low high. let read : c.in-Ok.number ≡ n = cc in elim c.then-number-least.either [ inl less ↦ omega arith | inr more ↦ omega arith ]))

pub returns-then-ne-clause-number : goal.returns-then-ne-clause-number
returns-then-ne-clause-number c =
    sym (number_not_read c.args.least c.args.most c.args.text.now c.parse.result (search rules) c.parse.ensures.value.0
    (λ n is same low high. let read : c.in-Ok.number ≡ n = cc in
    written_otherwise c.format.result.now c.args.text.now (c.if-ne.ensures {u = tt}) (c.format.ensures.text ∙ ap decimal read ∙ sym same)))

pub returns-clause-number : goal.returns-clause-number
returns-clause-number c =
    sym (number_is c.args.least c.args.most c.in-Ok.number c.args.text.now (search rules)
    (sym (written_so c.format.result.now c.args.text.now (c.if-ne.ensures {u = tt})) ∙ c.format.ensures.text) (search rules) (search rules))
