use Rattle.std.proofs.Common.{sym, ◌∙◌}
use Rattle.serve_answers.proofs.readings.texts_are_read.Goals as goal

pub returns-clause-there : goal.returns-clause-there
returns-clause-there c =
    let one = c.each_text_has_one_answer.ensures in
    record {
      program = record { answer = λ text. (one.program text).0; exact = λ text. (one.program text).1 };
      simple = λ next. record { answer = λ text. (one.simple next text).0; exact = λ text. (one.simple next text).1 };
      statements = λ next. record { answer = λ text. (one.body next text).0; exact = λ text. (one.body next text).1 };
      condition = record { answer = λ text. (one.condition text).0; exact = λ text. (one.condition text).1 };
      procedure = λ next. record { answer = λ text. (one.procedure next text).0; exact = λ text. (one.procedure next text).1 };
    }

pub returns-clause-only_program : goal.returns-clause-only_program
returns-clause-only_program c = λ a b text.
    let one = c.each_text_has_one_answer.ensures.program text in
    one.2 (a.program.answer text) (a.program.exact text) ∙ sym (one.2 (b.program.answer text) (b.program.exact text))

pub returns-clause-only_simple : goal.returns-clause-only_simple
returns-clause-only_simple c = λ a b next text.
    let one = c.each_text_has_one_answer.ensures.simple next text in
    one.2 ((a.simple next).answer text) ((a.simple next).exact text) ∙ sym (one.2 ((b.simple next).answer text) ((b.simple next).exact text))

pub returns-clause-only_statements : goal.returns-clause-only_statements
returns-clause-only_statements c = λ a b next text.
    let one = c.each_text_has_one_answer.ensures.body next text in
    one.2 ((a.statements next).answer text) ((a.statements next).exact text) ∙ sym (one.2 ((b.statements next).answer text) ((b.statements next).exact text))

pub returns-clause-only_condition : goal.returns-clause-only_condition
returns-clause-only_condition c = λ a b text.
    let one = c.each_text_has_one_answer.ensures.condition text in
    one.2 (a.condition.answer text) (a.condition.exact text) ∙ sym (one.2 (b.condition.answer text) (b.condition.exact text))

pub returns-clause-only_procedure : goal.returns-clause-only_procedure
returns-clause-only_procedure c = λ a b next text.
    let one = c.each_text_has_one_answer.ensures.procedure next text in
    one.2 ((a.procedure next).answer text) ((a.procedure next).exact text) ∙ sym (one.2 ((b.procedure next).answer text) ((b.procedure next).exact text))
