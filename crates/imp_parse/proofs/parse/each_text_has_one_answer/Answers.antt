use Rattle.imp_parse.specs.Languages.{ProgramText, ProcedureText, BodyText, SimpleText, ConditionText}
use Rattle.imp_parse.specs.Limits.{inside, outside}
use Rattle.imp_parse.specs.Reading.{condition_at}
use Rattle.imp_parse.specs.StatementReading.{numbered_at, body_at}
use Rattle.imp_parse.specs.ProgramReading.{begins_procedure, procedure_at, program_at}
use Rattle.imp_parse.proofs.Pack.{never}
use Rattle.imp_parse.proofs.Conditions.{junction_on, condition_exact}
use Rattle.imp_parse.proofs.Blocks.{statements_on}
use Rattle.imp_parse.proofs.Wholes.{body_exact, numbered_exact}
use Rattle.imp_parse.proofs.Procedures.{procedure_exact, program_exact}
use Rattle.imp_parse.proofs.Texts.{one_answer}
use Rattle.imp_parse.proofs.parse.each_text_has_one_answer.Goals as goal

pub returns-clause-program : goal.returns-clause-program
returns-clause-program c = one_answer ProgramText begins_procedure program_at program_exact outside c.each_text_has_one_answer.ensures.one

pub returns-clause-procedure : goal.returns-clause-procedure
returns-clause-procedure c = λ n. one_answer (ProcedureText n) never (procedure_at n) (procedure_exact n) outside c.each_text_has_one_answer.ensures.one

pub returns-clause-body : goal.returns-clause-body
returns-clause-body c = λ n. one_answer (BodyText n) statements_on (body_at n) (body_exact n) inside c.each_text_has_one_answer.ensures.one

pub returns-clause-simple : goal.returns-clause-simple
returns-clause-simple c = λ n. one_answer (SimpleText n) never (numbered_at n) (numbered_exact n) inside c.each_text_has_one_answer.ensures.one

pub returns-clause-condition : goal.returns-clause-condition
returns-clause-condition c = one_answer ConditionText junction_on condition_at condition_exact inside c.each_text_has_one_answer.ensures.one
