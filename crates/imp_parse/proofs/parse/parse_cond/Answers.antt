use Rattle.std.proofs.lemmas.Result.{err_from_is_err_and}
use Rattle.imp_parse.specs.Languages.{ConditionText}
use Rattle.imp_parse.specs.Limits.{inside}
use Rattle.imp_parse.specs.Reading.{condition_at}
use Rattle.imp_parse.proofs.Conditions.{condition_exact, junction_on}
use Rattle.imp_parse.proofs.Texts.{Answers, scanned_answer, unscanned_answer}
use Rattle.imp_parse.proofs.parse.parse_cond.Goals as goal

pub returns-in_err-scanned-clause-only : goal.returns-in_err-scanned-clause-only
returns-in_err-scanned-clause-only c =
    let p = err_from_is_err_and c.from_residual.result c.from_residual.ensures.1 in
    rw (p.1, p.2) ((unscanned_answer ConditionText junction_on condition_at condition_exact inside c.args.text.now c.in_err-scanned.field-0.0 c.in_err-scanned.ensures.faulty).only)

abbrev answers : (c : goal.After-drop-scanned) → Answers ConditionText inside c.args.text.now c.judge.result
answers c = scanned_answer ConditionText junction_on condition_at condition_exact inside c.args.text.now c.in_ok-scanned.scanned c.in_ok-scanned.ensures.scanned _ c.readable.ensures.are c.whole_condition.result c.whole_condition.ensures.read c.judge.result c.judge.ensures.is

pub returns-clause-parsed : goal.returns-clause-parsed
returns-clause-parsed c = (answers c).parsed

pub returns-clause-faulty : goal.returns-clause-faulty
returns-clause-faulty c = (answers c).faulty

pub returns-clause-only : goal.returns-clause-only
returns-clause-only c = (answers c).only
