use Rattle.imp_check.specs.Slots.{routines_of}
use Rattle.daig_machine.proofs.Asking.{places_keep, question_keeps, report_keeps}
use Rattle.daig_machine.proofs.laws.questions_keep_cells.Goals as goal

pub returns : goal.returns
returns g c = record {
  question = λ d m place l string ts n checked e are. question_keeps (g.D.Domain.operations d) m.engine (routines_of m.program) checked m.kept are (c.rows_give_values.ensures.names d) l string place ts e n;
  places = λ d m ls n checked are. places_keep (g.D.Domain.operations d) m.engine (routines_of m.program) checked m.kept are (c.rows_give_values.ensures.names d) ls n;
  report = λ d m n checked are. report_keeps (g.D.Domain.operations d) m.engine (routines_of m.program) checked m.kept are (c.rows_give_values.ensures.names d) n;
}
