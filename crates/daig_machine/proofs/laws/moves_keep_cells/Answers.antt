use Rattle.imp_check.specs.Slots.{routines_of}
use Rattle.daig_machine.proofs.Moving.{left_is, move_keeps}
use Rattle.daig_machine.proofs.laws.moves_keep_cells.Goals as goal

pub returns : goal.returns
returns g c = record {
  cells = λ d m program past future next co cn are. move_keeps (g.D.Domain.operations d) (record { engine = m.engine; old = routines_of m.program; new = routines_of program }) co cn m.kept are;
  leaves = λ d m program past future next x co cn are. left_is (g.D.Domain.operations d) (record { engine = m.engine; old = routines_of m.program; new = routines_of program }) co cn m.kept are x;
}
