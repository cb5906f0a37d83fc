use Rattle.std.proofs.Common.{refl}
use Rattle.imp_check.specs.Slots.{routines_of}
use Rattle.imp_edit.specs.Edited.{edited}
use Rattle.cell_kept_set.specs.Touched.{Edit}
use Rattle.daig_machine.proofs.Moving.{left_is, move_keeps}
use Rattle.daig_machine.proofs.Undoing.{undone_keeps}
use Rattle.daig_machine.proofs.laws.edits_are_undone.Goals as goal

pub returns : goal.returns
returns g c = record {
  back = λ d m e. refl;
  on = λ d m e. refl;
  keeps = λ d m e x co cn are k.
      let there : Edit = record { engine = m.engine; old = routines_of m.program; new = routines_of (edited e m.program) } in
      let back : Edit = record { engine = m.engine; old = routines_of (edited e m.program); new = routines_of m.program } in
      (left_is (g.D.Domain.operations d) back cn co _ (move_keeps (g.D.Domain.operations d) there co cn m.kept are) x).1 (undone_keeps (g.D.Domain.operations d) there co cn m.kept are x k);
}
