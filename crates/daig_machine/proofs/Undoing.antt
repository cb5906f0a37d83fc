-- What an edit leaves its undoing leaves.
use Rattle.std.proofs.Common.{◌≡◌, true, List, sym}
use Rattle.imp_slots.specs.Fits.{IsChecked}
use Rattle.domain_laws.specs.Operations.{Operations}
use Rattle.cell_names.specs.Paths.{CellName}
use Rattle.cell_rows.specs.Claims.{IsUntouched}
use Rattle.daig_order.specs.Order.{member}
use Rattle.daig_order.specs.Leading.{LeadsTo, itself, through}
use Rattle.cell_kept_set.specs.Touched.{Edit, IsKept, IsTouchedByNew, old_system}
use Rattle.cell_kept_set.proofs.ByNew.{is_right, by_new}
use Rattle.cell_graph.specs.Same.{same_name}
use Rattle.cell_graph.proofs.Same.{same_is}
use Rattle.daig_machine.specs.Claims.{AreKept}
use Rattle.daig_machine.proofs.Moving.{left, left_is, move_keeps}

module _ {S : Type 0} (dom : Operations S) (e : Edit) (co : IsChecked e.old) (cn : IsChecked e.new) (kept : List CellName) (are : AreKept dom e.engine e.old kept) where
  abbrev back : Edit
  back = record { engine = e.engine; old = e.new; new = e.old }

  there : AreKept dom e.engine e.new (left dom e co cn kept are)
  there = move_keeps dom e co cn kept are

  untouched : (x : CellName) → member same_name (left dom e co cn kept are) x ≡ true → IsUntouched dom e.engine e.new e.old same_name x
  untouched x m =
      let h : IsKept dom e same_name (member same_name kept) x = (left_is dom e co cn kept are x).0 m in
      let r = is_right dom e co cn same_name same_is (member same_name kept) are.cells x h in
      record {
        old_row = r.row.other;
        new_row = r.row.row;
        in_old = r.named;
        in_new = are.cells.named x h.had;
        old_is = r.row.has;
        new_is = r.row.had;
        operation = sym r.row.operation;
        inputs = r.inputs;
      }

  free : (x : CellName) → LeadsTo (old_system dom back same_name) (IsTouchedByNew dom back same_name) x → member same_name (left dom e co cn kept are) x ≡ true → ⊥
  free x (itself _ t) m = t (untouched x m)
  free x (through y _ l i) m = free y l (there.cells.closed x y m i)

  pub undone_keeps : (x : CellName) → member same_name (left dom e co cn kept are) x ≡ true → IsKept dom back same_name (member same_name (left dom e co cn kept are)) x
  undone_keeps x m = (by_new dom back cn co same_name same_is (member same_name (left dom e co cn kept are)) there.cells x).1 (record { had = m; free = λ l. free x l m })
