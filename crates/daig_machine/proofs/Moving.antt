-- What another program leaves.
use Rattle.std.proofs.Common.{◌≡◌, ◌↔◌, Bool, true, List, filter}
use Rattle.imp_slots.specs.Fits.{IsChecked}
use Rattle.domain_laws.specs.Operations.{Operations}
use Rattle.cell_names.specs.Paths.{CellName}
use Rattle.daig_order.specs.Order.{member}
use Rattle.cell_kept_set.specs.Touched.{Edit, IsKept}
use Rattle.cell_kept_set.proofs.ByNew.{is_right}
use Rattle.cell_kept_set.specs.KeptTest.{stays_kept}
use Rattle.cell_kept_set.proofs.KeptDecided.{kept_decides}
use Rattle.cell_graph.specs.Same.{same_name}
use Rattle.cell_graph.proofs.Same.{same_is}
use Rattle.daig_machine.specs.Claims.{AreKept}
use Rattle.daig_machine.proofs.Lists.{filter_holds, filter_there, filter_distinct}

module _ {S : Type 0} (dom : Operations S) (e : Edit) (co : IsChecked e.old) (cn : IsChecked e.new) (kept : List CellName) (are : AreKept dom e.engine e.old kept) where
  abbrev k : CellName → Bool
  k = member same_name kept

  abbrev pub left : List CellName
  left = filter (stays_kept dom e same_name k) kept

  pub left_is : (x : CellName) → (member same_name left x ≡ true) ↔ IsKept dom e same_name k x
  left_is x = (
    λ m. (kept_decides dom e same_name same_is co cn k are.cells x).0 (filter_holds same_name same_is.same_true (stays_kept dom e same_name k) kept x m),
    λ h. filter_there same_name same_is.same_true (stays_kept dom e same_name k) kept x h.had ((kept_decides dom e same_name same_is co cn k are.cells x).1 h),
  )

  pub move_keeps : AreKept dom e.engine e.new left
  move_keeps = record {
    cells = record {
      named = λ x m. (is_right dom e co cn same_name same_is k are.cells x ((left_is x).0 m)).named;
      closed = λ x y m i. (left_is y).1 ((is_right dom e co cn same_name same_is k are.cells x ((left_is x).0 m)).closed y i);
    };
    once = filter_distinct same_name (stays_kept dom e same_name k) kept are.once;
  }
