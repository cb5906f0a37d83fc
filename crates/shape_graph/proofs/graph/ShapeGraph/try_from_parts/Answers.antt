use Rattle.std.proofs.Common.{rules, ◌≡◌, length}
use Rattle.shape_graph.proofs.Below.{graph-from, not-rows, not-atoms, not_true, is_true}
use Rattle.shape_graph.proofs.graph.ShapeGraph.try_from_parts.Goals as goal
use Rattle.shape_graph.proofs.graph.ShapeGraph.try_from_parts.Goals.{else-rows_below-via-then-rows_below+else-atoms_below, else-rows_below-via-else-rows_below}

pub from_parts-requires : goal.from_parts-requires
from_parts-requires c =
    let n : c.len.result ≡ length c.args.atoms.items = search (rules, c.len.ensures) in
    let m : c.len-then-rows_below.result ≡ length c.args.atoms.items = search (rules, c.len-then-rows_below.ensures) in
    record {
      is_graph = graph-from _ _ _ _ _ _ c.deref.ensures.value c.deref-then-rows_below.ensures.value n m
          (is_true _ c.rows_below.result c.rows_below.ensures.below c.if-rows_below.true) (is_true _ c.atoms_below.result c.atoms_below.ensures.below c.if-atoms_below.true);
    }

pub returns-else-rows_below-clause-refused : goal.returns-else-rows_below-clause-refused
returns-else-rows_below-clause-refused c =
    elim c.else-rows_below.branch [
      | else-rows_below-via-then-rows_below+else-atoms_below w ↦
          let m : w.len-then-rows_below.result ≡ length c.args.atoms.items = search (rules, w.len-then-rows_below.ensures) in
          not-atoms _ _ _ _ w.deref-then-rows_below.ensures.value m (not_true _ w.atoms_below.result w.atoms_below.ensures.below w.if-atoms_below.false)
      | else-rows_below-via-else-rows_below w ↦
          let n : c.len.result ≡ length c.args.atoms.items = search (rules, c.len.ensures) in
          not-rows _ _ _ _ c.deref.ensures.value n (not_true _ c.rows_below.result c.rows_below.ensures.below w.if-rows_below.false)
    ]
