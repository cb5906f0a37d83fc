use Rattle.std.proofs.Common.{List, ℕ, sym, subst}
use Rattle.edit_invalidate.specs.Touched.{AreTouched, IsTouched}
use Rattle.daig_graph.specs.Held.{IsIn}
use Rattle.edit_invalidate.proofs.Adding.{touched_cells, removes_same}
use Rattle.edit_invalidate.proofs.planning.plan.Goals as goal

pub removal-requires-clause-cells : goal.removal-requires-clause-cells
removal-requires-clause-cells g c =
    let are : AreTouched c.args.old.now c.args.new.now c.args.names.now.names c.args.graph.now.cells c.args.changed.now c.as_slice.result.now =
    subst (λ (xs : List ℕ). AreTouched c.args.old.now c.args.new.now c.args.names.now.names c.args.graph.now.cells c.args.changed.now xs) (sym c.as_slice.ensures.value) c.in_ok-touched.ensures.are in
    touched_cells c.args.old.now c.args.new.now c.args.names.now.names c.args.graph.now.cells c.args.changed.now c.as_slice.result.now are

pub returns : goal.returns
returns g c =
    let are : AreTouched c.args.old.now c.args.new.now c.args.names.now.names c.args.graph.now.cells c.args.changed.now c.as_slice.result.now =
    subst (λ (xs : List ℕ). AreTouched c.args.old.now c.args.new.now c.args.names.now.names c.args.graph.now.cells c.args.changed.now xs) (sym c.as_slice.ensures.value) c.in_ok-touched.ensures.are in
    record {
      removes = removes_same c.args.graph.now.cells (IsIn c.as_slice.result.now) (IsTouched c.args.old.now c.args.new.now c.args.names.now.names c.args.graph.now.cells c.args.changed.now) c.in_ok-order.order are c.in_ok-order.ensures.removes;
      touched = subst (λ (xs : List ℕ). AreTouched c.args.old.now c.args.new.now c.args.names.now.names c.args.graph.now.cells c.args.changed.now xs) (sym c.from_vec.ensures.same) c.in_ok-touched.ensures.are;
    }
