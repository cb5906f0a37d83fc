use Rattle.std.proofs.Common.{◌≡◌, Some, None, refl, sym, ◌∙◌}
use Rattle.state_table.specs.Marks.{mark_count}
use Rattle.daig_query.specs.Swept.{held_by}
use Rattle.daig_query.proofs.Sweeping.{leaves-all, leaves-on, leaves-over, marked-none, marked-on, marked-over}
use Rattle.daig_query.proofs.sweep.mark_held.Goals.{in-Some, in_default}
use Rattle.daig_query.proofs.sweep.mark_held.Goals as goal

pub loop-cell-init : goal.loop-cell-init
loop-cell-init g c = record { states = refl; marked = marked-none c.args.graph.now.cells c.args.states.now; leaves = leaves-all c.args.graph.now.cells (mark_count c.args.states.now) }

pub loop-cell-preserved : goal.loop-cell-preserved
loop-cell-preserved g c =
    let cells = c.args.graph.now.cells in
    let cell = c.loop-cell.cell in
    let so_far = c.loop-cell.invariant in
    elim c.match-held_in.branch [
      | in-Some w ↦
          let holds : held_by cells cell ≡ Some w.in-Some.held = sym c.held_in.ensures.is ∙ w.in-Some.is in
          rw w.states-is (record {
            states = w.mark.ensures.states ∙ so_far.states;
            marked = marked-on cells cell c.loop-cell.states w.mark.new.self w.in-Some.held so_far.marked holds w.mark.ensures.marked w.mark.ensures.marks;
            leaves = leaves-on cells cell (mark_count c.args.states.now) (mark_count c.loop-cell.states) (mark_count w.mark.new.self) w.in-Some.held so_far.leaves holds w.mark.ensures.few;
          })
      | in_default w ↦
          let none : held_by cells cell ≡ None = sym c.held_in.ensures.is ∙ w.in_default.is in
          rw w.states-is (record {
            states = so_far.states;
            marked = marked-over cells cell c.loop-cell.states so_far.marked none;
            leaves = leaves-over cells cell (mark_count c.args.states.now) (mark_count c.loop-cell.states) so_far.leaves;
          })
    ]
