use Rattle.std.proofs.Common.{◌≡◌, Some, None, sym, ap, ◌∙◌}
use Rattle.state_table.specs.Marks.{rank}
use Rattle.daig_query.specs.declared.held.Held.{Held}
use Rattle.daig_query.specs.Swept.{held_by}
use Rattle.daig_query.proofs.Sweeping.{renumbered-on, renumbered-over}
use Rattle.daig_query.proofs.sweep.renumber_held.Goals.{in-Some, in_default}
use Rattle.daig_query.proofs.sweep.renumber_held.Goals as goal

pub loop-cell-preserved : goal.loop-cell-preserved
loop-cell-preserved g c =
    let number = rank c.args.states.now in
    let old = c.args.graph.now.cells in
    let now = c.loop-cell.graph.cells in
    let cell = c.loop-cell.cell in
    elim c.match-held_in.branch [
      | in-Some w ↦
          let held = w.in-Some.held in
          let holds : held_by now cell ≡ Some held = sym c.held_in.ensures.is ∙ w.in-Some.is in
          let later : Held = record { state = w.renumbered-state.result; index = held.index } in
          let is : later ≡ record held { state = number held.state } = ap (λ s. record held { state = s }) w.renumbered-state.ensures.is in
          rw w.graph-is (renumbered-on number old cell now w.replace_held.new.self.cells held later c.loop-cell.invariant holds is w.replace_held.ensures.replaces)
      | in_default w ↦
          let none : held_by now cell ≡ None = sym c.held_in.ensures.is ∙ w.in_default.is in
          rw w.graph-is (renumbered-over number old cell now c.loop-cell.invariant none)
    ]
