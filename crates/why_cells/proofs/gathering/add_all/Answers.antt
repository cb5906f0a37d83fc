use Rattle.std.proofs.Common.{ap, ◌∙◌}
use Rattle.why_cells.proofs.Gathers.{adding_new, adding_old}
use Rattle.why_cells.proofs.gathering.add_all.Goals as goal
use Rattle.why_cells.proofs.gathering.add_all.Goals.{then-not-has+in_ok-add+in_ok-push, else-not-has}

pub loop-cell-preserved : goal.loop-cell-preserved
loop-cell-preserved c =
    elim c.if-not-has.branch [
      | then-not-has+in_ok-add+in_ok-push w ↦
          adding_new c.args.cells.now.items c.args.more.now c.loop-cell.cells.items c.loop-cell.seen w.add.new.self c.if-not-has.seen c.if-not-has.cells.items c.loop-cell.cell-index _ c.has.result c.loop-cell-test.true c.loop-cell.invariant
          c.has.ensures.there w.if-not-has.true w.in_ok-add.ensures.puts w.seen-is (ap (λ v. v.items) w.cells-is ∙ w.in_ok-push.ensures.items)
      | else-not-has w ↦
          adding_old c.args.cells.now.items c.args.more.now c.loop-cell.cells.items c.loop-cell.seen c.if-not-has.seen c.if-not-has.cells.items c.loop-cell.cell-index _ c.has.result c.loop-cell-test.true c.loop-cell.invariant
          c.has.ensures.there w.if-not-has.false w.seen-is (ap (λ v. v.items) w.cells-is)
    ]
