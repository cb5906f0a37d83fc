use Rattle.std.proofs.lemmas.Option.{slice_get-get_or}
use Rattle.cell_names.specs.Paths.{name_in}
use Rattle.why_cells.proofs.Ways.{collects_next}
use Rattle.why_cells.proofs.seeds.with_fixes.Goals as goal

pub loop-cell-preserved : goal.loop-cell-preserved
loop-cell-preserved c =
    let names = c.args.names.now in
    collects_next names.names c.args.found.now c.loop-cell.cells.items c.push.new.self.items c.add_fixes.new.cells.items c.loop-cell.cell-index _ (name_in names.paths c.get-name.result)
    (slice_get-get_or c.args.found.now c.loop-cell.cell-index _ c.loop-cell-test.true) c.get-name.ensures.name c.loop-cell.invariant c.in_ok-push.ensures.items c.in_ok-add_fixes.ensures.adds
