use Rattle.std.proofs.Common.{ℕ, List, IsSome, get_or, sym, ap, ◌∙◌, subst}
use Rattle.std.proofs.lemmas.List.{take_all}
use Rattle.std.proofs.lemmas.Option.{slice_get-get_or}
use Rattle.std.specs.FinMap.{get}
use Rattle.daig_graph.specs.Cells.{IsUnused}
use Rattle.cell_removal.specs.Removal.{Cells, IsOrder, without}
use Rattle.cell_removal.proofs.Rest.{still_there, is_unused, one_more}
use Rattle.cell_removal.proofs.committing.commit.Goals as goal

pub remove-requires-clause-there : goal.remove-requires-clause-there
remove-requires-clause-there g c =
    let items = c.cells-cell-items.result.now in
    let i = c.loop-cell.cell-index in
    let P : List ℕ → Type 0 = λ xs. IsOrder c.args.graph.now.cells xs in
    let order : IsOrder c.args.graph.now.cells items = subst P (sym c.cells-cell-items.ensures.same) c.requires.order in
    let Q : Cells g.row.V.Denot → Type 0 = λ m. IsSome (get m (get_or items i 0)) in
    subst Q (sym c.loop-cell.invariant.cells) (still_there c.args.graph.now.cells items order i (get_or items i 0) (slice_get-get_or items i 0 c.loop-cell-test.true))

pub remove-requires-clause-unused : goal.remove-requires-clause-unused
remove-requires-clause-unused g c =
    let items = c.cells-cell-items.result.now in
    let i = c.loop-cell.cell-index in
    let P : List ℕ → Type 0 = λ xs. IsOrder c.args.graph.now.cells xs in
    let order : IsOrder c.args.graph.now.cells items = subst P (sym c.cells-cell-items.ensures.same) c.requires.order in
    let Q : Cells g.row.V.Denot → Type 0 = λ m. IsUnused m (get_or items i 0) in
    subst Q (sym c.loop-cell.invariant.cells) (is_unused c.args.graph.now.cells items order i (get_or items i 0) (slice_get-get_or items i 0 c.loop-cell-test.true))

pub loop-cell-preserved : goal.loop-cell-preserved
loop-cell-preserved g c = record {
  cells = one_more c.args.graph.now.cells c.loop-cell.graph.cells c.remove.new.self.cells c.cells-cell-items.result.now c.loop-cell.cell-index c.loop-cell-test.true c.loop-cell.invariant.cells c.remove.ensures.removes;
  places = c.remove.ensures.places ∙ c.loop-cell.invariant.places;
}

pub returns : goal.returns
returns g c = record {
  removes = c.loop-cell.invariant.cells ∙ ap (without c.args.graph.now.cells) (take_all c.loop-cell.cell-index c.cells-cell-items.result.now c.loop-cell-test.false ∙ c.cells-cell-items.ensures.same);
  places = c.loop-cell.invariant.places;
}
