use Rattle.std.proofs.Common.{◌∙◌, ap, slice_set}
use Rattle.std.proofs.lemmas.List.{map-set}
use Rattle.concrete_sem.specs.Values.{Heap}
use Rattle.imp_run.specs.Store.{cell_of}
use Rattle.imp_run.proofs.store.Store.set_cell.Goals as goal

pub returns-then-at-len-clause-cells : goal.returns-then-at-len-clause-cells
returns-then-at-len-clause-cells c = map-set cell_of c.self.inside.cells.items c.args.at c.args.cell ∙ ap (λ (h : Heap). slice_set h.cells c.args.at (cell_of c.args.cell)) c.self.view_is
