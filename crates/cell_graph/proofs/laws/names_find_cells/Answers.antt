use Rattle.cell_graph.proofs.Numbers.{filled_number, filled_named}
use Rattle.cell_graph.proofs.laws.names_find_cells.Goals as goal

pub returns : goal.returns
returns g c = record {
  by_number = λ cells names x n once e. filled_number cells names once x n e;
  by_name = λ cells names x f e. filled_named cells names x f e;
}
