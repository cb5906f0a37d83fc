use Rattle.std.proofs.Common.{ap}
use Rattle.daig_graph.specs.Cells.{is_owned}
use Rattle.daig_graph.proofs.Agreeing.{cells-owned}
use Rattle.daig_graph.proofs.Filtering.{once-filter}
use Rattle.daig_graph.proofs.graph.Graph.cells_of_statement.Goals as goal

pub returns-clause-once : goal.returns-clause-once
returns-clause-once g c = once-filter (is_owned c.args.self.now.cells c.args.statement) c.items.result c.items.ensures.once

pub returns-clause-cells : goal.returns-clause-cells
returns-clause-cells g c = cells-owned _ _ _ _ c.self.invariant c.args.self.now.cells (ap (λ v. v.cells) c.self.view_is) c.args.statement c.bucket.result c.items.result c.bucket.ensures.is c.items.ensures.items
