use Rattle.std.proofs.Common.{ap, sym, ◌∙◌}
use Rattle.std.specs.FinMap.{len}
use Rattle.daig_graph.proofs.Maps.{map-len}
use Rattle.daig_graph.proofs.graph.Graph.kept_count.Goals as goal

pub returns : goal.returns
returns g c = record { count = sym (map-len _ _ _ _ c.self.invariant) ∙ ap (λ v. len v.cells) c.self.view_is }
