use Rattle.std.proofs.Common.{ap, sym, ◌∙◌}
use Rattle.daig_graph.proofs.Agreeing.{owned-some, owned-none}
use Rattle.daig_graph.proofs.graph.Graph.is_owned.Goals as goal

pub returns-in-Some : goal.returns-in-Some
returns-in-Some g c = record { is = owned-some _ _ _ _ c.self.invariant c.args.self.now.cells (ap (λ v. v.cells) c.self.view_is) c.args.statement c.args.cell c.in-Some.owner (sym c.owner.ensures.owner ∙ c.in-Some.is) }

pub returns-in-None : goal.returns-in-None
returns-in-None g c = record { is = owned-none _ _ _ _ c.self.invariant c.args.self.now.cells (ap (λ v. v.cells) c.self.view_is) c.args.statement c.args.cell (sym c.owner.ensures.owner ∙ c.in-None.is) }
