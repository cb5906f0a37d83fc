use Rattle.std.proofs.Common.{ap}
use Rattle.daig_graph.proofs.Agreeing.{use-is}
use Rattle.daig_graph.proofs.graph.Graph.dependents.Goals as goal

pub returns-clause-uses : goal.returns-clause-uses
returns-clause-uses g c u =
    let held = c.uses.ensures.uses u in
    let put = use-is _ _ _ _ c.self.invariant c.args.self.now.cells (ap (λ v. v.cells) c.self.view_is) c.args.cell u in
    (λ h. put.0 (held.0 h), λ h. held.1 (put.1 h))
