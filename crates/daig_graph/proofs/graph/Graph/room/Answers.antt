use Rattle.std.proofs.Common.{ap, arith}
use Rattle.daig_graph.proofs.Agreeing.{cell-below}
use Rattle.daig_graph.proofs.graph.Graph.room.Goals as goal

pub returns : goal.returns
returns g c = record {
  places = omega (arith, c.len.ensures, ap (λ v. v.places) c.self.view_is);
  room = λ n h. omega (arith, cell-below _ _ _ _ c.self.invariant c.args.self.now.cells (ap (λ v. v.cells) c.self.view_is) n h, c.len.ensures);
}
