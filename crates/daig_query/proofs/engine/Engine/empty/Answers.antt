use Rattle.std.proofs.Common.{refl, sym, ap, subst, ◌∙◌}
use Rattle.std.specs.FinMap.{get}
use Rattle.daig_query.specs.Stale.{AreStaleOf}
use Rattle.daig_query.proofs.Holding.{without_less}
use Rattle.daig_query.proofs.engine.Engine.empty.Goals as goal

pub returns-clause-stale : goal.returns-clause-stale
returns-clause-stale g c =
    let cells = c.args.self.now.store.graph.cells in
    subst (λ order. AreStaleOf cells order c.args.touched.now c.mark.new.self) c.cells.ensures.same c.mark.ensures.stale

pub returns-clause-lessens : goal.returns-clause-lessens
returns-clause-lessens g c = record {
  names = refl;
  states = refl;
  operations = refl;
  memo = refl;
  recent = refl;
  cells = λ n f e. without_less c.args.self.now.store.graph.cells c.args.plan n f (ap (λ m. get m n) (sym c.commit.ensures.removes) ∙ e);
}
