use Rattle.std.proofs.Common.{subst}
use Rattle.state_table.specs.Numbers.{AreOnce}
use Rattle.state_table.proofs.NumberLemmas.{distinct-once}
use Rattle.state_table.proofs.table.StateTable.len.Goals as goal

pub returns-clause-once : goal.returns-clause-once
returns-clause-once g c = subst (λ v. AreOnce g.T.PartialEq.eq v) c.self.view_is (distinct-once g.T.PartialEq.eq g.met.T.Eq.laws _ c.len.ensures.unique)
