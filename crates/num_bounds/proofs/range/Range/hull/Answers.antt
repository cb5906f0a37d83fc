use Rattle.std.proofs.Common.{rules, Option, IfSome, sym, subst}
use Rattle.num_bounds.specs.Bounds.{Bounds}
use Rattle.num_bounds.specs.Meaning.{IsJoin}
use Rattle.num_bounds.proofs.Lattice.{hull-join}
use Rattle.num_bounds.proofs.range.Range.hull.Goals as goal

pub returns-clause-exact : goal.returns-clause-exact
returns-clause-exact c = search rules

pub returns-clause-join : goal.returns-clause-join
returns-clause-join c = subst (λ (r : Option Bounds). IfSome r (IsJoin c.args.self c.args.other)) (sym (returns-clause-exact c)) (hull-join c.args.self c.args.other)
