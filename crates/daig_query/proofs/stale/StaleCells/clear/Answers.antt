use Rattle.std.proofs.Common.{◌<◌, arith}
use Rattle.daig_query.proofs.StaleLists.{fresh_later}
use Rattle.daig_query.proofs.stale.StaleCells.clear.Goals as goal

pub returns-in-Some-clause-fresh : goal.returns-in-Some-clause-fresh
returns-in-Some-clause-fresh c =
    let later : c.self.inside.edit < c.in-Some.edit = omega (arith, c.in-Some.ensures.1) in
    fresh_later c.self.inside.edit c.in-Some.edit later c.self.inside.cells.items c.self.invariant
