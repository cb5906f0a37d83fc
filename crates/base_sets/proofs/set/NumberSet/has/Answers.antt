use Rattle.std.proofs.Common.{arith}
use Rattle.base_sets.proofs.Below.{has_by, has_past}
use Rattle.base_sets.proofs.set.NumberSet.has.Goals as goal

pub returns-then-word-len : goal.returns-then-word-len
returns-then-word-len c = record { there = has_by c.self.inside.words.items c.args.self.now c.args.number c.index.result.now (omega (arith, c.if-word-len.true, c.len.ensures, c.self.inside.words.ok.0)) c.index.ensures c.self.view_is }

pub returns-else-word-len : goal.returns-else-word-len
returns-else-word-len c = record { there = has_past c.self.inside.words.items c.args.self.now c.args.number (omega (arith, c.if-word-len.false, c.len.ensures, c.self.inside.words.ok.0)) c.self.view_is }
