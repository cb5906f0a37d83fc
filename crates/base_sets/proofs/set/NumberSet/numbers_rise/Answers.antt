use Rattle.std.proofs.Common.{subst, length, ◌*◌}
use Rattle.base_sets.specs.Sets.{Strict}
use Rattle.base_sets.proofs.Below.{below_strict}
use Rattle.base_sets.proofs.set.NumberSet.numbers_rise.Goals as goal

pub returns : goal.returns
returns c = record { rise = subst Strict c.self.view_is (below_strict c.self.inside.words.items (64 * length c.self.inside.words.items)) }
