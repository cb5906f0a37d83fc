use Rattle.std.proofs.Common.{length, ap, ◌∙◌}
use Rattle.state_table.specs.Marks.{mark_count}
use Rattle.state_table.proofs.MarkLemmas.{length-marked}
use Rattle.state_table.proofs.sweep.Sweep.finish.Goals as goal

pub returns-clause-count : goal.returns-clause-count
returns-clause-count g c = ap length c.keep_marked.ensures.states ∙ length-marked c.self.inside.states.entries ∙ ap mark_count c.self.view_is
