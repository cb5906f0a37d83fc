use Rattle.std.proofs.Common.{ap, rules}
use Rattle.indexmap.proofs.CallerLemmas.{filter-RetainsPairs}
use Rattle.state_table.specs.Marks.{is_mark, states_in}
use Rattle.state_table.proofs.NumberLemmas.{distinct-once}
use Rattle.state_table.proofs.sweep.keep_marked.Goals as goal

pub returns-clause-states : goal.returns-clause-states
returns-clause-states g c = ap states_in (filter-RetainsPairs _ (λ e. is_mark e.1) _ (λ k v b w f call. search rules) _ _ c.retain.ensures.filtered)

pub returns-clause-once : goal.returns-clause-once
returns-clause-once g c = distinct-once g.T.PartialEq.eq g.met.T.Eq.laws _ c.retain.ensures.unique
