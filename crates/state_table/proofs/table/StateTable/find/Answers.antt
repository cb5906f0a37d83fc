use Rattle.std.proofs.Common.{◌∙◌, ap, slice_get, position}
use Rattle.state_table.proofs.NumberLemmas.{distinct-once}
use Rattle.state_table.proofs.FindLemmas.{position-once, found-same}
use Rattle.state_table.proofs.table.StateTable.find.Goals as goal

pub returns-clause-found : goal.returns-clause-found
returns-clause-found g c n s at e =
    c.get_index_of.ensures.index ∙ position-once g.T.PartialEq.eq g.met.T.Eq.laws _ (distinct-once g.T.PartialEq.eq g.met.T.Eq.laws _ c.len-states.ensures.unique) c.args.state.now n s (ap (λ v. slice_get v n) c.self.view_is ∙ at) e

pub returns-clause-same : goal.returns-clause-same
returns-clause-same g c = found-same g.T.PartialEq.eq c.args.self.now c.args.state.now c.get_index_of.result (c.get_index_of.ensures.index ∙ ap (λ v. position (g.T.PartialEq.eq c.args.state.now) v) c.self.view_is)
