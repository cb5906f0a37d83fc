use Rattle.std.proofs.Common.{◌∙◌}
use Rattle.daig_session.specs.Books.{flow_in}
use Rattle.daig_session.proofs.Counted.{kept_counted}
use Rattle.daig_session.proofs.session.Session.kept_count.Goals as goal

pub returns : goal.returns
returns g c = rw (← c.self.view_is) (record {
  is = λ m h. c.kept_count.ensures.count ∙ kept_counted (g.D.Domain.operations c.self.inside.parts.engine.domain) (flow_in c.self.inside.parts.book) c.self.inside.parts.engine.store m.kept c.self.invariant.right h.same h.cells.once;
})
