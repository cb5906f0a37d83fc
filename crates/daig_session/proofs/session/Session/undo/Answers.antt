use Rattle.daig_session.proofs.session.Session.undo.Goals as goal

pub returns-clause-goes : goal.returns-clause-goes
returns-clause-goes g c = rw (← c.self.view_is) c.go.ensures.goes
