use Rattle.std.proofs.Common.{List, ap, ◌∙◌}
use Rattle.imp_syntax.specs.Plain.{Procedure}
use Rattle.imp_check.specs.Entries.{sites_of}
use Rattle.imp_table.proofs.ViewLemmas.{site_of, no_site, site_gone}
use Rattle.imp_table.proofs.view.View.sites.Goals as goal

pub returns-in-Some-clause-is : goal.returns-in-Some-clause-is
returns-in-Some-clause-is c = λ l.
    let e = c.self.invariant.right.calls ∙ ap (λ (ps : List Procedure). sites_of ps) c.self.view_is in
    c.as_slice.ensures.same ∙ site_of c.args.self.now c.self.inside.sites.now c.place.result c.args.proc c.in-Some.sites.now e c.place.ensures.is c.in-Some.ensures.lookup.3.0 c.in-Some.ensures.lookup.1 l

pub returns-in-Some-clause-none : goal.returns-in-Some-clause-none
returns-in-Some-clause-none c = λ l.
    let e = c.self.invariant.right.calls ∙ ap (λ (ps : List Procedure). sites_of ps) c.self.view_is in
    absurd (no_site c.args.self.now c.self.inside.sites.now c.place.result c.args.proc e c.place.ensures.is c.in-Some.ensures.lookup.3.0 l)

pub returns-in-None-clause-is : goal.returns-in-None-clause-is
returns-in-None-clause-is c = λ l.
    let e = c.self.invariant.right.calls ∙ ap (λ (ps : List Procedure). sites_of ps) c.self.view_is in
    absurd (site_gone c.args.self.now c.self.inside.sites.now c.place.result c.args.proc e c.place.ensures.is c.in-None.ensures.lookup.3 l)
