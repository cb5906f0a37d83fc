use Rattle.std.proofs.Common.{slice_get, refl, sym, ap, subst, ◌∙◌}
use Rattle.std.proofs.lemmas.Option.{same_Some, slice_get_within}
use Rattle.std.proofs.lemmas.Result.{err_from_is_err_and}
use Rattle.daig_machine.specs.Machine.{Machine}
use Rattle.daig_machine.specs.Turns.{missing_asked, IsBetween}
use Rattle.daig_tickets.specs.declared.tickets.OpenTicket.{OpenTicket}
use Rattle.daig_tickets.specs.Tickets.{ticket}
use Rattle.daig_session.specs.declared.book.Book.{Book}
use Rattle.daig_session.specs.declared.course.Course.{Course}
use Rattle.daig_session.specs.declared.course.Course.TheVariants.{Along}
use Rattle.daig_session.specs.Books.{flow_in}
use Rattle.daig_session.specs.Going.{HasComeFar, IsOfKind}
use Rattle.daig_session.specs.Holds.{Holds, IsReady}
use Rattle.daig_session.specs.Tours.{IsSomeFilled, places_in}
use Rattle.daig_session.specs.Turns.{IsPending, IsToJudge}
use Rattle.daig_session.proofs.Along.{between_places, further_ready, further_tickets, still_pending, to_judge}
use Rattle.daig_session.proofs.Reporting.{cost_here}
use Rattle.daig_session.proofs.parts.Parts.step_along.Goals as goal

pub returns-in_err-progress-clause-steps : goal.returns-in_err-progress-clause-steps
returns-in_err-progress-clause-steps g c = λ m o h e.
    let s = c.args.self.now in
    let ops = g.D.Domain.operations in
    let dom = ops s.engine.domain in
    let new = c.fill_tour.new.self in
    let is = subst (λ (x : OpenTicket Course). IsOfKind x.question c.args.tour.kind) (same_Some c.requires.there.one o (sym c.requires.there.there ∙ e)) c.requires.there.course.0 in
    let cost = ap (λ (b : Book). b.cost) c.fill_tour.ensures.book ∙ cost_here dom s.engine.store s.book m h in
    let p = err_from_is_err_and c.from_residual.result c.from_residual.ensures.1 in
    rw (p.1, p.2) (subst (λ d. IsBetween (missing_asked dom o.question m) m (Holds (ops d) new.engine.store new.book)) (sym c.fill_tour.ensures.setup.0) (
    between_places dom m new.engine.store new.book cost (ticket o) c.args.tour.kind is (c.fill_tour.ensures.keeps_part m h)))

pub returns-then-progress-clause-steps : goal.returns-then-progress-clause-steps
returns-then-progress-clause-steps g c = λ m o h e.
    let s = c.args.self.now in
    let ops = g.D.Domain.operations in
    let dom = ops s.engine.domain in
    let new = c.fill_tour.new.self in
    let is = subst (λ (x : OpenTicket Course). IsOfKind x.question c.args.tour.kind) (same_Some c.requires.there.one o (sym c.requires.there.there ∙ e)) c.requires.there.course.0 in
    let cost = ap (λ (b : Book). b.cost) c.fill_tour.ensures.book ∙ cost_here dom s.engine.store s.book m h in
    let n = c.in_ok-progress.progress.filled in
    subst (λ d. IsToJudge dom m (Holds (ops d) new.engine.store new.book) (ticket o) c.args.most c.args.tour.kind n) (sym c.fill_tour.ensures.setup.0) (
    to_judge dom m new.engine.store new.book cost (ticket o) c.args.tour.kind is c.args.most n
    (subst (IsSomeFilled dom m new.engine.store new.book (places_in c.args.tour.kind m) c.args.most n) c.if-progress.true (c.in_ok-progress.ensures.fills m h)))

pub put_going-requires : goal.put_going-requires
put_going-requires g c =
    let new = c.fill_tour.new.self in
    let there = ap (λ (b : Book). slice_get b.tickets.open_ones.items c.args.place) c.fill_tour.ensures.book ∙ c.requires.there.there in
    record { there = slice_get_within new.book.tickets.open_ones.items c.args.place c.requires.there.one there }

pub returns-clause-ready : goal.returns-clause-ready
returns-clause-ready g c =
    let new = c.fill_tour.new.self in
    let one = c.requires.there.one in
    let there = ap (λ (b : Book). slice_get b.tickets.open_ones.items c.args.place) c.fill_tour.ensures.book ∙ c.requires.there.there in
    let ts = record new.book.tickets { open_ones = c.put_going.new.open_ones } in
    further_ready (g.D.Domain.operations new.engine.domain) new.engine.store new.book c.args.place one there (Along c.fill_tour.new.tour) ts refl (c.put_going.ensures.put one there) c.fill_tour.ensures.ready
    (subst (IsOfKind one.question) (sym c.fill_tour.ensures.kind) c.requires.there.course.0, c.in_ok-progress.ensures.tour)
    c.in_ok-progress.progress.filled

pub returns-clause-steps : goal.returns-clause-steps
returns-clause-steps g c = λ m o h e.
    let s = c.args.self.now in
    let ops = g.D.Domain.operations in
    let dom = ops s.engine.domain in
    let new = c.fill_tour.new.self in
    let is = subst (λ (x : OpenTicket Course). IsOfKind x.question c.args.tour.kind) (same_Some c.requires.there.one o (sym c.requires.there.there ∙ e)) c.requires.there.course.0 in
    let cost = ap (λ (b : Book). b.cost) c.fill_tour.ensures.book ∙ cost_here dom s.engine.store s.book m h in
    let n = c.in_ok-progress.progress.filled in
    let there = ap (λ (b : Book). slice_get b.tickets.open_ones.items c.args.place) c.fill_tour.ensures.book ∙ e in
    let ts = record new.book.tickets { open_ones = c.put_going.new.open_ones } in
    let same = further_tickets dom new.engine.store new.book c.args.place o there (Along c.fill_tour.new.tour) ts refl (c.put_going.ensures.put o there) in
    subst (λ d. IsPending dom m (Holds (ops d) new.engine.store (record new.book { tickets = ts; cost = n })) (ticket o) c.args.most n) (sym c.fill_tour.ensures.setup.0) (
    still_pending dom m new.engine.store new.book cost (ticket o) c.args.tour.kind is c.args.most n
    (subst (IsSomeFilled dom m new.engine.store new.book (places_in c.args.tour.kind m) c.args.most n) c.if-progress.false (c.in_ok-progress.ensures.fills m h)) ts same refl)
