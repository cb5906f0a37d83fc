use Rattle.std.proofs.Common.{◌≡◌, List, [], length, Some, slice_get, sym, ap, subst, ◌∙◌, take, drop, ℕ, ◌+◌, ◌-◌, ◌<◌, arith}
use Rattle.std.specs.Prelude.{IfSome}
use Rattle.imp_syntax.specs.declared.edit.Location.{Location}
use Rattle.imp_check.specs.Slots.{routines_of}
use Rattle.daig_session.specs.declared.book.Book.{Book}
use Rattle.daig_session.specs.declared.course.Tour.{Tour}
use Rattle.daig_session.specs.Books.{flow_in}
use Rattle.daig_session.specs.Going.{kind_places, IsAlong, IsFull, IsGoing}
use Rattle.daig_session.proofs.Rest.{all_full, along_more, next_shown, part_of_all, rest_shown, some_of_all}
use Rattle.daig_session.proofs.parts.Parts.fill_tour.Goals as goal

pub fill_places-requires-clause-next : goal.fill_places-requires-clause-next
fill_places-requires-clause-next g c =
    let s = c.args.self.now in
    let t = c.args.tour.now in
    let dom = g.D.Domain.operations s.engine.domain in
    let places = kind_places t.kind (routines_of s.book.history.now) in
    let rest = take (length c.as_slice.result.now - t.full) (drop t.full c.as_slice.result.now) in
    let is : rest ≡ drop t.full places = rest_shown t.full c.as_slice.result.now ∙ ap (drop t.full) (c.as_slice.ensures.same ∙ c.requires.tour.are) in
    next_shown t.full places rest is (λ l k. IsGoing dom (flow_in s.book) s.engine.store l [] k) 0 t.full (omega arith) t.going c.requires.tour.next

pub returns-in_err-reached-clause-keeps_part : goal.returns-in_err-reached-clause-keeps_part
returns-in_err-reached-clause-keeps_part g c = λ m h.
    let s = c.args.self.now in
    let t = c.args.tour.now in
    let dom = g.D.Domain.operations s.engine.domain in
    let new = c.fill_places.new.self in
    let rest = take (length c.as_slice.result.now - t.full) (drop t.full c.as_slice.result.now) in
    let is : rest ≡ drop t.full (kind_places t.kind (routines_of s.book.history.now)) = rest_shown t.full c.as_slice.result.now ∙ ap (drop t.full) (c.as_slice.ensures.same ∙ c.requires.tour.are) in
    part_of_all dom s.engine.store s.book t.kind rest t.full is c.requires.ready.right.checked c.requires.tour.full m h new.engine.store new.book (c.fill_places.ensures.keeps_part m h)

pub returns-clause-tour : goal.returns-clause-tour
returns-clause-tour g c =
    let s = c.args.self.now in
    let t = c.args.tour.now in
    let ops = g.D.Domain.operations in
    let new = c.fill_places.new.self in
    let next = c.fill_places.new.next in
    let r = c.in_ok-reached.reached in
    let at = c.in_ok-reached.ensures.reached in
    let places = kind_places t.kind (routines_of s.book.history.now) in
    let rest = take (length c.as_slice.result.now - t.full) (drop t.full c.as_slice.result.now) in
    let is : rest ≡ drop t.full places = rest_shown t.full c.as_slice.result.now ∙ ap (drop t.full) (c.as_slice.ensures.same ∙ c.requires.tour.are) in
    let full = λ (i : ℕ) (l : Location) (less : i < r.full) (there : slice_get rest i ≡ Some l).
    subst (λ d. IsFull (ops d) (flow_in s.book) new.engine.store l) c.fill_places.ensures.setup.0 (
    subst (λ (b : Book). IsFull (ops new.engine.domain) (flow_in b) new.engine.store l) c.fill_places.ensures.book (at.full i l less there)) in
    let come =
    subst (λ d. IfSome next (λ k. (l : Location) → slice_get rest r.full ≡ Some l → IsGoing (ops d) (flow_in s.book) new.engine.store l [] k)) c.fill_places.ensures.setup.0 (
    subst (λ (b : Book). IfSome next (λ k. (l : Location) → slice_get rest r.full ≡ Some l → IsGoing (ops new.engine.domain) (flow_in b) new.engine.store l [] k)) c.fill_places.ensures.book at.next_is) in
    let more : Tour = record { kind = t.kind; places = t.places; full = t.full + r.full; going = next } in
    subst (λ (b : Book). IsAlong (ops new.engine.domain) (flow_in b) new.engine.store (kind_places t.kind (routines_of b.history.now)) more) (sym c.fill_places.ensures.book) (
    subst (λ d. IsAlong (ops d) (flow_in s.book) new.engine.store places more) (sym c.fill_places.ensures.setup.0) (
    along_more (ops s.engine.domain) (flow_in s.book) s.engine.store new.engine.store places rest t c.requires.tour is c.fill_places.ensures.stays_kept r.full at.within full next come))

pub returns-clause-full : goal.returns-clause-full
returns-clause-full g c = λ done.
    let s = c.args.self.now in
    let t = c.args.tour.now in
    let ops = g.D.Domain.operations in
    let new = c.fill_places.new.self in
    let r = c.in_ok-reached.reached in
    let at = c.in_ok-reached.ensures.reached in
    let places = kind_places t.kind (routines_of s.book.history.now) in
    let rest = take (length c.as_slice.result.now - t.full) (drop t.full c.as_slice.result.now) in
    let is : rest ≡ drop t.full places = rest_shown t.full c.as_slice.result.now ∙ ap (drop t.full) (c.as_slice.ensures.same ∙ c.requires.tour.are) in
    let full = λ (i : ℕ) (l : Location) (less : i < r.full) (there : slice_get rest i ≡ Some l).
    subst (λ d. IsFull (ops d) (flow_in s.book) new.engine.store l) c.fill_places.ensures.setup.0 (
    subst (λ (b : Book). IsFull (ops new.engine.domain) (flow_in b) new.engine.store l) c.fill_places.ensures.book (at.full i l less there)) in
    subst (λ (b : Book). (i : ℕ) (l : Location) → slice_get (kind_places t.kind (routines_of b.history.now)) i ≡ Some l → IsFull (ops new.engine.domain) (flow_in b) new.engine.store l) (sym c.fill_places.ensures.book) (
    subst (λ d. (i : ℕ) (l : Location) → slice_get places i ≡ Some l → IsFull (ops d) (flow_in s.book) new.engine.store l) (sym c.fill_places.ensures.setup.0) (
    all_full (ops s.engine.domain) (flow_in s.book) s.engine.store new.engine.store places rest t c.requires.tour is c.fill_places.ensures.stays_kept r.full at.within full (at.ends done)))

pub returns-clause-keeps_part : goal.returns-clause-keeps_part
returns-clause-keeps_part g c = λ m h.
    let s = c.args.self.now in
    let t = c.args.tour.now in
    let dom = g.D.Domain.operations s.engine.domain in
    let new = c.fill_places.new.self in
    let rest = take (length c.as_slice.result.now - t.full) (drop t.full c.as_slice.result.now) in
    let is : rest ≡ drop t.full (kind_places t.kind (routines_of s.book.history.now)) = rest_shown t.full c.as_slice.result.now ∙ ap (drop t.full) (c.as_slice.ensures.same ∙ c.requires.tour.are) in
    part_of_all dom s.engine.store s.book t.kind rest t.full is c.requires.ready.right.checked c.requires.tour.full m h new.engine.store new.book (c.fill_places.ensures.keeps_part m h)

pub returns-clause-fills : goal.returns-clause-fills
returns-clause-fills g c = λ m h.
    let s = c.args.self.now in
    let t = c.args.tour.now in
    let dom = g.D.Domain.operations s.engine.domain in
    let new = c.fill_places.new.self in
    let r = c.in_ok-reached.reached in
    let rest = take (length c.as_slice.result.now - t.full) (drop t.full c.as_slice.result.now) in
    let is : rest ≡ drop t.full (kind_places t.kind (routines_of s.book.history.now)) = rest_shown t.full c.as_slice.result.now ∙ ap (drop t.full) (c.as_slice.ensures.same ∙ c.requires.tour.are) in
    some_of_all dom s.engine.store s.book t.kind rest t.full is c.requires.ready.right.checked c.requires.tour.full m h new.engine.store new.book c.args.most r.filled r.done (c.in_ok-reached.ensures.fills m h)
