use Rattle.std.proofs.Common.{slice_index_or}
use Rattle.std.specs.VecDeque.{deque_capacity}
use Rattle.edit_history.specs.History.{AllNeeded}
use Rattle.edit_history.proofs.AfterLemmas.{have_needed, still_kept}
use Rattle.edit_history.proofs.history.History.drop_pages.Goals as goal

pub invariant_of-self : goal.invariant_of-self
invariant_of-self c =
    let h = c.self.inside in
    let t = c.drop_pages.new.self in
    let needed = c.add_all-2.new.needed in
    let past : AllNeeded needed h.past.items = λ i d l k p m. c.in_ok-add_all-2.ensures.still (slice_index_or (slice_index_or h.past.items i d).entries.items k p).number (c.in_ok-add_all.ensures.added i d l k p m) in
    let future : AllNeeded needed h.future.items = c.in_ok-add_all-2.ensures.added in
    still_kept h.table.program t.program h.table.places t.places h.past.items h.future.items (deque_capacity h.past) (deque_capacity h.future) c.drop_pages.ensures.kept (have_needed h.table.places t.places needed h.past.items c.drop_pages.ensures.needed past) (have_needed h.table.places t.places needed h.future.items c.drop_pages.ensures.needed future) c.self.invariant
