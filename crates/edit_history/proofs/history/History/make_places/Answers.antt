use Rattle.std.specs.VecDeque.{deque_capacity}
use Rattle.edit_history.proofs.AfterLemmas.{have_more, still_kept}
use Rattle.edit_history.proofs.history.History.make_places.Goals as goal

pub invariant_of-self : goal.invariant_of-self
invariant_of-self c =
    let h = c.self.inside in
    let t = c.make_room.new.self in
    let more = c.make_room.ensures.no_less in
    still_kept h.table.program t.program h.table.places t.places h.past.items h.future.items (deque_capacity h.past) (deque_capacity h.future) c.make_room.ensures.kept (have_more h.table.places t.places h.past.items more) (have_more h.table.places t.places h.future.items more) c.self.invariant
