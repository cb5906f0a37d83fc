use Rattle.std.proofs.Common.{◌≤◌, ◌∷◌, take, ap, ◌∙◌, arith}
use Rattle.std.specs.VecDeque.{deque_capacity}
use Rattle.edit_history.specs.History.{Times}
use Rattle.edit_history.proofs.AfterLemmas.{room_left, remembered, remembered_past}
use Rattle.edit_history.proofs.history.History.remember.Goals as goal

pub push_front_reserved-requires : goal.push_front_reserved-requires
push_front_reserved-requires g c =
    let l : 64 ≤ deque_capacity c.leave_room.new.past = omega (arith, c.leave_room.ensures.capacity, c.self.invariant.room_behind) in
    room_left c.leave_room.new.past.len (deque_capacity c.leave_room.new.past) c.self.inside.past.items c.leave_room.new.past.items c.leave_room.new.past.ok.0 c.leave_room.ensures.is l

pub invariant_of-self : goal.invariant_of-self
invariant_of-self g c =
    let places = c.self.inside.table.places in
    let ps = c.self.inside.table.program in
    let back = c.exchange.new.change in
    let pushed = c.push_front_reserved.ensures.items ∙ ap (λ cs. back ∷ cs) c.leave_room.ensures.is in
    remembered places ps g.program back c.exchange.ensures.back c.exchange.ensures.back_there c.exchange.new.self.program c.exchange.new.self.places c.exchange.ensures.is c.exchange.ensures.places c.self.inside.past.items c.push_front_reserved.new.self.items c.clear.new.self.items (deque_capacity c.push_front_reserved.new.self) (deque_capacity c.clear.new.self) c.self.invariant.fine c.requires.1.0 c.self.invariant.behind pushed c.clear.ensures.items
    (omega (arith, c.push_front_reserved.ensures.capacity, c.leave_room.ensures.capacity, c.self.invariant.room_behind))
    (omega (arith, c.clear.ensures.capacity, c.self.invariant.room_ahead))

pub returns-clause-past : goal.returns-clause-past
returns-clause-past g c =
    let places = c.self.inside.table.places in
    let ps = c.self.inside.table.program in
    let back = c.exchange.new.change in
    let pushed = c.push_front_reserved.ensures.items ∙ ap (λ cs. back ∷ cs) c.leave_room.ensures.is in
    remembered_past places ps g.program back c.exchange.ensures.back c.exchange.ensures.back_there c.exchange.new.self.program c.exchange.new.self.places c.exchange.ensures.is c.exchange.ensures.places c.self.inside.past.items c.push_front_reserved.new.self.items c.self.invariant.fine pushed
    ∙ ap (λ (t : Times). t.now ∷ take 63 t.past) c.self.view_is
