use Rattle.std.proofs.Common.{refl}
use Rattle.std.specs.VecDeque.{deque_capacity}
use Rattle.edit_history.specs.After.{changed_program}
use Rattle.edit_history.proofs.AfterLemmas.{gone, gone_onto}
use Rattle.edit_history.proofs.history.go.Goals as goal

pub returns-clause-onto : goal.returns-clause-onto
returns-clause-onto c =
    let ps = c.args.table.now.program in
    let change = c.in-Some.change in
    gone_onto c.args.table.now.places ps (changed_program ps change) c.exchange.new.change c.exchange.ensures.back c.exchange.ensures.back_there c.exchange.new.self.program c.exchange.new.self.places c.exchange.ensures.is c.exchange.ensures.places c.args.onto.now.items c.push_front_reserved.new.self.items c.requires.kept.fine c.push_front_reserved.ensures.items

pub returns-clause-still : goal.returns-clause-still
returns-clause-still c =
    let ps = c.args.table.now.program in
    let change = c.in-Some.change in
    gone c.args.table.now.places ps (changed_program ps change) c.exchange.new.change c.exchange.ensures.back c.exchange.ensures.back_there c.exchange.new.self.program c.exchange.new.self.places c.exchange.ensures.is c.exchange.ensures.places
    change c.args.from.now.items c.args.onto.now.items c.pop_front.new.self.items c.push_front_reserved.new.self.items (deque_capacity c.args.from.now) (deque_capacity c.args.onto.now) (deque_capacity c.pop_front.new.self) (deque_capacity c.push_front_reserved.new.self)
    refl c.requires.kept c.in-Some.ensures.items c.push_front_reserved.ensures.items c.in-Some.ensures.capacity c.push_front_reserved.ensures.capacity
