use Rattle.std.proofs.Common.{◌∙◌, arith}
use Rattle.daig_graph.proofs.ThreadingLinks.{pushes, pushed-room, push_there, puts, put_room, first-found}
use Rattle.daig_graph.proofs.uses.link_one.Goals as goal

pub push_reserved-requires : goal.push_reserved-requires
push_reserved-requires c =
    let links = c.args.links.now.items in
    let room = pushed-room links c.args.cell c.args.input c.requires.there c.requires.input c.index_mut.result.now c.index_mut.ensures.value c.to-link.result c.index_mut-2.result.now c.index_mut-2.ensures.value 1 c.requires.room in
    (omega arith, room)

pub set_before-requires : goal.set_before-requires
set_before-requires c =
    let links = c.args.links.now.items in
    let next = first-found links c.args.input c.index.result.now c.requires.input c.index.ensures in
    record {
      there = λ u e. push_there links _ (record { cell = c.args.cell; place = c.args.place }) _ c.args.input c.to-link.result c.to-link.ensures.used
          (pushes links c.args.cell c.args.input c.requires.there c.requires.input c.index_mut.result.now c.index_mut.ensures.value c.to-link.result c.index_mut-2.result.now c.index_mut-2.ensures.value c.push_reserved.new.self _ c.push_reserved.ensures.items c.push_reserved.ensures.capacity) c.requires.place u (c.requires.first u (next ∙ e));
    }

pub returns-clause-puts : goal.returns-clause-puts
returns-clause-puts c =
    let links = c.args.links.now.items in
    let next = first-found links c.args.input c.index.result.now c.requires.input c.index.ensures in
    puts links _ (record { cell = c.args.cell; place = c.args.place }) _ c.args.input c.to-link.result c.to-link.ensures.used
    (pushes links c.args.cell c.args.input c.requires.there c.requires.input c.index_mut.result.now c.index_mut.ensures.value c.to-link.result c.index_mut-2.result.now c.index_mut-2.ensures.value c.push_reserved.new.self _ c.push_reserved.ensures.items c.push_reserved.ensures.capacity) c.requires.place
    c.set_before.new.links.items next c.none.ensures.none c.requires.first c.set_before.ensures.set c.set_before.ensures.others c.set_before.ensures.firsts c.set_before.ensures.shape

pub returns-clause-room : goal.returns-clause-room
returns-clause-room c =
    let links = c.args.links.now.items in
    let next = first-found links c.args.input c.index.result.now c.requires.input c.index.ensures in
    put_room links _ (record { cell = c.args.cell; place = c.args.place }) _ c.args.input c.to-link.result c.to-link.ensures.used
    (pushes links c.args.cell c.args.input c.requires.there c.requires.input c.index_mut.result.now c.index_mut.ensures.value c.to-link.result c.index_mut-2.result.now c.index_mut-2.ensures.value c.push_reserved.new.self _ c.push_reserved.ensures.items c.push_reserved.ensures.capacity) c.requires.place
    c.set_before.new.links.items next c.none.ensures.none c.requires.first c.set_before.ensures.set c.set_before.ensures.others c.set_before.ensures.firsts c.set_before.ensures.shape
