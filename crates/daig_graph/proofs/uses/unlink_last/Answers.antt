use Rattle.std.proofs.Common.{sym, ◌∙◌, subst, arith}
use Rattle.std.proofs.lemmas.Option.{same_Some}
use Rattle.daig_graph.specs.declared.graph.Use.{Use}
use Rattle.daig_graph.specs.declared.links.Beside.{Beside}
use Rattle.daig_graph.specs.Threads.{TakesUse}
use Rattle.daig_graph.proofs.ThreadingLinks.{last-length, pops, before_there, next_there, takes, takes_room}
use Rattle.base_values.proofs.Lists.{none_past}
use Rattle.daig_graph.proofs.uses.unlink_last.Goals as goal

pub set_next-requires-clause-there : goal.set_next-requires-clause-there
set_next-requires-clause-there c =
    let links = c.args.links.now.items in
    let u : Use = record { cell = c.args.cell; place = c.args.place } in
    let p = pops c.args.links.now.items (record { cell = c.args.cell; place = c.args.place }) c.requires.place c.index_mut.result.now c.index_mut.ensures.value c.pop.new.self c.in-Some.beside c.pop.ensures.rest (sym c.pop.ensures.value ∙ c.in-Some.is) c.pop.ensures.capacity in
    before_there links _ u c.in-Some.beside p c.requires.place (c.requires.neighbours c.in-Some.beside p.was)

pub set_before-requires : goal.set_before-requires
set_before-requires c =
    let links = c.args.links.now.items in
    let u : Use = record { cell = c.args.cell; place = c.args.place } in
    let p = pops c.args.links.now.items (record { cell = c.args.cell; place = c.args.place }) c.requires.place c.index_mut.result.now c.index_mut.ensures.value c.pop.new.self c.in-Some.beside c.pop.ensures.rest (sym c.pop.ensures.value ∙ c.in-Some.is) c.pop.ensures.capacity in
    record { there = next_there links _ u c.in-Some.beside p c.requires.place (c.requires.neighbours c.in-Some.beside p.was) c.set_next.new.links.items c.args.input c.set_next.ensures.set c.set_next.ensures.others }

pub returns-in-Some : goal.returns-in-Some
returns-in-Some c =
    let links = c.args.links.now.items in
    let u : Use = record { cell = c.args.cell; place = c.args.place } in
    let p = pops c.args.links.now.items (record { cell = c.args.cell; place = c.args.place }) c.requires.place c.index_mut.result.now c.index_mut.ensures.value c.pop.new.self c.in-Some.beside c.pop.ensures.rest (sym c.pop.ensures.value ∙ c.in-Some.is) c.pop.ensures.capacity in
    let near = c.requires.neighbours c.in-Some.beside p.was in
    record {
      takes = λ b e. let P : Beside → Type 0 = λ d. TakesUse links c.set_before.new.links.items u d c.args.input in
          subst P (same_Some _ _ (sym p.was ∙ e)) (takes links _ u c.in-Some.beside p c.requires.place near c.set_next.new.links.items c.args.input c.set_next.ensures.set c.set_next.ensures.others
          c.set_before.new.links.items c.set_next.ensures.first c.set_next.ensures.firsts c.set_next.ensures.shape c.set_before.ensures.set c.set_before.ensures.others c.set_before.ensures.firsts c.set_before.ensures.shape);
      room = takes_room links _ u c.in-Some.beside p c.requires.place near c.set_next.new.links.items c.args.input c.set_next.ensures.set c.set_next.ensures.others
          c.set_before.new.links.items c.set_next.ensures.first c.set_next.ensures.firsts c.set_next.ensures.shape c.set_before.ensures.set c.set_before.ensures.others c.set_before.ensures.firsts c.set_before.ensures.shape;
    }

pub returns-in_default : goal.returns-in_default
returns-in_default c =
    let long = last-length c.args.links.now.items (record { cell = c.args.cell; place = c.args.place }) c.requires.place c.index_mut.result.now c.index_mut.ensures.value in
    absurd (omega (arith, long, none_past c.index_mut.result.now.beside.items _ (sym c.pop.ensures.value ∙ c.in_default.is)))
