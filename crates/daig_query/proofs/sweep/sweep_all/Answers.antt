use Rattle.std.proofs.Common.{refl, ap, ◌∙◌}
use Rattle.daig_query.specs.declared.store.Store.{Store}
use Rattle.daig_query.proofs.Sweeps.{marked-still, sweeps, sweeps-right}
use Rattle.daig_query.proofs.sweep.sweep_all.Goals as goal

pub renumber_held-requires-clause-marked : goal.renumber_held-requires-clause-marked
renumber_held-requires-clause-marked g c = marked-still c.args.store.now.graph.cells c.len-count.result c.mark_held.new.states c.number.new.self (λ n. (c.number.ensures.marks n).1) c.mark_held.ensures.marked

pub returns-clause-swept : goal.returns-clause-swept
returns-clause-swept g c =
    let old = c.args.store.now in
    let new : Store g.row.S.Denot = record { graph = c.renumber_held.new.graph; names = old.names; states = c.finish.result; operations = c.clear-4.new.self; memo = c.clear-2.new.self; recent = c.clear-3.new.self; stale = c.clear.new.self } in
    let states = c.number.ensures.states ∙ c.mark_held.ensures.states ∙ c.begin_sweep-states.ensures.states in
    let marked = marked-still old.graph.cells c.len-count.result c.mark_held.new.states c.number.new.self (λ n. (c.number.ensures.marks n).1) c.mark_held.ensures.marked in
    sweeps old new c.number.new.self c.len-count.result c.requires.held c.len-count.ensures.count refl states c.finish.ensures.states marked c.renumber_held.ensures.renumbered c.clear.ensures.count

pub returns-clause-right : goal.returns-clause-right
returns-clause-right g c =
    let old = c.args.store.now in
    let new : Store g.row.S.Denot = record { graph = c.renumber_held.new.graph; names = old.names; states = c.finish.result; operations = c.clear-4.new.self; memo = c.clear-2.new.self; recent = c.clear-3.new.self; stale = c.clear.new.self } in
    let states = c.number.ensures.states ∙ c.mark_held.ensures.states ∙ c.begin_sweep-states.ensures.states in
    let marked = marked-still old.graph.cells c.len-count.result c.mark_held.new.states c.number.new.self (λ n. (c.number.ensures.marks n).1) c.mark_held.ensures.marked in
    sweeps-right old new c.number.new.self c.len-count.result c.requires.held c.len-count.ensures.count refl states c.finish.ensures.states marked c.renumber_held.ensures.renumbered c.clear.ensures.count
    g.S.PartialEq.eq g.met.S.Eq.laws.refl c.finish.ensures.once (ap (λ m. m.entries) c.clear-2.ensures.empty) c.clear-3.ensures.empty c.clear.ensures.fresh
