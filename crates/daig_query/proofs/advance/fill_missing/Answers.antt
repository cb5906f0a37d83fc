use Rattle.std.proofs.Common.{◌≡◌, ◌-◌, map, refl, sym, ◌∙◌, arith}
use Rattle.std.proofs.lemmas.Result.{err_from_is_err_and}
use Rattle.base_values.specs.declared.error.Memory.{Memory}
use Rattle.imp_flow.specs.Reached.{target_of}
use Rattle.daig_query.specs.Filled.{cells_added}
use Rattle.daig_query.proofs.Demands.{limit_met, demand_failed, demand_spent, demand_done, come_pushed, pushed_smaller, come_filled, filled_smaller}
use Rattle.daig_query.proofs.Growing.{few_more, few_same}
use Rattle.daig_query.proofs.Starting.{starts}
use Rattle.daig_query.proofs.Turns.{limit_open, within_start}
use Rattle.daig_query.proofs.advance.fill_missing.Goals as goal

pub turns-init : goal.turns-init
turns-init g c =
    let dom = g.D.Domain.operations c.args.dom.now in
    let plan = c.args.flow.now in
    let ts = map target_of c.args.targets.now in
    let store = c.args.store.now in
    record {
      running = starts dom plan ts store c.args.walk.now c.drop_filled.new.self c.requires.right c.requires.walk c.drop_filled.ensures.is;
      within = within_start dom plan ts c.args.limit store;
      least = omega arith;
      most = omega arith;
      few = few_more store store 0 (cells_added store store) (omega arith) (few_same store store refl refl refl);
    }

pub returns-in_err-take_turn : goal.returns-in_err-take_turn
returns-in_err-take_turn g c =
    let e = err_from_is_err_and c.from_residual.result c.from_residual.ensures.1 in
    let d = demand_failed c.turns.invariant c.in_err-take_turn.ensures.turn e.0 c.from_residual.result e.1 in
    record { fills = d.fills; walk = d.walk; within = d.within; counted = d.counted; all = d.all; done = d.done; more = d.more; limited = d.limited; least = d.least; ticked = d.ticked; most = d.most }

pub turns-smaller-in-Pushed : goal.turns-smaller-in-Pushed
turns-smaller-in-Pushed g c = pushed_smaller c.turns.invariant c.in_ok-take_turn.ensures.turn c.in-Pushed.is

pub turns-preserved-in-Pushed : goal.turns-preserved-in-Pushed
turns-preserved-in-Pushed g c = come_pushed c.turns.invariant c.in_ok-take_turn.ensures.turn c.in-Pushed.is

pub turns-smaller : goal.turns-smaller
turns-smaller g c = filled_smaller c.turns.invariant c.in_ok-take_turn.ensures.turn c.in-Filled.is

pub turns-preserved : goal.turns-preserved
turns-preserved g c =
    let counted : c.kept_count.result - c.kept_count-before.result ≡ cells_added c.args.store.now c.turns.store = omega (arith, c.kept_count.ensures.count, c.kept_count-before.ensures.count) in
    come_filled c.turns.invariant c.in_ok-take_turn.ensures.turn c.in-Filled.is (λ o. limit_open c.args.limit _ (cells_added c.args.store.now c.turns.store) counted (sym c.eq-spent.ensures ∙ o))

pub returns-in-Spent : goal.returns-in-Spent
returns-in-Spent g c =
    let counted : c.kept_count.result - c.kept_count-before.result ≡ cells_added c.args.store.now c.turns.store = omega (arith, c.kept_count.ensures.count, c.kept_count-before.ensures.count) in
    let d = demand_spent c.turns.invariant c.in_ok-take_turn.ensures.turn counted c.in-Spent.is (λ o. limit_met c.args.limit _ (sym c.eq-spent.ensures ∙ o)) {F = Memory} in
    record { fills = d.fills; walk = d.walk; within = d.within; counted = d.counted; all = d.all; done = d.done; more = d.more; limited = d.limited; least = d.least; ticked = d.ticked; most = d.most }

pub returns-in-Done : goal.returns-in-Done
returns-in-Done g c =
    let counted : c.kept_count.result - c.kept_count-before.result ≡ cells_added c.args.store.now c.turns.store = omega (arith, c.kept_count.ensures.count, c.kept_count-before.ensures.count) in
    let d = demand_done c.turns.invariant c.in_ok-take_turn.ensures.turn counted c.in-Done.is {F = Memory} in
    record { fills = d.fills; walk = d.walk; within = d.within; counted = d.counted; all = d.all; done = d.done; more = d.more; limited = d.limited; least = d.least; ticked = d.ticked; most = d.most }
