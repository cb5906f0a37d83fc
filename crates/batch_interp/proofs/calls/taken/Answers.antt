use Rattle.std.proofs.Common.{◌++◌, reverse, sym, ap, ◌∙◌}
use Rattle.batch_interp.specs.Handing.{handed_to, handed_besides}
use Rattle.batch_interp.proofs.Lists.{nothing_left}
use Rattle.batch_interp.proofs.Turned.{turned_twice, taken_here, taken_other}
use Rattle.batch_interp.proofs.calls.taken.Goals as goal

pub loop-handed-init : goal.loop-handed-init
loop-handed-init g c =
    let all = ap reverse c.last_first-left.ensures.is ∙ turned_twice c.args.calls in
    record {
      entered = λ i. c.new-entered.ensures.empty i ++ handed_to c.args.place (all i);
      others = λ i. c.new-others.ensures.empty i ++ handed_besides c.args.place (all i);
    }

pub loop-handed-preserved-in-Continue-1 : goal.loop-handed-preserved-in-Continue-1
loop-handed-preserved-in-Continue-1 g c =
    let here = taken_here c.args.place c.loop-handed.left c.pop.new.self c.in-Some.handed c.loop-handed.entered c.append.new.all c.in-Some.ensures.last c.if-handed-place.true c.in_ok-append.ensures.added in
    record {
      entered = here.0 ∙ c.loop-handed.invariant.entered;
      others = ap (λ xs. c.loop-handed.others ++ xs) here.1 ∙ c.loop-handed.invariant.others;
    }

pub loop-handed-preserved : goal.loop-handed-preserved
loop-handed-preserved g c =
    let there = taken_other c.args.place c.loop-handed.left c.pop.new.self c.in-Some.handed c.loop-handed.others c.push.new.self c.in-Some.ensures.last c.if-handed-place.false c.in_ok-push.ensures.added in
    record {
      entered = ap (λ xs. c.loop-handed.entered ++ xs) there.0 ∙ c.loop-handed.invariant.entered;
      others = there.1 ∙ c.loop-handed.invariant.others;
    }

pub returns-clause-entered : goal.returns-clause-entered
returns-clause-entered g c = sym (nothing_left _ _ (ap (λ xs. handed_to c.args.place (reverse xs)) c.in_default.ensures.last.0)) ∙ c.loop-handed.invariant.entered

pub returns-clause-others : goal.returns-clause-others
returns-clause-others g c = sym (nothing_left _ _ (ap (λ xs. handed_besides c.args.place (reverse xs)) c.in_default.ensures.last.0)) ∙ c.loop-handed.invariant.others
