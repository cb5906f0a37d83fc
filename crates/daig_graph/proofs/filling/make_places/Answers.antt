use Rattle.std.proofs.Common.{◌≡◌, length, count_by, is_some, refl, ap, ◌∙◌, arith}
use Rattle.daig_graph.specs.Agrees.{value_at}
use Rattle.daig_graph.proofs.Filled.{Keeps, filled-keep, agrees-keep, at-push, count-push}
use Rattle.daig_graph.proofs.filling.make_places.Goals as goal

pub loop-values-init : goal.loop-values-init
loop-values-init g c = record { same = λ n. refl; kept = omega arith; most = omega arith; counted = refl }

pub loop-values-smaller : goal.loop-values-smaller
loop-values-smaller g c = omega (arith, c.in_ok-push.ensures.len, c.loop-values-test.true, c.len.ensures)

pub loop-values-preserved : goal.loop-values-preserved
loop-values-preserved g c = record {
  same = λ n. ap (λ l. value_at l n) c.in_ok-push.ensures.items ∙ at-push c.loop-values.values.items n ∙ c.loop-values.invariant.same n;
  kept = omega (arith, c.in_ok-push.ensures.len, c.loop-values.invariant.kept);
  most = omega (arith, c.in_ok-push.ensures.len, c.loop-values-test.true, c.len.ensures);
  counted = ap (λ l. count_by is_some l) c.in_ok-push.ensures.items ∙ count-push c.loop-values.values.items ∙ c.loop-values.invariant.counted;
}

-- what the loop leaves
keeps : (g : _) (c : goal.After-loop-values g) → Keeps c.args.values.now.items c.loop-values.values.items c.args.owned.now.of c.reserve.new.self.of c.args.uses.now c.reserve-2.new.self
keeps g c =
    let room = c.make_room.ensures.same in
    let before : length c.make_room.new.places.items ≡ length c.args.values.now.items = ap length room in
    record {
      same_values = λ n. c.loop-values.invariant.same n ∙ ap (λ l. value_at l n) room;
      same_owners = c.reserve.ensures.same;
      same_inputs = c.reserve-2.ensures.same;
      owners_many = λ o i. omega (arith, before, o, c.loop-values.invariant.most, c.reserve.ensures.kept, c.in_ok-reserve.ensures.place);
      inputs_many = λ o i. omega (arith, before, i, c.loop-values.invariant.most, c.reserve-2.ensures.kept, c.in_ok-reserve-2.ensures.place);
      counted = c.loop-values.invariant.counted ∙ ap (λ l. count_by is_some l) room;
    }

-- so does a place that takes too much memory
keeps-failed : (g : _) (c : goal.After-from_residual-in_err-push g) → Keeps c.args.values.now.items c.push.new.self.items c.args.owned.now.of c.reserve.new.self.of c.args.uses.now c.reserve-2.new.self
keeps-failed g c =
    let same = c.in_err-push.ensures.items in
    let room = c.make_room.ensures.same in
    let long : length c.push.new.self.items ≡ length c.loop-values.values.items = ap length same in
    let before : length c.make_room.new.places.items ≡ length c.args.values.now.items = ap length room in
    record {
      same_values = λ n. ap (λ l. value_at l n) same ∙ c.loop-values.invariant.same n ∙ ap (λ l. value_at l n) room;
      same_owners = c.reserve.ensures.same;
      same_inputs = c.reserve-2.ensures.same;
      owners_many = λ o i. omega (arith, long, before, o, c.loop-values.invariant.most, c.reserve.ensures.kept, c.in_ok-reserve.ensures.place);
      inputs_many = λ o i. omega (arith, long, before, i, c.loop-values.invariant.most, c.reserve-2.ensures.kept, c.in_ok-reserve-2.ensures.place);
      counted = ap (λ l. count_by is_some l) same ∙ c.loop-values.invariant.counted ∙ ap (λ l. count_by is_some l) room;
    }

pub returns-in_err-push-clause-same : goal.returns-in_err-push-clause-same
returns-in_err-push-clause-same g c = filled-keep _ _ _ _ _ _ (keeps-failed g c)

pub returns-in_err-push-clause-agrees : goal.returns-in_err-push-clause-agrees
returns-in_err-push-clause-agrees g c = agrees-keep _ _ _ _ _ _ (keeps-failed g c)

pub returns-clause-same : goal.returns-clause-same
returns-clause-same g c = filled-keep _ _ _ _ _ _ (keeps g c)

pub returns-clause-agrees : goal.returns-clause-agrees
returns-clause-agrees g c = agrees-keep _ _ _ _ _ _ (keeps g c)
