use Rattle.std.proofs.Common.{◌≡◌, ◌∷◌, ◌++◌, [], length, slice_get, ap, subst, ◌∙◌, arith}
use Rattle.daig_query.specs.Renamed.{AreNamedAnew}
use Rattle.daig_query.proofs.Renaming.{anew-none, anew-step, leaves-none, leaves-step}
use Rattle.daig_query.proofs.Sweeping.{leaves-few}
use Rattle.daig_query.proofs.names_sweep.named_anew.Goals as goal

pub loop-number-init : goal.loop-number-init
loop-number-init c =
    let cells = c.args.graph.now.cells in
    let names = c.args.names.now.names in
    let later = c.new-later.result in
    record {
      anew = anew-none cells names c.new-numbers.result.items later.names c.new-numbers.ensures.items c.new-later.ensures.names;
      leaves = leaves-none cells names later.names c.new-later.ensures.names;
      root = ap (λ paths. slice_get paths 0) c.new-later.ensures.paths;
    }

pub loop-number-preserved : goal.loop-number-preserved
loop-number-preserved c =
    let cells = c.args.graph.now.cells in
    let names = c.args.names.now.names in
    let so_far = c.loop-number.invariant in
    let later = c.loop-number.later in
    let numbers = c.loop-number.numbers.items in
    let adds = c.in_ok-add_name_of.ensures.adds in
    let more = c.in_ok-push.ensures.items ∙ ap (λ n. numbers ++ n ∷ []) c.len-new.ensures.count in
    record {
      anew = anew-step cells names c.numbers_are_one.ensures.names c.loop-number.number numbers c.push.new.self.items later c.add_name_of.new.later so_far.anew more adds;
      leaves = leaves-step cells names c.loop-number.number later c.add_name_of.new.later so_far.leaves adds;
      root = adds.root;
    }

pub returns-clause-anew : goal.returns-clause-anew
returns-clause-anew c =
    let number = c.loop-number.number in
    let names = c.args.names.now.names in
    let all : number ≡ length names = omega (arith, c.loop-number.auto.number-end, c.loop-number-test.false, c.len-number-end.ensures.count) in
    subst (λ n. AreNamedAnew c.args.graph.now.cells names n c.loop-number.numbers.items c.loop-number.later.names) all c.loop-number.invariant.anew

pub returns-clause-few : goal.returns-clause-few
returns-clause-few c =
    let few = leaves-few c.args.graph.now.cells c.loop-number.number 0 (length c.loop-number.later.names) c.loop-number.invariant.leaves in
    omega (arith, few)
