use Rattle.std.proofs.Common.{◌≡◌, ◌≤◌, ◌⊎◌, inl, inr, ◌++◌, append_assoc, drop, length, sym, ◌∙◌, ap, subst, arith}
use Rattle.std.specs.Prelude.{OnOk}
use Rattle.dom_listseg_sets.proofs.Merged.{left_union, both_union, right_union, pushed, left_over}
use Rattle.dom_listseg_sets.proofs.merging.merge.Goals.{then-loop-left_place-test+else-right_place-right, else-loop-left_place-test}
use Rattle.dom_listseg_sets.proofs.merging.merge.Goals as goal
use Rattle.base_values.proofs.Lists.{rest_whole}

pub loop-left_place-preserved-in-Less : goal.loop-left_place-preserved-in-Less
loop-left_place-preserved-in-Less c = record {
  left_in = omega arith;
  right_in = c.loop-left_place.invariant.right_in;
  merged =
      let union = left_union c.args.left.now c.args.right.now c.loop-left_place.left_place c.loop-left_place.right_place c.index-left-left_place.result c.index-right-right_place.result
      c.loop-left_place-test.true c.if-right_place-right.true c.index-left-left_place.is c.index-right-right_place.is c.requires.rises (sym c.cmp.ensures ∙ c.in-Less.is) in
      pushed c.loop-left_place.graphs.items c.push.new.self.items _ _ c.index-left-left_place.result c.in_ok-copy-in-Less.field-0 c.in_ok-copy-in-Less.ensures.same c.in_ok-push-in-Less.ensures.items union ∙
      c.loop-left_place.invariant.merged;
}

pub loop-left_place-preserved-in-Equal : goal.loop-left_place-preserved-in-Equal
loop-left_place-preserved-in-Equal c = record {
  left_in = omega arith;
  right_in = omega arith;
  merged =
      let union = both_union c.args.left.now c.args.right.now c.loop-left_place.left_place c.loop-left_place.right_place c.index-left-left_place.result c.index-right-right_place.result
      c.loop-left_place-test.true c.if-right_place-right.true c.index-left-left_place.is c.index-right-right_place.is c.requires.rises (sym c.cmp.ensures ∙ c.in-Equal.is) in
      pushed c.loop-left_place.graphs.items c.push-in-Equal.new.self.items _ _ c.index-left-left_place.result c.in_ok-copy-in-Equal.field-0 c.in_ok-copy-in-Equal.ensures.same c.in_ok-push-in-Equal.ensures.items union ∙
      c.loop-left_place.invariant.merged;
}

pub loop-left_place-preserved : goal.loop-left_place-preserved
loop-left_place-preserved c = record {
  left_in = c.loop-left_place.invariant.left_in;
  right_in = omega arith;
  merged =
      let union = right_union c.args.left.now c.args.right.now c.loop-left_place.left_place c.loop-left_place.right_place c.index-left-left_place.result c.index-right-right_place.result
      c.loop-left_place-test.true c.if-right_place-right.true c.index-left-left_place.is c.index-right-right_place.is c.requires.rises (sym c.cmp.ensures ∙ c.in-Greater.is) in
      pushed c.loop-left_place.graphs.items c.push-in-Greater.new.self.items _ _ c.index-right-right_place.result c.in_ok-copy-in-Greater.field-0 c.in_ok-copy-in-Greater.ensures.same c.in_ok-push-in-Greater.ensures.items union ∙
      c.loop-left_place.invariant.merged;
}

pub returns : goal.returns
returns c =
    let ended : (length c.args.left.now ≤ c.loop-left_place.left_place) ⊎ (length c.args.right.now ≤ c.loop-left_place.right_place) = elim c.loop-left_place-test.branch [
      | then-loop-left_place-test+else-right_place-right w ↦ inr w.if-right_place-right.false
      | else-loop-left_place-test w ↦ inl w.loop-left_place-test.false
    ] in
    let left = drop c.loop-left_place.left_place c.args.left.now in
    let right = drop c.loop-left_place.right_place c.args.right.now in
    record {
      merged = subst (λ x. OnOk c.append-2.result (c.append-2.new.graphs.items ≡ x))
          ((λ k. c.in_ok-append.ensures.added k ++ rest_whole c.args.right.now c.loop-left_place.right_place k) ∙
          ap (λ v. (c.loop-left_place.graphs.items ++ v) ++ right) (rest_whole c.args.left.now c.loop-left_place.left_place) ∙
          append_assoc c.loop-left_place.graphs.items left right ∙
          ap (λ v. c.loop-left_place.graphs.items ++ v)
          (left_over c.args.left.now c.args.right.now c.loop-left_place.left_place c.loop-left_place.right_place ended c.requires.rises) ∙
          c.loop-left_place.invariant.merged)
          c.append-2.ensures.added;
    }
