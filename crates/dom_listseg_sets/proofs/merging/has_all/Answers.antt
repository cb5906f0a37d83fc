use Rattle.std.proofs.Common.{◌≤◌, ◌⊎◌, inl, inr, length, sym, ◌∙◌, arith}
use Rattle.dom_listseg_sets.proofs.Added.{left_kept, both_kept, one_missing, told_at_end}
use Rattle.dom_listseg_sets.proofs.merging.has_all.Goals.{then-loop-left_place-test+else-right_place-right, else-loop-left_place-test}
use Rattle.dom_listseg_sets.proofs.merging.has_all.Goals as goal

pub loop-left_place-preserved-in-Less : goal.loop-left_place-preserved-in-Less
loop-left_place-preserved-in-Less c = record {
  left_in = omega arith;
  right_in = c.loop-left_place.invariant.right_in;
  kept = left_kept c.args.left.now c.args.right.now c.loop-left_place.left_place c.loop-left_place.right_place c.index-left-left_place.result c.index-right-right_place.result
      c.loop-left_place-test.true c.if-right_place-right.true c.index-left-left_place.is c.index-right-right_place.is c.requires.rises c.loop-left_place.invariant.kept
      (sym c.cmp.ensures ∙ c.in-Less.is);
}

pub loop-left_place-preserved : goal.loop-left_place-preserved
loop-left_place-preserved c = record {
  left_in = omega arith;
  right_in = omega arith;
  kept = both_kept c.args.left.now c.args.right.now c.loop-left_place.left_place c.loop-left_place.right_place c.index-left-left_place.result c.index-right-right_place.result
      c.loop-left_place-test.true c.if-right_place-right.true c.index-left-left_place.is c.index-right-right_place.is c.requires.rises c.loop-left_place.invariant.kept
      (sym c.cmp.ensures ∙ c.in-Equal.is);
}

pub returns-in-Greater : goal.returns-in-Greater
returns-in-Greater c = record {
  same = (
    λ no. cc,
    λ same. absurd (one_missing c.args.left.now c.args.right.now c.loop-left_place.left_place c.loop-left_place.right_place c.index-left-left_place.result c.index-right-right_place.result
        c.loop-left_place-test.true c.if-right_place-right.true c.index-left-left_place.is c.index-right-right_place.is c.requires.rises c.loop-left_place.invariant.kept
        (sym c.cmp.ensures ∙ c.in-Greater.is) same),
  );
}

pub returns : goal.returns
returns c =
    let ended : (length c.args.left.now ≤ c.loop-left_place.left_place) ⊎ (length c.args.right.now ≤ c.loop-left_place.right_place) = elim c.loop-left_place-test.branch [
      | then-loop-left_place-test+else-right_place-right w ↦ inr w.if-right_place-right.false
      | else-loop-left_place-test w ↦ inl w.loop-left_place-test.false
    ] in
    record {
      same = told_at_end c.args.left.now c.args.right.now c.loop-left_place.left_place c.loop-left_place.right_place c.loop-left_place.invariant.kept c.requires.rises
          c.loop-left_place.invariant.right_in ended;
    }
