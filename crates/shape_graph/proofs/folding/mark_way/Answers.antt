use Rattle.std.proofs.Common.{arith, ◌≡◌, ◌<◌, true, set, length, sym, ap, ◌∙◌, subst}
use Rattle.shape_graph.specs.declared.graph.Atom.{Atom}
use Rattle.shape_graph.specs.Shape.{nodes, target_at}
use Rattle.shape_graph.specs.Tables.{marked_at, IsWay}
use Rattle.shape_graph.proofs.Marking.{IsWay-none, IsWay-more, missing-set}
use Rattle.shape_graph.proofs.folding.mark_way.Goals as goal

pub loop-at-init : goal.loop-at-init
loop-at-init c =
    let ok = c.node_count-count.ensures.is_graph in
    record {
      inside = λ k e. ok.slots_in k (c.requires.named k e);
      way = λ so_far anchors m. IsWay-none c.args.graph.now so_far c.args.start c.args.marks.now anchors ok c.requires.named m;
    }

pub loop-at-smaller : goal.loop-at-smaller
loop-at-smaller c =
    let i : c.in-Some.k < nodes c.args.graph.now = c.loop-at.invariant.inside c.in-Some.k c.in-Some.is in
    let n : length c.args.marks.now ≡ nodes c.args.graph.now = c.requires.count in
    let b : c.in-Some.k < length c.loop-at.marks = omega arith in
    let e = missing-set c.loop-at.marks c.in-Some.k b c.if-not-marks-k.true in
    omega arith

pub loop-at-preserved : goal.loop-at-preserved
loop-at-preserved c =
    let g = c.args.graph.now in
    let k = c.in-Some.k in
    let ok = c.node_count-count.ensures.is_graph in
    let target : target_at g k ≡ c.atom-at.result.target = ap (λ (a : Atom). a.target) (sym c.atom-at.ensures.atom) in
    record {
      inside = λ j t. ok.targets_in k j (target ∙ t);
      way = λ so_far anchors m.
          subst (λ t. IsWay g c.args.start t c.args.marks.now (set c.loop-at.marks k true) (marked_at anchors c.args.start)) target
          (IsWay-more g c.args.start c.loop-at.at c.args.marks.now c.loop-at.marks (marked_at anchors c.args.start) k ok c.in-Some.is c.if-not-marks-k.true
          (c.loop-at.invariant.way so_far anchors m));
    }

pub returns-else-not-marks-k-clause-way : goal.returns-else-not-marks-k-clause-way
returns-else-not-marks-k-clause-way c =
    λ so_far anchors m.
    subst (λ t. IsWay c.args.graph.now c.args.start t c.args.marks.now c.loop-at.marks (marked_at anchors c.args.start)) c.in-Some.is (c.loop-at.invariant.way so_far anchors m)
