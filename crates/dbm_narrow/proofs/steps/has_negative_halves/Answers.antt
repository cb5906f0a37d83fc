use Rattle.std.specs.Prelude.{◌*◌, ◌≡◌, ◌<ℤ◌, ◌≤ℤ◌, ◌+ℤ◌, pos, negsuc, Some, None, map}
use Rattle.std.proofs.Common.{arith, sym, ap, ◌∙◌, subst, below_more, get_or}
use Rattle.dbm_core.specs.Nodes.{flip}
use Rattle.dbm_core.specs.Weights.{AtMost, add_weight}
use Rattle.dbm_narrow.proofs.EntryLemmas.{entry-more, wide-negative, wide-positive, zero-above, zero-below}
use Rattle.dbm_narrow.proofs.StepLemmas.{halves-sum}
use Rattle.dbm_narrow.specs.Entries.{IsEntry, at, settle, wide}
use Rattle.dbm_narrow.proofs.steps.has_negative_halves.Goals as goal

pub plus-sum-requires-clause-left : goal.plus-sum-requires-clause-left
plus-sum-requires-clause-left gen c = subst (IsEntry gen.W.Width.unit (8 * gen.W.Width.unit)) (sym c.read-here.ensures.value) (entry-more gen.W.Width.unit gen.W.Width.positive gen.W.Width.unit (8 * gen.W.Width.unit) (at gen.W.Width.unit c.args.halves.now c.loop-i.i) (omega arith) (c.requires.halves c.loop-i.i))

pub plus-sum-requires-clause-right : goal.plus-sum-requires-clause-right
plus-sum-requires-clause-right gen c = subst (IsEntry gen.W.Width.unit (8 * gen.W.Width.unit)) (sym c.read-there.ensures.value) (entry-more gen.W.Width.unit gen.W.Width.positive gen.W.Width.unit (8 * gen.W.Width.unit) (at gen.W.Width.unit c.args.behind.now c.loop-i.i) (omega arith) (c.requires.behind c.loop-i.i))

pub returns-then-is_less : goal.returns-then-is_less
returns-then-is_less gen c =
    let rh : c.read-here.result ≡ at gen.W.Width.unit c.args.halves.now c.loop-i.i = c.read-here.ensures.value in
    let rb : c.read-there.result ≡ at gen.W.Width.unit c.args.behind.now c.loop-i.i = c.read-there.ensures.value in
    let e : c.plus-sum.result ≡ settle gen.W.Width.unit (at gen.W.Width.unit c.args.halves.now c.loop-i.i +ℤ at gen.W.Width.unit c.args.behind.now c.loop-i.i) =
    c.plus-sum.ensures.sum ∙ ap (λ x. settle gen.W.Width.unit (x +ℤ c.read-there.result)) rh ∙ ap (λ x. settle gen.W.Width.unit (at gen.W.Width.unit c.args.halves.now c.loop-i.i +ℤ x)) rb in
    let n : c.plus-sum.result <ℤ pos 0 = zero-above gen.W.Width.unit gen.W.Width.positive c.plus-sum.result c.zero.result c.is_less.result c.zero.ensures.value c.is_less.ensures.less c.if-is_less.true in
    record { negative = (c.loop-i.i, (omega arith, subst (λ a. AtMost a (Some (negsuc 0))) (halves-sum gen.W.Width.unit gen.W.Width.positive c.args.halves.now c.args.behind.now c.loop-i.i c.plus-sum.result c.requires.halves c.requires.behind (c.requires.flipped c.loop-i.i (omega arith)) e) (wide-negative gen.W.Width.unit gen.W.Width.positive c.plus-sum.result n))) }

pub loop-i-preserved : goal.loop-i-preserved
loop-i-preserved gen c =
    let rh : c.read-here.result ≡ at gen.W.Width.unit c.args.halves.now c.loop-i.i = c.read-here.ensures.value in
    let rb : c.read-there.result ≡ at gen.W.Width.unit c.args.behind.now c.loop-i.i = c.read-there.ensures.value in
    let e : c.plus-sum.result ≡ settle gen.W.Width.unit (at gen.W.Width.unit c.args.halves.now c.loop-i.i +ℤ at gen.W.Width.unit c.args.behind.now c.loop-i.i) =
    c.plus-sum.ensures.sum ∙ ap (λ x. settle gen.W.Width.unit (x +ℤ c.read-there.result)) rh ∙ ap (λ x. settle gen.W.Width.unit (at gen.W.Width.unit c.args.halves.now c.loop-i.i +ℤ x)) rb in
    let n : pos 0 ≤ℤ c.plus-sum.result = zero-below gen.W.Width.unit gen.W.Width.positive c.plus-sum.result c.zero.result c.is_less.result c.zero.ensures.value c.is_less.ensures.less c.if-is_less.false in
    below_more (λ a. AtMost (Some (pos 0)) (add_weight (get_or (map (wide gen.W.Width.unit) c.args.halves.now) a None) (get_or (map (wide gen.W.Width.unit) c.args.halves.now) (flip a) None))) c.loop-i.i c.loop-i.invariant
    (subst (AtMost (Some (pos 0))) (halves-sum gen.W.Width.unit gen.W.Width.positive c.args.halves.now c.args.behind.now c.loop-i.i c.plus-sum.result c.requires.halves c.requires.behind (c.requires.flipped c.loop-i.i (omega arith)) e) (wide-positive gen.W.Width.unit gen.W.Width.positive c.plus-sum.result n))
