use Rattle.std.proofs.Common.{◌≡◌, ◌<◌, ◌∙◌, FitsSigned, subst, sym, ap, length, arith, ◌≤ℤ◌, to_z, of_z, w64}
use mir.Syntax.{w128}
use Rattle.base_values.proofs.Integers.{at_most}
use Rattle.dbm_core.specs.Half.{entry}
use Rattle.dbm_close.specs.Close.{slot_high, slot_low}
use Rattle.num_bounds.specs.Bounds.{IsRange, least, greatest}
use Rattle.dom_octagon_meaning.specs.Ranges.{range_at}
use Rattle.dom_octagon_meaning.proofs.Ranges.{range_at-outside}
use Rattle.dom_octagon.proofs.Words.{word-fits, word-same, slot-range}
use Rattle.dom_octagon.proofs.evaluate.range.Goals as goal

pub overflow_cast-low : goal.overflow_cast-low
overflow_cast-low c =
    let l : c.args.x < length c.args.m.now.kinds = omega (arith, ap length c.kinds.ensures.value, c.if-x-kinds.true) in
    let r : IsRange (record { lo = slot_low c.args.m.now.kinds (entry c.args.m.now) c.args.x; hi = slot_high c.args.m.now.kinds (entry c.args.m.now) c.args.x }) = slot-range c.args.m.now c.args.x c.requires.tight l in
    subst (λ z. FitsSigned w64 (to_z w128 (of_z w128 z))) (sym c.slot_range-low.ensures.low) (word-fits (slot_low c.args.m.now.kinds (entry c.args.m.now) c.args.x) r.low (at_most _ _ _ r.ordered r.high))

pub overflow_cast-high : goal.overflow_cast-high
overflow_cast-high c =
    let l : c.args.x < length c.args.m.now.kinds = omega (arith, ap length c.kinds.ensures.value, c.if-x-kinds.true) in
    let r : IsRange (record { lo = slot_low c.args.m.now.kinds (entry c.args.m.now) c.args.x; hi = slot_high c.args.m.now.kinds (entry c.args.m.now) c.args.x }) = slot-range c.args.m.now c.args.x c.requires.tight l in
    subst (λ z. FitsSigned w64 (to_z w128 (of_z w128 z))) (sym c.slot_range-low.ensures.high) (word-fits (slot_high c.args.m.now.kinds (entry c.args.m.now) c.args.x) (at_most _ _ _ r.low r.ordered) r.high)

pub from_ends-requires : goal.from_ends-requires
from_ends-requires c =
    let l : c.args.x < length c.args.m.now.kinds = omega (arith, ap length c.kinds.ensures.value, c.if-x-kinds.true) in
    let r : IsRange (record { lo = slot_low c.args.m.now.kinds (entry c.args.m.now) c.args.x; hi = slot_high c.args.m.now.kinds (entry c.args.m.now) c.args.x }) = slot-range c.args.m.now c.args.x c.requires.tight l in
    let p : to_z w64 (of_z w64 (to_z w128 (of_z w128 c.slot_range-low.result.0))) ≡ slot_low c.args.m.now.kinds (entry c.args.m.now) c.args.x =
    ap (λ z. to_z w64 (of_z w64 (to_z w128 (of_z w128 z)))) c.slot_range-low.ensures.low ∙ word-same (slot_low c.args.m.now.kinds (entry c.args.m.now) c.args.x) r.low (at_most _ _ _ r.ordered r.high) in
    let q : to_z w64 (of_z w64 (to_z w128 (of_z w128 c.slot_range-low.result.1))) ≡ slot_high c.args.m.now.kinds (entry c.args.m.now) c.args.x =
    ap (λ z. to_z w64 (of_z w64 (to_z w128 (of_z w128 z)))) c.slot_range-low.ensures.high ∙ word-same (slot_high c.args.m.now.kinds (entry c.args.m.now) c.args.x) (at_most _ _ _ r.low r.ordered) r.high in
    record { ordered = rw (p, q) r.ordered }

pub returns-then-x-kinds : goal.returns-then-x-kinds
unfolding range_at
returns-then-x-kinds c =
    let l : c.args.x < length c.args.m.now.kinds = omega (arith, ap length c.kinds.ensures.value, c.if-x-kinds.true) in
    let n : c.slot_range-low.result.0 ≡ slot_low c.args.m.now.kinds (entry c.args.m.now) c.args.x = c.slot_range-low.ensures.low in
    let h : c.slot_range-low.result.1 ≡ slot_high c.args.m.now.kinds (entry c.args.m.now) c.args.x = c.slot_range-low.ensures.high in
    let r : IsRange (record { lo = slot_low c.args.m.now.kinds (entry c.args.m.now) c.args.x; hi = slot_high c.args.m.now.kinds (entry c.args.m.now) c.args.x }) = slot-range c.args.m.now c.args.x c.requires.tight l in
    let p : least ≤ℤ slot_high c.args.m.now.kinds (entry c.args.m.now) c.args.x = at_most _ _ _ r.low r.ordered in
    let q : slot_low c.args.m.now.kinds (entry c.args.m.now) c.args.x ≤ℤ greatest = at_most _ _ _ r.ordered r.high in
    record {
      exact = c.from_ends.ensures.exact ∙ (λ i. record {
        lo = (ap (λ z. to_z w64 (of_z w64 (to_z w128 (of_z w128 z)))) n ∙ word-same (slot_low c.args.m.now.kinds (entry c.args.m.now) c.args.x) r.low q) i;
        hi = (ap (λ z. to_z w64 (of_z w64 (to_z w128 (of_z w128 z)))) h ∙ word-same (slot_high c.args.m.now.kinds (entry c.args.m.now) c.args.x) p r.high) i;
      });
    }

pub returns : goal.returns
returns c = record { exact = c.from_ends-2.ensures.exact ∙ sym (range_at-outside c.args.m.now c.kinds.ensures.matrix c.args.x (omega (arith, ap length c.kinds.ensures.value, c.if-x-kinds.false))) }
