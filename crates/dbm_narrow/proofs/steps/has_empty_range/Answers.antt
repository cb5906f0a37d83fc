use Rattle.std.specs.Prelude.{◌≡◌, ◌≤◌, ◌+◌, ◌*◌, ◌<ℤ◌, ◌≤ℤ◌, false, length}
use Rattle.std.proofs.Common.{arith, sym, ◌∙◌, ap, subst, below_more, get_or}
use Rattle.std.proofs.lemmas.Int.{ints}
use Rattle.dbm_close.specs.Close.{slot_high, slot_low}
use Rattle.dbm_close.specs.Steps.{range_high, range_low}
use Rattle.dbm_core.specs.Half.{entry}
use Rattle.dbm_narrow.proofs.EntryLemmas.{held-kept}
use Rattle.dbm_narrow.proofs.PartLemmas.{place-in}
use Rattle.dbm_narrow.proofs.RoundLemmas.{narrow-size}
use Rattle.dbm_narrow.specs.Entries.{IsEntry, at, held, wide}
use Rattle.dbm_narrow.proofs.steps.has_empty_range.Goals as goal

pub place-even-requires-clause-row : goal.place-even-requires-clause-row
place-even-requires-clause-row gen c = omega (arith, c.requires.narrow.matrix.few)

pub place-odd-requires-clause-row : goal.place-odd-requires-clause-row
place-odd-requires-clause-row gen c = omega (arith, c.requires.narrow.matrix.few)

pub read-requires : goal.read-requires
read-requires gen c = record { place = omega (arith, place-in gen.W.Width.unit gen.W.Width.positive c.args.entries.now (length c.args.kinds.now) (2 * c.loop-slot.slot) (2 * c.loop-slot.slot + 1) (narrow-size gen.W.Width.unit gen.W.Width.positive c.args.kinds.now c.args.entries.now c.requires.narrow) (omega arith) (omega arith)) }

pub read-requires-in-loop-slot : goal.read-requires-in-loop-slot
read-requires-in-loop-slot gen c = record { place = omega (arith, place-in gen.W.Width.unit gen.W.Width.positive c.args.entries.now (length c.args.kinds.now) (2 * c.loop-slot.slot + 1) (2 * c.loop-slot.slot) (narrow-size gen.W.Width.unit gen.W.Width.positive c.args.kinds.now c.args.entries.now c.requires.narrow) (omega arith) (omega arith)) }

pub low_end-low-requires : goal.low_end-low-requires
low_end-low-requires gen c = record { bound = subst (IsEntry gen.W.Width.unit (2 * gen.W.Width.unit)) (sym c.read.ensures.value) (c.requires.narrow.entries c.place-even.result) }

pub returns-then-high-low : goal.returns-then-high-low
returns-then-high-low gen c =
    let p : c.high_end-high.result <ℤ c.low_end-low.result = grind (arith, ints) in
    let few : length c.args.kinds.now ≤ 16 = c.requires.narrow.matrix.few in
    let r : c.read.result ≡ at gen.W.Width.unit c.args.entries.now c.place-even.result = c.read.ensures.value in
    let s : c.read-in-loop-slot.result ≡ at gen.W.Width.unit c.args.entries.now c.place-odd.result = c.read-in-loop-slot.ensures.value in
    let e : c.low_end-low.result ≡ slot_low c.args.kinds.now (entry (held gen.W.Width.unit c.args.kinds.now c.args.entries.now)) c.loop-slot.slot =
    c.low_end-low.ensures.low ∙ ap (λ x. range_low (get_or c.args.kinds.now c.loop-slot.slot false) (wide gen.W.Width.unit x)) (r ∙ ap (at gen.W.Width.unit c.args.entries.now) c.place-even.ensures.place)
    ∙ ap (range_low (get_or c.args.kinds.now c.loop-slot.slot false)) (sym (held-kept gen.W.Width.unit gen.W.Width.positive c.args.kinds.now c.args.entries.now (2 * c.loop-slot.slot) (2 * c.loop-slot.slot + 1) (omega arith))) in
    let f : c.high_end-high.result ≡ slot_high c.args.kinds.now (entry (held gen.W.Width.unit c.args.kinds.now c.args.entries.now)) c.loop-slot.slot =
    c.high_end-high.ensures.high ∙ ap (λ x. range_high (get_or c.args.kinds.now c.loop-slot.slot false) (wide gen.W.Width.unit x)) (s ∙ ap (at gen.W.Width.unit c.args.entries.now) c.place-odd.ensures.place)
    ∙ ap (range_high (get_or c.args.kinds.now c.loop-slot.slot false)) (sym (held-kept gen.W.Width.unit gen.W.Width.positive c.args.kinds.now c.args.entries.now (2 * c.loop-slot.slot + 1) (2 * c.loop-slot.slot) (omega arith))) in
    record {
      empty = (c.loop-slot.slot, (omega arith, subst (λ x. x <ℤ slot_low c.args.kinds.now (entry (held gen.W.Width.unit c.args.kinds.now c.args.entries.now)) c.loop-slot.slot) f (subst (λ x. c.high_end-high.result <ℤ x) e p)));
    }

pub loop-slot-preserved : goal.loop-slot-preserved
loop-slot-preserved gen c =
    let p : c.low_end-low.result ≤ℤ c.high_end-high.result = grind (arith, ints) in
    let few : length c.args.kinds.now ≤ 16 = c.requires.narrow.matrix.few in
    let r : c.read.result ≡ at gen.W.Width.unit c.args.entries.now c.place-even.result = c.read.ensures.value in
    let s : c.read-in-loop-slot.result ≡ at gen.W.Width.unit c.args.entries.now c.place-odd.result = c.read-in-loop-slot.ensures.value in
    let e : c.low_end-low.result ≡ slot_low c.args.kinds.now (entry (held gen.W.Width.unit c.args.kinds.now c.args.entries.now)) c.loop-slot.slot =
    c.low_end-low.ensures.low ∙ ap (λ x. range_low (get_or c.args.kinds.now c.loop-slot.slot false) (wide gen.W.Width.unit x)) (r ∙ ap (at gen.W.Width.unit c.args.entries.now) c.place-even.ensures.place)
    ∙ ap (range_low (get_or c.args.kinds.now c.loop-slot.slot false)) (sym (held-kept gen.W.Width.unit gen.W.Width.positive c.args.kinds.now c.args.entries.now (2 * c.loop-slot.slot) (2 * c.loop-slot.slot + 1) (omega arith))) in
    let f : c.high_end-high.result ≡ slot_high c.args.kinds.now (entry (held gen.W.Width.unit c.args.kinds.now c.args.entries.now)) c.loop-slot.slot =
    c.high_end-high.ensures.high ∙ ap (λ x. range_high (get_or c.args.kinds.now c.loop-slot.slot false) (wide gen.W.Width.unit x)) (s ∙ ap (at gen.W.Width.unit c.args.entries.now) c.place-odd.ensures.place)
    ∙ ap (range_high (get_or c.args.kinds.now c.loop-slot.slot false)) (sym (held-kept gen.W.Width.unit gen.W.Width.positive c.args.kinds.now c.args.entries.now (2 * c.loop-slot.slot + 1) (2 * c.loop-slot.slot) (omega arith))) in
    below_more (λ k. slot_low c.args.kinds.now (entry (held gen.W.Width.unit c.args.kinds.now c.args.entries.now)) k ≤ℤ slot_high c.args.kinds.now (entry (held gen.W.Width.unit c.args.kinds.now c.args.entries.now)) k) c.loop-slot.slot c.loop-slot.invariant
    (subst (λ x. x ≤ℤ slot_high c.args.kinds.now (entry (held gen.W.Width.unit c.args.kinds.now c.args.entries.now)) c.loop-slot.slot) e (subst (λ x. c.low_end-low.result ≤ℤ x) f p))
