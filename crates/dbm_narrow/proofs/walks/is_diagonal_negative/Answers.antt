use Rattle.std.specs.Prelude.{◌≡◌, ◌<ℤ◌, ◌≤ℤ◌, ◌+◌, ◌*◌, pos, negsuc, Some, length}
use Rattle.std.proofs.Common.{arith, sym, ◌∙◌, ap, subst, below_more}
use Rattle.dbm_core.proofs.HalfLemmas.{place-small}
use Rattle.dbm_core.specs.Half.{entry, row_start}
use Rattle.dbm_core.specs.Weights.{AtMost}
use Rattle.dbm_narrow.proofs.EntryLemmas.{held-kept, wide-negative, wide-positive, zero-above, zero-below}
use Rattle.dbm_narrow.proofs.PartLemmas.{place-in}
use Rattle.dbm_narrow.proofs.RoundLemmas.{diagonal-sound, narrow-size}
use Rattle.dbm_narrow.specs.Entries.{at, held}
use Rattle.dbm_narrow.proofs.walks.is_diagonal_negative.Goals as goal

pub overflow_add-at : goal.overflow_add-at
overflow_add-at gen c = omega (arith, c.requires.narrow.matrix.few, place-small (2 * c.loop-slot.slot) (2 * c.loop-slot.slot) (omega (arith, c.requires.narrow.matrix.few)) (omega arith))

pub read-own-requires : goal.read-own-requires
read-own-requires gen c = record { place = omega (arith, place-in gen.W.Width.unit gen.W.Width.positive c.args.entries.now (length c.args.kinds.now) (2 * c.loop-slot.slot) (2 * c.loop-slot.slot) (narrow-size gen.W.Width.unit gen.W.Width.positive c.args.kinds.now c.args.entries.now c.requires.narrow) (omega arith) (omega arith)) }

pub returns-then-is_less : goal.returns-then-is_less
returns-then-is_less gen c =
    let r : c.read-own.result ≡ at gen.W.Width.unit c.args.entries.now (c.row_at.result + 2 * c.loop-slot.slot) = c.read-own.ensures.value in
    let e : c.read-own.result ≡ at gen.W.Width.unit c.args.entries.now (row_start (2 * c.loop-slot.slot) + 2 * c.loop-slot.slot) =
    r ∙ ap (λ s. at gen.W.Width.unit c.args.entries.now (s + 2 * c.loop-slot.slot)) c.row_at.ensures.start in
    record {
      negative = (
        2 * c.loop-slot.slot,
        (
          omega arith,
          subst (λ a. AtMost a (Some (negsuc 0))) (sym (held-kept gen.W.Width.unit gen.W.Width.positive c.args.kinds.now c.args.entries.now (2 * c.loop-slot.slot) (2 * c.loop-slot.slot) (omega arith)))
              (wide-negative gen.W.Width.unit gen.W.Width.positive (at gen.W.Width.unit c.args.entries.now (row_start (2 * c.loop-slot.slot) + 2 * c.loop-slot.slot)) (subst (λ x. x <ℤ pos 0) e (zero-above gen.W.Width.unit gen.W.Width.positive c.read-own.result c.zero.result c.is_less.result c.zero.ensures.value c.is_less.ensures.less c.if-is_less.true))),
        ),
      );
    }

pub loop-slot-preserved : goal.loop-slot-preserved
loop-slot-preserved gen c =
    let r : c.read-own.result ≡ at gen.W.Width.unit c.args.entries.now (c.row_at.result + 2 * c.loop-slot.slot) = c.read-own.ensures.value in
    let e : c.read-own.result ≡ at gen.W.Width.unit c.args.entries.now (row_start (2 * c.loop-slot.slot) + 2 * c.loop-slot.slot) =
    r ∙ ap (λ s. at gen.W.Width.unit c.args.entries.now (s + 2 * c.loop-slot.slot)) c.row_at.ensures.start in
    below_more (λ h. AtMost (Some (pos 0)) (entry (held gen.W.Width.unit c.args.kinds.now c.args.entries.now) (2 * h) (2 * h))) c.loop-slot.slot c.loop-slot.invariant
    (subst (AtMost (Some (pos 0))) (sym (held-kept gen.W.Width.unit gen.W.Width.positive c.args.kinds.now c.args.entries.now (2 * c.loop-slot.slot) (2 * c.loop-slot.slot) (omega arith)))
    (wide-positive gen.W.Width.unit gen.W.Width.positive (at gen.W.Width.unit c.args.entries.now (row_start (2 * c.loop-slot.slot) + 2 * c.loop-slot.slot)) (subst (λ x. pos 0 ≤ℤ x) e (zero-below gen.W.Width.unit gen.W.Width.positive c.read-own.result c.zero.result c.is_less.result c.zero.ensures.value c.is_less.ensures.less c.if-is_less.false))))

pub returns : goal.returns
returns gen c = record { negative = diagonal-sound gen.W.Width.unit gen.W.Width.positive (held gen.W.Width.unit c.args.kinds.now c.args.entries.now) c.requires.narrow.matrix (λ h l. c.loop-slot.invariant h (omega arith)) }
