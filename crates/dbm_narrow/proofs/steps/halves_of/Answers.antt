use Rattle.std.specs.Prelude.{ℤ, replicate, ◌≡◌, ◌≤◌, ◌+◌, ◌*◌, length}
use Rattle.std.proofs.Common.{arith, subst, sym, ◌∙◌, ap, refl}
use Rattle.dbm_close.specs.Steps.{half}
use Rattle.dbm_core.specs.Nodes.{flip}
use Rattle.dbm_narrow.proofs.EntryLemmas.{entries-from, half-entry, held-entry, none-anywhere, pair-is_entry, pair-kept, wide-at, wide-half}
use Rattle.dbm_narrow.proofs.MiddleLemmas.{flip-first, flip-second}
use Rattle.dbm_narrow.proofs.PartLemmas.{place-in}
use Rattle.dbm_narrow.proofs.RoundLemmas.{narrow-size}
use Rattle.dbm_narrow.proofs.RowLemmas.{two-rest, two-set, two-size}
use Rattle.dbm_narrow.specs.Entries.{at, half_entry, none, pair_at, wide}
use Rattle.dbm_narrow.proofs.steps.halves_of.Goals as goal

pub place-even-requires-clause-row : goal.place-even-requires-clause-row
place-even-requires-clause-row gen c = omega (arith, c.requires.narrow.matrix.few)

pub place-odd-requires-clause-row : goal.place-odd-requires-clause-row
place-odd-requires-clause-row gen c = omega (arith, c.requires.narrow.matrix.few)

pub read-requires : goal.read-requires
read-requires gen c = record { place = omega (arith, place-in gen.W.Width.unit gen.W.Width.positive c.args.entries.now (length c.args.kinds.now) (2 * c.loop-slot.slot) (2 * c.loop-slot.slot + 1) (narrow-size gen.W.Width.unit gen.W.Width.positive c.args.kinds.now c.args.entries.now c.requires.narrow) (omega arith) (omega arith)) }

pub read-requires-in-loop-slot : goal.read-requires-in-loop-slot
read-requires-in-loop-slot gen c = record { place = omega (arith, place-in gen.W.Width.unit gen.W.Width.positive c.args.entries.now (length c.args.kinds.now) (2 * c.loop-slot.slot + 1) (2 * c.loop-slot.slot) (narrow-size gen.W.Width.unit gen.W.Width.positive c.args.kinds.now c.args.entries.now c.requires.narrow) (omega arith) (omega arith)) }

pub loop-slot-init : goal.loop-slot-init
loop-slot-init gen c = record {
  size = refl;
  done = λ k l. absurd (omega arith);
  rest = λ k l. subst (λ z. at gen.W.Width.unit (replicate {A = ℤ} 32 z) k ≡ none gen.W.Width.unit) (sym c.none-halves.ensures.value) (none-anywhere gen.W.Width.unit gen.W.Width.positive 32 k);
}

pub loop-slot-preserved : goal.loop-slot-preserved
loop-slot-preserved gen c =
    let few : length c.args.kinds.now ≤ 16 = c.requires.narrow.matrix.few in
    let r_even : c.read.result ≡ at gen.W.Width.unit c.args.entries.now c.place-even.result = c.read.ensures.value in
    let even : c.half-down.result ≡ half_entry gen.W.Width.unit (pair_at gen.W.Width.unit c.args.entries.now (2 * c.loop-slot.slot) (flip (2 * c.loop-slot.slot))) =
    c.half-down.ensures.half
    ∙ ap (half_entry gen.W.Width.unit) (r_even ∙ ap (at gen.W.Width.unit c.args.entries.now) c.place-even.ensures.place
    ∙ sym (pair-kept gen.W.Width.unit gen.W.Width.positive c.args.entries.now (2 * c.loop-slot.slot) (2 * c.loop-slot.slot + 1) (omega arith)) ∙ ap (pair_at gen.W.Width.unit c.args.entries.now (2 * c.loop-slot.slot)) (sym (flip-first gen.W.Width.unit gen.W.Width.positive c.loop-slot.slot))) in
    let r_odd : c.read-in-loop-slot.result ≡ at gen.W.Width.unit c.args.entries.now c.place-odd.result = c.read-in-loop-slot.ensures.value in
    let odd : c.half-up.result ≡ half_entry gen.W.Width.unit (pair_at gen.W.Width.unit c.args.entries.now (2 * c.loop-slot.slot + 1) (flip (2 * c.loop-slot.slot + 1))) =
    c.half-up.ensures.half
    ∙ ap (half_entry gen.W.Width.unit) (r_odd ∙ ap (at gen.W.Width.unit c.args.entries.now) c.place-odd.ensures.place
    ∙ sym (pair-kept gen.W.Width.unit gen.W.Width.positive c.args.entries.now (2 * c.loop-slot.slot + 1) (2 * c.loop-slot.slot) (omega arith)) ∙ ap (pair_at gen.W.Width.unit c.args.entries.now (2 * c.loop-slot.slot + 1)) (sym (flip-second gen.W.Width.unit gen.W.Width.positive c.loop-slot.slot))) in
    record {
      size = two-size gen.W.Width.unit gen.W.Width.positive 32 c.loop-slot.halves c.loop-slot.slot _ _ c.loop-slot.invariant.size;
      done = two-set gen.W.Width.unit gen.W.Width.positive (λ k x. x ≡ half_entry gen.W.Width.unit (pair_at gen.W.Width.unit c.args.entries.now k (flip k))) c.loop-slot.halves c.loop-slot.slot _ _ (omega (arith, c.loop-slot.invariant.size)) c.loop-slot.invariant.done even odd;
      rest = two-rest gen.W.Width.unit gen.W.Width.positive (λ k x. x ≡ none gen.W.Width.unit) c.loop-slot.halves c.loop-slot.slot _ _ c.loop-slot.invariant.rest;
    }

pub returns-clause-halves : goal.returns-clause-halves
returns-clause-halves gen c = λ i hi.
    wide-at gen.W.Width.unit gen.W.Width.positive c.loop-slot.halves i ∙ ap (wide gen.W.Width.unit) (c.loop-slot.invariant.done i (omega arith)) ∙ wide-half gen.W.Width.unit gen.W.Width.positive (pair_at gen.W.Width.unit c.args.entries.now i (flip i)) ∙ ap half (sym (held-entry gen.W.Width.unit gen.W.Width.positive c.args.kinds.now c.args.entries.now i (flip i)))

pub returns-clause-entries : goal.returns-clause-entries
returns-clause-entries gen c = entries-from gen.W.Width.unit gen.W.Width.positive gen.W.Width.unit (2 * c.loop-slot.slot) c.loop-slot.halves (λ k. half_entry gen.W.Width.unit (pair_at gen.W.Width.unit c.args.entries.now k (flip k))) c.loop-slot.invariant.done c.loop-slot.invariant.rest
    (λ k. half-entry gen.W.Width.unit gen.W.Width.positive (pair_at gen.W.Width.unit c.args.entries.now k (flip k)) (pair-is_entry gen.W.Width.unit gen.W.Width.positive (2 * gen.W.Width.unit) c.args.entries.now k (flip k) c.requires.narrow.entries))
