use Rattle.std.specs.Prelude.{◌≡◌, ◌+◌, ◌*◌, ℤ, replicate}
use Rattle.std.proofs.Common.{arith, sym, subst, ◌∙◌, ap, refl}
use Rattle.dbm_core.specs.Nodes.{flip}
use Rattle.dbm_narrow.proofs.EntryLemmas.{none-anywhere}
use Rattle.dbm_narrow.proofs.MiddleLemmas.{flip-first, flip-second}
use Rattle.dbm_narrow.proofs.RowLemmas.{two-rest, two-set, two-size}
use Rattle.dbm_narrow.specs.Entries.{at, none}
use Rattle.dbm_narrow.proofs.middle.flipped.Goals as goal

pub loop-slot-init : goal.loop-slot-init
loop-slot-init gen c = record { size = refl; done = λ k l. absurd (omega arith); rest = λ k l. subst (λ z. at gen.W.Width.unit (replicate {A = ℤ} 32 z) k ≡ none gen.W.Width.unit) (sym c.none-turned.ensures.value) (none-anywhere gen.W.Width.unit gen.W.Width.positive 32 k) }

pub loop-slot-preserved : goal.loop-slot-preserved
loop-slot-preserved gen c =
    let even : c.read-odd.result ≡ at gen.W.Width.unit c.args.row.now (flip (2 * c.loop-slot.slot)) =
    c.read-odd.ensures.value ∙ ap (at gen.W.Width.unit c.args.row.now) (sym (flip-first gen.W.Width.unit gen.W.Width.positive c.loop-slot.slot)) in
    let odd : c.read-even.result ≡ at gen.W.Width.unit c.args.row.now (flip (2 * c.loop-slot.slot + 1)) =
    c.read-even.ensures.value ∙ ap (at gen.W.Width.unit c.args.row.now) (sym (flip-second gen.W.Width.unit gen.W.Width.positive c.loop-slot.slot)) in
    record {
      size = two-size gen.W.Width.unit gen.W.Width.positive 32 c.loop-slot.turned c.loop-slot.slot _ _ c.loop-slot.invariant.size;
      done = two-set gen.W.Width.unit gen.W.Width.positive (λ k x. x ≡ at gen.W.Width.unit c.args.row.now (flip k)) c.loop-slot.turned c.loop-slot.slot _ _ (omega (arith, c.loop-slot.invariant.size)) c.loop-slot.invariant.done even odd;
      rest = two-rest gen.W.Width.unit gen.W.Width.positive (λ k x. x ≡ none gen.W.Width.unit) c.loop-slot.turned c.loop-slot.slot _ _ c.loop-slot.invariant.rest;
    }
