use Rattle.std.specs.Prelude.{ℤ, replicate, ◌≡◌, ◌+◌, ◌*◌, ◌/◌}
use Rattle.std.proofs.Common.{subst, arith, sym, ◌∙◌, ap, refl, length-set}
use Rattle.dbm_core.proofs.HalfLemmas.{place-small}
use Rattle.dbm_core.proofs.NodeLemmas.{flip-half}
use Rattle.dbm_core.specs.Half.{row_start}
use Rattle.dbm_core.specs.Nodes.{flip}
use Rattle.dbm_narrow.proofs.EntryLemmas.{none-anywhere, pair-kept, pair-other}
use Rattle.dbm_narrow.proofs.MiddleLemmas.{flip-first, flip-second}
use Rattle.dbm_narrow.proofs.PartLemmas.{place-in}
use Rattle.dbm_narrow.proofs.RowLemmas.{done-set, rest-set, two-rest, two-set, two-size}
use Rattle.dbm_narrow.specs.Entries.{at, none, pair_at}
use Rattle.dbm_narrow.proofs.rows.whole_row.Goals as goal

pub loop-j-init : goal.loop-j-init
loop-j-init gen c = record { size = refl; done = λ k l. absurd (omega arith); rest = λ k l. subst (λ z. at gen.W.Width.unit (replicate {A = ℤ} 32 z) k ≡ none gen.W.Width.unit) (sym c.none-row.ensures.value) (none-anywhere gen.W.Width.unit gen.W.Width.positive 32 k) }

pub overflow_add-at : goal.overflow_add-at
overflow_add-at gen c = omega (arith, place-small c.args.i c.loop-j.j (omega arith) (omega arith))

pub read-requires : goal.read-requires
read-requires gen c = record { place = omega (arith, place-in gen.W.Width.unit gen.W.Width.positive c.args.entries.now c.args.slots c.args.i c.loop-j.j c.requires.size c.requires.row (omega arith)) }

pub loop-j-preserved : goal.loop-j-preserved
loop-j-preserved gen c =
    let r : c.read.result ≡ at gen.W.Width.unit c.args.entries.now (c.row_at-start.result + c.loop-j.j) = c.read.ensures.value in
    let e : c.read.result ≡ at gen.W.Width.unit c.args.entries.now (row_start c.args.i + c.loop-j.j) =
    r ∙ ap (λ s. at gen.W.Width.unit c.args.entries.now (s + c.loop-j.j)) c.row_at-start.ensures.start in
    record {
      size = length-set c.loop-j.row c.loop-j.j _ ∙ c.loop-j.invariant.size;
      done = done-set gen.W.Width.unit gen.W.Width.positive (λ k x. x ≡ at gen.W.Width.unit c.args.entries.now (row_start c.args.i + k)) c.loop-j.row c.loop-j.j _ (omega (arith, c.loop-j.invariant.size)) c.loop-j.invariant.done e;
      rest = rest-set gen.W.Width.unit gen.W.Width.positive (λ k x. x ≡ none gen.W.Width.unit) c.loop-j.row c.loop-j.j _ c.loop-j.invariant.rest;
    }

pub loop-slot-init : goal.loop-slot-init
loop-slot-init gen c = record {
  size = c.loop-j.invariant.size;
  done = λ k l. c.loop-j.invariant.done k (omega arith) ∙ sym (pair-kept gen.W.Width.unit gen.W.Width.positive c.args.entries.now c.args.i k (omega arith));
  rest = λ k l. c.loop-j.invariant.rest k (omega arith);
}

pub overflow_add-even : goal.overflow_add-even
overflow_add-even gen c = omega (arith, place-small (2 * c.loop-slot.slot) (flip c.args.i) (omega arith) (omega (arith, flip-half c.args.i)))

pub overflow_add-odd : goal.overflow_add-odd
overflow_add-odd gen c = omega (arith, place-small (2 * c.loop-slot.slot + 1) (flip c.args.i) (omega arith) (omega (arith, flip-half c.args.i)))

pub read-second-requires : goal.read-second-requires
read-second-requires gen c = record { place = omega (arith, place-in gen.W.Width.unit gen.W.Width.positive c.args.entries.now c.args.slots (2 * c.loop-slot.slot) (flip c.args.i) c.requires.size (omega arith) (omega (arith, flip-half c.args.i))) }

pub read-first-requires : goal.read-first-requires
read-first-requires gen c = record { place = omega (arith, place-in gen.W.Width.unit gen.W.Width.positive c.args.entries.now c.args.slots (2 * c.loop-slot.slot + 1) (flip c.args.i) c.requires.size (omega arith) (omega (arith, flip-half c.args.i))) }

pub loop-slot-preserved : goal.loop-slot-preserved
loop-slot-preserved gen c =
    let o : c.args.other ≡ flip c.args.i = c.requires.other in
    let h : flip c.args.i / 2 ≡ c.args.i / 2 = flip-half c.args.i in
    let reven : c.read-second.result ≡ at gen.W.Width.unit c.args.entries.now (c.row_at.result + c.args.other) = c.read-second.ensures.value in
    let even : c.read-second.result ≡ pair_at gen.W.Width.unit c.args.entries.now c.args.i (2 * c.loop-slot.slot + 1) =
    reven
    ∙ ap (λ s. at gen.W.Width.unit c.args.entries.now (s + c.args.other)) c.row_at.ensures.start
    ∙ ap (λ o. at gen.W.Width.unit c.args.entries.now (row_start (2 * c.loop-slot.slot) + o)) o
    ∙ ap (λ k. at gen.W.Width.unit c.args.entries.now (row_start k + flip c.args.i)) (sym (flip-second gen.W.Width.unit gen.W.Width.positive c.loop-slot.slot))
    ∙ sym (pair-other gen.W.Width.unit gen.W.Width.positive c.args.entries.now c.args.i (2 * c.loop-slot.slot + 1) (omega arith)) in
    let rodd : c.read-first.result ≡ at gen.W.Width.unit c.args.entries.now (c.row_at-in-loop-slot.result + c.args.other) = c.read-first.ensures.value in
    let odd : c.read-first.result ≡ pair_at gen.W.Width.unit c.args.entries.now c.args.i (2 * c.loop-slot.slot) =
    rodd
    ∙ ap (λ s. at gen.W.Width.unit c.args.entries.now (s + c.args.other)) c.row_at-in-loop-slot.ensures.start
    ∙ ap (λ o. at gen.W.Width.unit c.args.entries.now (row_start (2 * c.loop-slot.slot + 1) + o)) o
    ∙ ap (λ k. at gen.W.Width.unit c.args.entries.now (row_start k + flip c.args.i)) (sym (flip-first gen.W.Width.unit gen.W.Width.positive c.loop-slot.slot))
    ∙ sym (pair-other gen.W.Width.unit gen.W.Width.positive c.args.entries.now c.args.i (2 * c.loop-slot.slot) (omega arith)) in
    record {
      size = two-size gen.W.Width.unit gen.W.Width.positive 32 c.loop-slot.row c.loop-slot.slot _ _ c.loop-slot.invariant.size;
      done = two-set gen.W.Width.unit gen.W.Width.positive (λ k x. x ≡ pair_at gen.W.Width.unit c.args.entries.now c.args.i k) c.loop-slot.row c.loop-slot.slot _ _ (omega (arith, c.loop-slot.invariant.size)) c.loop-slot.invariant.done odd even;
      rest = two-rest gen.W.Width.unit gen.W.Width.positive (λ k x. x ≡ none gen.W.Width.unit) c.loop-slot.row c.loop-slot.slot _ _ c.loop-slot.invariant.rest;
    }
