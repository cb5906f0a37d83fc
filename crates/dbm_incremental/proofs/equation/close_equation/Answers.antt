use Rattle.std.specs.Prelude.{◌*◌, ◌<◌, ◌^◌, length}
use Rattle.std.proofs.Common.{arith, ap, sym, subst, ◌∙◌}
use Rattle.std.proofs.lemmas.Int.{to_z-of_z}
use mir.Syntax.{w128}
use Rattle.dbm_close.proofs.RoundLemmas.{AreWithin-more}
use Rattle.dbm_close.specs.Finish.{IsFinishedBut}
use Rattle.dbm_core.specs.Half.{HasEntries, entry, nodes}
use Rattle.dbm_incremental.specs.Equations.{equated, stood_entry}
use Rattle.dbm_incremental.specs.Triangles.{AreSoundWeights}
use Rattle.dbm_incremental.proofs.AssignLemmas.{equated-weights}
use Rattle.dbm_incremental.proofs.CloseLemmas.{close-from_entries, finish-answer}
use Rattle.dbm_incremental.proofs.MoveLemmas.{whole-strong}
use Rattle.dbm_incremental.proofs.SlotLemmas.{finished-but, stood-rest}
use Rattle.dbm_incremental.proofs.equation.close_equation.Goals as goal

pub equated_entries-requires-clause-strong : goal.equated_entries-requires-clause-strong
equated_entries-requires-clause-strong c = whole-strong c.args.closed.now c.requires.closed c.requires.whole

pub finish_slot-requires-clause-slot : goal.finish_slot-requires-clause-slot
finish_slot-requires-clause-slot c =
    let h : HasEntries c.args.closed.now.kinds (stood_entry (entry c.args.closed.now) c.args.q c.args.y c.args.c) c.in_ok-weights.weights = rw (to_z-of_z w128 c.args.c c.ranges.c) at c.in_ok-weights.ensures.entries in
    subst (λ k. c.args.q < length k) (sym h.same_kinds) c.requires.slot

pub finish_slot-requires-clause-within : goal.finish_slot-requires-clause-within
finish_slot-requires-clause-within c = AreWithin-more (nodes c.in_ok-weights.weights) (2 ^ 72) (2 ^ 102) (entry c.in_ok-weights.weights) (omega arith) c.in_ok-weights.ensures.within

pub finish_slot-requires-clause-rest : goal.finish_slot-requires-clause-rest
finish_slot-requires-clause-rest c =
    let h : HasEntries c.args.closed.now.kinds (stood_entry (entry c.args.closed.now) c.args.q c.args.y c.args.c) c.in_ok-weights.weights = rw (to_z-of_z w128 c.args.c c.ranges.c) at c.in_ok-weights.ensures.entries in
    subst (λ k. IsFinishedBut c.args.q k (entry c.in_ok-weights.weights)) (sym h.same_kinds)
    (finished-but c.args.closed.now (entry c.in_ok-weights.weights) c.args.q c.requires.closed c.requires.whole
    (λ i j hi hj n. h.entries i j hi hj ∙ stood-rest (entry c.args.closed.now) c.args.q c.args.y c.args.c i j n))

pub returns : goal.returns
returns c =
    let h : HasEntries c.args.closed.now.kinds (stood_entry (entry c.args.closed.now) c.args.q c.args.y c.args.c) c.in_ok-weights.weights = rw (to_z-of_z w128 c.args.c c.ranges.c) at c.in_ok-weights.ensures.entries in
    let w : AreSoundWeights (equated (entry c.args.closed.now) c.args.q c.args.y c.args.c) (nodes c.args.closed.now) (entry c.in_ok-weights.weights) =
    equated-weights c.args.closed.now c.in_ok-weights.weights c.args.q c.args.y c.args.c c.requires.slot c.requires.node c.requires.apart (whole-strong c.args.closed.now c.requires.closed c.requires.whole) h in
    record {
      closed = λ t g. close-from_entries c.args.closed.now.kinds (equated (entry c.args.closed.now) c.args.q c.args.y c.args.c) c.in_ok-weights.weights t c.finish_slot.result h.same_kinds g w c.finish_slot.ensures.finish;
      stays_closed = finish-answer (equated (entry c.args.closed.now) c.args.q c.args.y c.args.c) c.in_ok-weights.weights c.finish_slot.result h.matrix
          (subst (λ n. AreSoundWeights (equated (entry c.args.closed.now) c.args.q c.args.y c.args.c) n (entry c.in_ok-weights.weights)) (ap (λ x. 2 * length x) (sym h.same_kinds)) w)
          c.finish_slot.ensures.finish;
    }
