use Rattle.std.specs.Prelude.{◌≡◌, ◌^◌, length}
use Rattle.std.proofs.Common.{◌∙◌, ap, sym, arith}
use Rattle.std.proofs.lemmas.Int.{to_z-of_z}
use mir.Syntax.{w128}
use Rattle.dbm_core.proofs.LimitLemmas.{AreWithin-entries}
use Rattle.dbm_core.specs.Half.{HalfMatrix, HasEntries, entry}
use Rattle.dbm_incremental.specs.Equations.{stood_entry}
use Rattle.dbm_incremental.proofs.AssignLemmas.{stood-diagonal, stood-within}
use Rattle.dbm_incremental.proofs.SlotLemmas.{stood-updated}
use Rattle.dbm_incremental.proofs.equation.equated_entries.Goals as goal

pub update_slot-requires-clause-diagonal : goal.update_slot-requires-clause-diagonal
update_slot-requires-clause-diagonal c = λ a b p q.
    p.1 ∙ rw (to_z-of_z w128 c.args.c c.ranges.c) (stood-diagonal (entry c.args.m.now) (length c.args.m.now.kinds) c.args.q c.args.y c.args.c c.args.q c.requires.node c.requires.slot c.requires.strong) ∙ sym q.1

pub returns : goal.returns
returns c =
    let e : c.in_ok-weights.weights ≡ c.args.m.now = c.in_ok-weights.ensures.same in
    let n : length c.in_ok-weights.weights.kinds ≡ length c.args.m.now.kinds = ap (λ (m : HalfMatrix). length m.kinds) e in
    let h : HasEntries c.args.m.now.kinds (stood_entry (entry c.args.m.now) c.args.q c.args.y c.args.c) c.update_slot.new.self =
    stood-updated c.args.m.now c.update_slot.new.self c.args.q c.args.y c.args.c c.requires.node c.requires.strong c.update_slot.ensures.matrix
    (c.update_slot.ensures.same_kinds ∙ ap (λ (m : HalfMatrix). m.kinds) e)
    (λ i j hi w o. rw (to_z-of_z w128 c.args.c c.ranges.c) at (c.update_slot.ensures.changed i j (omega (arith, n)) w o).1)
    (λ i j hi w o. c.update_slot.ensures.rest i j (omega (arith, n)) w o ∙ ap (λ (m : HalfMatrix). entry m i j) e) in
    record {
      entries = h;
      within = AreWithin-entries c.args.m.now.kinds (stood_entry (entry c.args.m.now) c.args.q c.args.y c.args.c) c.update_slot.new.self (2 ^ 72) h
          (stood-within (entry c.args.m.now) (length c.args.m.now.kinds) c.args.q c.args.y c.args.c c.requires.node c.requires.within c.requires.small);
    }
