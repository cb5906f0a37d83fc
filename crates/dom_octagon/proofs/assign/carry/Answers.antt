use Rattle.std.specs.Prelude.{◌≡◌}
use Rattle.std.proofs.Common.{arith, ap, length, sym, ◌∙◌}
use Rattle.std.proofs.lemmas.Int.{to_z-of_z}
use mir.Syntax.{w128}
use Rattle.dbm_core.proofs.HalfLemmas.{entry-coherent}
use Rattle.dbm_core.specs.Half.{HalfMatrix, entry}
use Rattle.dom_octagon_meaning.proofs.Matrices.{shifted-coherent}
use Rattle.dom_octagon_meaning.specs.Matrices.{shifted}
use Rattle.dom_octagon.proofs.Tables.{coherent-diagonal}
use Rattle.dom_octagon.proofs.Triangles.{carried_outside, carried_updated}
use Rattle.dom_octagon.proofs.assign.carry.Goals as goal

pub returns-then-x-kinds : goal.returns-then-x-kinds
returns-then-x-kinds c = record {
  value = c.requires.copy ∙ carried_outside c.args.m.now c.args.x c.args.i c.args.c c.kinds-kinds.ensures.matrix
      (omega (arith, ap length c.kinds.ensures.value, ap (λ (m : HalfMatrix). length m.kinds) c.requires.copy, c.if-x-kinds.true));
}

pub update_slot-requires-clause-diagonal : goal.update_slot-requires-clause-diagonal
update_slot-requires-clause-diagonal c = λ a b p q.
    p.1 ∙ rw (to_z-of_z w128 c.args.c c.ranges.c) (coherent-diagonal (shifted (entry c.args.m.now) c.args.x c.args.i c.args.c) (length c.args.m.now.kinds) c.args.x
    (shifted-coherent (entry c.args.m.now) c.args.x c.args.i c.args.c (length c.args.m.now.kinds) (entry-coherent c.args.m.now c.kinds-kinds.ensures.matrix))
    (omega (arith, ap length c.kinds.ensures.value, ap (λ (m : HalfMatrix). length m.kinds) c.requires.copy, c.if-x-kinds.false))) ∙ sym q.1

pub returns : goal.returns
returns c =
    let n : length c.args.set.now.kinds ≡ length c.args.m.now.kinds = ap (λ (m : HalfMatrix). length m.kinds) c.requires.copy in
    record {
      value = carried_updated c.args.m.now c.update_slot.new.self c.args.x c.args.i c.args.c c.kinds-kinds.ensures.matrix c.update_slot.ensures.matrix
          (c.update_slot.ensures.same_kinds ∙ ap (λ (m : HalfMatrix). m.kinds) c.requires.copy)
          (λ a b ha w o. rw (to_z-of_z w128 c.args.c c.ranges.c) at (c.update_slot.ensures.changed a b (omega (arith, n)) w o).1)
          (λ a b ha w o. c.update_slot.ensures.rest a b (omega (arith, n)) w o ∙ ap (λ (m : HalfMatrix). entry m a b) c.requires.copy);
    }
