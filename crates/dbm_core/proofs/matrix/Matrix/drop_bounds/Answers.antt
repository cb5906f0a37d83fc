use Rattle.std.proofs.Common.{arith, ap, length}
use Rattle.dbm_core.proofs.HalfLemmas.{HasEntries-from_kept, entry-coherent}
use Rattle.dbm_core.proofs.OperationLemmas.{forgotten-coherent}
use Rattle.dbm_core.proofs.SlotLemmas.{forgotten-outside, forgotten-updated}
use Rattle.dbm_core.specs.Half.{entry, nodes}
use Rattle.dbm_core.specs.Operations.{forgotten}
use Rattle.dbm_core.proofs.matrix.Matrix.drop_bounds.Goals as goal

pub returns-then-slot-kinds : goal.returns-then-slot-kinds
returns-then-slot-kinds c = record { entries = forgotten-outside c.args.slot c.args.self.now c.kinds.ensures.matrix (omega (arith, ap length c.kinds.ensures.value, c.if-slot-kinds.true)) }

pub returns : goal.returns
returns c = record {
  entries = HasEntries-from_kept c.args.self.now.kinds (forgotten (entry c.args.self.now) c.args.slot) c.update_slot.new.self c.update_slot.ensures.matrix c.update_slot.ensures.same_kinds
      (forgotten-coherent (entry c.args.self.now) c.args.slot (nodes c.args.self.now) (entry-coherent c.args.self.now c.kinds.ensures.matrix))
      (forgotten-updated c.args.slot c.args.self.now c.update_slot.new.self (λ i j hi w s. (c.update_slot.ensures.changed i j hi w s).1) c.update_slot.ensures.rest);
}
