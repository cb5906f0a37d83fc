use Rattle.std.proofs.Common.{length, ap, ◌∙◌}
use Rattle.cell_removal.specs.Marks.{with_mark}
use Rattle.cell_removal.proofs.Marking.{puts_bit, length-mark}
use Rattle.cell_removal.proofs.bit_set.BitSet.add.Goals as goal

pub returns : goal.returns
returns c = record {
  puts = puts_bit c.args.self.now c.set_bit.new.words.items c.args.number c.requires.room (c.set_bit.ensures.sets ∙ ap (λ ws. with_mark ws c.args.number) c.self.view_is);
  room = ap length c.set_bit.ensures.sets ∙ length-mark c.self.inside.words.items c.args.number ∙ ap length c.self.view_is;
}
