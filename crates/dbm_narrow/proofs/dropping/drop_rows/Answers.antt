use Rattle.std.proofs.Common.{arith, ◌∙◌}
use Rattle.dbm_narrow.proofs.PartLemmas.{row-in, rows-next}
use Rattle.dbm_narrow.specs.Entries.{dropped}
use Rattle.dbm_narrow.proofs.dropping.drop_rows.Goals as goal

pub drop_row-requires-clause-size : goal.drop_row-requires-clause-size
drop_row-requires-clause-size gen c = row-in gen.W.Width.unit gen.W.Width.positive c.loop-i.entries c.args.slots c.loop-i.i (c.loop-i.invariant.size ∙ c.requires.size) (omega arith)

pub loop-i-preserved : goal.loop-i-preserved
loop-i-preserved gen c = rows-next gen.W.Width.unit gen.W.Width.positive (dropped gen.W.Width.unit c.args.slot) c.args.entries.now c.loop-i.entries c.drop_row.new.entries c.loop-i.i c.loop-i.invariant c.drop_row.auto.entries c.drop_row.ensures.kept c.drop_row.ensures.rest c.drop_row.ensures.entries
