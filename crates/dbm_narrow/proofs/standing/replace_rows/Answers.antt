use Rattle.std.specs.Prelude.{◌≤◌, ◌+◌, ◌*◌, length}
use Rattle.std.proofs.Common.{arith, rules, ◌∙◌}
use Rattle.dbm_core.specs.Half.{row_start, row_width}
use Rattle.dbm_narrow.specs.Entries.{AreEntries}
use Rattle.dbm_narrow.proofs.PartLemmas.{row-in, rows-next}
use Rattle.dbm_narrow.specs.Standing.{replaced}
use Rattle.dbm_narrow.proofs.standing.replace_rows.Goals as goal

pub replace_row-requires : goal.replace_row-requires
replace_row-requires gen c =
    let size : row_start c.loop-i.i + row_width c.loop-i.i ≤ length c.loop-i.entries = row-in gen.W.Width.unit gen.W.Width.positive c.loop-i.entries c.args.slots c.loop-i.i (c.loop-i.invariant.size ∙ c.requires.size) (omega arith) in
    let all : AreEntries gen.W.Width.unit (2 * gen.W.Width.unit) c.loop-i.entries = c.loop-i.invariant.entries in
    search rules

pub loop-i-preserved : goal.loop-i-preserved
loop-i-preserved gen c = rows-next gen.W.Width.unit gen.W.Width.positive (replaced gen.W.Width.unit c.args.q c.args.first.now c.args.second.now) c.args.entries.now c.loop-i.entries c.replace_row.new.entries c.loop-i.i c.loop-i.invariant c.replace_row.auto.entries c.replace_row.ensures.kept c.replace_row.ensures.rest c.replace_row.ensures.entries
