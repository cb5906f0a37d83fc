use Rattle.std.specs.Prelude.{◌*◌, ◌≡◌, ◌+◌, ◌-◌, length}
use Rattle.std.proofs.Common.{arith, ◌∙◌, ap, take, drop}
use Rattle.dbm_core.specs.Half.{row_width}
use Rattle.dbm_narrow.proofs.PartLemmas.{part-entries, row-entries, row-inside, row-length, row-outside, row-read}
use Rattle.dbm_narrow.specs.Entries.{dropped}
use Rattle.dbm_narrow.proofs.dropping.drop_row.Goals as goal

pub drop_each-requires-clause-row : goal.drop_each-requires-clause-row
drop_each-requires-clause-row gen c = part-entries gen.W.Width.unit gen.W.Width.positive (2 * gen.W.Width.unit) c.args.entries.now c.row_at-start.result ((c.row_at-start.result + c.row_len.result) - c.row_at-start.result) c.requires.entries

pub returns-clause-kept : goal.returns-clause-kept
returns-clause-kept gen c = λ j w.
    let len : length (take ((c.row_at-start.result + c.row_len.result) - c.row_at-start.result) (drop c.row_at-start.result c.args.entries.now)) ≡ row_width c.args.i = row-length gen.W.Width.unit gen.W.Width.positive c.args.entries.now c.args.i c.row_at-start.result c.row_len.result c.row_at-start.ensures.start c.row_len.ensures.width c.requires.size in
    row-inside gen.W.Width.unit gen.W.Width.positive c.args.entries.now c.drop_each.new.row c.args.i c.row_at-start.result c.row_len.result c.row_at-start.ensures.start c.row_len.ensures.width c.requires.size (c.drop_each.auto.row ∙ len) j w
    ∙ c.drop_each.ensures.kept j (omega (arith, len))
    ∙ ap (dropped gen.W.Width.unit c.args.slot c.args.i j) (row-read gen.W.Width.unit gen.W.Width.positive c.args.entries.now c.args.i c.row_at-start.result c.row_len.result c.row_at-start.ensures.start c.row_len.ensures.width j w)

pub returns-clause-entries : goal.returns-clause-entries
returns-clause-entries gen c =
    let len : length (take ((c.row_at-start.result + c.row_len.result) - c.row_at-start.result) (drop c.row_at-start.result c.args.entries.now)) ≡ row_width c.args.i = row-length gen.W.Width.unit gen.W.Width.positive c.args.entries.now c.args.i c.row_at-start.result c.row_len.result c.row_at-start.ensures.start c.row_len.ensures.width c.requires.size in
    row-entries gen.W.Width.unit gen.W.Width.positive c.args.entries.now c.drop_each.new.row c.args.i c.row_at-start.result c.row_len.result c.row_at-start.ensures.start c.row_len.ensures.width c.requires.size (c.drop_each.auto.row ∙ len) c.requires.entries c.drop_each.ensures.within

pub returns-clause-rest : goal.returns-clause-rest
returns-clause-rest gen c =
    let len : length (take ((c.row_at-start.result + c.row_len.result) - c.row_at-start.result) (drop c.row_at-start.result c.args.entries.now)) ≡ row_width c.args.i = row-length gen.W.Width.unit gen.W.Width.positive c.args.entries.now c.args.i c.row_at-start.result c.row_len.result c.row_at-start.ensures.start c.row_len.ensures.width c.requires.size in
    row-outside gen.W.Width.unit gen.W.Width.positive c.args.entries.now c.drop_each.new.row c.args.i c.row_at-start.result c.row_len.result c.row_at-start.ensures.start c.row_len.ensures.width c.requires.size (c.drop_each.auto.row ∙ len)
