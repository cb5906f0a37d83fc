use Rattle.std.specs.Prelude.{◌*◌, ◌≡◌, ◌+◌, ◌-◌, length}
use Rattle.std.proofs.Common.{arith, ◌∙◌, ap, take, drop}
use Rattle.dbm_core.specs.Half.{row_width}
use Rattle.dbm_narrow.proofs.LightLemmas.{rows-fit}
use Rattle.dbm_narrow.proofs.PartLemmas.{part-entries, row-entries, row-inside, row-length, row-outside, row-read}
use Rattle.dbm_narrow.specs.Standing.{replaced}
use Rattle.dbm_narrow.proofs.standing.replace_row.Goals as goal

pub replace_each-requires : goal.replace_each-requires
replace_each-requires gen c = (rows-fit gen.row.W gen.met.W.Width.light, (row-length gen.W.Width.unit gen.W.Width.positive c.args.entries.now c.args.i c.row_at-start.result c.row_len.result c.row_at-start.ensures.start c.row_len.ensures.width c.requires.size, (part-entries gen.W.Width.unit gen.W.Width.positive (2 * gen.W.Width.unit) c.args.entries.now c.row_at-start.result ((c.row_at-start.result + c.row_len.result) - c.row_at-start.result) c.requires.entries, (c.requires.row, (c.requires.slot, (c.requires.first, c.requires.second))))))

pub returns-clause-kept : goal.returns-clause-kept
returns-clause-kept gen c = λ j w.
    let len : length (take ((c.row_at-start.result + c.row_len.result) - c.row_at-start.result) (drop c.row_at-start.result c.args.entries.now)) ≡ row_width c.args.i = row-length gen.W.Width.unit gen.W.Width.positive c.args.entries.now c.args.i c.row_at-start.result c.row_len.result c.row_at-start.ensures.start c.row_len.ensures.width c.requires.size in
    row-inside gen.W.Width.unit gen.W.Width.positive c.args.entries.now c.replace_each.new.row c.args.i c.row_at-start.result c.row_len.result c.row_at-start.ensures.start c.row_len.ensures.width c.requires.size (c.replace_each.auto.row ∙ len) j w
    ∙ c.replace_each.ensures.kept j (omega (arith, len))
    ∙ ap (replaced gen.W.Width.unit c.args.q c.args.first.now c.args.second.now c.args.i j) (row-read gen.W.Width.unit gen.W.Width.positive c.args.entries.now c.args.i c.row_at-start.result c.row_len.result c.row_at-start.ensures.start c.row_len.ensures.width j w)

pub returns-clause-entries : goal.returns-clause-entries
returns-clause-entries gen c =
    let len : length (take ((c.row_at-start.result + c.row_len.result) - c.row_at-start.result) (drop c.row_at-start.result c.args.entries.now)) ≡ row_width c.args.i = row-length gen.W.Width.unit gen.W.Width.positive c.args.entries.now c.args.i c.row_at-start.result c.row_len.result c.row_at-start.ensures.start c.row_len.ensures.width c.requires.size in
    row-entries gen.W.Width.unit gen.W.Width.positive c.args.entries.now c.replace_each.new.row c.args.i c.row_at-start.result c.row_len.result c.row_at-start.ensures.start c.row_len.ensures.width c.requires.size (c.replace_each.auto.row ∙ len) c.requires.entries c.replace_each.ensures.within

pub returns-clause-rest : goal.returns-clause-rest
returns-clause-rest gen c =
    let len : length (take ((c.row_at-start.result + c.row_len.result) - c.row_at-start.result) (drop c.row_at-start.result c.args.entries.now)) ≡ row_width c.args.i = row-length gen.W.Width.unit gen.W.Width.positive c.args.entries.now c.args.i c.row_at-start.result c.row_len.result c.row_at-start.ensures.start c.row_len.ensures.width c.requires.size in
    row-outside gen.W.Width.unit gen.W.Width.positive c.args.entries.now c.replace_each.new.row c.args.i c.row_at-start.result c.row_len.result c.row_at-start.ensures.start c.row_len.ensures.width c.requires.size (c.replace_each.auto.row ∙ len)
