use Rattle.std.specs.Prelude.{◌*◌, ◌≡◌, ◌+◌, ◌-◌, length}
use Rattle.std.proofs.Common.{arith, sym, ◌∙◌, subst, take, drop}
use borrow.Rule.Slice.PartMut.{put_mid}
use Rattle.dbm_core.specs.Half.{row_start, row_width}
use Rattle.dbm_core.specs.Nodes.{is_single}
use Rattle.dbm_narrow.proofs.PartLemmas.{part-entries, row-entries, row-inside, row-length, row-outside, row-read}
use Rattle.dbm_narrow.specs.Entries.{at}
use Rattle.dbm_narrow.specs.Widenings.{IsWidened}
use Rattle.dbm_narrow.proofs.widening.raise_row.Goals as goal

pub raise_each-requires-clause-row : goal.raise_each-requires-clause-row
raise_each-requires-clause-row gen c = part-entries gen.W.Width.unit gen.W.Width.positive (2 * gen.W.Width.unit) c.args.entries.now c.row_at-start.result ((c.row_at-start.result + c.row_len.result) - c.row_at-start.result) c.requires.entries

pub raise_each-requires-clause-others : goal.raise_each-requires-clause-others
raise_each-requires-clause-others gen c = part-entries gen.W.Width.unit gen.W.Width.positive (2 * gen.W.Width.unit) c.args.others.now c.row_at-start.result ((c.row_at-start.result + c.row_len.result) - c.row_at-start.result) c.requires.others

pub raise_each-requires-clause-as_many : goal.raise_each-requires-clause-as_many
raise_each-requires-clause-as_many gen c =
    row-length gen.W.Width.unit gen.W.Width.positive c.args.others.now c.args.i c.row_at-start.result c.row_len.result c.row_at-start.ensures.start c.row_len.ensures.width (omega arith)
    ∙ sym (row-length gen.W.Width.unit gen.W.Width.positive c.args.entries.now c.args.i c.row_at-start.result c.row_len.result c.row_at-start.ensures.start c.row_len.ensures.width c.requires.size)

pub returns-clause-kept : goal.returns-clause-kept
returns-clause-kept gen c = λ e j w.
    let len : length (take ((c.row_at-start.result + c.row_len.result) - c.row_at-start.result) (drop c.row_at-start.result c.args.entries.now)) ≡ row_width c.args.i =
    row-length gen.W.Width.unit gen.W.Width.positive c.args.entries.now c.args.i c.row_at-start.result c.row_len.result c.row_at-start.ensures.start c.row_len.ensures.width c.requires.size in
    let inside : at gen.W.Width.unit (put_mid c.row_at-start.result ((c.row_at-start.result + c.row_len.result) - c.row_at-start.result) c.args.entries.now c.raise_each.new.row) (row_start c.args.i + j) ≡ at gen.W.Width.unit c.raise_each.new.row j =
    row-inside gen.W.Width.unit gen.W.Width.positive c.args.entries.now c.raise_each.new.row c.args.i c.row_at-start.result c.row_len.result c.row_at-start.ensures.start c.row_len.ensures.width c.requires.size (c.raise_each.auto.row ∙ len) j w in
    let old : at gen.W.Width.unit (take ((c.row_at-start.result + c.row_len.result) - c.row_at-start.result) (drop c.row_at-start.result c.args.entries.now)) j ≡ at gen.W.Width.unit c.args.entries.now (row_start c.args.i + j) =
    row-read gen.W.Width.unit gen.W.Width.positive c.args.entries.now c.args.i c.row_at-start.result c.row_len.result c.row_at-start.ensures.start c.row_len.ensures.width j w in
    let other : at gen.W.Width.unit (take ((c.row_at-start.result + c.row_len.result) - c.row_at-start.result) (drop c.row_at-start.result c.args.others.now)) j ≡ at gen.W.Width.unit c.args.others.now (row_start c.args.i + j) =
    row-read gen.W.Width.unit gen.W.Width.positive c.args.others.now c.args.i c.row_at-start.result c.row_len.result c.row_at-start.ensures.start c.row_len.ensures.width j w in
    subst (IsWidened gen.W.Width.unit c.args.thresholds.now (is_single c.args.i j) (at gen.W.Width.unit c.args.entries.now (row_start c.args.i + j)) (at gen.W.Width.unit c.args.others.now (row_start c.args.i + j))) (sym inside)
    (subst (λ y. IsWidened gen.W.Width.unit c.args.thresholds.now (is_single c.args.i j) (at gen.W.Width.unit c.args.entries.now (row_start c.args.i + j)) y (at gen.W.Width.unit c.raise_each.new.row j)) other
    (subst (λ x. IsWidened gen.W.Width.unit c.args.thresholds.now (is_single c.args.i j) x (at gen.W.Width.unit (take ((c.row_at-start.result + c.row_len.result) - c.row_at-start.result) (drop c.row_at-start.result c.args.others.now)) j) (at gen.W.Width.unit c.raise_each.new.row j)) old
    (c.raise_each.ensures.kept e j (omega (arith, len)))))

pub returns-clause-entries : goal.returns-clause-entries
returns-clause-entries gen c = λ e.
    let len : length (take ((c.row_at-start.result + c.row_len.result) - c.row_at-start.result) (drop c.row_at-start.result c.args.entries.now)) ≡ row_width c.args.i =
    row-length gen.W.Width.unit gen.W.Width.positive c.args.entries.now c.args.i c.row_at-start.result c.row_len.result c.row_at-start.ensures.start c.row_len.ensures.width c.requires.size in
    row-entries gen.W.Width.unit gen.W.Width.positive c.args.entries.now c.raise_each.new.row c.args.i c.row_at-start.result c.row_len.result c.row_at-start.ensures.start c.row_len.ensures.width c.requires.size (c.raise_each.auto.row ∙ len) c.requires.entries
    (c.raise_each.ensures.within e)

pub returns-clause-rest : goal.returns-clause-rest
returns-clause-rest gen c =
    let len : length (take ((c.row_at-start.result + c.row_len.result) - c.row_at-start.result) (drop c.row_at-start.result c.args.entries.now)) ≡ row_width c.args.i =
    row-length gen.W.Width.unit gen.W.Width.positive c.args.entries.now c.args.i c.row_at-start.result c.row_len.result c.row_at-start.ensures.start c.row_len.ensures.width c.requires.size in
    row-outside gen.W.Width.unit gen.W.Width.positive c.args.entries.now c.raise_each.new.row c.args.i c.row_at-start.result c.row_len.result c.row_at-start.ensures.start c.row_len.ensures.width c.requires.size (c.raise_each.auto.row ∙ len)
