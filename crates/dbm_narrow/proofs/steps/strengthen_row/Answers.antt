use Rattle.std.specs.Prelude.{◌*◌, ◌≡◌, ◌<◌, ◌≤◌, ◌≤ℤ◌, ◌+◌, ◌-◌, pos, length}
use Rattle.std.proofs.Common.{arith, rules, sym, ◌∙◌, take, drop}
use borrow.Rule.Slice.PartMut.{put_mid}
use Rattle.dbm_core.specs.Half.{row_start, row_width}
use Rattle.dbm_narrow.proofs.EntryLemmas.{free-above, strengthened-free}
use Rattle.dbm_narrow.proofs.PartLemmas.{part-entries, row-entries, row-inside, row-length, row-outside, row-read}
use Rattle.dbm_narrow.specs.Entries.{AreEntries, at}
use Rattle.dbm_narrow.proofs.steps.strengthen_row.Goals as goal

pub returns-then-not-is_less-clause-kept : goal.returns-then-not-is_less-clause-kept
returns-then-not-is_less-clause-kept gen c = λ j w.
    let h : pos (16 * gen.W.Width.unit) ≤ℤ c.args.to = free-above gen.W.Width.unit gen.W.Width.positive c.args.to c.free.result c.is_less.result c.free.ensures.value c.is_less.ensures.less c.if-not-is_less.true in
    sym (strengthened-free gen.W.Width.unit gen.W.Width.positive c.args.to (at gen.W.Width.unit c.args.behind.now j) (at gen.W.Width.unit c.args.entries.now (row_start c.args.i + j)) h c.requires.to (c.requires.behind j) (c.requires.entries (row_start c.args.i + j)))

pub offset_bounds-entries-start : goal.offset_bounds-entries-start
offset_bounds-entries-start gen c =
    let m : c.row_at-start.result ≤ length c.args.entries.now = omega arith in
    let n : c.row_at-start.result < length c.args.entries.now = omega arith in
    search rules

pub strengthen-requires : goal.strengthen-requires
strengthen-requires gen c =
    let len : length (take ((c.row_at-start.result + c.row_len.result) - c.row_at-start.result) (drop c.row_at-start.result c.args.entries.now)) ≡ row_width c.args.i =
    row-length gen.W.Width.unit gen.W.Width.positive c.args.entries.now c.args.i c.row_at-start.result c.row_len.result c.row_at-start.ensures.start c.row_len.ensures.width c.requires.size in
    let size : length (take ((c.row_at-start.result + c.row_len.result) - c.row_at-start.result) (drop c.row_at-start.result c.args.entries.now)) ≤ 32 = omega arith in
    let row : AreEntries gen.W.Width.unit (2 * gen.W.Width.unit) (take ((c.row_at-start.result + c.row_len.result) - c.row_at-start.result) (drop c.row_at-start.result c.args.entries.now)) =
    part-entries gen.W.Width.unit gen.W.Width.positive (2 * gen.W.Width.unit) c.args.entries.now c.row_at-start.result ((c.row_at-start.result + c.row_len.result) - c.row_at-start.result) c.requires.entries in
    search rules

pub returns-clause-kept : goal.returns-clause-kept
returns-clause-kept gen c = λ j w.
    let len : length (take ((c.row_at-start.result + c.row_len.result) - c.row_at-start.result) (drop c.row_at-start.result c.args.entries.now)) ≡ row_width c.args.i =
    row-length gen.W.Width.unit gen.W.Width.positive c.args.entries.now c.args.i c.row_at-start.result c.row_len.result c.row_at-start.ensures.start c.row_len.ensures.width c.requires.size in
    let inside : at gen.W.Width.unit (put_mid c.row_at-start.result ((c.row_at-start.result + c.row_len.result) - c.row_at-start.result) c.args.entries.now c.strengthen.new.row) (row_start c.args.i + j) ≡ at gen.W.Width.unit c.strengthen.new.row j =
    row-inside gen.W.Width.unit gen.W.Width.positive c.args.entries.now c.strengthen.new.row c.args.i c.row_at-start.result c.row_len.result c.row_at-start.ensures.start c.row_len.ensures.width c.requires.size (c.strengthen.auto.row ∙ len) j w in
    let old : at gen.W.Width.unit (take ((c.row_at-start.result + c.row_len.result) - c.row_at-start.result) (drop c.row_at-start.result c.args.entries.now)) j ≡ at gen.W.Width.unit c.args.entries.now (row_start c.args.i + j) =
    row-read gen.W.Width.unit gen.W.Width.positive c.args.entries.now c.args.i c.row_at-start.result c.row_len.result c.row_at-start.ensures.start c.row_len.ensures.width j w in
    let kept = c.strengthen.ensures.kept j (omega (arith, len)) in
    cc

pub returns-clause-entries : goal.returns-clause-entries
returns-clause-entries gen c =
    let len : length (take ((c.row_at-start.result + c.row_len.result) - c.row_at-start.result) (drop c.row_at-start.result c.args.entries.now)) ≡ row_width c.args.i =
    row-length gen.W.Width.unit gen.W.Width.positive c.args.entries.now c.args.i c.row_at-start.result c.row_len.result c.row_at-start.ensures.start c.row_len.ensures.width c.requires.size in
    row-entries gen.W.Width.unit gen.W.Width.positive c.args.entries.now c.strengthen.new.row c.args.i c.row_at-start.result c.row_len.result c.row_at-start.ensures.start c.row_len.ensures.width c.requires.size (c.strengthen.auto.row ∙ len) c.requires.entries
    c.strengthen.ensures.within

pub returns-clause-rest : goal.returns-clause-rest
returns-clause-rest gen c =
    let len : length (take ((c.row_at-start.result + c.row_len.result) - c.row_at-start.result) (drop c.row_at-start.result c.args.entries.now)) ≡ row_width c.args.i =
    row-length gen.W.Width.unit gen.W.Width.positive c.args.entries.now c.args.i c.row_at-start.result c.row_len.result c.row_at-start.ensures.start c.row_len.ensures.width c.requires.size in
    row-outside gen.W.Width.unit gen.W.Width.positive c.args.entries.now c.strengthen.new.row c.args.i c.row_at-start.result c.row_len.result c.row_at-start.ensures.start c.row_len.ensures.width c.requires.size (c.strengthen.auto.row ∙ len)
