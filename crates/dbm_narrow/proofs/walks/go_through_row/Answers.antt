use Rattle.std.specs.Prelude.{◌≡◌, ◌<◌, ◌≤◌, ◌≤ℤ◌, ◌+◌, ◌%◌, ◌-◌, ◌*◌, pos, length}
use Rattle.std.proofs.Common.{arith, rules, sym, ◌∙◌, subst, take, drop}
use borrow.Rule.Slice.PartMut.{put_mid}
use Rattle.dbm_core.specs.Half.{row_start, row_width}
use Rattle.dbm_narrow.proofs.EntryLemmas.{free-above, through_both-free}
use Rattle.dbm_narrow.proofs.PartLemmas.{row-entries, row-entries-in, row-inside, row-length, row-outside, row-part, row-read}
use Rattle.dbm_narrow.specs.Entries.{AreEntries, IsEntry, at}
use Rattle.dbm_narrow.proofs.walks.go_through_row.Goals as goal

pub returns-then-not-is_less-2-clause-kept : goal.returns-then-not-is_less-2-clause-kept
returns-then-not-is_less-2-clause-kept gen c = λ j w.
    let h : pos (16 * gen.W.Width.unit) ≤ℤ c.read-to_first.result = free-above gen.W.Width.unit gen.W.Width.positive c.read-to_first.result c.free.result c.is_less.result c.free.ensures.value c.is_less.ensures.less c.if-not-is_less.true in
    let k : pos (16 * gen.W.Width.unit) ≤ℤ c.read-to_second.result = free-above gen.W.Width.unit gen.W.Width.positive c.read-to_second.result c.free-then-not-is_less.result c.is_less-then-not-is_less.result c.free-then-not-is_less.ensures.value c.is_less-then-not-is_less.ensures.less c.if-not-is_less-2.true in
    sym (through_both-free gen.W.Width.unit gen.W.Width.positive (at gen.W.Width.unit c.args.middle.now.to_first c.args.i) (at gen.W.Width.unit c.args.middle.now.to_second c.args.i) (at gen.W.Width.unit c.args.middle.now.from_first j) (at gen.W.Width.unit c.args.middle.now.from_second j) (at gen.W.Width.unit c.args.entries.now (row_start c.args.i + j))
    (subst (λ x. pos (16 * gen.W.Width.unit) ≤ℤ x) c.read-to_first.ensures.value h) (subst (λ x. pos (16 * gen.W.Width.unit) ≤ℤ x) c.read-to_second.ensures.value k)
    (c.requires.middle.to_first c.args.i) (c.requires.middle.to_second c.args.i) (c.requires.middle.from_first j) (c.requires.middle.from_second j) (c.requires.small j w))

pub offset_bounds-entries-start : goal.offset_bounds-entries-start
offset_bounds-entries-start gen c =
    let m : c.row_at-start.result ≤ length c.args.entries.now = omega arith in
    let n : c.row_at-start.result < length c.args.entries.now = omega arith in
    search rules

pub go_through-requires : goal.go_through-requires
go_through-requires gen c =
    let len : length (take ((c.row_at-start.result + c.row_len.result) - c.row_at-start.result) (drop c.row_at-start.result c.args.entries.now)) ≡ row_width c.args.i =
    row-length gen.W.Width.unit gen.W.Width.positive c.args.entries.now c.args.i c.row_at-start.result c.row_len.result c.row_at-start.ensures.start c.row_len.ensures.width c.requires.size in
    let size : length (take ((c.row_at-start.result + c.row_len.result) - c.row_at-start.result) (drop c.row_at-start.result c.args.entries.now)) ≤ 32 = omega arith in
    let even : length (take ((c.row_at-start.result + c.row_len.result) - c.row_at-start.result) (drop c.row_at-start.result c.args.entries.now)) % 2 ≡ 0 = omega arith in
    let row : AreEntries gen.W.Width.unit (2 * gen.W.Width.unit) (take ((c.row_at-start.result + c.row_len.result) - c.row_at-start.result) (drop c.row_at-start.result c.args.entries.now)) = row-part gen.W.Width.unit gen.W.Width.positive (2 * gen.W.Width.unit) c.args.entries.now c.args.i c.row_at-start.result c.row_len.result c.row_at-start.ensures.start c.row_len.ensures.width c.requires.small in
    let u : IsEntry gen.W.Width.unit (6 * gen.W.Width.unit) c.read-to_first.result = subst (IsEntry gen.W.Width.unit (6 * gen.W.Width.unit)) (sym c.read-to_first.ensures.value) (c.requires.middle.to_first c.args.i) in
    let v : IsEntry gen.W.Width.unit (6 * gen.W.Width.unit) c.read-to_second.result = subst (IsEntry gen.W.Width.unit (6 * gen.W.Width.unit)) (sym c.read-to_second.ensures.value) (c.requires.middle.to_second c.args.i) in
    search rules

pub returns-clause-kept : goal.returns-clause-kept
returns-clause-kept gen c = λ j w.
    let su : c.read-to_first.result ≡ at gen.W.Width.unit c.args.middle.now.to_first c.args.i = c.read-to_first.ensures.value in
    let sv : c.read-to_second.result ≡ at gen.W.Width.unit c.args.middle.now.to_second c.args.i = c.read-to_second.ensures.value in
    let len : length (take ((c.row_at-start.result + c.row_len.result) - c.row_at-start.result) (drop c.row_at-start.result c.args.entries.now)) ≡ row_width c.args.i =
    row-length gen.W.Width.unit gen.W.Width.positive c.args.entries.now c.args.i c.row_at-start.result c.row_len.result c.row_at-start.ensures.start c.row_len.ensures.width c.requires.size in
    let inside : at gen.W.Width.unit (put_mid c.row_at-start.result ((c.row_at-start.result + c.row_len.result) - c.row_at-start.result) c.args.entries.now c.go_through.new.row) (row_start c.args.i + j) ≡ at gen.W.Width.unit c.go_through.new.row j =
    row-inside gen.W.Width.unit gen.W.Width.positive c.args.entries.now c.go_through.new.row c.args.i c.row_at-start.result c.row_len.result c.row_at-start.ensures.start c.row_len.ensures.width c.requires.size (c.go_through.auto.row ∙ len) j w in
    let old : at gen.W.Width.unit (take ((c.row_at-start.result + c.row_len.result) - c.row_at-start.result) (drop c.row_at-start.result c.args.entries.now)) j ≡ at gen.W.Width.unit c.args.entries.now (row_start c.args.i + j) =
    row-read gen.W.Width.unit gen.W.Width.positive c.args.entries.now c.args.i c.row_at-start.result c.row_len.result c.row_at-start.ensures.start c.row_len.ensures.width j w in
    let kept = c.go_through.ensures.kept j (omega (arith, len)) in
    cc

pub returns-clause-entries : goal.returns-clause-entries
returns-clause-entries gen c =
    let len : length (take ((c.row_at-start.result + c.row_len.result) - c.row_at-start.result) (drop c.row_at-start.result c.args.entries.now)) ≡ row_width c.args.i =
    row-length gen.W.Width.unit gen.W.Width.positive c.args.entries.now c.args.i c.row_at-start.result c.row_len.result c.row_at-start.ensures.start c.row_len.ensures.width c.requires.size in
    row-entries-in gen.W.Width.unit gen.W.Width.positive (14 * gen.W.Width.unit) c.args.entries.now c.go_through.new.row c.args.i c.row_at-start.result c.row_len.result c.row_at-start.ensures.start c.row_len.ensures.width c.requires.size (c.go_through.auto.row ∙ len) c.requires.entries
    c.go_through.ensures.within

pub returns-clause-within : goal.returns-clause-within
returns-clause-within gen c = λ d e all.
    let len : length (take ((c.row_at-start.result + c.row_len.result) - c.row_at-start.result) (drop c.row_at-start.result c.args.entries.now)) ≡ row_width c.args.i =
    row-length gen.W.Width.unit gen.W.Width.positive c.args.entries.now c.args.i c.row_at-start.result c.row_len.result c.row_at-start.ensures.start c.row_len.ensures.width c.requires.size in
    row-entries gen.W.Width.unit gen.W.Width.positive c.args.entries.now c.go_through.new.row c.args.i c.row_at-start.result c.row_len.result c.row_at-start.ensures.start c.row_len.ensures.width c.requires.size (c.go_through.auto.row ∙ len) all
    (c.are_within_if.ensures.within d e)

pub returns-clause-rest : goal.returns-clause-rest
returns-clause-rest gen c =
    let len : length (take ((c.row_at-start.result + c.row_len.result) - c.row_at-start.result) (drop c.row_at-start.result c.args.entries.now)) ≡ row_width c.args.i =
    row-length gen.W.Width.unit gen.W.Width.positive c.args.entries.now c.args.i c.row_at-start.result c.row_len.result c.row_at-start.ensures.start c.row_len.ensures.width c.requires.size in
    row-outside gen.W.Width.unit gen.W.Width.positive c.args.entries.now c.go_through.new.row c.args.i c.row_at-start.result c.row_len.result c.row_at-start.ensures.start c.row_len.ensures.width c.requires.size (c.go_through.auto.row ∙ len)
