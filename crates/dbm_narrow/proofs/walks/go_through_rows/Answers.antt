use Rattle.std.specs.Prelude.{◌≡◌, ◌<◌, ◌≤◌, ◌+◌, ◌*◌, true}
use Rattle.std.proofs.Common.{arith, rules, length, sym, ◌∙◌, subst, refl}
use Rattle.dbm_core.specs.Half.{row_start, row_width}
use Rattle.dbm_narrow.proofs.EntryLemmas.{entry-more}
use Rattle.dbm_narrow.proofs.PartLemmas.{row-in, rows-next-in}
use Rattle.dbm_narrow.specs.Entries.{IsEntry, at}
use Rattle.dbm_narrow.specs.Middles.{through_middle}
use Rattle.dbm_narrow.specs.Rows.{IsRowWithin}
use Rattle.dbm_narrow.proofs.walks.go_through_rows.Goals as goal

pub loop-i-init : goal.loop-i-init
loop-i-init gen c = (
  record {
    size = refl;
    done = λ a j l w. absurd (omega arith);
    rest = λ k l. refl;
    entries = λ k. entry-more gen.W.Width.unit gen.W.Width.positive (2 * gen.W.Width.unit) (14 * gen.W.Width.unit) (at gen.W.Width.unit c.args.entries.now k) (omega arith) (c.requires.entries k);
  },
  λ e. c.requires.entries,
)

pub go_through_row-requires : goal.go_through_row-requires
go_through_row-requires gen c =
    let size : row_start c.loop-i.i + row_width c.loop-i.i ≤ length c.loop-i.entries = row-in gen.W.Width.unit gen.W.Width.positive c.loop-i.entries c.args.slots c.loop-i.i (c.loop-i.invariant.0.size ∙ c.requires.size) (omega arith) in
    let row : c.loop-i.i < 32 = omega arith in
    let small : IsRowWithin gen.W.Width.unit (2 * gen.W.Width.unit) c.loop-i.i c.loop-i.entries = λ j w. subst (IsEntry gen.W.Width.unit (2 * gen.W.Width.unit)) (sym (c.loop-i.invariant.0.rest (row_start c.loop-i.i + j) (omega arith))) (c.requires.entries (row_start c.loop-i.i + j)) in
    search rules

pub loop-i-preserved : goal.loop-i-preserved
loop-i-preserved gen c =
    let e : c.go_through_row.result ≡ true = cc in (
      rows-next-in gen.W.Width.unit gen.W.Width.positive (14 * gen.W.Width.unit) (through_middle gen.W.Width.unit c.args.middle.now) c.args.entries.now c.loop-i.entries c.go_through_row.new.entries c.loop-i.i c.loop-i.invariant.0 c.go_through_row.auto.entries c.go_through_row.ensures.kept
          c.go_through_row.ensures.rest c.go_through_row.ensures.entries,
      λ d. c.go_through_row.ensures.within d e (c.loop-i.invariant.1 d),
    )
