use Rattle.std.specs.Prelude.{◌≡◌, ◌<◌, ◌≤◌, ◌+◌, length}
use Rattle.std.proofs.Common.{arith, rules, sym, subst, ◌∙◌, ap}
use Rattle.dbm_core.specs.Half.{row_start, row_width}
use Rattle.dbm_narrow.proofs.PartLemmas.{row-in, rows-next}
use Rattle.dbm_narrow.specs.Entries.{IsEntry, at, strengthened_by}
use Rattle.dbm_narrow.proofs.steps.strengthen_rows.Goals as goal

pub strengthen_row-requires : goal.strengthen_row-requires
strengthen_row-requires gen c =
    let size : row_start c.loop-i.i + row_width c.loop-i.i ≤ length c.loop-i.entries = row-in gen.W.Width.unit gen.W.Width.positive c.loop-i.entries c.args.slots c.loop-i.i (c.loop-i.invariant.size ∙ c.requires.size) (omega arith) in
    let row : c.loop-i.i < 32 = omega arith in
    let to : IsEntry gen.W.Width.unit gen.W.Width.unit c.read-to.result = subst (IsEntry gen.W.Width.unit gen.W.Width.unit) (sym c.read-to.ensures.value) (c.requires.halves c.loop-i.i) in
    search rules

pub loop-i-preserved : goal.loop-i-preserved
loop-i-preserved gen c =
    let rh : c.read-to.result ≡ at gen.W.Width.unit c.args.halves.now c.loop-i.i = c.read-to.ensures.value in
    rows-next gen.W.Width.unit gen.W.Width.positive (λ a j x. strengthened_by gen.W.Width.unit (at gen.W.Width.unit c.args.halves.now a) (at gen.W.Width.unit c.args.behind.now j) x) c.args.entries.now c.loop-i.entries c.strengthen_row.new.entries c.loop-i.i c.loop-i.invariant c.strengthen_row.auto.entries
    (λ j w. c.strengthen_row.ensures.kept j w ∙ ap (λ u. strengthened_by gen.W.Width.unit u (at gen.W.Width.unit c.args.behind.now j) (at gen.W.Width.unit c.loop-i.entries (row_start c.loop-i.i + j))) rh)
    c.strengthen_row.ensures.rest c.strengthen_row.ensures.entries
