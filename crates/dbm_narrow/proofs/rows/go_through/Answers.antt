use Rattle.std.specs.Prelude.{◌+◌, ◌*◌, length}
use Rattle.std.proofs.Common.{refl, arith, rules, sym, subst, inr}
use Rattle.dbm_narrow.proofs.RowLemmas.{gone-entries, gone-more, gone-none, gone-value}
use Rattle.dbm_narrow.specs.Entries.{IsEntry, at}
use Rattle.dbm_narrow.specs.Rows.{AreEntriesFrom}
use Rattle.dbm_narrow.proofs.rows.go_through.Goals as goal

pub loop-four-init : goal.loop-four-init
loop-four-init gen c = gone-none gen.W.Width.unit gen.W.Width.positive _ _ _ _ _ 0

pub go_four-requires : goal.go_four-requires
go_four-requires gen c =
    let r : AreEntriesFrom gen.W.Width.unit (4 * c.loop-four.four) (2 * gen.W.Width.unit) c.loop-four.row = λ j m. subst (IsEntry gen.W.Width.unit (2 * gen.W.Width.unit)) (sym (c.loop-four.invariant.rest j (inr m))) (c.requires.row j) in
    search rules

pub loop-four-preserved : goal.loop-four-preserved
loop-four-preserved gen c = gone-more gen.W.Width.unit gen.W.Width.positive _ _ _ _ _ c.loop-four.row c.go_four.new.row (4 * c.loop-four.four) (4 * c.loop-four.four) (4 * c.loop-four.four + 4) (4 * (c.loop-four.four + 1)) (omega arith) (omega arith) (omega arith) c.loop-four.invariant c.go_four.ensures.gone

pub go_two-requires : goal.go_two-requires
go_two-requires gen c =
    let r : AreEntriesFrom gen.W.Width.unit (4 * c.loop-four.four) (2 * gen.W.Width.unit) c.loop-four.row = λ j m. subst (IsEntry gen.W.Width.unit (2 * gen.W.Width.unit)) (sym (c.loop-four.invariant.rest j (inr (omega arith)))) (c.requires.row j) in
    search rules

pub returns-then-row-eq2-clause-kept : goal.returns-then-row-eq2-clause-kept
returns-then-row-eq2-clause-kept gen c = λ j l. gone-value gen.W.Width.unit gen.W.Width.positive _ _ _ _ _ c.args.from_first.now c.args.from_second.now j (at gen.W.Width.unit c.args.row.now j)
    ((gone-more gen.W.Width.unit gen.W.Width.positive _ _ _ _ _ c.loop-four.row c.go_two.new.row (4 * c.loop-four.four) _ _ (length c.args.row.now) (omega arith) (omega arith) (omega arith) c.loop-four.invariant c.go_two.ensures.gone).gone j (omega arith) l)
    refl refl

pub returns-then-row-eq2-clause-within : goal.returns-then-row-eq2-clause-within
returns-then-row-eq2-clause-within gen c = gone-entries gen.W.Width.unit gen.W.Width.positive _ _ _ _ _ c.go_two.new.row (length c.args.row.now)
    c.requires.to_first c.requires.to_second
    c.requires.from_first c.requires.from_second c.requires.row
    (gone-more gen.W.Width.unit gen.W.Width.positive _ _ _ _ _ c.loop-four.row c.go_two.new.row (4 * c.loop-four.four) _ _ (length c.args.row.now) (omega arith) (omega arith) (omega arith) c.loop-four.invariant c.go_two.ensures.gone)

pub returns-else-row-eq2-clause-within : goal.returns-else-row-eq2-clause-within
returns-else-row-eq2-clause-within gen c = gone-entries gen.W.Width.unit gen.W.Width.positive _ _ _ _ _ c.loop-four.row (4 * c.loop-four.four)
    c.requires.to_first c.requires.to_second
    c.requires.from_first c.requires.from_second c.requires.row c.loop-four.invariant
