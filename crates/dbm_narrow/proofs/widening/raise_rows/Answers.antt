use Rattle.std.specs.Prelude.{◌≡◌, true}
use Rattle.std.proofs.Common.{arith, ◌∙◌, sym}
use Rattle.dbm_narrow.proofs.PartLemmas.{row-in}
use Rattle.dbm_narrow.proofs.WideningLemmas.{raised_rows-first, raised_rows-next}
use Rattle.dbm_narrow.proofs.widening.raise_rows.Goals as goal

pub loop-i-init : goal.loop-i-init
loop-i-init gen c = raised_rows-first gen.W.Width.unit gen.W.Width.positive c.args.thresholds.now c.args.entries.now c.args.others.now c.requires.entries

pub raise_row-requires-clause-size : goal.raise_row-requires-clause-size
raise_row-requires-clause-size gen c = row-in gen.W.Width.unit gen.W.Width.positive c.loop-i.entries c.args.slots c.loop-i.i (c.loop-i.invariant.size ∙ c.requires.size) (omega arith)

pub raise_row-requires-clause-as_many : goal.raise_row-requires-clause-as_many
raise_row-requires-clause-as_many gen c = c.requires.as_many ∙ sym c.loop-i.invariant.size

pub loop-i-preserved : goal.loop-i-preserved
loop-i-preserved gen c =
    let e : c.raise_row.result ≡ true = cc in
    raised_rows-next gen.W.Width.unit gen.W.Width.positive c.args.thresholds.now c.args.entries.now c.args.others.now c.loop-i.entries c.raise_row.new.entries c.loop-i.i c.loop-i.invariant c.raise_row.auto.entries (c.raise_row.ensures.kept e)
    c.raise_row.ensures.rest (c.raise_row.ensures.entries e)
