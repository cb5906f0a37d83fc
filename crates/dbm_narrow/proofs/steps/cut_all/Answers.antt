use Rattle.std.specs.Prelude.{◌≡◌}
use Rattle.std.proofs.Common.{arith, ap, ◌∙◌}
use Rattle.dbm_narrow.proofs.StepLemmas.{cut-all, cut-first, cut-next}
use Rattle.dbm_narrow.specs.Entries.{at}
use Rattle.dbm_narrow.specs.Widths.{cut_number}
use Rattle.dbm_narrow.proofs.steps.cut_all.Goals as goal

pub loop-k-init : goal.loop-k-init
loop-k-init gen c = cut-first gen.W.Width.unit gen.W.Width.positive c.args.entries.now

pub loop-k-preserved : goal.loop-k-preserved
loop-k-preserved gen c =
    let e : c.cut.result ≡ cut_number gen.W.Width.unit (at gen.W.Width.unit c.args.entries.now c.loop-k.k) = c.cut.ensures.value ∙ ap (cut_number gen.W.Width.unit) (c.read.ensures.value ∙ c.loop-k.invariant.rest c.loop-k.k (omega arith)) in
    cut-next gen.W.Width.unit gen.W.Width.positive c.args.entries.now c.loop-k.entries c.loop-k.k c.cut.result (omega arith) c.loop-k.invariant e

pub returns : goal.returns
returns gen c = record { cut = cut-all gen.W.Width.unit gen.W.Width.positive c.args.entries.now c.loop-k.entries c.loop-k.k (omega arith) c.loop-k.invariant }
