use Rattle.std.specs.Prelude.{◌≡◌, List, Bool, ℤ}
use Rattle.std.proofs.Common.{sym, ◌∙◌, ap, subst}
use Rattle.dbm_close.specs.declared.closed.Closed.TheVariants.{Matrix}
use Rattle.dbm_core.specs.Half.{HalfMatrix, nodes}
use Rattle.dbm_incremental.specs.ClosedMatrices.{IsClosed, IsWhole}
use Rattle.dbm_incremental.specs.Steps.{AreBounds, ClosesAllLowered}
use Rattle.dbm_narrow.proofs.LowerLemmas.{closed-own}
use Rattle.dbm_narrow.proofs.MetLemmas.{met-closes}
use Rattle.dbm_narrow.specs.Entries.{held}
use Rattle.dbm_narrow.specs.Rounds.{IsNarrow}
use Rattle.dbm_narrow.proofs.met.meets.Goals as goal

pub are_met-requires-clause-narrow : goal.are_met-requires-clause-narrow
are_met-requires-clause-narrow gen c =
    subst (λ (k : List Bool). IsNarrow gen.W.Width.unit k c.as_slice.result.now) (sym c.list.ensures.value) (subst (λ (x : List ℤ). IsNarrow gen.W.Width.unit c.closed.inside.kinds x) (sym c.as_slice.ensures.value) c.closed.invariant)

pub are_met-requires-clause-weights : goal.are_met-requires-clause-weights
are_met-requires-clause-weights gen c =
    let e : held gen.W.Width.unit c.list.result.now c.as_slice.result.now ≡ c.args.closed.now = ap (λ k. held gen.W.Width.unit k c.as_slice.result.now) c.list.ensures.value ∙ ap (held gen.W.Width.unit c.closed.inside.kinds) c.as_slice.ensures.value ∙ c.closed.view_is in
    closed-own gen.W.Width.unit gen.W.Width.positive c.list.result.now c.as_slice.result.now (subst IsClosed (sym e) c.requires.closed) (subst IsWhole (sym e) c.requires.whole)

pub are_met-requires-clause-bounds : goal.are_met-requires-clause-bounds
are_met-requires-clause-bounds gen c =
    let e : held gen.W.Width.unit c.list.result.now c.as_slice.result.now ≡ c.args.closed.now = ap (λ k. held gen.W.Width.unit k c.as_slice.result.now) c.list.ensures.value ∙ ap (held gen.W.Width.unit c.closed.inside.kinds) c.as_slice.ensures.value ∙ c.closed.view_is in
    subst (λ (m : HalfMatrix). AreBounds (nodes m) c.args.bounds.now) (sym e) c.requires.bounds

pub returns : goal.returns
returns gen c =
    let e : held gen.W.Width.unit c.list.result.now c.as_slice.result.now ≡ c.args.closed.now = ap (λ k. held gen.W.Width.unit k c.as_slice.result.now) c.list.ensures.value ∙ ap (held gen.W.Width.unit c.closed.inside.kinds) c.as_slice.ensures.value ∙ c.closed.view_is in
    record {
      met = λ r. subst (λ (m : HalfMatrix). ClosesAllLowered m c.args.bounds.now (Matrix m)) e
          (met-closes (held gen.W.Width.unit c.list.result.now c.as_slice.result.now) (subst IsClosed (sym e) c.requires.closed) (subst IsWhole (sym e) c.requires.whole) c.args.bounds.now (c.are_met.ensures.met r).weights);
    }
