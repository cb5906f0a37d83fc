use Rattle.std.proofs.Common.{◌≡◌, ap, sym, ◌∙◌, subst, get_or, false, rules}
use Rattle.std.specs.Prelude.{◌≤ℤ◌, FitsSigned}
use Rattle.std.proofs.lemmas.Int.{to_z-of_z}
use mir.Syntax.{w128}
use Rattle.dbm_close.proofs.LawLemmas.{range-sound}
use Rattle.dbm_close.specs.Close.{slot_high, slot_low}
use Rattle.dbm_close.specs.Steps.{range_high, range_low}
use Rattle.dbm_core.specs.Half.{entry}
use Rattle.dbm_close.proofs.ranges.slot_range.Goals as goal

pub returns-clause-covers : goal.returns-clause-covers
returns-clause-covers c = λ x h q.
    let f : FitsSigned w128 c.low_end-low.result = search rules in
    let g : FitsSigned w128 c.high_end-high.result = search rules in
    let l : c.low_end-low.result ≡ slot_low c.args.matrix.now.kinds (entry c.args.matrix.now) c.args.slot =
    c.low_end-low.ensures.low ∙ ap (range_low (get_or c.kinds.result.now c.args.slot false)) c.get.ensures.bound
    ∙ ap (λ k. slot_low k (entry c.args.matrix.now) c.args.slot) c.kinds.ensures.value in
    let u : c.high_end-high.result ≡ slot_high c.args.matrix.now.kinds (entry c.args.matrix.now) c.args.slot =
    c.high_end-high.ensures.high ∙ ap (range_high (get_or c.kinds.result.now c.args.slot false)) c.get-2.ensures.bound
    ∙ ap (λ k. slot_high k (entry c.args.matrix.now) c.args.slot) c.kinds.ensures.value in
    let r : (slot_low c.args.matrix.now.kinds (entry c.args.matrix.now) c.args.slot ≤ℤ x c.args.slot) × (x c.args.slot ≤ℤ slot_high c.args.matrix.now.kinds (entry c.args.matrix.now) c.args.slot) =
    range-sound (entry c.args.matrix.now) c.args.matrix.now.kinds x h q c.args.slot c.requires.slot in (
      subst (λ v. v ≤ℤ x c.args.slot) (sym (to_z-of_z w128 c.low_end-low.result f ∙ l)) r.0,
      subst (λ v. x c.args.slot ≤ℤ v) (sym (to_z-of_z w128 c.high_end-high.result g ∙ u)) r.1,
    )
