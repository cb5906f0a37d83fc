use Rattle.std.specs.Prelude.{◌≡◌, ◌^◌, FitsSigned, None, Some, false, neg_ℤ, pos}
use Rattle.std.specs.Int.{int_max}
use Rattle.std.proofs.Common.{rules, ap, sym, subst, ◌∙◌}
use Rattle.std.proofs.lemmas.Int.{to_z-of_z}
use mir.Syntax.{w128, w64}
use Rattle.dbm_core.specs.Limits.{IsWithin}
use Rattle.dbm_core.specs.Operations.{next_threshold, threshold_value}
use Rattle.dbm_narrow.proofs.DoubledThresholds.{next-least, threshold-beyond, threshold-found, threshold-none, value-within}
use Rattle.dbm_narrow.specs.Widths.{start_at}
use Rattle.dbm_narrow.proofs.widening.threshold_from.Goals as goal

pub returns-in_err-start : goal.returns-in_err-start
returns-in_err-start gen c =
    record { threshold = c.from_residual.ensures ∙ threshold-beyond c.args.thresholds.now c.args.doubled c.args.bound c.rise.ensures.seen.words c.in_err-start.ensures.start; within = subst (IsWithin (2 ^ 64)) (sym c.from_residual.ensures) tt }

pub returns-in_err-threshold : goal.returns-in_err-threshold
returns-in_err-threshold gen c =
    let s : FitsSigned w64 c.in_ok-start.start = search rules in
    let e : c.in_ok-start.start ≡ int_max (start_at c.args.doubled c.args.bound) (neg_ℤ (pos (2 ^ 63))) = c.in_ok-start.ensures.start in
    let n : None ≡ next_threshold c.args.thresholds.now false c.in_ok-start.start = sym c.in_err-threshold.was ∙ c.least_from.ensures.least ∙ next-least c.args.thresholds.now _ ∙ ap (next_threshold c.args.thresholds.now false) (to_z-of_z w64 c.in_ok-start.start s) in
    record { threshold = c.from_residual-in_err-threshold.ensures ∙ threshold-none c.args.thresholds.now c.args.doubled c.args.bound c.in_ok-start.start c.rise.ensures.seen.words e n; within = subst (IsWithin (2 ^ 64)) (sym c.from_residual-in_err-threshold.ensures) tt }

pub returns : goal.returns
returns gen c =
    let h : FitsSigned w128 c.threshold_value.result = search rules in
    let s : FitsSigned w64 c.in_ok-start.start = search rules in
    let t : FitsSigned w64 c.in_ok-threshold.threshold = search rules in
    let e : c.in_ok-start.start ≡ int_max (start_at c.args.doubled c.args.bound) (neg_ℤ (pos (2 ^ 63))) = c.in_ok-start.ensures.start in
    let n : Some c.in_ok-threshold.threshold ≡ next_threshold c.args.thresholds.now false c.in_ok-start.start = sym c.in_ok-threshold.was ∙ c.least_from.ensures.least ∙ next-least c.args.thresholds.now _ ∙ ap (next_threshold c.args.thresholds.now false) (to_z-of_z w64 c.in_ok-start.start s) in
    let v : c.threshold_value.result ≡ threshold_value c.args.doubled c.in_ok-threshold.threshold = c.threshold_value.ensures.value ∙ ap (threshold_value c.args.doubled) (to_z-of_z w64 c.in_ok-threshold.threshold t) in
    record {
      threshold = ap Some (to_z-of_z w128 c.threshold_value.result h)
          ∙ threshold-found c.args.thresholds.now c.args.doubled c.args.bound c.in_ok-start.start c.in_ok-threshold.threshold c.threshold_value.result c.rise.ensures.seen.words e n v;
      within = subst (λ x. IsWithin (2 ^ 64) (Some x)) (sym (to_z-of_z w128 c.threshold_value.result h ∙ v)) (value-within c.args.doubled c.in_ok-threshold.threshold t);
    }
