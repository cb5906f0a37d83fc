use Rattle.std.proofs.Common.{rules, ◌≡◌, ◌∙◌, ap, FitsSigned}
use Rattle.std.specs.Int.{w64, int_max}
use Rattle.std.proofs.lemmas.Int.{to_z-of_z}
use Rattle.num_thresholds.specs.Thresholds.{least_from}
use Rattle.dom_interval.specs.Nearest.{at_most}
use Rattle.dom_interval.proofs.Thresholds.{above-is}
use Rattle.dom_interval.proofs.widening.threshold_above.Goals as goal

pub returns : goal.returns
returns c =
    let ms = c.args.thresholds.now in
    let e = c.args.extremes in
    let z = c.args.end in
    let f : FitsSigned w64 c.bottom.inside.value = search rules in
    let bottom : c.bottom.inside.value ≡ int_max e.lo z = c.bottom.view_is ∙ c.greater-bottom.ensures.exact ∙ ap (λ h. int_max h z) c.low_of.ensures.exact in
    let found : c.least_from-threshold.result ≡ least_from ms c.bottom.inside.value = rw (to_z-of_z w64 c.bottom.inside.value f) at c.least_from-threshold.ensures.least in
    record { exact = c.at_most.ensures.exact ∙ (λ i. at_most ((found ∙ ap (least_from ms) bottom) i) (c.high_extreme.ensures.exact i)) ∙ above-is ms e z }
