use Rattle.std.proofs.Common.{rules, ◌≡◌, ◌∙◌, ap, FitsSigned}
use Rattle.std.specs.Int.{w64, int_min}
use Rattle.std.proofs.lemmas.Int.{to_z-of_z}
use Rattle.num_thresholds.specs.Thresholds.{greatest_to}
use Rattle.dom_interval.specs.Nearest.{at_least}
use Rattle.dom_interval.proofs.Thresholds.{below-is}
use Rattle.dom_interval.proofs.widening.threshold_below.Goals as goal

pub returns : goal.returns
returns c =
    let ms = c.args.thresholds.now in
    let e = c.args.extremes in
    let z = c.args.end in
    let f : FitsSigned w64 c.top.inside.value = search rules in
    let top : c.top.inside.value ≡ int_min e.hi z = c.top.view_is ∙ c.lesser-top.ensures.exact ∙ ap (λ h. int_min h z) c.high_of.ensures.exact in
    let found : c.greatest_to-threshold.result ≡ greatest_to ms c.top.inside.value = rw (to_z-of_z w64 c.top.inside.value f) at c.greatest_to-threshold.ensures.greatest in
    record { exact = c.at_least.ensures.exact ∙ (λ i. at_least ((found ∙ ap (greatest_to ms) top) i) (c.low_extreme.ensures.exact i)) ∙ below-is ms e z }
