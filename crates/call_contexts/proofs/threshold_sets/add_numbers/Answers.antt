use Rattle.std.proofs.Common.{rules, ◌∙◌, ap, ◌∷◌, [], ◌++◌}
use Rattle.call_contexts.proofs.Mirrored.{above_then, above_else}
use Rattle.call_contexts.proofs.threshold_sets.add_numbers.Goals.{then-number-gt1+in_ok-push, else-number-gt1}
use Rattle.call_contexts.proofs.threshold_sets.add_numbers.Goals as goal

pub loop-i-preserved : goal.loop-i-preserved
loop-i-preserved c =
    elim c.if-number-gt1.branch [
      | then-number-gt1+in_ok-push w ↦ w.thresholds-is ∙ w.in_ok-push.ensures.added ∙ ap (λ z. c.loop-i.thresholds ++ z ∷ []) (search rules) ∙ above_then c.args.thresholds.now c.loop-i.thresholds c.args.numbers.now c.loop-i.i c.value-number.result c.loop-i.invariant (search rules) (search rules) (search rules)
      | else-number-gt1 w ↦ w.thresholds-is ∙ above_else c.args.thresholds.now c.loop-i.thresholds c.args.numbers.now c.loop-i.i c.value-number.result c.loop-i.invariant (search rules) (search rules) (search rules)
    ]
