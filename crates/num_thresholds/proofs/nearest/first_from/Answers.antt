use Rattle.std.proofs.Common.{rules, of_calls, ◌∙◌, sym, ap, int_lt, Some, FitsSigned}
use Rattle.std.specs.Int.{w64}
use Rattle.std.proofs.lemmas.Int.{to_z-of_z}
use Rattle.std.proofs.lemmas.Fn.{always_returns_same}
use Rattle.num_thresholds.proofs.NearestLemmas.{first-at, got-test, past-test, partitions-below}
use Rattle.num_thresholds.proofs.nearest.first_from.Goals as goal

pub returns-in_err-first : goal.returns-in_err-first
returns-in_err-first c =
    let point = c.partition_point-place.ensures.partitioned (λ n. int_lt n c.args.z) (always_returns_same _ _ _ (λ a r f k. search (rules, of_calls))) (partitions-below c.args.numbers.now c.args.z c.requires.rising) in
    record { least = c.from_residual.ensures ∙ sym (first-at c.args.numbers.now c.args.z c.partition_point-place.result c.requires.rising point ∙ past-test c.args.numbers.now c.partition_point-place.result c.in_err-first.ensures.lookup.0) }

pub returns : goal.returns
returns c =
    let point = c.partition_point-place.ensures.partitioned (λ n. int_lt n c.args.z) (always_returns_same _ _ _ (λ a r f k. search (rules, of_calls))) (partitions-below c.args.numbers.now c.args.z c.requires.rising) in
    let f : FitsSigned w64 c.in_ok-first.first.now = search rules in
    record { least = rw (to_z-of_z w64 c.in_ok-first.first.now f) (ap Some (c.in_ok-first.ensures.lookup.1) ∙ sym (first-at c.args.numbers.now c.args.z c.partition_point-place.result c.requires.rising point ∙ got-test c.args.numbers.now c.partition_point-place.result c.in_ok-first.first.now c.in_ok-first.ensures.lookup.0)) }
