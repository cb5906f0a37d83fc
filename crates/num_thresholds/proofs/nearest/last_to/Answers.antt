use Rattle.std.proofs.Common.{rules, of_calls, arith, ◌∙◌, sym, ap, int_le, Some, FitsSigned}
use Rattle.std.specs.Int.{w64}
use Rattle.std.proofs.lemmas.Int.{to_z-of_z}
use Rattle.std.proofs.lemmas.Fn.{always_returns_same}
use Rattle.num_thresholds.proofs.NearestLemmas.{got-test, last-before, none-before, partitions-within}
use Rattle.num_thresholds.proofs.nearest.last_to.Goals as goal

pub returns-in_err-before : goal.returns-in_err-before
returns-in_err-before c =
    let point = c.partition_point-place.ensures.partitioned (λ n. int_le n c.args.z) (always_returns_same _ _ _ (λ a r f k. search (rules, of_calls))) (partitions-within c.args.numbers.now c.args.z c.requires.rising) in
    let none = c.in_err-before.ensures in
    record { greatest = c.from_residual.ensures ∙ sym (none-before c.args.numbers.now c.args.z c.partition_point-place.result c.partition_point-place.ensures.bound c.requires.rising point (grind (arith, none))) }

pub returns : goal.returns
returns c =
    let point = c.partition_point-place.ensures.partitioned (λ n. int_le n c.args.z) (always_returns_same _ _ _ (λ a r f k. search (rules, of_calls))) (partitions-within c.args.numbers.now c.args.z c.requires.rising) in
    let f : FitsSigned w64 c.in_ok-last.last.now = search rules in
    record { greatest = rw (to_z-of_z w64 c.in_ok-last.last.now f) (ap Some (c.in_ok-last.ensures.lookup.1) ∙ sym (last-before c.args.numbers.now c.args.z c.partition_point-place.result c.in_ok-before.before c.partition_point-place.ensures.bound c.requires.rising point (omega arith) ∙ got-test c.args.numbers.now c.in_ok-before.before c.in_ok-last.last.now c.in_ok-last.ensures.lookup.0)) }
