use Rattle.dom_interval_precise.proofs.Losses.{failure-loses, one-on-both-sides-loses, one-twice-loses, remainder-loses, several-operations-lose, two-comparisons-lose, two-steps-lose, widening-loses}
use Rattle.dom_interval_precise.proofs.other_steps_lose.Goals as goal

pub returns-clause-one_on_both_sides : goal.returns-clause-one_on_both_sides
returns-clause-one_on_both_sides c = one-on-both-sides-loses

pub returns-clause-two_comparisons : goal.returns-clause-two_comparisons
returns-clause-two_comparisons c = two-comparisons-lose

pub returns-clause-one_twice : goal.returns-clause-one_twice
returns-clause-one_twice c = one-twice-loses

pub returns-clause-remainder : goal.returns-clause-remainder
returns-clause-remainder c = remainder-loses

pub returns-clause-failure : goal.returns-clause-failure
returns-clause-failure c = failure-loses

pub returns-clause-two_steps : goal.returns-clause-two_steps
returns-clause-two_steps c = two-steps-lose

pub returns-clause-several_operations : goal.returns-clause-several_operations
returns-clause-several_operations c = several-operations-lose

pub returns-clause-widening : goal.returns-clause-widening
returns-clause-widening c = widening-loses
