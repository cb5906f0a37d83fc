use Rattle.std.proofs.Common.{◌≡◌, drop, reverse, map, option_map}
use Rattle.batch_meaning.specs.Places.{value_at}
use Rattle.batch_meaning.specs.Answers.{all_values, sum_of}
use Rattle.batch_interp.specs.Answered.{value_of}
use Rattle.batch_interp.proofs.ChainSums.{sum_so_far}
use Rattle.batch_interp.proofs.sums.sum_of.Given as goal

-- what is known so far, with what is to come, gives what all give
abbrev pub invariant-loop-chain : goal.invariant-loop-chain
invariant-loop-chain g l =
    let dom = g.D.Domain.operations l.dom in
    let engine = l.plan.engine in
    let all = all_values dom engine (value_at dom engine l.plan.program l.at) in
    sum_so_far dom engine (option_map value_of l.all) (all (map reverse (drop l.chain-index l.chains))) ≡ sum_of dom engine (all (map reverse l.chains))
