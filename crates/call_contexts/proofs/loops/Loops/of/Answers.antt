use Rattle.std.proofs.Common.{Ok, sym, ap, ◌∙◌}
use Rattle.std.proofs.lemmas.Iterator.{items_from_collect}
use Rattle.std.proofs.lemmas.Iterator.Consumers.{YieldsList-from_rest}
use Rattle.imp_chains.specs.Chains.{has}
use Rattle.call_contexts.proofs.TallyLemmas.{any_is}
use Rattle.call_contexts.proofs.loops.Loops.of.Goals as goal

pub returns-clause-are : goal.returns-clause-are
returns-clause-are c n =
    let keys = items_from_collect {E = Unit {0}} (Ok c.in_ok-numbers.numbers) c.in_ok-numbers.ensures.ran (YieldsList-from_rest c.args.found.keys c.into_iter.ensures.into_iter_gives.0) in
    ap (has n) (c.in_ok-stmts.ensures.ok ∙ c.in_ok-stmts_of.ensures.are ∙ c.as_slice.ensures.value ∙ keys) ∙ sym (any_is n c.args.found.keys)
