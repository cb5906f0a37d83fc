use Rattle.dom_interval_precise.proofs.Calls.{leave-best}
use Rattle.dom_interval_precise.proofs.Entering.{enter-best}
use Rattle.dom_interval_precise.proofs.Comparisons.{assert-best, comparison-best}
use Rattle.dom_interval_precise.proofs.Elements.{check-best, write-best}
use Rattle.dom_interval_precise.proofs.Joins.{join-best}
use Rattle.dom_interval_precise.proofs.Negations.{negation-best}
use Rattle.dom_interval_precise.proofs.Operations.{operation-best, update-best}
use Rattle.dom_interval_precise.proofs.Own.{part-is-inclusion}
use Rattle.dom_interval_precise.proofs.Indexing.{read-best}
use Rattle.dom_interval_precise.proofs.Statements.{plain-best}
use Rattle.dom_interval_precise.proofs.single_steps_are_best.Goals as goal

pub returns-clause-order : goal.returns-clause-order
returns-clause-order c = part-is-inclusion

pub returns-clause-join : goal.returns-clause-join
returns-clause-join c = join-best

pub returns-clause-comparison : goal.returns-clause-comparison
returns-clause-comparison c = comparison-best

pub returns-clause-assertion : goal.returns-clause-assertion
returns-clause-assertion c = assert-best

pub returns-clause-plain : goal.returns-clause-plain
returns-clause-plain c = plain-best

pub returns-clause-operation : goal.returns-clause-operation
returns-clause-operation c = operation-best

pub returns-clause-update : goal.returns-clause-update
returns-clause-update c = update-best

pub returns-clause-index_check : goal.returns-clause-index_check
returns-clause-index_check c = check-best

pub returns-clause-write : goal.returns-clause-write
returns-clause-write c = write-best

pub returns-clause-negation : goal.returns-clause-negation
returns-clause-negation c = negation-best

pub returns-clause-read : goal.returns-clause-read
returns-clause-read c = read-best

pub returns-clause-leave : goal.returns-clause-leave
returns-clause-leave c = leave-best

pub returns-clause-enter : goal.returns-clause-enter
returns-clause-enter c = enter-best
