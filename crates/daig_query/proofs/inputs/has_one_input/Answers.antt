use Rattle.std.proofs.Common.{arith}
use Rattle.std.proofs.lemmas.Bool.Decides.{nat_tests}
use Rattle.daig_query.proofs.Asked.{asked_one}
use Rattle.daig_query.proofs.inputs.has_one_input.Goals as goal

pub returns-in-One : goal.returns-in-One
returns-in-One g c =
    record { complete = λ t. asked_one (g.D.Domain.operations c.args.dom.now) c.args.flow.now c.args.store.now c.args.row.now c.args.entry.now c.requires.at c.in-One.field-0 c.in-One.field-1 c.in-One.is (grind (arith, nat_tests)) }
