use Rattle.std.proofs.Common.{◌≡◌, false, List, length, map, sym, ap, subst, arith}
use Rattle.std.specs.Prelude.{nat_lt}
use Rattle.std.proofs.lemmas.Bool.Decides.{nat_tests}
use Rattle.imp_slots.specs.Plain.{Routine}
use Rattle.batch_meaning.specs.Answers.{In, procedure_of}
use Rattle.imp_flow.specs.Reached.{target_of}
use Rattle.daig_session.proofs.Asked.{no_chain}
use Rattle.daig_session.proofs.asking.asked_targets.Goals as goal

pub returns-then-is_empty-clause-refused : goal.returns-then-is_empty-clause-refused
returns-then-is_empty-clause-refused g c =
    let flow = c.args.flow.now in
    let short : nat_lt 2 (length c.args.string.now) ≡ false = grind (arith, nat_tests, c.if-string-gt2.false) in
    let there = subst (λ (rs : List Routine). procedure_of rs c.args.at.now ≡ In c.in-Ok.place) c.program.ensures.is (sym c.in-Ok.ensures.is) in
    no_chain (g.D.Domain.operations c.args.engine.now.domain) flow.engine flow.program c.args.at.now c.args.string.now c.in-Ok.place (map target_of c.in_ok-targets.targets) c.requires.right.checked short there (c.in_ok-targets.ensures.are c.in-Ok.place there) (ap (map target_of) (c.is_empty.ensures.empty.0 c.if-is_empty.true))
