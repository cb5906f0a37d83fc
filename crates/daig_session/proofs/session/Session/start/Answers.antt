use Rattle.call_contexts.specs.Settings.{engine_of}
use Rattle.daig_session.proofs.Beginning.{begin_holds, begin_ready}
use Rattle.daig_session.proofs.session.Session.start.Goals as goal

pub invariant_of-result : goal.invariant_of-result
invariant_of-result g c =
    let made = c.in_ok-engine.engine in
    begin_ready (g.D.Domain.operations made.domain) made.store c.in_ok-book.book c.args.table.program (engine_of c.args.budget c.args.widening) c.args.next
    c.in_ok-book.ensures.first c.in_ok-book.ensures.fine c.requires.some c.requires.low c.requires.below c.in_ok-engine.ensures.right

pub returns-clause-begins : goal.returns-clause-begins
returns-clause-begins g c =
    let made = c.in_ok-engine.engine in
    begin_holds (g.D.Domain.operations made.domain) made.store c.in_ok-book.book c.args.table.program (engine_of c.args.budget c.args.widening) c.args.next
    c.in_ok-book.ensures.first c.in_ok-book.ensures.fine c.in_ok-engine.ensures.empty
