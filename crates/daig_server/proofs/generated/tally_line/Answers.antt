use Rattle.std.proofs.Common.{◌∙◌, sym}
use Rattle.serve_answers.specs.Lines.{line_turn}
use Rattle.serve_output.specs.Domains.{meaning_of}
use Rattle.daig_server.proofs.TallyLemmas.{line_cost}
use Rattle.daig_server.proofs.generated.tally_line.Goals as goal

pub returns-clause-added : goal.returns-clause-added
returns-clause-added g c = λ s stands.
    let dom = (meaning_of g.D.Named.name).operations in
    let turn = line_turn s.readings dom c.args.line.now s.machine in
    let call = c.in_ok-reply.ensures {u = tt} in
    c.add.ensures.is turn.reply (c.as_slice.ensures.value ∙ call.reply s stands)
    (λ is. line_cost s.readings dom c.args.line.now s.machine is ∙ sym (c.cost.ensures.is turn.machine (call.next s stands)))
