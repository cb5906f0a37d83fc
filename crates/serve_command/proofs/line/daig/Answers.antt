use Rattle.std.proofs.lemmas.Result.{IfOk-weaker}
use Rattle.serve_command.proofs.LineLemmas.{without_help}
use Rattle.serve_command.proofs.line.daig.Goals as goal

pub returns : goal.returns
returns c =
    let top = without_help c.new.result c.disable_help_flag.result c.disable_help_subcommand.result _ c.new.ensures.app c.new.ensures.local c.disable_help_flag.ensures c.disable_help_subcommand.ensures in
    let serves = c.with_command-command.ensures.makes _ _ top c.serve.ensures.makes in
    let reports = c.with_command-command-2.ensures.makes _ _ serves c.analyses.ensures.makes in
    let draws = c.with_command-command-3.ensures.makes _ _ reports c.generates.ensures.makes in
    let certifies = c.with_command-command-4.ensures.makes _ _ draws c.analyses-2.ensures.makes in
    let verifies = c.with_command-command-5.ensures.makes _ _ certifies c.verifies.ensures.makes in
    record { app = IfOk-weaker c.with_command.result _ _ (λ made makes. makes.0) (c.with_command.ensures.makes _ _ verifies c.analyses-3.ensures.makes) }
