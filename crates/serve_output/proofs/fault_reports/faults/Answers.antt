use Rattle.std.proofs.Common.{◌∙◌, ap, sym}
use Rattle.serve_output.specs.Output.{done}
use Rattle.serve_output.proofs.OutputLemmas.{of_program}
use Rattle.serve_output.proofs.fault_reports.faults.Goals as goal

pub returns-clause-gives : goal.returns-clause-gives
returns-clause-gives g c = λ readings folder script told.
    of_program readings (folder c.args.name.now) c.in_ok-program.program _ ((c.in_ok-program.ensures {u = tt}).program readings folder told)
    ∙ ap done (sym (c.in_ok-bytes.ensures {u = tt}).bytes)
