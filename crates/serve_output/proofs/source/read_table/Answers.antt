use Rattle.std.proofs.Common.{false}
use Rattle.serve_output.proofs.SourceLemmas.{numbered}
use Rattle.serve_output.proofs.source.read_table.Goals as goal

pub returns-clause-numbered : goal.returns-clause-numbered
returns-clause-numbered c =
    numbered c.tabled.result (λ t. t.program) c.texts_are_read.ensures.there (record { budget = 0; widening = record { delay = 0; thresholds = false } }) c.args.source.now c.in_ok-program.program
    c.machines_stay_fine.ensures.source (c.in_ok-program.ensures {u = tt}).read c.tabled.ensures.accepted c.tabled.ensures.faultless
