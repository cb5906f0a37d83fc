use Rattle.std.proofs.Common.{◌∙◌, ap, length, arith}
use Rattle.daig_server.proofs.GeneratedLemmas.{generated_accepted, only_memory}
use Rattle.daig_server.proofs.generated.generated_table.Goals as goal

pub read_table-requires : goal.read_table-requires
read_table-requires c = record { short = omega (arith, c.source.ensures.short, c.requires.small, ap length (c.as_slice.ensures.value ∙ (c.in_ok-source.ensures {u = tt}).text)) }

pub returns-clause-only : goal.returns-clause-only
returns-clause-only c =
    only_memory c.texts_are_read.ensures.there _ _ c.read_table.result
    (generated_accepted c.each_text_has_one_answer.ensures.program c.sources_are_accepted.ensures.read c.sources_are_accepted.ensures.faultless c.texts_are_read.ensures.there c.args.seed c.args.size c.requires.small)
    (rw (c.as_slice.ensures.value ∙ (c.in_ok-source.ensures {u = tt}).text) at c.read_table.ensures.refused)
