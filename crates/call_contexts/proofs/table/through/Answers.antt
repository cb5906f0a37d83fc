use Rattle.std.proofs.Common.{◌∙◌}
use Rattle.imp_check.specs.Entries.{entries_of, entry_of}
use Rattle.call_contexts.specs.Tables.{chains_in}
use Rattle.call_contexts.proofs.Tabled.{sites_step}
use Rattle.call_contexts.proofs.table.through.Goals as goal

pub loop-site-preserved : goal.loop-site-preserved
loop-site-preserved c =
    sites_step (chains_in c.args.table.now c.args.main) (entry_of (entries_of c.args.prog.now)) c.args.sites.now c.loop-site.site-index c.site-item.result c.chains_to_caller-chains.result.now c.loop-site.found c.add_longer.new.found
    c.loop-site-test.true c.site-item.is c.chains_to_caller-chains.ensures.are c.in_ok-add_longer.ensures.added
    ∙ c.loop-site.invariant
