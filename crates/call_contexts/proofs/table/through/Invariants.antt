use Rattle.std.proofs.Common.{◌≡◌, ◌++◌, drop}
use Rattle.imp_check.specs.Entries.{entries_of, entry_of}
use Rattle.call_contexts.specs.Tables.{chains_in, through_sites}
use Rattle.call_contexts.proofs.table.through.Given as goal

abbrev pub invariant-loop-site : goal.invariant-loop-site
invariant-loop-site l =
    l.found ++ through_sites (chains_in l.table l.main) (entry_of (entries_of l.prog)) (drop l.site-index l.sites)
    ≡ through_sites (chains_in l.table l.main) (entry_of (entries_of l.prog)) l.sites
