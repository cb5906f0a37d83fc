use Rattle.std.proofs.Common.{◌≡◌, drop}
use Rattle.imp_check.specs.Entries.{entries_of, entry_of}
use Rattle.call_contexts.specs.Marks.{mark_all}
use Rattle.call_contexts.proofs.callers.mark_all.Given as goal

-- what is to come gives what all give
abbrev pub invariant-loop-site : goal.invariant-loop-site
invariant-loop-site l =
    mark_all l.place (entry_of (entries_of l.prog)) (drop l.site-index l.sites) l.marks ≡ mark_all l.place (entry_of (entries_of l.prog)) l.sites l.initial.marks
