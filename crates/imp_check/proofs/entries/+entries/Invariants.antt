use Rattle.std.proofs.Common.{◌≡◌, drop, None}
use Rattle.imp_syntax.specs.Plain.{block_of}
use Rattle.imp_check.specs.Entries.{block_entries}
use Rattle.imp_check.specs.Puts.{put_all, with_sites}
use Rattle.imp_check.proofs.entries.+entries.Given as goal

abbrev pub decreases-block_entries : goal.decreases-block_entries
decreases-block_entries l = goal.size-block_entries l

abbrev pub decreases-statement_entries : goal.decreases-statement_entries
decreases-statement_entries l = goal.size-statement_entries l

-- the entries so far, and those of the statements to come
abbrev pub invariant-block_entries-loop-i : goal.invariant-block_entries-loop-i
invariant-block_entries-loop-i l = record {
  is : block_of l.stmts ≡ l.block;
  put : put_all (block_entries l.resolver l.context l.front None (block_of (drop l.i l.stmts))) l.making.places.items ≡ put_all (block_entries l.resolver l.context None None l.block) l.initial.making.places.items;
  sites : with_sites (block_entries l.resolver l.context l.front None (block_of (drop l.i l.stmts))) l.making.sites.items ≡ with_sites (block_entries l.resolver l.context None None l.block) l.initial.making.sites.items;
}
