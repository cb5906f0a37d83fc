use Rattle.std.proofs.Common.{◌≡◌, ◌++◌, [], drop, true}
use Rattle.imp_syntax.specs.Plain.{block_of}
use Rattle.imp_slots.specs.Fits.{FitsCode}
use Rattle.imp_check.specs.Entries.{block_entries, resolver_at}
use Rattle.imp_check.specs.Names.{variables}
use Rattle.imp_check.specs.Slots.{code_in, layout_in}
use Rattle.imp_check.specs.Statements.{block_fault}
use Rattle.edit_entries.specs.Gaps.{are_quiet, lone}
use Rattle.imp_edit.proofs.new_entries.+come.Given as goal

abbrev pub decreases-add_block : goal.decreases-add_block
decreases-add_block l = goal.size-add_block l

abbrev pub decreases-add_statement : goal.decreases-add_statement
decreases-add_statement l = goal.size-add_statement l

-- the entries so far, and those of the statements to come
abbrev pub invariant-add_block-loop-i : goal.invariant-add_block-loop-i
invariant-add_block-loop-i l = record {
  is : block_of l.stmts ≡ l.block;
  quiet : are_quiet (block_of (drop l.i l.stmts)) ≡ true;
  entries : l.entries.items ++ block_entries (resolver_at [] l.head.bare) l.site.context l.front l.site.next (block_of (drop l.i l.stmts)) ≡ l.initial.entries.items ++ block_entries (resolver_at [] l.head.bare) l.site.context l.site.front l.site.next l.block;
  fit : FitsCode [] (layout_in l.head.bare) (code_in (resolver_at [] l.head.bare) (block_of (drop l.i l.stmts))) → FitsCode [] (layout_in l.head.bare) (code_in (resolver_at [] l.head.bare) l.block);
  fault : block_fault (lone (variables l.head.bare)) true l.block ≡ block_fault (lone (variables l.head.bare)) true (block_of (drop l.i l.stmts));
}
