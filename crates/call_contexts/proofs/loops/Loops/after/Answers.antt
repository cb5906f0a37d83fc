use Rattle.std.proofs.Common.{ℕ, ◌≡◌, List, Some, sym, ap, subst, ◌∙◌}
use Rattle.std.specs.Prelude.{if◌then◌else◌}
use Rattle.std.specs.List.Sorted.{IsStrictlySortedBy}
use Rattle.std.specs.Ordering.{nat_cmp}
use Rattle.imp_check.specs.Entries.{entries_of, entry_of}
use Rattle.imp_chains.specs.Chains.{has}
use Rattle.call_contexts.specs.Loops.{loop_in, put_numbers}
use Rattle.call_contexts.proofs.Looped.{loops_changed, loops_kept, loops_rise}
use Rattle.call_contexts.proofs.loops.Loops.after.Goals as goal

pub returns-then-keeps_loops : goal.returns-then-keeps_loops
returns-then-keeps_loops c =
    record { are = loops_kept c.args.old.now c.args.new.now c.args.puts.now c.requires.brings c.args.proc c.args.self.now c.requires.there c.requires.before c.if-keeps_loops.ensures.kept ∙ ap Some (sym c.in_ok-clone.ensures.cases) }

pub set_loops-requires : goal.set_loops-requires
set_loops-requires c = record { rising = subst (IsStrictlySortedBy nat_cmp) (sym (c.in_ok-stmts.ensures.items ∙ c.as_slice.ensures.is)) (loops_rise c.args.old.now c.args.proc c.args.self.now c.requires.before) }

pub returns : goal.returns
returns c =
    let old = c.args.old.now in
    let new = c.args.new.now in
    let puts = c.args.puts.now in
    let k = c.args.proc in
    let after = c.set_loops.new.stmts.items in
    let set = subst (λ (ns : List ℕ). (n : ℕ) → has n after ≡ (if has n (put_numbers puts) then loop_in k (entry_of (entries_of new) n) else has n ns)) (c.in_ok-stmts.ensures.items ∙ c.as_slice.ensures.is) c.in_ok-set_loops.ensures.set in
    record { are = loops_changed old new puts c.requires.brings k c.args.self.now after c.requires.there c.requires.before c.in_ok-set_loops.ensures.rising set ∙ ap Some (sym (c.in_ok-stmts-2.ensures.ok ∙ c.from_vec.ensures.same)) }
