use Rattle.std.proofs.Common.{ℕ, ◌≡◌, ◌||◌, ◌&&◌, List, ap, subst}
use Rattle.std.specs.List.{list_any}
use Rattle.std.specs.BTreeMap.{is_at}
use Rattle.std.specs.BTreeSet.{contains}
use Rattle.std.specs.Ordering.{nat_cmp}
use Rattle.imp_check.specs.Entries.{entries_of, entry_of}
use Rattle.imp_chains.specs.Chains.{has}
use Rattle.call_contexts.specs.Loops.{loop_in}
use Rattle.call_contexts.proofs.Looped.{loops_made}
use Rattle.call_contexts.proofs.loops.Loops.new.Goals as goal

pub returns : goal.returns
returns c =
    let ps = c.args.prog.now in
    let k = c.args.proc in
    let none = contains nat_cmp c.new-found.result in
    let found = contains nat_cmp c.add_loops.new.found in
    record {
      are =
          loops_made ps k c.in_ok-loops.loops none found c.procs.ensures.numbered c.requires.there c.in_ok-loops.ensures.rising
          (λ n. ap (list_any (is_at (nat_cmp n))) c.new-found.ensures.empty)
          (subst (λ (ns : List ℕ). (n : ℕ) → found n ≡ (none n || (has n ns && loop_in k (entry_of (entries_of ps) n)))) c.requires.stmts c.in_ok-add_loops.ensures.added)
          c.in_ok-loops.ensures.are;
    }
