use Rattle.std.proofs.Common.{Some, sym, ap, ◌∙◌}
use Rattle.std.specs.BTreeSet.{contains}
use Rattle.std.specs.Ordering.{nat_cmp}
use Rattle.call_contexts.proofs.Looped.{untouched_loops}
use Rattle.call_contexts.proofs.following.loops_over.Goals as goal

pub returns-in_ok-clone : goal.returns-in_ok-clone
returns-in_ok-clone c =
    let k = c.args.proc in
    record {
      are =
          untouched_loops c.args.old.now c.args.new.now c.args.puts.now k c.args.before.now c.requires.brings
          (sym (c.requires.touched k) ∙ ap (contains nat_cmp c.args.touched.now) (sym c.place.ensures.is) ∙ sym c.contains.ensures ∙ c.if-contains.false)
          c.requires.there c.requires.before
          ∙ ap Some (sym c.in_ok-clone.ensures.cases);
    }
