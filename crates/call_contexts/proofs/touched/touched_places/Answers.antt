use Rattle.std.proofs.Common.{sym, ap, ◌∙◌, ◌||◌, Option}
use Rattle.std.specs.List.{list_any}
use Rattle.std.specs.BTreeMap.{is_at}
use Rattle.std.specs.BTreeSet.{contains}
use Rattle.std.specs.Ordering.{nat_cmp}
use Rattle.imp_check.specs.Entries.{entries_of, entry_of}
use Rattle.imp_check.specs.declared.entry.Entry.{Entry}
use Rattle.call_contexts.specs.Touches.{stands_in}
use Rattle.call_contexts.proofs.Parted.{touched_more, touched_none, touched_whole}
use Rattle.call_contexts.proofs.touched.touched_places.Goals as goal

pub loop-put-init : goal.loop-put-init
loop-put-init c = record { told = λ k. ap (list_any (is_at (nat_cmp k))) c.new-touched.ensures.empty ∙ sym (touched_none (entry_of (entries_of c.args.old.now)) c.args.puts.now k) }

pub loop-put-preserved : goal.loop-put-preserved
loop-put-preserved c =
    record {
      told = λ k.
          touched_more (entry_of (entries_of c.args.old.now)) c.args.puts.now c.loop-put.put-index c.put-item.result k (contains nat_cmp c.loop-put.touched k) (contains nat_cmp c.add_place.new.touched k) (contains nat_cmp c.add_place-in-loop-put.new.touched k)
          c.loop-put-test.true c.put-item.is (c.loop-put.invariant.told k) (c.in_ok-add_place.ensures.added k ∙ ap (λ (o : Option Entry). stands_in o k || contains nat_cmp c.loop-put.touched k) (c.entry.ensures.is ∙ ap (entry_of (entries_of c.args.old.now)) c.new.ensures.is))
          (c.in_ok-add_place-2.ensures.added k ∙ ap (λ (o : Option Entry). stands_in o k || contains nat_cmp c.add_place.new.touched k) c.entry-in-loop-put.ensures.is);
    }

pub returns : goal.returns
returns c = record { are = λ k. touched_whole (entry_of (entries_of c.args.old.now)) c.args.puts.now c.loop-put.put-index k (contains nat_cmp c.loop-put.touched k) (c.loop-put.invariant.told k) c.loop-put-test.false }
