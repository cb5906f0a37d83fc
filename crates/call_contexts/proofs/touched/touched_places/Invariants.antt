use Rattle.std.proofs.Common.{ℕ, ◌≡◌, take}
use Rattle.std.specs.BTreeSet.{contains}
use Rattle.std.specs.Ordering.{nat_cmp}
use Rattle.imp_check.specs.Entries.{entries_of, entry_of}
use Rattle.call_contexts.specs.Touches.{touches}
use Rattle.call_contexts.proofs.touched.touched_places.Given as goal

-- the procedures to which those so far come
abbrev pub invariant-loop-put : goal.invariant-loop-put
invariant-loop-put l = record { told : (k : ℕ) → contains nat_cmp l.touched k ≡ touches (entry_of (entries_of l.old)) (take l.put-index l.puts) k }
