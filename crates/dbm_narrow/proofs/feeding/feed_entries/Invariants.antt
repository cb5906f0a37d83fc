use Rattle.std.proofs.Common.{◌≡◌, ◌≤◌, length, take}
use Rattle.std.specs.List.{fold}
use Rattle.dbm_narrow.specs.Feeding.{entries_fed}
use Rattle.dbm_narrow.proofs.feeding.feed_entries.Given as goal

abbrev pub invariant-loop-k : goal.invariant-loop-k
invariant-loop-k g l = (l.k ≤ length l.entries) × (l.state ≡ fold g.H.Hasher.write l.fn.state (entries_fed g.W.Width.unit (take l.k l.entries)))
