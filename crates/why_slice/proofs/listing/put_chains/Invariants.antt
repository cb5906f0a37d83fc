use Rattle.std.proofs.Common.{◌≡◌, fold, take}
use Rattle.std.specs.BTreeSet.{insert_key}
use Rattle.std.specs.Ordering.{nat_cmp}
use Rattle.why_slice.specs.Upstream.{all_of}
use Rattle.why_slice.proofs.listing.put_chains.Given as goal

abbrev pub invariant-loop-chain : goal.invariant-loop-chain
invariant-loop-chain l = l.stmts ≡ fold (insert_key nat_cmp) l.initial.stmts (all_of (take l.chain-index l.chains))
