use Rattle.std.proofs.Common.{◌≡◌, take, fold}
use Rattle.base_hash.specs.Mixed.{mixed}
use Rattle.base_hash.proofs.hasher.mixed_bytes.Given as goal

abbrev pub invariant-loop-byte : goal.invariant-loop-byte
invariant-loop-byte l = l.so_far ≡ fold mixed l.fn.state (take l.byte-index l.bytes)
