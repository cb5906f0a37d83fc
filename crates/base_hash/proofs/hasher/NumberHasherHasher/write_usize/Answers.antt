use Rattle.std.proofs.lemmas.Nat.{from_le_bytes-to_le_bytes_8}
use Rattle.std.specs.Hash.{le_bytes}
use Rattle.base_hash.specs.Mixed.{write}
use Rattle.base_hash.proofs.hasher.NumberHasherHasher.write_usize.Goals as goal

pub returns : goal.returns
unfolding write le_bytes
returns c = rw (c.mixed-self.ensures.is, from_le_bytes-to_le_bytes_8 c.args.i c.ranges.i.fits)
