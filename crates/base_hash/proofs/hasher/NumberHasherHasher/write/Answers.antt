use Rattle.std.proofs.Common.{length}
use Rattle.std.proofs.lemmas.Bool.{ne_eqb}
use Rattle.base_hash.specs.Mixed.{write}
use Rattle.base_hash.proofs.hasher.NumberHasherHasher.write.Goals as goal

pub returns-then-bytes-eq8 : goal.returns-then-bytes-eq8
unfolding write
returns-then-bytes-eq8 c = rw (c.mixed-self.ensures.is, c.from_le_bytes-number.ensures, c.if-bytes-eq8.true)

pub returns-else-bytes-eq8 : goal.returns-else-bytes-eq8
unfolding write
returns-else-bytes-eq8 c = rw (c.mixed_bytes-self.ensures.is, ne_eqb (length c.args.bytes.now) 8 c.if-bytes-eq8.false)
