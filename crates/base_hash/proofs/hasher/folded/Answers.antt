use Rattle.std.proofs.Common.{refl}
use Rattle.base_hash.specs.Mixed.{folded}
use Rattle.base_hash.proofs.hasher.folded.Goals as goal

pub returns : goal.returns
unfolding folded
returns c = record { is = refl }
