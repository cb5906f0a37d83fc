use Rattle.base_hash.specs.Mixed.{mixed}
use Rattle.base_hash.proofs.hasher.mixed.Goals as goal

pub returns : goal.returns
unfolding mixed
returns c = record { is = c.folded.ensures.is }
