use Rattle.dbm_narrow.proofs.LightLemmas.{rows-fit}
use Rattle.dbm_narrow.proofs.standing.are_limited.Goals as goal

pub shared_whole_as_slice-are_within : goal.shared_whole_as_slice-are_within
shared_whole_as_slice-are_within gen c = rows-fit gen.row.W gen.met.W.Width.light
