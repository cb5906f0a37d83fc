use Rattle.gen_sources.proofs.Texts.{are_read}
use Rattle.gen_sources.proofs.Faultless.{are_faultless}
use Rattle.gen_sources.proofs.laws.sources_are_accepted.Goals as goal

pub returns : goal.returns
returns c = record { read = are_read; faultless = are_faultless }
