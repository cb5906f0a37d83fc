use Rattle.imp_chains.proofs.Found.{places_are_found}
use Rattle.imp_chains.proofs.laws.places_are_found.Goals as goal

pub returns : goal.returns
returns c = record { found = places_are_found }
