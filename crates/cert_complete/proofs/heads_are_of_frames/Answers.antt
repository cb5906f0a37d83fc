use Rattle.cert_complete.proofs.Frames.{heads_fit}
use Rattle.cert_complete.proofs.heads_are_of_frames.Goals as goal

pub returns : goal.returns
returns g c = record { frames = λ d. heads_fit (g.D.Domain.operations d) (g.D.Domain.covers d) (g.met.D.Domain.laws d) c.thresholds_rise.ensures.rising c.places_are_found.ensures.found }
