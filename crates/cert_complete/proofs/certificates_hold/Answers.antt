use Rattle.cert_complete.proofs.Whole.{certificates_do_hold}
use Rattle.cert_complete.proofs.certificates_hold.Goals as goal

pub returns : goal.returns
returns g c =
    record { hold = λ d. certificates_do_hold (g.D.Domain.operations d) (g.D.Domain.covers d) (g.met.D.Domain.laws d) c.thresholds_rise.ensures.rising c.places_are_found.ensures.found c.chains_go_through_callers.ensures.through }
