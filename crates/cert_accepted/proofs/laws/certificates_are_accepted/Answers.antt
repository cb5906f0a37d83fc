use Rattle.cert_accepted.proofs.Whole.{certificates_accepted}
use Rattle.cert_accepted.proofs.laws.certificates_are_accepted.Goals as goal

pub returns : goal.returns
returns g c = record {
  accepted = λ d bounds utf8.
      certificates_accepted (g.D.Domain.operations d) (g.D.Domain.covers d) (g.D.Portable.port d) (g.met.D.Portable.port_laws d) utf8 c.places_are_found.ensures.found (c.heads_are_of_frames.ensures.frames d)
      (c.certificates_hold.ensures.hold d (g.D.Portable.port d).leq bounds);
}
