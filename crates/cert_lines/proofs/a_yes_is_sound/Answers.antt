use Rattle.cert_lines.proofs.Read.{yes_sound}
use Rattle.cert_lines.proofs.a_yes_is_sound.Goals as goal

pub returns : goal.returns
returns g c =
    record { sound = λ d port laws. yes_sound (g.D.Domain.operations d) (g.D.Domain.covers d) port laws (c.certificates_are_sound.ensures.sound d port.leq laws.below) }
