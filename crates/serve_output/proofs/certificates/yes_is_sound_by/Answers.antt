use Rattle.serve_output.proofs.certificates.yes_is_sound_by.Goals as goal

pub returns : goal.returns
returns g c = record { sound = λ d. c.a_yes_is_sound.ensures.sound d (g.D.Portable.port d) (g.met.D.Portable.port_laws d) }
