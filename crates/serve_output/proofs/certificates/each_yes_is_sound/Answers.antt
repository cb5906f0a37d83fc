use Rattle.serve_output.proofs.CertificateLemmas.{by_each}
use Rattle.serve_output.proofs.certificates.each_yes_is_sound.Goals as goal

pub returns : goal.returns
returns c = record { sound = by_each (c.yes_is_sound_by.ensures.sound (record {})) (c.yes_is_sound_by-2.ensures.sound (record {})) (c.yes_is_sound_by-3.ensures.sound (record {})) }
