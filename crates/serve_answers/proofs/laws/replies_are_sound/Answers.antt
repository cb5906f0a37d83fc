use Rattle.serve_answers.proofs.SoundTurns.{turns_sound, moments_sound}
use Rattle.serve_answers.proofs.laws.replies_are_sound.Goals as goal

pub returns : goal.returns
returns g c = record {
  turn = λ d. turns_sound (g.D.Domain.operations d) (g.D.Domain.covers d) (c.answers_are_sound.ensures.sound d) (c.reports_are_sound.ensures.sound d) (c.faults_are_sound.ensures.sound d) (c.answers_stay.ensures.listed d);
  moment = λ d. moments_sound (g.D.Domain.operations d) (g.D.Domain.covers d) (c.answers_are_sound.ensures.sound d) (c.reports_are_sound.ensures.sound d) (c.faults_are_sound.ensures.sound d) (c.answers_stay.ensures.listed d);
}
