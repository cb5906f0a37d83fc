use Rattle.batch_sound.proofs.Steps.{Kept}
use Rattle.fault_verdicts.proofs.Soundness.{faults_sound}
use Rattle.fault_verdicts.proofs.sound.faults_are_sound.Goals as goal

pub returns : goal.returns
returns g c =
    let e = c.steps_keep_data.ensures in
    let f = c.steps_are_determined.ensures in
    let keeps : Kept = record { effects = e.effects; calls = e.calls; returns = e.returns; last_alone = e.last_alone; starts = e.starts; rises = c.thresholds_rise.ensures.rising } in
    record { sound = λ d. faults_sound (g.D.Domain.operations d) (g.D.Domain.covers d) (g.met.D.Domain.laws d) keeps c.places_are_found.ensures.found f.keeps_form f.starts c.points_are_exact.ensures.exact }
