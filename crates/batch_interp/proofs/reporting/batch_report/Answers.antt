use Rattle.imp_check.specs.Slots.{routines_of}
use Rattle.batch_meaning.specs.Report.{report}
use Rattle.batch_sound.specs.Theorem.{IsFindingSound}
use Rattle.batch_interp.proofs.Fronts.{each_sound}
use Rattle.batch_interp.proofs.reporting.batch_report.Goals as goal

pub returns-clause-sound : goal.returns-clause-sound
returns-clause-sound g c =
    let engine = c.args.setting.now.engine in
    let program = routines_of c.args.prog.now in
    each_sound c.all_findings-found.result (report (g.D.Domain.operations c.args.dom.now) engine program) (IsFindingSound program)
    (λ f m. c.reports_are_sound.ensures.sound c.args.dom.now engine program f c.routines.ensures.fit m)
    c.all_findings-found.ensures.is
