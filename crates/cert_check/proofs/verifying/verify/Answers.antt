use Rattle.imp_check.specs.Slots.{routines_of}
use Rattle.cert_check.specs.Verified.{verified_of}
use Rattle.cert_check.proofs.VerifyLemmas.{covers_if_yes, accepted_if_written}
use Rattle.cert_check.proofs.verifying.verify.Goals as goal

pub returns-clause-sound : goal.returns-clause-sound
returns-clause-sound g c =
    let dom = c.args.dom.now in
    covers_if_yes (g.D.Domain.operations dom) (g.D.Domain.covers dom) (g.D.Portable.port dom) (routines_of c.args.prog.now) c.args.cert.now c.verified_line.result (verified_of c.in_ok-verified.verified) c.in_ok-verified.ensures.fit (c.a_yes_is_sound.ensures.sound dom (g.D.Portable.port dom) (g.met.D.Portable.port_laws dom)) c.in_ok-verified.ensures.is c.verified_line.ensures.line

pub returns-clause-accepts : goal.returns-clause-accepts
returns-clause-accepts g c =
    let dom = c.args.dom.now in
    let fit = c.in_ok-verified.ensures.fit in
    λ bounds utf8 small written.
    accepted_if_written (g.D.Domain.operations dom) (g.D.Portable.port dom) (routines_of c.args.prog.now) c.args.cert.now c.verified_line.result (verified_of c.in_ok-verified.verified) fit
    (c.certificates_are_accepted.ensures.accepted dom bounds utf8) (c.checked_programs_have_lines.ensures.lines c.args.prog.now c.in_ok-verified.ensures.faultless fit small) c.in_ok-verified.ensures.short c.in_ok-verified.ensures.is c.verified_line.ensures.line written
