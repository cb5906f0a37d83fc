use Rattle.imp_check.specs.Slots.{routines_of}
use Rattle.cert_check.proofs.VerifyLemmas.{verified_read}
use Rattle.cert_check.proofs.verifying.verified.Goals as goal

pub returns-in-Read-clause-is : goal.returns-in-Read-clause-is
returns-in-Read-clause-is g c =
    let h = rw c.in-Read.is at c.in_ok-line.ensures.is in
    verified_read (g.D.Domain.operations c.args.dom.now) (g.D.Portable.port c.args.dom.now) (routines_of c.args.prog.now) c.args.cert.now c.verify_written.result c.in-Read.written h.0 h.1 h.2 c.verify_written.ensures.is
