use Rattle.std.proofs.Common.{◌∙◌, Err, ap, sym}
use Rattle.std.proofs.lemmas.Result.{err_from_is_err_and}
use Rattle.serve_output.specs.Output.{done, most_certificate, verify_bytes}
use Rattle.serve_output.proofs.GivenLemmas.{missing_certificate}
use Rattle.serve_output.proofs.OutputLemmas.{of_program, short_file}
use Rattle.serve_output.proofs.certificates.verified.Goals as goal

pub returns-in_err-cert-clause-gives : goal.returns-in_err-cert-clause-gives
returns-in_err-cert-clause-gives g c = λ readings folder script told.
    let p = err_from_is_err_and c.from_residual-in_err-cert.result c.from_residual-in_err-cert.ensures.1 in
    rw (of_program readings (folder c.args.name.now) c.in_ok-program.program _ ((c.in_ok-program.ensures {u = tt}).program readings folder told), p.1, p.2)
    ((c.in_err-cert.ensures {u = tt}).ends folder (λ text. done (verify_bytes c.args.domain c.in_ok-program.program text)) (c.load_checked.ensures.stays ∙ told))

pub returns-in_err-cert-clause-missing : goal.returns-in_err-cert-clause-missing
returns-in_err-cert-clause-missing g c = λ is.
    let p = err_from_is_err_and c.from_residual-in_err-cert.result c.from_residual-in_err-cert.ensures.1 in
    let failed = c.in_err-cert.was {u = tt} ∙ ap Err (sym p.2) ∙ sym p.1 ∙ is in
    missing_certificate _ _ c.args.name.now c.args.cert.now c.in_ok-program.program _ _ _ c.load_checked.ensures.stays c.load_checked.ensures.never_falls
    (c.in_ok-program.ensures {u = tt}).program (c.load.ensures.missing failed)

pub returns-clause-gives : goal.returns-clause-gives
returns-clause-gives g c = λ readings folder script told.
    let call = c.in_ok-cert.ensures {u = tt} in
    of_program readings (folder c.args.name.now) c.in_ok-program.program _ ((c.in_ok-program.ensures {u = tt}).program readings folder told)
    ∙ short_file most_certificate (folder _) c.in_ok-cert.cert.items (λ text. done (verify_bytes c.args.domain c.in_ok-program.program text)) (call.bytes folder (c.load_checked.ensures.stays ∙ told)) call.fits
    ∙ ap done (sym (rw c.as_slice.ensures.value at (c.in_ok-bytes.ensures {u = tt}).bytes))
