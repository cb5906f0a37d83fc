use Rattle.serve_command.specs.declared.job.Task.TheVariants.{Serve}
use Rattle.serve_output.specs.Output.{task_output}
use Rattle.serve_output.proofs.EndsLemmas.{caused_by_script, fits_given}
use Rattle.serve_output.proofs.OutputLemmas.{of_program}
use Rattle.daig_server.proofs.run.run.Goals as goal

-- serve: the program is there
pub returns-in-Ok-clause-fits : goal.returns-in-Ok-clause-fits
returns-in-Ok-clause-fits g c = λ readings folder text told.
    let is = rw (c.in-Ok-File.field-0-is, c.in-Serve.is) at (c.in-Ok-File.ensures {u = tt}).job in
    let program = rw c.as_str.ensures.is at ((c.in-Ok.ensures {u = tt}).program readings folder (rw is at told)) in
    rw is (rw (of_program readings _ c.in-Ok.table.program (task_output readings (Serve c.in-Serve.settings c.in-Serve.memo) folder text) program) c.serve_program.ensures.fits)

pub returns-in-Ok-clause-wrote : goal.returns-in-Ok-clause-wrote
returns-in-Ok-clause-wrote g c = λ readings folder text taken told script sink.
    let is = rw (c.in-Ok-File.field-0-is, c.in-Serve.is) at (c.in-Ok-File.ensures {u = tt}).job in
    let program = rw c.as_str.ensures.is at ((c.in-Ok.ensures {u = tt}).program readings folder (rw is at told)) in
    rw is (rw (of_program readings _ c.in-Ok.table.program (task_output readings (Serve c.in-Serve.settings c.in-Serve.memo) folder text) program)
    (c.serve_program.ensures.wrote readings text taken ((rw is at script) tt c.in-Ok.table.program program) sink))

pub returns-in-Ok-clause-caused : goal.returns-in-Ok-clause-caused
returns-in-Ok-clause-caused g c =
    let is = rw (c.in-Ok-File.field-0-is, c.in-Serve.is) at (c.in-Ok-File.ensures {u = tt}).job in
    rw is (caused_by_script _ _ _ _ _ _ _ _ c.serve_program.result tt c.serve_program.ensures.caused)

pub returns-in-Batch-clause-fits : goal.returns-in-Batch-clause-fits
returns-in-Batch-clause-fits g c = λ readings folder text told.
    let is = rw (c.in-Ok-File.field-0-is, c.in-Batch.is) at (c.in-Ok-File.ensures {u = tt}).job in
    let gives = rw c.as_str-in-Batch.ensures.is at (c.batch-given.ensures.gives readings folder text (rw is at told)) in
    rw is (fits_given _ _ c.batch-given.result c.write_given-in-Batch.result _ gives c.write_given-in-Batch.ensures.ends)

pub returns-in-Batch-clause-wrote : goal.returns-in-Batch-clause-wrote
returns-in-Batch-clause-wrote g c = λ readings folder text taken told script sink.
    let is = rw (c.in-Ok-File.field-0-is, c.in-Batch.is) at (c.in-Ok-File.ensures {u = tt}).job in
    let gives = rw c.as_str-in-Batch.ensures.is at (c.batch-given.ensures.gives readings folder text (rw is at told)) in
    rw is (c.write_given-in-Batch.ensures.wrote _ gives text taken (g.I.Source.told c.args.script.now) sink)

pub returns-in-Faults-clause-fits : goal.returns-in-Faults-clause-fits
returns-in-Faults-clause-fits g c = λ readings folder text told.
    let is = rw (c.in-Ok-File.field-0-is, c.in-Faults.is) at (c.in-Ok-File.ensures {u = tt}).job in
    let gives = rw c.as_str-in-Faults.ensures.is at (c.faults-given.ensures.gives readings folder text (rw is at told)) in
    rw is (fits_given _ _ c.faults-given.result c.write_given-in-Faults.result _ gives c.write_given-in-Faults.ensures.ends)

pub returns-in-Faults-clause-wrote : goal.returns-in-Faults-clause-wrote
returns-in-Faults-clause-wrote g c = λ readings folder text taken told script sink.
    let is = rw (c.in-Ok-File.field-0-is, c.in-Faults.is) at (c.in-Ok-File.ensures {u = tt}).job in
    let gives = rw c.as_str-in-Faults.ensures.is at (c.faults-given.ensures.gives readings folder text (rw is at told)) in
    rw is (c.write_given-in-Faults.ensures.wrote _ gives text taken (g.I.Source.told c.args.script.now) sink)

pub returns-in-Cert-clause-fits : goal.returns-in-Cert-clause-fits
returns-in-Cert-clause-fits g c = λ readings folder text told.
    let is = rw (c.in-Ok-File.field-0-is, c.in-Cert.is) at (c.in-Ok-File.ensures {u = tt}).job in
    let gives = rw c.as_str-name.ensures.is at (c.certificate-given.ensures.gives readings folder text (rw is at told)) in
    rw is (fits_given _ _ c.certificate-given.result c.write_given-in-Cert.result _ gives c.write_given-in-Cert.ensures.ends)

pub returns-in-Cert-clause-wrote : goal.returns-in-Cert-clause-wrote
returns-in-Cert-clause-wrote g c = λ readings folder text taken told script sink.
    let is = rw (c.in-Ok-File.field-0-is, c.in-Cert.is) at (c.in-Ok-File.ensures {u = tt}).job in
    let gives = rw c.as_str-name.ensures.is at (c.certificate-given.ensures.gives readings folder text (rw is at told)) in
    rw is (c.write_given-in-Cert.ensures.wrote _ gives text taken (g.I.Source.told c.args.script.now) sink)

pub returns-in-Ok-File-clause-fits : goal.returns-in-Ok-File-clause-fits
returns-in-Ok-File-clause-fits g c = λ readings folder text told.
    let is = rw (c.in-Ok-File.field-0-is, c.in-Verify.is) at (c.in-Ok-File.ensures {u = tt}).job in
    let gives = rw (c.as_str-in-Verify.ensures.is, c.as_str-in-Verify-2.ensures.is) at (c.verified-given.ensures.gives readings folder text (rw is at told)) in
    rw is (fits_given _ _ c.verified-given.result c.write_given-in-Verify.result _ gives c.write_given-in-Verify.ensures.ends)

pub returns-in-Ok-File-clause-wrote : goal.returns-in-Ok-File-clause-wrote
returns-in-Ok-File-clause-wrote g c = λ readings folder text taken told script sink.
    let is = rw (c.in-Ok-File.field-0-is, c.in-Verify.is) at (c.in-Ok-File.ensures {u = tt}).job in
    let gives = rw (c.as_str-in-Verify.ensures.is, c.as_str-in-Verify-2.ensures.is) at (c.verified-given.ensures.gives readings folder text (rw is at told)) in
    rw is (c.write_given-in-Verify.ensures.wrote _ gives text taken (g.I.Source.told c.args.script.now) sink)
