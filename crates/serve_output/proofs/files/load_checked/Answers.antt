use Rattle.serve_output.proofs.GivenLemmas.{ends_source, loaded, source_no_file}
use Rattle.serve_output.proofs.files.load_checked.Goals as goal

pub returns-clause-program : goal.returns-clause-program
returns-clause-program g c =
    let call = c.in_ok-source.ensures {u = tt} in
    loaded _ c.args.name.now c.in_ok-source.source.items call.bytes call.fits (λ p. p) c.read_checked.result (rw c.as_slice.ensures.value at c.read_checked.ensures.accepted)

pub returns-clause-ends : goal.returns-clause-ends
returns-clause-ends g c =
    let call = c.in_ok-source.ensures {u = tt} in
    ends_source _ c.args.name.now c.in_ok-source.source.items call.bytes call.fits (λ p. p) c.read_checked.result (rw c.as_slice.ensures.value at c.read_checked.ensures.refused)

pub returns-clause-missing : goal.returns-clause-missing
returns-clause-missing g c = λ is. absurd (source_no_file c.texts_are_read.ensures.there _ c.read_checked.result c.read_checked.ensures.refused is)
