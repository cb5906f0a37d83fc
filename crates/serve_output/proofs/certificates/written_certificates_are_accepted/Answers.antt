use Rattle.serve_output.proofs.KeptLemmas.{accepted_by, written_accepted}
use Rattle.serve_output.proofs.certificates.written_certificates_are_accepted.Goals as goal

pub returns : goal.returns
returns c = record {
  accepted = written_accepted c.checked_programs_have_lines.ensures.lines
      (accepted_by c.interval_certificates_are_accepted.ensures.accepted c.octagon_certificates_are_accepted.ensures.accepted c.segment_certificates_are_accepted.ensures.accepted);
}
