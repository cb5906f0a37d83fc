use Rattle.cert_accepted.proofs.Short.{checked_have_lines}
use Rattle.cert_accepted.proofs.laws.checked_programs_have_lines.Goals as goal

pub returns : goal.returns
returns c = record { lines = checked_have_lines }
