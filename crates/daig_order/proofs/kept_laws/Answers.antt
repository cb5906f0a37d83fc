use Rattle.daig_order.proofs.TheoremProofs.{missing, kept_or_needed, filled}
use Rattle.daig_order.proofs.kept_laws.Goals as goal

pub returns-clause-missing : goal.returns-clause-missing
returns-clause-missing g c = missing

pub returns-clause-filled : goal.returns-clause-filled
returns-clause-filled g c = filled

pub returns-clause-all : goal.returns-clause-all
returns-clause-all g c = kept_or_needed
