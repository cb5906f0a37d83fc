use Rattle.daig_traces.proofs.TraceLemmas.{founds_lead, founds_tell}
use Rattle.daig_traces.proofs.found_laws.Goals as goal

pub returns-clause-leads : goal.returns-clause-leads
returns-clause-leads g c = founds_lead

pub returns-clause-tells : goal.returns-clause-tells
returns-clause-tells g c = founds_tell
