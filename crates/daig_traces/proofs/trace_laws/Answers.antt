use Rattle.daig_traces.proofs.TraceLemmas.{names_have_traces, traces_lead, traces_tell, traces_move}
use Rattle.daig_traces.proofs.trace_laws.Goals as goal

pub returns-clause-there : goal.returns-clause-there
returns-clause-there g c = names_have_traces

pub returns-clause-leads : goal.returns-clause-leads
returns-clause-leads g c = traces_lead

pub returns-clause-tells : goal.returns-clause-tells
returns-clause-tells g c = traces_tell

pub returns-clause-moves : goal.returns-clause-moves
returns-clause-moves g c = traces_move
