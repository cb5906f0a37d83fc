use Rattle.dom_interval_meaning.proofs.Laws.{interval_laws, interval_keeps_dead}
use Rattle.dom_interval_meaning.proofs.intervals_are_a_domain.Goals as goal

pub returns : goal.returns
returns c = record { laws = interval_laws; keeps_dead = interval_keeps_dead }
