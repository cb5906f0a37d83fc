use Rattle.dom_listseg_meaning.proofs.Laws.{segments_laws, segments_keep_dead}
use Rattle.dom_listseg_meaning.proofs.segments_are_a_domain.Goals as goal

pub returns : goal.returns
returns c = record { laws = segments_laws; keeps_dead = segments_keep_dead }
