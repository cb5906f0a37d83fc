use Rattle.dom_octagon_meaning.proofs.Laws.{octagon_laws, octagon_keeps_dead}
use Rattle.dom_octagon_meaning.proofs.octagons_are_a_domain.Goals as goal

pub returns : goal.returns
returns c = record { laws = octagon_laws; keeps_dead = octagon_keeps_dead }
