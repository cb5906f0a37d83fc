use Rattle.dom_shapes_meaning.proofs.Laws.{shapes_laws, shapes_keep_dead}
use Rattle.dom_shapes_meaning.proofs.shapes_are_a_domain.Goals as goal

pub returns : goal.returns
returns c = record { laws = shapes_laws; keeps_dead = shapes_keep_dead }
