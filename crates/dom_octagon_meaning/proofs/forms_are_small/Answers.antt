use Rattle.dom_octagon_meaning.proofs.Small.{forms-are_small}
use Rattle.dom_octagon_meaning.proofs.forms_are_small.Goals as goal

pub returns : goal.returns
returns c = record { small = forms-are_small }
