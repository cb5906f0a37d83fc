-- States by their matrices.
use Rattle.std.specs.Prelude.{◌≡◌, Option, Some, None, refl}
use Rattle.dbm_core.specs.Half.{HalfMatrix}
use Rattle.dom_octagon_words.specs.Words.{state_in}
use Rattle.dom_octagon_states.specs.Kept.{bounded_if}

pub state_in_is : (o : Option HalfMatrix) → state_in o ≡ bounded_if o
state_in_is None = refl
state_in_is (Some m) = refl
