use Rattle.dom_octagon_states.proofs.Forms.{small_whole}
use Rattle.dom_octagon_states.proofs.operations.is_small.Goals as goal

pub returns : goal.returns
returns c = record { whole = λ e h. small_whole c.args.narrow.now c.kinds-kinds.ensures.within h }
