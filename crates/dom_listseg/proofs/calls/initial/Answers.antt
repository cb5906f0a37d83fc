use Rattle.std.proofs.Common.{◌≡◌, ◌∷◌, [], map, ap, ◌∙◌, arith}
use Rattle.std.proofs.lemmas.Grind.{common_steps}
use Rattle.concrete_sem.specs.Passing.{first_link}
use Rattle.dom_listseg.proofs.Started.{started-graph}
use Rattle.dom_listseg.proofs.calls.initial.Goals as goal

pub from_parts-graph-requires : goal.from_parts-graph-requires
from_parts-graph-requires c =
    let row : c.from_slots.result ≡ map first_link c.args.main.now.links = c.from_slots.ensures.slots ∙ c.in_ok-nils.ensures.nils ∙ ap (map first_link) c.links.ensures.same in
    let frames : c.push.new.self.items ≡ map first_link c.args.main.now.links ∷ [] = grind (arith, common_steps) in
    record { is_graph = started-graph c.args.main.now c.push.new.self.items c.new.result.items frames c.new.ensures.items }
