use Rattle.std.proofs.Common.{refl, ap, sym, ◌∙◌}
use Rattle.std.specs.FinMap.{len}
use Rattle.daig_graph.proofs.Agreeing.{cell-at, some-value}
use Rattle.daig_graph.proofs.Cut.{no-owner, no-inputs, inputs-end, keeps-cut, cut-last, map-renumber}
use Rattle.daig_graph.proofs.Filled.{Keeps, agrees-keep}
use Rattle.daig_graph.proofs.Maps.{map-len}
use Rattle.daig_graph.proofs.graph.Graph.renumber.Goals as goal

pub move_cells-room-requires-clause-rising : goal.move_cells-room-requires-clause-rising
move_cells-room-requires-clause-rising g c m n a b l e f = c.requires.rising m n a b l (cell-at _ _ _ _ c.self.invariant c.args.self.now.cells (ap (λ v. v.cells) c.self.view_is) m ∙ e) (cell-at _ _ _ _ c.self.invariant c.args.self.now.cells (ap (λ v. v.cells) c.self.view_is) n ∙ f)

pub move_cells-room-requires-clause-below : goal.move_cells-room-requires-clause-below
move_cells-room-requires-clause-below g c n a e = c.requires.below n a (cell-at _ _ _ _ c.self.invariant c.args.self.now.cells (ap (λ v. v.cells) c.self.view_is) n ∙ e)

pub cut-requires : goal.cut-requires
cut-requires g c = record { none = no-owner _ _ _ _ _ c.move_cells-room.ensures.agrees c.move_cells-room.ensures.room }

pub cut-requires-2-clause-none : goal.cut-requires-2-clause-none
cut-requires-2-clause-none g c = no-inputs _ _ _ _ _ c.move_cells-room.ensures.agrees c.move_cells-room.ensures.room

pub cut-requires-2-clause-below : goal.cut-requires-2-clause-below
cut-requires-2-clause-below g c = inputs-end _ _ _ _ _ c.move_cells-room.ensures.agrees c.move_cells-room.ensures.room

keeps : (g : _) (c : goal.After-cut-2 g) → Keeps c.move_cells-room.new.values.items c.shrink_to_fit.new.self.items c.move_cells-room.new.owned.of c.cut.new.self.of c.move_cells-room.new.uses c.cut-2.new.self
keeps g c = keeps-cut _ _ _ _ c.move_cells-room.result c.move_cells-room.ensures.agrees c.move_cells-room.ensures.room _ _ _
    (c.shrink_to_fit.ensures.items ∙ c.truncate.ensures.items) (ap (λ w. w.of) c.cut.ensures.cut) c.cut-2.ensures.cut

pub invariant_of-self : goal.invariant_of-self
invariant_of-self g c =
    let agrees = agrees-keep _ _ _ _ _ _ (keeps g c) _ c.move_cells-room.ensures.agrees in
    record { owners_many = agrees.owners_many; inputs_many = agrees.inputs_many; owned = agrees.owned; blank = agrees.blank; closed = agrees.closed; counted = agrees.counted ∙ c.self.invariant.counted }

pub returns-clause-renumbers : goal.returns-clause-renumbers
returns-clause-renumbers g c =
    map-renumber c.args.new_of.now _ _ _ _ _ _ _ _ _ _ c.self.invariant (invariant_of-self g c) c.args.self.now.cells (ap (λ v. v.cells) c.self.view_is) c.move_cells-room.ensures.moves (keeps g c)

pub returns-clause-same_len : goal.returns-clause-same_len
returns-clause-same_len g c = map-len _ _ _ _ (invariant_of-self g c) ∙ sym (map-len _ _ _ _ c.self.invariant) ∙ ap (λ v. len v.cells) c.self.view_is

pub returns-clause-last : goal.returns-clause-last
returns-clause-last g c n e =
    some-value _ _ _ _ (invariant_of-self g c) _ refl n
    ∙ cut-last _ _ _ _ c.move_cells-room.result c.move_cells-room.ensures.agrees c.move_cells-room.ensures.room c.move_cells-room.ensures.last _ (c.shrink_to_fit.ensures.items ∙ c.truncate.ensures.items) n e
