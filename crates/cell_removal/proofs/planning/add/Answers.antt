use Rattle.std.proofs.Common.{◌≡◌, true, false, [], ◌∷◌, ◌++◌, refl, ap, ◌∙◌, arith}
use Rattle.std.proofs.lemmas.List.{nil_from_length}
use Rattle.cell_removal.specs.Marks.{AreMarked}
use Rattle.cell_removal.specs.Removal.{Adds, IsOrder}
use Rattle.cell_removal.proofs.Tops.{split_top}
use Rattle.cell_removal.proofs.Turns.{walking_first, walking_turn, walking_last, walking_uses, turns_fall}
use Rattle.cell_removal.proofs.planning.add.Goals as goal

pub users-init : goal.users-init
users-init g c = record {
  walking =
      walking_first c.args.graph.now.cells c.args.cell c.args.planned.now.items c.args.marks.now c.add.new.self c.opened.result c.push.new.self.items c.opened.ensures.opened
      (c.in_ok-push.ensures.items ∙ ap (λ xs. xs ++ c.opened.result ∷ []) c.requires.empty)
      c.requires.marked (λ m. (let e : false ≡ true = c.if-has.ensures.marked.1 m in absurd cc)) c.add.ensures.puts c.requires.there c.requires.order;
  room = refl;
}

pub turn-requires-clause-users : goal.turn-requires-clause-users
turn-requires-clause-users g c = walking_uses c.args.graph.now.cells c.args.cell c.args.planned.now.items c.users.marks c.users.planned.items c.users.stack.items c.users.invariant.walking

pub users-smaller : goal.users-smaller
users-smaller g c =
    let s = split_top c.users.stack.items (omega (arith, c.len.ensures, c.users-test.true, c.users.stack.ok)) in
    turns_fall c.args.graph.now.cells c.args.cell c.args.planned.now.items s.1 c.users.marks c.turn.new.marks c.users.planned.items c.turn.new.planned.items c.users.stack.items s.0 c.turn.new.stack.items
    c.requires.rising c.users.invariant.walking s.2 (c.in_ok-turn.ensures.turns s.0 s.1 s.2)

pub users-preserved : goal.users-preserved
users-preserved g c =
    let s = split_top c.users.stack.items (omega (arith, c.len.ensures, c.users-test.true, c.users.stack.ok)) in
    record {
      walking =
          walking_turn c.args.graph.now.cells c.args.cell c.args.planned.now.items s.1 c.users.marks c.turn.new.marks c.users.planned.items c.turn.new.planned.items c.users.stack.items s.0 c.turn.new.stack.items
          c.requires.rising c.users.invariant.walking s.2 (c.in_ok-turn.ensures.turns s.0 s.1 s.2);
      room = c.turn.ensures.room ∙ c.users.invariant.room;
    }

last : (g : _) (c : goal.After-users g) → IsOrder c.args.graph.now.cells c.users.planned.items × Adds c.args.graph.now.cells c.args.cell c.args.planned.now.items c.users.planned.items × AreMarked c.users.marks c.users.planned.items
last g c = walking_last c.args.graph.now.cells c.args.cell c.args.planned.now.items c.users.marks c.users.planned.items c.users.stack.items c.requires.rising c.users.invariant.walking
    (nil_from_length c.users.stack.items (omega (arith, c.len.ensures, c.users-test.false, c.users.stack.ok)))

pub returns-clause-order : goal.returns-clause-order
returns-clause-order g c = (last g c).0

pub returns-clause-adds : goal.returns-clause-adds
returns-clause-adds g c = (last g c).1

pub returns-clause-marked : goal.returns-clause-marked
returns-clause-marked g c = (last g c).2
