use Rattle.std.proofs.Common.{ℕ, ◌+◌, ◌<◌, [], length, map, None, is_some, count_by, sym, ap, ◌∙◌, subst, arith}
use Rattle.std.specs.List.{swap}
use Rattle.daig_graph.specs.Numbers.{renumbered}
use Rattle.daig_graph.specs.Owners.{owner_at}
use Rattle.daig_graph.specs.Renumbered.{AreMoving}
use Rattle.daig_graph.specs.Threads.{inputs_at}
use Rattle.daig_graph.proofs.Moved.{moved_item, count-swap, same-default, along, none-of}
use Rattle.daig_graph.proofs.NewNumbers.{are-moving-start, are-moving-none, are-moving-some, to-low, free-owner, free-inputs, inputs-below, all-moved, all-end, all-agree}
use Rattle.daig_graph.proofs.renumbering.move_cells.Goals as goal
use Rattle.daig_graph.proofs.renumbering.move_cells.Goals.{then-is_some, else-is_some}
use Rattle.std.proofs.lemmas.List.Edits.{swap_is}

pub loop-number-init : goal.loop-number-init
loop-number-init g c = record { moving = are-moving-start _ _ _ _ _ c.requires.agrees }

pub swap-requires-clause-j_in_bounds : goal.swap-requires-clause-j_in_bounds
swap-requires-clause-j_in_bounds g c =
    let below : c.loop-number.number < length c.loop-number.values.items = omega (arith, c.loop-number-test.true, c.loop-number.invariant.moving.value_places, c.len-number-end.ensures) in
    let there = ap is_some (same-default c.loop-number.values.items c.loop-number.number None c.index.result.now below ∙ sym c.index.ensures) ∙ sym c.is_some.ensures ∙ c.if-is_some.true in
    omega (arith, below, to-low _ _ _ _ _ c.requires.agrees c.requires.rising c.requires.below _ _ _ _ _ c.loop-number.invariant.moving there, c.new_number-new.ensures.new)

pub move_cell-requires-clause-place : goal.move_cell-requires-clause-place
move_cell-requires-clause-place g c =
    omega (arith, c.loop-number-test.true, c.loop-number.invariant.moving.owner_places, c.requires.agrees.owners_many, c.len-number-end.ensures)

pub move_cell-requires-clause-to : goal.move_cell-requires-clause-to
move_cell-requires-clause-to g c =
    let below : c.loop-number.number < length c.loop-number.values.items = omega (arith, c.loop-number-test.true, c.loop-number.invariant.moving.value_places, c.len-number-end.ensures) in
    let there = ap is_some (same-default c.loop-number.values.items c.loop-number.number None c.index.result.now below ∙ sym c.index.ensures) ∙ sym c.is_some.ensures ∙ c.if-is_some.true in
    omega (arith, to-low _ _ _ _ _ c.requires.agrees c.requires.rising c.requires.below _ _ _ _ _ c.loop-number.invariant.moving there, c.new_number-new.ensures.new)

pub move_cell-requires-clause-none : goal.move_cell-requires-clause-none
move_cell-requires-clause-none g c ne =
    let below : c.loop-number.number < length c.loop-number.values.items = omega (arith, c.loop-number-test.true, c.loop-number.invariant.moving.value_places, c.len-number-end.ensures) in
    let there = ap is_some (same-default c.loop-number.values.items c.loop-number.number None c.index.result.now below ∙ sym c.index.ensures) ∙ sym c.is_some.ensures ∙ c.if-is_some.true in
    ap (owner_at c.loop-number.owned.of) c.new_number-new.ensures.new ∙ free-owner _ _ _ _ _ c.requires.agrees c.requires.rising c.requires.below _ _ _ _ _ c.loop-number.invariant.moving there (λ e. ne (c.new_number-new.ensures.new ∙ e))

pub move_inputs-requires-clause-place : goal.move_inputs-requires-clause-place
move_inputs-requires-clause-place g c =
    omega (arith, c.loop-number-test.true, c.loop-number.invariant.moving.input_places, c.requires.agrees.inputs_many, c.len-number-end.ensures)

pub move_inputs-requires-clause-to : goal.move_inputs-requires-clause-to
move_inputs-requires-clause-to g c =
    let below : c.loop-number.number < length c.loop-number.values.items = omega (arith, c.loop-number-test.true, c.loop-number.invariant.moving.value_places, c.len-number-end.ensures) in
    let there = ap is_some (same-default c.loop-number.values.items c.loop-number.number None c.index.result.now below ∙ sym c.index.ensures) ∙ sym c.is_some.ensures ∙ c.if-is_some.true in
    omega (arith, to-low _ _ _ _ _ c.requires.agrees c.requires.rising c.requires.below _ _ _ _ _ c.loop-number.invariant.moving there, c.new_number-new.ensures.new)

pub move_inputs-requires-clause-none : goal.move_inputs-requires-clause-none
move_inputs-requires-clause-none g c ne =
    let below : c.loop-number.number < length c.loop-number.values.items = omega (arith, c.loop-number-test.true, c.loop-number.invariant.moving.value_places, c.len-number-end.ensures) in
    let there = ap is_some (same-default c.loop-number.values.items c.loop-number.number None c.index.result.now below ∙ sym c.index.ensures) ∙ sym c.is_some.ensures ∙ c.if-is_some.true in
    ap (inputs_at c.loop-number.uses) c.new_number-new.ensures.new ∙ free-inputs _ _ _ _ _ c.requires.agrees c.requires.rising c.requires.below _ _ _ _ _ c.loop-number.invariant.moving there (λ e. ne (c.new_number-new.ensures.new ∙ e))

pub move_inputs-requires-clause-below : goal.move_inputs-requires-clause-below
move_inputs-requires-clause-below g c =
    let below : c.loop-number.number < length c.loop-number.values.items = omega (arith, c.loop-number-test.true, c.loop-number.invariant.moving.value_places, c.len-number-end.ensures) in
    let there = ap is_some (same-default c.loop-number.values.items c.loop-number.number None c.index.result.now below ∙ sym c.index.ensures) ∙ sym c.is_some.ensures ∙ c.if-is_some.true in
    inputs-below _ _ _ _ _ c.requires.agrees c.requires.rising c.requires.below _ _ _ _ _ c.loop-number.invariant.moving there

pub overflow_add-room : goal.overflow_add-room
overflow_add-room g c =
    let below : c.loop-number.number < length c.loop-number.values.items = omega (arith, c.loop-number-test.true, c.loop-number.invariant.moving.value_places, c.len-number-end.ensures) in
    let there = ap is_some (same-default c.loop-number.values.items c.loop-number.number None c.index.result.now below ∙ sym c.index.ensures) ∙ sym c.is_some.ensures ∙ c.if-is_some.true in
    omega (arith, below, to-low _ _ _ _ _ c.requires.agrees c.requires.rising c.requires.below _ _ _ _ _ c.loop-number.invariant.moving there, c.new_number-new.ensures.new, c.loop-number-test.true, c.len-number-end.type_inv)

pub loop-number-preserved : goal.loop-number-preserved
loop-number-preserved g c =
    let values = c.loop-number.values.items in
    let owners = c.loop-number.owned.of in
    let number = c.loop-number.number in
    let to = renumbered c.args.new_of.now number in
    let below : number < length values = omega (arith, c.loop-number-test.true, c.loop-number.invariant.moving.value_places, c.len-number-end.ensures) in
    let value = same-default values number None c.index.result.now below ∙ sym c.index.ensures in
    record {
      moving = elim c.if-is_some.branch [
        | then-is_some w ↦
            let there = ap is_some value ∙ sym c.is_some.ensures ∙ w.if-is_some.true in
            let new = w.new_number-new.ensures.new in
            let inside : to < length values = omega (arith, below, to-low _ _ _ _ _ c.requires.agrees c.requires.rising c.requires.below _ _ _ _ _ c.loop-number.invariant.moving there) in
            let swapped = ap (λ v. v.items) w.values-is ∙ w.swap.ensures.items ∙ ap (swap values number) new in
            let P : ℕ → Type 0 = λ r. AreMoving c.args.new_of.now c.args.values.now.items c.if-is_some.values.items c.args.owned.now.of c.if-is_some.owned.of c.args.uses.now c.if-is_some.uses (number + 1) r in
            subst P (sym (w.room-is ∙ ap (λ n. n + 1) new))
            (are-moving-some _ _ _ _ _ c.requires.agrees c.requires.rising c.requires.below _ _ _ _ _ c.loop-number.invariant.moving there c.if-is_some.values.items c.if-is_some.owned.of c.if-is_some.uses
            (swapped ∙ sym (swap_is values number to None below inside))
            (ap (λ l. count_by is_some l) swapped ∙ count-swap values number to below inside)
            (ap (λ v. v.of) w.owned-is ∙ ap (λ v. v.of) w.move_cell.ensures.moved ∙ ap (λ t. moved_item owners number t None (owner_at owners number) None) new)
            (w.uses-is ∙ w.move_inputs.ensures.moved ∙ ap (λ t. moved_item c.loop-number.uses number t [] (map (renumbered c.args.new_of.now) (inputs_at c.loop-number.uses number)) []) new))
        | else-is_some w ↦
            along (λ v o u r. AreMoving c.args.new_of.now c.args.values.now.items v c.args.owned.now.of o c.args.uses.now u (number + 1) r) _ _ _ _ _ _ _ _
            (sym (ap (λ v. v.items) w.values-is)) (sym (ap (λ v. v.of) w.owned-is)) (sym w.uses-is) (sym w.room-is)
            (are-moving-none _ _ _ _ _ c.requires.agrees c.requires.rising c.requires.below _ _ _ _ _ c.loop-number.invariant.moving (none-of _ (ap is_some value ∙ sym c.is_some.ensures ∙ w.if-is_some.false)))
      ];
    }

pub returns-clause-moves : goal.returns-clause-moves
returns-clause-moves g c = all-moved _ _ _ _ _ c.requires.agrees c.requires.rising c.requires.below _ _ _ _ _ c.loop-number.invariant.moving (omega (arith, c.loop-number-test.false, c.loop-number.invariant.moving.value_places, c.len-number-end.ensures))

pub returns-clause-room : goal.returns-clause-room
returns-clause-room g c = all-end _ _ _ _ _ c.requires.agrees c.requires.rising c.requires.below _ _ _ _ _ c.loop-number.invariant.moving (omega (arith, c.loop-number-test.false, c.loop-number.invariant.moving.value_places, c.len-number-end.ensures))

pub returns-clause-agrees : goal.returns-clause-agrees
returns-clause-agrees g c = all-agree _ _ _ _ _ c.requires.agrees c.requires.rising c.requires.below _ _ _ _ _ c.loop-number.invariant.moving (omega (arith, c.loop-number-test.false, c.loop-number.invariant.moving.value_places, c.len-number-end.ensures))

pub returns-clause-last : goal.returns-clause-last
returns-clause-last g c = c.loop-number.invariant.moving.last
