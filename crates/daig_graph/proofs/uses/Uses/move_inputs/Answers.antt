use Rattle.std.proofs.Common.{◌≡◌, ℕ, ◌+◌, ◌<◌, ◌≢◌, ◌≤◌, List, [], length, slice_set, sym, ap, subst, subst₂, ◌∙◌, arith}
use Rattle.std.proofs.lemmas.List.{length-map}
use Rattle.daig_graph.specs.Numbers.{renumbered}
use Rattle.daig_graph.specs.Threads.{inputs_at, AreThreaded, HasRoom}
use Rattle.daig_graph.proofs.ThreadingKept.{empty-room, found-inputs, moving-threaded, moving-none, moving-with}
use Rattle.daig_graph.proofs.uses.Uses.move_inputs.Goals as goal

pub link_all-requires-clause-room : goal.link_all-requires-clause-room
link_all-requires-clause-room c =
    let inputs = c.self.inside.inputs.items in
    let links = c.self.inside.links.items in
    let L : List (List ℕ) → Type 0 = λ v. c.args.cell < length v in
    let inside : c.args.cell < length inputs = subst L (sym c.self.view_is) c.requires.place in
    let are : c.as_slice.result.now ≡ inputs_at inputs c.args.cell = c.as_slice.ensures.same ∙ found-inputs inputs c.args.cell c.index-2.result.now inside c.index-2.ensures in
    let moved : c.replace-inputs.result ≡ inputs_at inputs c.args.cell = c.replace-inputs.ensures.value ∙ found-inputs inputs c.args.cell c.index_mut.result.now inside c.index_mut.ensures.value in
    let as_many : length c.as_slice-2.result.now ≡ length c.as_slice.result.now =
    ap length (c.as_slice-2.ensures.same ∙ c.renumber.ensures.new) ∙ length-map c.replace-inputs.result (renumbered c.args.new_of.now) ∙ ap length (moved ∙ sym are) in
    let R : ℕ → Type 0 = λ n. HasRoom c.move_room.new.links.items c.args.to n in
    let all : 0 + length c.as_slice.result.now ≡ length c.as_slice-2.result.now = omega (arith, as_many) in
    let fits : length c.index.result.now.beside.items ≤ c.index.result.now.beside.capacity = omega (arith, c.len-count.ensures.value, c.len-count.ensures.fits) in
    let room : HasRoom links c.args.cell 0 = empty-room links c.args.cell c.index.result.now (omega (arith, inside, c.self.invariant.places)) c.index.ensures fits in
    subst R all (c.move_room.ensures.room (0 + length c.as_slice.result.now) (c.unlink_all.ensures.room 0 room))

pub link_all-requires-clause-threaded : goal.link_all-requires-clause-threaded
link_all-requires-clause-threaded c =
    let inputs = c.self.inside.inputs.items in
    let links = c.self.inside.links.items in
    let L : List (List ℕ) → Type 0 = λ v. c.args.cell < length v in
    let inside : c.args.cell < length inputs = subst L (sym c.self.view_is) c.requires.place in
    let to_inside : c.args.to < length inputs = omega (arith, inside, c.requires.to) in
    let N : List (List ℕ) → Type 0 = λ v. c.args.to ≢ c.args.cell → inputs_at v c.args.to ≡ [] in
    let none : c.args.to ≢ c.args.cell → inputs_at inputs c.args.to ≡ [] = subst N (sym c.self.view_is) c.requires.none in
    let are : c.as_slice.result.now ≡ inputs_at inputs c.args.cell = c.as_slice.ensures.same ∙ found-inputs inputs c.args.cell c.index-2.result.now inside c.index-2.ensures in
    moving-with inputs links c.unlink_all.new.links.items c.self.invariant c.args.cell c.args.to inside to_inside c.as_slice.result.now are c.unlink_all.ensures.threads none c.move_room.new.links.items c.move_room.ensures.same

pub invariant_of-self : goal.invariant_of-self
invariant_of-self c =
    let inputs = c.self.inside.inputs.items in
    let links = c.self.inside.links.items in
    let L : List (List ℕ) → Type 0 = λ v. c.args.cell < length v in
    let inside : c.args.cell < length inputs = subst L (sym c.self.view_is) c.requires.place in
    let to_inside : c.args.to < length inputs = omega (arith, inside, c.requires.to) in
    let N : List (List ℕ) → Type 0 = λ v. c.args.to ≢ c.args.cell → inputs_at v c.args.to ≡ [] in
    let none : c.args.to ≢ c.args.cell → inputs_at inputs c.args.to ≡ [] = subst N (sym c.self.view_is) c.requires.none in
    let are : c.as_slice.result.now ≡ inputs_at inputs c.args.cell = c.as_slice.ensures.same ∙ found-inputs inputs c.args.cell c.index-2.result.now inside c.index-2.ensures in
    let bare : List (List ℕ) = slice_set inputs c.args.cell [] in
    let threaded = moving-threaded inputs links c.unlink_all.new.links.items c.self.invariant c.args.cell c.args.to inside to_inside c.as_slice.result.now are c.unlink_all.ensures.threads none c.move_room.new.links.items c.move_room.ensures.same in
    let nothing = moving-none inputs links c.unlink_all.new.links.items c.self.invariant c.args.cell c.args.to inside to_inside c.as_slice.result.now are c.unlink_all.ensures.threads none in
    let P : List ℕ → List ℕ → Type 0 = λ xs ys. AreThreaded (slice_set (slice_set inputs c.args.cell xs) c.args.to ys) c.link_all.new.links.items in
    subst₂ P (sym (c.replace-inputs.ensures.after ∙ c.new.ensures.empty)) c.as_slice-2.ensures.same (c.link_all.ensures.threads bare threaded nothing)
