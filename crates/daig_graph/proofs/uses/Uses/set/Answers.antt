use Rattle.std.proofs.Common.{ℕ, ◌<◌, List, length, slice_set, sym, ap, subst, ◌∙◌}
use Rattle.daig_graph.specs.Threads.{inputs_at, AreThreaded}
use Rattle.daig_graph.proofs.ThreadingKept.{threaded-same}
use Rattle.daig_graph.proofs.uses.Uses.set.Goals as goal

pub invariant_of-self : goal.invariant_of-self
invariant_of-self c = threaded-same c.self.inside.inputs.items c.self.inside.links.items c.reserve_links.new.links.items c.reserve_links.ensures.same c.self.invariant

pub link_all-requires-clause-threaded : goal.link_all-requires-clause-threaded
link_all-requires-clause-threaded c =
    let P : List (List ℕ) → Type 0 = λ v. c.args.cell < length v in (
      c.self.inside.inputs.items,
      threaded-same c.self.inside.inputs.items c.self.inside.links.items c.reserve_links.new.links.items c.reserve_links.ensures.same c.self.invariant,
      subst P (sym c.self.view_is) c.requires.place,
      ap (λ v. inputs_at v c.args.cell) c.self.view_is ∙ c.requires.none,
    )

pub invariant_of-self-2 : goal.invariant_of-self-2
invariant_of-self-2 c =
    let P : List ℕ → Type 0 = λ xs. AreThreaded (slice_set c.self.inside.inputs.items c.args.cell xs) c.link_all.new.links.items in
    subst P c.as_slice.ensures.same
    (c.link_all.ensures.threads c.self.inside.inputs.items (threaded-same c.self.inside.inputs.items c.self.inside.links.items c.reserve_links.new.links.items c.reserve_links.ensures.same c.self.invariant)
    (ap (λ v. inputs_at v c.args.cell) c.self.view_is ∙ c.requires.none))
