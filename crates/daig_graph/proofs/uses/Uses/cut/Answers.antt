use Rattle.std.proofs.Common.{◌≡◌, ℕ, ◌≤◌, List, [], sym, subst, subst₂, ◌∙◌}
use Rattle.daig_graph.specs.Threads.{inputs_at, AllBelow, AreThreaded}
use Rattle.daig_graph.proofs.ThreadingKept.{threaded-cut}
use Rattle.daig_graph.proofs.uses.Uses.cut.Goals as goal

pub invariant_of-self : goal.invariant_of-self
invariant_of-self c =
    let P : List (List ℕ) → Type 0 = λ xs. (n : ℕ) → c.args.room ≤ n → inputs_at xs n ≡ [] in
    let Q : List (List ℕ) → Type 0 = λ xs. (n : ℕ) → AllBelow (inputs_at xs n) c.args.room in
    subst₂ AreThreaded (sym (c.shrink_to_fit.ensures.items ∙ c.truncate.ensures.items)) (sym (c.shrink_to_fit-2.ensures.items ∙ c.truncate-2.ensures.items))
    (threaded-cut c.self.inside.inputs.items c.self.inside.links.items c.self.invariant c.args.room (subst P (sym c.self.view_is) c.requires.none) (subst Q (sym c.self.view_is) c.requires.below))
