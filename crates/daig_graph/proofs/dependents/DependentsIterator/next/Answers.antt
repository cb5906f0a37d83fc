use Rattle.std.proofs.Common.{◌≡◌, ℕ, ◌∷◌, length, Option, Some, sym, ap, ◌∙◌, subst, arith}
use Rattle.daig_graph.specs.declared.graph.Use.{Use}
use Rattle.daig_graph.specs.Threads.{next_at, use_count}
use Rattle.daig_graph.specs.Walks.{IsWalk, walk}
use Rattle.daig_graph.proofs.Walking.{walk-step}
use Rattle.daig_graph.proofs.dependents.DependentsIterator.next.Goals as goal

-- one use on
stepped : (c : goal.After-self-1) → (walk (next_at c.self.inside.links.now) (use_count c.self.inside.links.now) (Some c.in_ok-one.one) ≡ c.in_ok-one.one ∷ walk (next_at c.self.inside.links.now) (use_count c.self.inside.links.now) c.use_after-self-inside.result)
    × IsWalk (next_at c.self.inside.links.now) c.use_after-self-inside.result (walk (next_at c.self.inside.links.now) (use_count c.self.inside.links.now) c.use_after-self-inside.result)
stepped c =
    let next : Use → Option Use = next_at c.self.inside.links.now in
    let most : ℕ = use_count c.self.inside.links.now in
    let one : Use = c.in_ok-one.one in
    let P : Option Use → Type 0 = λ o. IsWalk next o (walk next most o) in
    let Q : Option Use → Type 0 = λ o. (walk next most (Some one) ≡ one ∷ walk next most o) × IsWalk next o (walk next most o) in
    subst Q (sym c.use_after-self-inside.ensures.next) (walk-step next most one (subst P (sym c.in_ok-one.ensures.used) c.self.invariant))

pub invariant_of-self : goal.invariant_of-self
invariant_of-self c = (stepped c).1

pub returns-clause-steps : goal.returns-clause-steps
returns-clause-steps c =
    sym c.self.view_is
    ∙ ap (walk (next_at c.self.inside.links.now) (use_count c.self.inside.links.now)) (sym c.in_ok-one.ensures.used)
    ∙ (stepped c).0

pub returns-clause-goes : goal.returns-clause-goes
returns-clause-goes c =
    let e = ap length (returns-clause-steps c) in
    record { on = λ _. (tt, tt, omega (arith, e)); keeps = tt; rests = λ _. tt }
