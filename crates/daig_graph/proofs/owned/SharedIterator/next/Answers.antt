use Rattle.std.proofs.Common.{◌≡◌, ℕ, ◌∷◌, length, Option, Some, sym, ap, ◌∙◌, subst, arith}
use Rattle.daig_graph.specs.Owners.{next_owned}
use Rattle.daig_graph.specs.Walks.{IsWalk, walk}
use Rattle.daig_graph.proofs.Walking.{walk-step}
use Rattle.daig_graph.proofs.owned.SharedIterator.next.Goals as goal

-- one cell on
stepped : (c : goal.After-self-1) → (walk (next_owned c.self.inside.members.now) (length c.self.inside.members.now) (Some c.in_ok-cell.cell) ≡ c.in_ok-cell.cell ∷ walk (next_owned c.self.inside.members.now) (length c.self.inside.members.now) c.cell_after-self-inside.result)
    × IsWalk (next_owned c.self.inside.members.now) c.cell_after-self-inside.result (walk (next_owned c.self.inside.members.now) (length c.self.inside.members.now) c.cell_after-self-inside.result)
stepped c =
    let next : ℕ → Option ℕ = next_owned c.self.inside.members.now in
    let most : ℕ = length c.self.inside.members.now in
    let cell : ℕ = c.in_ok-cell.cell in
    let P : Option ℕ → Type 0 = λ o. IsWalk next o (walk next most o) in
    let Q : Option ℕ → Type 0 = λ o. (walk next most (Some cell) ≡ cell ∷ walk next most o) × IsWalk next o (walk next most o) in
    subst Q (sym c.cell_after-self-inside.ensures.next) (walk-step next most cell (subst P (sym c.in_ok-cell.ensures.cell) c.self.invariant))

pub invariant_of-self : goal.invariant_of-self
invariant_of-self c = (stepped c).1

pub returns-clause-steps : goal.returns-clause-steps
returns-clause-steps c =
    sym c.self.view_is
    ∙ ap (walk (next_owned c.self.inside.members.now) (length c.self.inside.members.now)) (sym c.in_ok-cell.ensures.cell)
    ∙ (stepped c).0

pub returns-clause-goes : goal.returns-clause-goes
returns-clause-goes c =
    let e = ap length (returns-clause-steps c) in
    record { on = λ _. (tt, tt, omega (arith, e)); keeps = tt; rests = λ _. tt }
