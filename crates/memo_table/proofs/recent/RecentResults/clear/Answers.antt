use Rattle.std.proofs.Common.{◌≡◌, suc, ap, ◌∙◌, refl, sym, subst, rules, vec_len}
use Rattle.memo_table.specs.Recent.{entries_of, ArePlaced}
use Rattle.memo_table.proofs.Places.{entries-empty, placed-empty}
use Rattle.memo_table.proofs.recent.RecentResults.clear.Goals as goal

pub invariant_of-self : goal.invariant_of-self
invariant_of-self c =
    let items = c.fill.ensures.items (λ y h. search rules) in
    let last = c.self.inside.last in
    let size : vec_len c.self.inside.places ≡ suc last = search rules in
    subst (ArePlaced last) (sym items) (placed-empty _ (vec_len c.self.inside.places) last size refl)

pub returns-clause-empty : goal.returns-clause-empty
returns-clause-empty c =
    let items = c.fill.ensures.items (λ y h. search rules) in
    ap entries_of items ∙ entries-empty _ (vec_len c.self.inside.places) refl
