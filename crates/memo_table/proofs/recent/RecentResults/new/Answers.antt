use Rattle.std.proofs.Common.{◌≡◌, suc, ◌-◌, ap, ◌∙◌, refl, sym, subst, rules, arith}
use Rattle.memo_table.specs.Recent.{entries_of, ArePlaced}
use Rattle.memo_table.proofs.Places.{entries-empty, placed-empty}
use Rattle.memo_table.proofs.recent.RecentResults.new.Goals as goal

pub invariant_of-result : goal.invariant_of-result
invariant_of-result c =
    let items = c.in_ok-places.ensures.items_if_clones_equal (λ y h. search rules) in
    let count = c.place_count-count.result in
    let last : count ≡ suc (count - 1) = omega arith in
    subst (ArePlaced (count - 1)) (sym items) (placed-empty _ count (count - 1) last refl)

pub returns-clause-empty : goal.returns-clause-empty
returns-clause-empty c =
    let items = c.in_ok-places.ensures.items_if_clones_equal (λ y h. search rules) in
    ap entries_of items ∙ entries-empty _ c.place_count-count.result refl
