use Rattle.std.proofs.Common.{◌≡◌, ◌≤◌, true, false, length, arith}
use Rattle.loop_unroll.specs.Iterates.{iterate_of, StopsWithin}
use Rattle.daig_query.proofs.Fixes.{not_many}
use Rattle.daig_query.proofs.inputs.next_iterate.Goals as goal

pub overflow_cast-index : goal.overflow_cast-index
overflow_cast-index c =
    let cells = c.args.graph.now.cells in
    let found = c.args.found.now in
    let goes : StopsWithin c.args.budget (iterate_of cells found) (length found) → ⊥ = λ s. let q : true ≡ false = c.in_ok-index.ensures.none.1 s in cc in
    let short : length found ≤ c.args.budget = not_many cells found c.args.budget c.requires.cells goes in
    let is : c.in_ok-index.index ≡ length found = c.in_ok-index.ensures.next in
    omega (arith, c.ranges.budget.fits)
