-- The inputs of a name of a checked program are names of it, whatever the operations do.
use Rattle.std.proofs.Common.{◌≡◌, true, reverse, subst}
use Rattle.domain_laws.specs.Operations.{Operations}
use Rattle.daig_order.specs.Order.{member}
use Rattle.cell_rows.specs.Claims.{InputsAreNames}
use Rattle.cell_rows.proofs.Answered.{valued, unvalued}
use Rattle.cell_rows.proofs.FlatOnce.{all_fine, flat_once}
use Rattle.cell_rows.proofs.Package.{inputs_have}
use Rattle.cell_rows.proofs.TotalRows.{total_inputs}

pub inputs_named : {S : Type 0} (dom : Operations S) → InputsAreNames dom
inputs_named dom engine program same x y is checked h m =
    let k = valued dom engine program checked x h in
    let e = total_inputs dom engine (reverse program) (all_fine program checked) (flat_once program checked) same is x k in
    unvalued dom engine program checked y (inputs_have dom engine (reverse program) (all_fine program checked) same is x y k (subst (λ xs. member same xs y ≡ true) e m))
