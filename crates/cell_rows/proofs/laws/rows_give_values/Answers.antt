use Rattle.std.specs.Prelude.{◌≡◌, reverse, true}
use Rattle.std.proofs.Common.{subst}
use Rattle.cell_rows.proofs.Answered.{valued, unvalued, total_batch}
use Rattle.cell_rows.proofs.FlatOnce.{all_fine, flat_once}
use Rattle.cell_rows.proofs.Kept.{kept_value}
use Rattle.cell_rows.proofs.Package.{inputs_have}
use Rattle.cell_rows.proofs.TotalRows.{is_total, total_inputs}
use Rattle.cell_rows.proofs.laws.rows_give_values.Goals as goal
use Rattle.daig_order.specs.Order.{member}

pub returns : goal.returns
returns g c = record {
  fall = λ d engine program same is checked. is_total (g.D.Domain.operations d) engine (reverse program) (all_fine program checked) (flat_once program checked) same is;
  values = λ d engine program same x is checked h. total_batch (g.D.Domain.operations d) engine program checked same is x (valued (g.D.Domain.operations d) engine program checked x h);
  names = λ d engine program same x y is checked h m.
      let dom = g.D.Domain.operations d in
      let k = valued dom engine program checked x h in
      let e = total_inputs dom engine (reverse program) (all_fine program checked) (flat_once program checked) same is x k in
      unvalued dom engine program checked y (inputs_have dom engine (reverse program) (all_fine program checked) same is x y k (subst (λ xs. member same xs y ≡ true) e m));
  kept = λ d engine old new same kept x is co cn untouched closed k.
      let dom = g.D.Domain.operations d in
      kept_value dom engine old new co cn same is (λ y. kept y ≡ true)
      (λ y q.
      let u = untouched y q in
      record { old_row = u.old_row; new_row = u.new_row; in_old = valued dom engine old co y u.in_old; in_new = valued dom engine new cn y u.in_new; old_is = u.old_is; new_is = u.new_is; operation = u.operation; inputs = u.inputs })
      (λ y z q m. closed y z q m) x k;
}
