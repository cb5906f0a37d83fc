use Rattle.cell_rows.proofs.Demands.{demand_next}
use Rattle.daig_demands.proofs.Walking.{start_names, start_values, walk_asks, walk_goes}
use Rattle.daig_demands.proofs.laws.demands_are_walked.Goals as goal

pub returns : goal.returns
returns g c = record {
  next = λ f ts k h. demand_next f ts k h;
  starts = λ f ts. start_names f ts;
  asks = λ f k. walk_asks f k;
  goes = λ f k y e. (walk_goes f k y e).0;
  all = λ f ts. start_values f ts;
  finds = λ f k y e. (walk_goes f k y e).1;
}
