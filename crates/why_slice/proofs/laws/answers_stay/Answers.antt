use Rattle.why_slice.proofs.Whole.{answers_stay, upstream_suffices}
use Rattle.why_slice.proofs.laws.answers_stay.Goals as goal

pub returns : goal.returns
returns g c = record {
  stay = λ d. answers_stay (g.D.Domain.operations d) (g.D.Domain.covers d) (g.met.D.Domain.laws d) c.thresholds_rise.ensures.rising (g.met.D.Domain.keeps_dead d) (c.rows_give_values.ensures.names d);
  listed = λ d. upstream_suffices (g.D.Domain.operations d) (g.D.Domain.covers d) (g.met.D.Domain.laws d) c.thresholds_rise.ensures.rising (g.met.D.Domain.keeps_dead d) (c.rows_give_values.ensures.names d);
}
