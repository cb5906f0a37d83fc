use Rattle.why_slice.proofs.Told.{told, rises}
use Rattle.why_slice.proofs.laws.upstream_is_told.Goals as goal

pub returns : goal.returns
returns g c = record {
  told = λ d engine program same is checked l string p ts n. told (g.D.Domain.operations d) engine program same is checked l string p ts n;
  rises = λ d engine program same is checked l string p ts. rises (g.D.Domain.operations d) engine program same is checked l string p ts;
}
