use Rattle.reuse_laws.proofs.Lines.{moments_shorten}
use Rattle.reuse_laws.proofs.Shorter.{more_is_shorter}
use Rattle.reuse_laws.proofs.laws.questions_get_no_longer.Goals as goal

pub returns : goal.returns
returns g c = record {
  machines = λ d. more_is_shorter (g.D.Domain.operations d);
  moments = λ d. moments_shorten (g.D.Domain.operations d);
}
