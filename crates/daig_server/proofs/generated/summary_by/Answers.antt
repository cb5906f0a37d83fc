use Rattle.std.proofs.Common.{◌∙◌, ap}
use Rattle.std.specs.Prelude.{Vec}
use Rattle.serve_answers.specs.Fine.{opening}
use Rattle.serve_output.specs.Jobs.{engine_of}
use Rattle.daig_server.proofs.generated.summary_by.Goals as goal

pub returns : goal.returns
returns g c = record {
  summary = rw c.requires.named (λ readings. ap (λ (v : Vec _ _). v.items) c.into_bytes.ensures.value ∙ c.in_ok-line.ensures.line (opening readings (engine_of c.args.settings.now) c.args.table.program) (c.in_ok-server.ensures {u = tt}).begins);
}
