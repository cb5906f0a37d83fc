use Rattle.std.proofs.Common.{ap, ◌∙◌}
use Rattle.std.specs.Map.{lookup}
use Rattle.std.specs.Str.{bytes_eq}
use Rattle.cert_reading.proofs.written.Written.get.Goals as goal

pub returns : goal.returns
returns g c = record { state = c.get.ensures.value ∙ ap (lookup (bytes_eq c.args.key.now)) c.self.view_is }
