use Rattle.std.proofs.Common.{Some, ap, ◌∙◌}
use Rattle.std.specs.Prelude.{if◌then◌else◌}
use Rattle.std.specs.Map.{lookup}
use Rattle.std.specs.Str.{bytes_eq}
use Rattle.cert_reading.proofs.written.Written.insert.Goals as goal

pub returns : goal.returns
returns g c =
    record { put = λ q. c.in_ok-insert.ensures.updates.0 q ∙ ap (λ es. if bytes_eq c.args.key q then Some c.args.state else lookup (bytes_eq q) es) c.self.view_is }
