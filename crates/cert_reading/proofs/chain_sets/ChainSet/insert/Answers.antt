use Rattle.std.proofs.Common.{true, ap, ◌∙◌}
use Rattle.std.specs.Prelude.{if◌then◌else◌}
use Rattle.std.specs.Str.{bytes_eq}
use Rattle.cert_lines.specs.Lines.{is_chain}
use Rattle.cert_reading.proofs.TableLemmas.{set_put}
use Rattle.cert_reading.proofs.chain_sets.ChainSet.insert.Goals as goal

pub returns : goal.returns
returns c =
    record { added = λ z. set_put c.self.inside.chains.keys c.insert.new.self.keys c.args.chain c.in_ok-insert.ensures.updates.0 z ∙ ap (λ zs. if bytes_eq z c.args.chain then true else is_chain z zs) c.self.view_is }
