use Rattle.std.proofs.Common.{ap, ◌∙◌}
use Rattle.cert_lines.specs.Lines.{is_chain}
use Rattle.cert_reading.proofs.TableLemmas.{any_chain}
use Rattle.cert_reading.proofs.chain_sets.ChainSet.has.Goals as goal

pub returns : goal.returns
returns c = record { is = c.contains.ensures ∙ any_chain c.args.chain.now c.self.inside.chains.keys ∙ ap (is_chain c.args.chain.now) c.self.view_is }
