use Rattle.std.proofs.Common.{◌∙◌, length, string_bytes, ap, arith}
use Rattle.daig_server.proofs.TallyLemmas.{script_summed}
use Rattle.daig_server.proofs.generated.summed.Goals as goal

pub tally_lines-requires : goal.tally_lines-requires
tally_lines-requires g c =
    let same = c.as_slice.ensures.value ∙ (c.in_ok-script.ensures {u = tt}).text in
    let long = ap length same in
    let short = (c.in_ok-script.ensures {u = tt}).short in
    record { lasts = omega (arith, c.requires.lasts, long, short); short = omega (arith, long, short) }

pub returns : goal.returns
returns g c = record {
  line = script_summed c.line.result string_bytes _ c.in_ok-tally.tally g.D.Named.name c.args.seed c.args.size c.as_slice.result.now
      (c.as_slice.ensures.value ∙ (c.in_ok-script.ensures {u = tt}).text) (c.in_ok-tally.ensures {u = tt}).tally c.line.ensures.line;
}
