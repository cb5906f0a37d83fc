use Rattle.std.proofs.Common.{◌≡◌, ◌+◌, ◌-◌, ◌<◌, ◌∷◌, length, drop, sym, ap, ◌∙◌, arith}
use Rattle.imp_check.specs.Chains.{chains_to}
use Rattle.imp_check.specs.Tallies.{tally_of, tallies_of}
use Rattle.base_values.proofs.Lists.{rest_whole}
use Rattle.imp_check.proofs.ChainLemmas.{tallies_before}
use Rattle.imp_check.proofs.chains.tallies.Goals as goal

pub loop-i-preserved : goal.loop-i-preserved
loop-i-preserved c =
    let i = c.loop-i.i - 1 in
    let ps = c.args.procs.now in
    let p = c.index-procs-i.result in
    let next : c.loop-i.i ≡ i + 1 = omega (arith, c.loop-i-test.true) in
    let below : i < length ps = omega (arith, c.loop-i-test.true, c.loop-i.auto.i) in
    let one = c.chains_to-one.ensures.is ∙ ap (λ qs. tally_of (chains_to c.name.result.now qs)) (rest_whole ps (i + 1)) ∙ ap (λ name. tally_of (chains_to name (drop (i + 1) ps))) c.name.ensures.is in
    let others = c.loop-i.invariant ∙ ap (λ k. tallies_of (drop k ps)) next in
    c.in_ok-insert.ensures.items
    ∙ ap (λ t. t ∷ c.loop-i.found.items) one
    ∙ ap (λ ts. tally_of (chains_to p.name (drop (i + 1) ps)) ∷ ts) others
    ∙ sym (tallies_before ps i p below c.index-procs-i.is)
