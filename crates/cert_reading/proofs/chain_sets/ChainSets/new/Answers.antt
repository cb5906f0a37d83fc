use Rattle.std.proofs.Common.{◌≡◌, [], ap, ◌∙◌, arith, map, reverse}
use Rattle.imp_check.specs.Slots.{routines_of}
use Rattle.imp_chains.specs.Chains.{chains}
use Rattle.call_contexts.proofs.Few.{as_many}
use Rattle.cert_lines.specs.Lines.{is_chain}
use Rattle.cert_lines.proofs.Turned.{chains_turned}
use Rattle.cert_reading.proofs.TableLemmas.{sets_step, sets_whole}
use Rattle.cert_reading.proofs.chain_sets.ChainSets.new.Goals as goal

pub loop-place-preserved : goal.loop-place-preserved
loop-place-preserved c =
    let program = routines_of c.args.prog.now in
    let all : map reverse c.as_slice.result.now ≡ chains program c.new.result = chains_turned program c.new.result c.as_slice.result.now (c.as_slice.ensures.same ∙ c.in_ok-chains.ensures.is) in
    sets_step program c.loop-place.sets c.push.new.self c.loop-place.place c.in_ok-set_of.field-0 c.in_ok-push.ensures.added (λ z. c.in_ok-set_of.ensures.is z ∙ ap (is_chain z) all ∙ ap (λ p. is_chain z (chains program p)) c.new.ensures.is) c.loop-place.invariant

pub returns-clause-are : goal.returns-clause-are
returns-clause-are c =
    let program = routines_of c.args.prog.now in
    sets_whole program c.loop-place.sets c.loop-place.place c.procs.ensures.fit (omega (arith, as_many [] c.args.prog.now, c.procedure_count-place-end.ensures.is, c.loop-place-test.false)) c.loop-place.invariant
