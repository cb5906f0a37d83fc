use Rattle.std.proofs.Common.{◌≡◌, ap, ◌∙◌, arith, sym, Bool, [], true}
use Rattle.std.specs.Prelude.{if◌then◌else◌}
use Rattle.imp_check.specs.Slots.{routines_of}
use Rattle.imp_chains.specs.Chains.{chains}
use Rattle.call_contexts.specs.Marks.{is_marked, chains_marked}
use Rattle.call_contexts.proofs.table.chains_to.Goals as goal

pub returns : goal.returns
returns c =
    let marks = c.marked_callers-marks.result in
    let all = chains (routines_of c.args.prog.now) in
    let e : c.loop-k.k ≡ c.args.proc = omega (arith, c.place-place.ensures.is) in
    let h : is_marked marks c.args.proc ≡ true = ap (is_marked marks) (sym c.place-place.ensures.is) ∙ c.marked_callers-marks.ensures.are.here in
    record { is = c.loop-k.invariant.here ∙ ap (chains_marked marks all) e ∙ ap (λ (b : Bool). if b then all c.args.proc else []) h }
