use Rattle.std.proofs.Common.{◌+◌, ◌&&◌, take, drop, sym, ap, ◌∙◌}
use Rattle.imp_check.specs.Faults.{first, in_procedure}
use Rattle.imp_check.specs.Small.{small_program}
use Rattle.imp_check.specs.Programs.{procedure_fault, procedures_fault}
use Rattle.base_values.proofs.Lists.{rest_whole}
use Rattle.imp_check.proofs.Going.{procedures_step}
use Rattle.imp_check.proofs.SmallLemmas.{programs_step}
use Rattle.imp_check.proofs.programs.procedures_fault.Goals as goal

pub loop-i-preserved : goal.loop-i-preserved
loop-i-preserved c =
    let i = c.loop-i.i in
    let ps = c.args.procs.now in
    let p = c.index-procs-i.result in
    let rest = procedures_fault (take (i + 1) ps) (drop (i + 1) ps) in
    let none = ap (λ qs. procedure_fault (take i ps) qs p) (sym (rest_whole ps i)) ∙ sym c.in_ok-spot.ensures.is ∙ c.in_default.is in
    record {
      left = sym (procedures_step ps i p c.loop-i-test.true c.index-procs-i.is ∙ ap (λ fault. first (in_procedure p.name fault) rest) none) ∙ c.loop-i.invariant.left;
      small = sym (programs_step ps i p c.loop-i-test.true c.index-procs-i.is ∙ ap (λ fits. fits && small_program (drop (i + 1) ps)) (c.in_ok-spot.ensures.small c.in_default.is)) ∙ c.loop-i.invariant.small;
    }
