use Rattle.std.proofs.Common.{◌+◌, take, drop, sym, ap, ◌∙◌}
use Rattle.imp_check.specs.Faults.{first}
use Rattle.imp_check.specs.Programs.{variables_fault}
use Rattle.imp_check.proofs.Going.{variables_step}
use Rattle.imp_check.proofs.programs.variables_fault.Goals as goal

pub loop-i-preserved : goal.loop-i-preserved
loop-i-preserved c =
    let i = c.loop-i.i in
    let ds = c.args.variables.now in
    let rest = variables_fault (take (i + 1) ds) (drop (i + 1) ds) in
    let none = sym c.variable_fault.ensures.is ∙ c.in_default.is in
    sym (variables_step ds i c.index-variables-i.result c.loop-i-test.true c.index-variables-i.is ∙ ap (λ fault. first fault rest) none) ∙ c.loop-i.invariant
