use Rattle.std.proofs.Common.{map, reverse, ap, ◌∙◌, subst}
use Rattle.imp_slots.specs.Fits.{IsChecked}
use Rattle.call_chains.specs.Targets.{targets_of}
use Rattle.imp_flow.proofs.TargetLists.{targets_are}
use Rattle.imp_flow.proofs.ways.targets.Goals as goal

pub returns-clause-are : goal.returns-clause-are
returns-clause-are c =
    let plan = c.args.flow.now in
    let l = c.args.at.now in
    let string = c.args.string.now in
    let same = c.program-prog.ensures.is in
    let chains = c.as_slice.ensures.same ∙ c.in_ok-chains.ensures.is ∙ ap (λ ps. map reverse (targets_of ps l string)) same in
    targets_are plan.program l string c.as_slice.result.now c.all_targets.result (subst IsChecked same c.procs.ensures.fit) chains c.all_targets.ensures.are
