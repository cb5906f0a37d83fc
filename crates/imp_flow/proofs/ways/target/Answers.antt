use Rattle.std.proofs.Common.{reverse, ap, ◌∙◌}
use Rattle.imp_flow.specs.Reached.{way_along}
use Rattle.imp_flow.proofs.TargetTies.{target_gone, target_there}
use Rattle.imp_flow.proofs.ways.target.Goals as goal

pub returns-in-None : goal.returns-in-None
returns-in-None c =
    let plan = c.args.flow.now in
    let h = rw c.in-None.is at c.in_ok-enter_chain.ensures.is in
    record { is = target_gone plan c.in_ok-enter_chain.ensures.checked c.args.at.now (reverse c.args.chain.now) (h ∙ ap (λ xs. way_along plan (reverse xs)) c.sites.ensures.is) }

pub returns-in-Some : goal.returns-in-Some
returns-in-Some c =
    let plan = c.args.flow.now in
    let h = rw c.in-Some.is at c.in_ok-enter_chain.ensures.is in
    record { is = target_there plan c.in_ok-enter_chain.ensures.checked c.args.at.now (reverse c.args.chain.now) c.in-Some.reached c.arrive.result (h ∙ ap (λ xs. way_along plan (reverse xs)) c.sites.ensures.is) c.arrive.ensures.is }
