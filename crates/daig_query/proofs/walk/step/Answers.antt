use Rattle.std.proofs.Common.{◌≡◌, map, Some, option_map, slice_get, refl, sym, ap, subst, ◌∙◌}
use Rattle.std.proofs.lemmas.Option.{slice_get_within, slice_get-map}
use Rattle.cell_names.specs.Known.{IsOnce}
use Rattle.imp_flow.specs.Reached.{target_of, step_of}
use Rattle.daig_query.specs.declared.store.Store.{Store}
use Rattle.daig_query.specs.Kept.{Names}
use Rattle.daig_query.proofs.Growing.{keeps_same, right_named}
use Rattle.daig_query.proofs.Stepping.{fewer_steps, placed_call}
use Rattle.daig_query.proofs.walk.step.Goals as goal

pub returns-in_ok-enter-in-Some-Go-clause-placed : goal.returns-in_ok-enter-in-Some-Go-clause-placed
returns-in_ok-enter-in-Some-Go-clause-placed g c =
    let dom = g.D.Domain.operations c.args.dom.now in
    let plan = c.args.flow.now in
    let ts = map target_of c.args.targets.now in
    let old = c.args.store.now in
    let w = c.args.walk.now in
    let t = target_of c.args.target.now in
    let here : slice_get ts w.target ≡ Some t = slice_get-map target_of c.args.targets.now w.target ∙ ap (option_map target_of) c.requires.here in
    let e = c.in_ok-enter-in-Some-Go.ensures.enters in
    let new : Store g.row.D-State.Denot = record { graph = old.graph; names = c.enter.new.names; states = old.states; operations = old.operations; memo = old.memo; recent = old.recent; stale = old.stale } in
    let more : Names old new = record { paths = e.kept; names = keeps_same old.names.names new.names.names e.same; states = refl; operations = refl; memo = refl; recent = refl; stale = refl; graph = refl } in
    placed_call dom plan ts old new (right_named dom plan old new c.requires.right more (subst (λ xs. IsOnce xs) (sym e.same) c.requires.right.once)) more w c.enter.new.self _ t here
    (slice_get-map step_of c.args.target.now.steps w.step ∙ ap (option_map step_of) (sym c.in-Some-Go.ensures.item) ∙ ap (λ z. Some (step_of z)) c.in-Some-Go.field-0-is) e c.requires.placed

pub returns-in_ok-enter-in-Some-Go-clause-steps : goal.returns-in_ok-enter-in-Some-Go-clause-steps
returns-in_ok-enter-in-Some-Go-clause-steps g c =
    let dom = g.D.Domain.operations c.args.dom.now in
    let plan = c.args.flow.now in
    let ts = map target_of c.args.targets.now in
    let old = c.args.store.now in
    let w = c.args.walk.now in
    let t = target_of c.args.target.now in
    let here : slice_get ts w.target ≡ Some t = slice_get-map target_of c.args.targets.now w.target ∙ ap (option_map target_of) c.requires.here in
    let e = c.in_ok-enter-in-Some-Go.ensures.enters in
    fewer_steps ts old w t here c.enter.new.self e.target e.step (slice_get_within t.steps w.step _ (slice_get-map step_of c.args.target.now.steps w.step ∙ ap (option_map step_of) (sym c.in-Some-Go.ensures.item)))
