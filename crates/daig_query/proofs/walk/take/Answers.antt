use Rattle.std.proofs.Common.{◌≡◌, ◌<◌, map, length, Some, refl, sym, ap, subst, ◌∙◌, arith}
use Rattle.std.proofs.lemmas.Result.{err_from_is_err_and}
use Rattle.std.specs.FinMap.{get}
use Rattle.std.proofs.lemmas.Option.{slice_get_within}
use Rattle.cell_names.specs.declared.frame.NameFrame.TheVariants.{InLoop}
use Rattle.cell_names.specs.declared.frame.Point.TheVariants.{Fix}
use Rattle.base_values.specs.declared.error.Memory.{Memory}
use Rattle.cell_names.specs.declared.path.Name.{Name}
use Rattle.cell_rows.specs.Targets as plain
use Rattle.daig_demands.specs.Walks.{asks}
use Rattle.imp_flow.specs.Reached.{target_of}
use Rattle.imp_flow.specs.declared.steps.TargetStep.TheVariants.{Take}
use Rattle.daig_query.specs.declared.opening.Open.{Open}
use Rattle.daig_query.specs.declared.store.Store.{Store}
use Rattle.daig_query.specs.Walked.{IsAsked}
use Rattle.daig_query.proofs.Looking.{held_read, over_read}
use Rattle.daig_query.proofs.Stepping.{place_step, fewer_left, fewer_steps, placed_held, placed_over}
use Rattle.daig_query.proofs.Taking.{target_here, step_here, asking, step_fails, entered, entered_right, step_enters, step_leaves}
use Rattle.daig_query.proofs.walk.take.Goals as goal
use Rattle.daig_query.proofs.Growing.{names_refl}
use Rattle.base_values.proofs.Cases.{none_of}

pub returns-in_err-cell : goal.returns-in_err-cell
returns-in_err-cell g c =
    let dom = g.D.Domain.operations c.args.dom.now in
    let plan = c.args.flow.now in
    let ts = map target_of c.args.targets.now in
    let old = c.args.store.now in
    let w = c.args.walk.now in
    let p = err_from_is_err_and c.from_residual.result c.from_residual.ensures.1 in
    let s = step_fails dom plan ts old old w w c.add.new.self (names_refl old) c.requires.right c.requires.placed c.in_err-cell.ensures.err (record { target = refl; step = refl; path = refl; found = refl; stack = refl }) p.0 c.from_residual.result p.1 in
    record { names = s.names; right = s.right; placed = s.placed; stack = s.stack; steps = s.steps }

pub returns-then-not-there : goal.returns-then-not-there
returns-then-not-there g c =
    let dom = g.D.Domain.operations c.args.dom.now in
    let plan = c.args.flow.now in
    let ts = map target_of c.args.targets.now in
    let old = c.args.store.now in
    let w = c.args.walk.now in
    let t = target_of c.args.target.now in
    let here = target_here c.args.targets.now w.target c.args.target.now c.requires.here in
    let takes = step_here c.args.target.now.steps w.step (Take c.args.head) c.requires.takes in
    let x : Name = record { path = w.path; point = Fix c.args.head } in
    let a = asking dom plan ts old w x c.in_ok-cell.cell c.add.new.self c.requires.right c.requires.placed c.requires.placed.path (ap asks (place_step ts old w t here (plain.Take c.args.head) takes)) c.in_ok-cell.ensures.name c.add.ensures.paths in
    let new : Store g.row.D-State.Denot = record old { names = c.add.new.self } in
    let none = none_of (get old.graph.cells c.in_ok-cell.cell) (sym c.has_cell-there.ensures.is ∙ c.if-not-there.true) in
    record {
      names = a.named.names;
      right = a.right;
      placed = a.placed;
      stack = refl;
      steps = subst (λ (u : Open). IsAsked dom plan ts new w (Some u)) (sym c.opened.ensures.is) (a.absent c.requires.targets none);
    }

pub enter-requires-clause-room : goal.enter-requires-clause-room
enter-requires-clause-room g c =
    let l : c.args.walk.now.step < length c.args.target.now.steps = slice_get_within c.args.target.now.steps c.args.walk.now.step _ c.requires.takes in
    let is : c.len-steps.result ≡ length c.args.target.now.steps = c.len-steps.ensures.count in
    let low : c.len-steps.result < 18446744073709551616 = c.len-steps.type_inv in
    omega arith

pub next_target-requires : goal.next_target-requires
next_target-requires g c =
    let here : c.args.walk.now.target < length c.args.targets.now = slice_get_within c.args.targets.now c.args.walk.now.target c.args.target.now c.requires.here in
    let is : c.count-count.result ≡ length c.args.targets.now = c.count-count.ensures.is in
    let low : c.count-count.result < 18446744073709551616 = c.count-count.type_inv in
    record { room = omega arith }

pub returns-in_err-enter : goal.returns-in_err-enter
returns-in_err-enter g c =
    let dom = g.D.Domain.operations c.args.dom.now in
    let plan = c.args.flow.now in
    let ts = map target_of c.args.targets.now in
    let old = c.args.store.now in
    let w = c.args.walk.now in
    let t = target_of c.args.target.now in
    let here = target_here c.args.targets.now w.target c.args.target.now c.requires.here in
    let takes = step_here c.args.target.now.steps w.step (Take c.args.head) c.requires.takes in
    let x : Name = record { path = w.path; point = Fix c.args.head } in
    let a = asking dom plan ts old w x c.in_ok-cell.cell c.add.new.self c.requires.right c.requires.placed c.requires.placed.path (ap asks (place_step ts old w t here (plain.Take c.args.head) takes)) c.in_ok-cell.ensures.name c.add.ensures.paths in
    let new : Store g.row.D-State.Denot = record old { names = c.add.new.self } in
    let p = err_from_is_err_and c.from_residual-in_err-enter.result c.from_residual-in_err-enter.ensures.1 in
    let s = step_fails dom plan ts old new w c.enter.new.self c.enter.new.names a.named.names a.right a.placed c.in_err-enter.ensures.names c.in_err-enter.ensures.walk p.0 c.from_residual-in_err-enter.result p.1 in
    record { names = s.names; right = s.right; placed = s.placed; stack = s.stack; steps = s.steps }

pub returns-in-Some : goal.returns-in-Some
returns-in-Some g c =
    let dom = g.D.Domain.operations c.args.dom.now in
    let plan = c.args.flow.now in
    let ts = map target_of c.args.targets.now in
    let old = c.args.store.now in
    let w = c.args.walk.now in
    let t = target_of c.args.target.now in
    let here = target_here c.args.targets.now w.target c.args.target.now c.requires.here in
    let takes = step_here c.args.target.now.steps w.step (Take c.args.head) c.requires.takes in
    let x : Name = record { path = w.path; point = Fix c.args.head } in
    let a = asking dom plan ts old w x c.in_ok-cell.cell c.add.new.self c.requires.right c.requires.placed c.requires.placed.path (ap asks (place_step ts old w t here (plain.Take c.args.head) takes)) c.in_ok-cell.ensures.name c.add.ensures.paths in
    let new : Store g.row.D-State.Denot = record old { names = c.add.new.self } in
    let e = c.in_ok-enter.ensures.enters in
    let mid : Store g.row.D-State.Denot = record old { names = c.enter.new.names } in
    let h = held_read old.graph.cells c.in_ok-cell.cell c.in-Some.held (sym c.held_in.ensures.is ∙ c.in-Some.is) in
    let then = entered_right dom plan ts new w c.enter.new.self (InLoop c.args.head c.in-Some.held.index) c.enter.new.names e a.right in
    let placed = placed_held dom plan ts new mid a.right then (entered dom plan ts new w c.enter.new.self (InLoop c.args.head c.in-Some.held.index) c.enter.new.names e) w c.enter.new.self c.args.head c.in_ok-cell.cell t c.in-Some.held h.filled here takes (a.named.number ∙ ap Some (sym a.named.is)) h.there h.value e a.placed in
    let s = step_enters dom plan ts old new w c.enter.new.self (InLoop c.args.head c.in-Some.held.index) c.enter.new.names a.named.names a.right e placed (fewer_steps ts old w t here c.enter.new.self e.target e.step (slice_get_within t.steps w.step _ takes)) {E = Memory} in
    record { names = s.names; right = s.right; placed = s.placed; stack = s.stack; steps = s.steps }

pub returns-in_err-next_target : goal.returns-in_err-next_target
returns-in_err-next_target g c =
    let dom = g.D.Domain.operations c.args.dom.now in
    let plan = c.args.flow.now in
    let ts = map target_of c.args.targets.now in
    let old = c.args.store.now in
    let w = c.args.walk.now in
    let t = target_of c.args.target.now in
    let here = target_here c.args.targets.now w.target c.args.target.now c.requires.here in
    let takes = step_here c.args.target.now.steps w.step (Take c.args.head) c.requires.takes in
    let x : Name = record { path = w.path; point = Fix c.args.head } in
    let a = asking dom plan ts old w x c.in_ok-cell.cell c.add.new.self c.requires.right c.requires.placed c.requires.placed.path (ap asks (place_step ts old w t here (plain.Take c.args.head) takes)) c.in_ok-cell.ensures.name c.add.ensures.paths in
    let new : Store g.row.D-State.Denot = record old { names = c.add.new.self } in
    let p = err_from_is_err_and c.from_residual-in_err-next_target.result c.from_residual-in_err-next_target.ensures.1 in
    let s = step_fails dom plan ts old new w c.next_target.new.self c.add.new.self a.named.names a.right a.placed refl c.in_err-next_target.ensures.err p.0 c.from_residual-in_err-next_target.result p.1 in
    record { names = s.names; right = s.right; placed = s.placed; stack = s.stack; steps = s.steps }

pub returns : goal.returns
returns g c =
    let dom = g.D.Domain.operations c.args.dom.now in
    let plan = c.args.flow.now in
    let ts = map target_of c.args.targets.now in
    let old = c.args.store.now in
    let w = c.args.walk.now in
    let t = target_of c.args.target.now in
    let here = target_here c.args.targets.now w.target c.args.target.now c.requires.here in
    let takes = step_here c.args.target.now.steps w.step (Take c.args.head) c.requires.takes in
    let x : Name = record { path = w.path; point = Fix c.args.head } in
    let a = asking dom plan ts old w x c.in_ok-cell.cell c.add.new.self c.requires.right c.requires.placed c.requires.placed.path (ap asks (place_step ts old w t here (plain.Take c.args.head) takes)) c.in_ok-cell.ensures.name c.add.ensures.paths in
    let new : Store g.row.D-State.Denot = record old { names = c.add.new.self } in
    let leaves = c.in_ok-next_target.ensures.leaves in
    let h = over_read old.graph.cells c.in_ok-cell.cell (sym c.has_cell-there.ensures.is ∙ c.if-not-there.false) (sym c.held_in.ensures.is ∙ c.in_default.is) in
    let placed = placed_over dom plan ts new a.right w c.next_target.new.self c.args.head c.in_ok-cell.cell h.number h.chain t h.filled here takes (a.named.number ∙ ap Some (sym a.named.is)) h.there h.value leaves a.placed in
    let s = step_leaves dom plan ts old new w c.next_target.new.self c.in_ok-cell.cell a.named.names a.right leaves placed (fewer_left ts old w t here c.in_ok-cell.cell c.next_target.new.self leaves) {E = Memory} in
    record { names = s.names; right = s.right; placed = s.placed; stack = s.stack; steps = s.steps }
