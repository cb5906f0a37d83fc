use Rattle.std.proofs.Common.{◌≡◌, ◌<◌, ◌≤◌, map, length, Some, refl, sym, ap, subst, ◌∙◌, arith}
use Rattle.std.proofs.lemmas.Result.{err_from_is_err_and}
use Rattle.std.specs.Prelude.{is_some}
use Rattle.std.specs.FinMap.{get}
use Rattle.std.proofs.lemmas.List.{length-map}
use Rattle.std.proofs.lemmas.Option.{slice_get_within}
use Rattle.base_values.specs.declared.error.Memory.{Memory}
use Rattle.cell_names.specs.declared.path.Name.{Name}
use Rattle.cell_names.specs.Paths.{name_in}
use Rattle.daig_demands.specs.Walks.{asks, goes}
use Rattle.daig_demands.specs.Walks as law
use Rattle.imp_flow.specs.Reached.{target_of, step_of}
use Rattle.cell_graph.proofs.Numbers.{filled_number}
use Rattle.daig_query.specs.declared.opening.Open.{Open}
use Rattle.daig_query.specs.declared.store.Store.{Store}
use Rattle.daig_query.specs.Right.{found}
use Rattle.daig_query.specs.Walked.{IsAsked}
use Rattle.daig_query.proofs.Stepping.{place_end, fewer_left, placed_left}
use Rattle.daig_query.proofs.Taking.{target_here, asking, step_fails, step_leaves}
use Rattle.daig_query.proofs.walk.last.Goals as goal
use Rattle.daig_query.proofs.Growing.{names_refl}
use Rattle.base_values.proofs.Cases.{none_of}

pub returns-in_err-cell : goal.returns-in_err-cell
returns-in_err-cell g c =
    let dom = g.D.Domain.operations c.args.dom.now in
    let plan = c.args.flow.now in
    let ts = map target_of c.args.targets.now in
    let old = c.args.store.now in
    let w = c.args.walk.now in
    let p = err_from_is_err_and c.from_residual.result c.from_residual.ensures.1 in
    let s = step_fails dom plan ts old old w w c.add.new.self (names_refl old) c.requires.right c.requires.placed c.in_err-cell.ensures.err (record { target = refl; step = refl; path = refl; found = refl; stack = refl }) p.0 c.from_residual.result p.1 in
    record { names = s.names; right = s.right; placed = s.placed; stack = s.stack; steps = s.steps }

pub returns-then-not-there : goal.returns-then-not-there
returns-then-not-there g c =
    let dom = g.D.Domain.operations c.args.dom.now in
    let plan = c.args.flow.now in
    let ts = map target_of c.args.targets.now in
    let old = c.args.store.now in
    let w = c.args.walk.now in
    let t = target_of c.args.target.now in
    let here = target_here c.args.targets.now w.target c.args.target.now c.requires.here in
    let behind : length t.steps ≤ w.step = subst (λ n. n ≤ w.step) (sym (length-map c.args.target.now.steps step_of)) c.requires.behind in
    let x : Name = record { path = w.path; point = c.args.target.now.last } in
    let a = asking dom plan ts old w x c.in_ok-cell.cell c.add.new.self c.requires.right c.requires.placed c.requires.placed.path (ap asks (place_end ts old w t here behind)) c.in_ok-cell.ensures.name c.add.ensures.paths in
    let new : Store g.row.D-State.Denot = record old { names = c.add.new.self } in
    let none = none_of (get old.graph.cells c.in_ok-cell.cell) (sym c.has_cell-there.ensures.is ∙ c.if-not-there.true) in
    record {
      names = a.named.names;
      right = a.right;
      placed = a.placed;
      stack = refl;
      steps = subst (λ (u : Open). IsAsked dom plan ts new w (Some u)) (sym c.opened.ensures.is) (a.absent c.requires.targets none);
    }

pub next_target-requires : goal.next_target-requires
next_target-requires g c =
    let here : c.args.walk.now.target < length c.args.targets.now = slice_get_within c.args.targets.now c.args.walk.now.target c.args.target.now c.requires.here in
    let is : c.count-count.result ≡ length c.args.targets.now = c.count-count.ensures.is in
    let low : c.count-count.result < 18446744073709551616 = c.count-count.type_inv in
    record { room = omega arith }

pub returns-in_err-next_target : goal.returns-in_err-next_target
returns-in_err-next_target g c =
    let dom = g.D.Domain.operations c.args.dom.now in
    let plan = c.args.flow.now in
    let ts = map target_of c.args.targets.now in
    let old = c.args.store.now in
    let w = c.args.walk.now in
    let t = target_of c.args.target.now in
    let here = target_here c.args.targets.now w.target c.args.target.now c.requires.here in
    let behind : length t.steps ≤ w.step = subst (λ n. n ≤ w.step) (sym (length-map c.args.target.now.steps step_of)) c.requires.behind in
    let x : Name = record { path = w.path; point = c.args.target.now.last } in
    let a = asking dom plan ts old w x c.in_ok-cell.cell c.add.new.self c.requires.right c.requires.placed c.requires.placed.path (ap asks (place_end ts old w t here behind)) c.in_ok-cell.ensures.name c.add.ensures.paths in
    let new : Store g.row.D-State.Denot = record old { names = c.add.new.self } in
    let p = err_from_is_err_and c.from_residual-in_err-next_target.result c.from_residual-in_err-next_target.ensures.1 in
    let s = step_fails dom plan ts old new w c.next_target.new.self c.add.new.self a.named.names a.right a.placed refl c.in_err-next_target.ensures.err p.0 c.from_residual-in_err-next_target.result p.1 in
    record { names = s.names; right = s.right; placed = s.placed; stack = s.stack; steps = s.steps }

pub returns : goal.returns
returns g c =
    let dom = g.D.Domain.operations c.args.dom.now in
    let plan = c.args.flow.now in
    let ts = map target_of c.args.targets.now in
    let old = c.args.store.now in
    let w = c.args.walk.now in
    let t = target_of c.args.target.now in
    let here = target_here c.args.targets.now w.target c.args.target.now c.requires.here in
    let behind : length t.steps ≤ w.step = subst (λ n. n ≤ w.step) (sym (length-map c.args.target.now.steps step_of)) c.requires.behind in
    let x : Name = record { path = w.path; point = c.args.target.now.last } in
    let a = asking dom plan ts old w x c.in_ok-cell.cell c.add.new.self c.requires.right c.requires.placed c.requires.placed.path (ap asks (place_end ts old w t here behind)) c.in_ok-cell.ensures.name c.add.ensures.paths in
    let new : Store g.row.D-State.Denot = record old { names = c.add.new.self } in
    let y = name_in old.names.paths x in
    let leaves = c.in_ok-next_target.ensures.leaves in
    let there = sym c.has_cell-there.ensures.is ∙ c.if-not-there.false in
    let kept = ap is_some (filled_number new.graph.cells new.names.names a.named.once y c.in_ok-cell.cell a.named.number) ∙ there in
    let place = place_end ts new w t here behind in
    let placed = placed_left dom plan ts new a.right w c.next_target.new.self c.in_ok-cell.cell y leaves a.placed a.asked kept (ap (law.found (found dom plan y)) place) (ap (goes (found dom plan y)) place) a.named.number there in
    let s = step_leaves dom plan ts old new w c.next_target.new.self c.in_ok-cell.cell a.named.names a.right leaves placed (fewer_left ts old w t here c.in_ok-cell.cell c.next_target.new.self leaves) {E = Memory} in
    record { names = s.names; right = s.right; placed = s.placed; stack = s.stack; steps = s.steps }
