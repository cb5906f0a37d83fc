use Rattle.std.proofs.Common.{ℕ, ◌<◌, List, Ok, length, subst, ap, ◌∙◌}
use Rattle.std.proofs.lemmas.Iterator.{items_from_collect}
use Rattle.std.proofs.lemmas.Iterator.Consumers.{YieldsList-from_rest}
use Rattle.imp_syntax.specs.Plain.{Procedure}
use Rattle.imp_check.specs.Slots.{routines_of}
use Rattle.call_contexts.specs.Settings.{Setting}
use Rattle.imp_flow.specs.Plans.{plan_of}
use Rattle.imp_flow.specs.Searches.{ArePutsLooked, AreCallersLooked, AreLoopsLooked}
use Rattle.imp_flow.proofs.ChangedRest.{all_found}
use Rattle.imp_flow.proofs.search.points_changed.Goals as goal

pub returns : goal.returns
returns g c =
    let engine = c.args.before.now.engine in
    let ps = c.args.table.now.program in
    let qs = g.program in
    let old = c.new-old.result in
    let new = c.new-new.result in
    let s = c.look_at_puts.new.search in
    let t = c.look_at_callers.new.search in
    let u = c.look_at_loops.new.search in
    let vs = c.view-2.result in
    let ws = c.changed-now.result in
    let callers : (k : ℕ) → k < length ws → AreCallersLooked old new t vs ws k = c.in_ok-look_at_callers.ensures.looked in
    let loops : old.engine.widening.delay < old.engine.budget → (k : ℕ) → k < length ws → AreLoopsLooked old new u k = c.in_ok-look_at_loops.ensures.looked in
    record {
      are =
          all_found ps qs c.args.change.now.entries.items engine old new s t u c.in_ok-collect.field-0.items
          (c.new-old.ensures.is ∙ ap (λ (z : List Procedure). plan_of (routines_of z) engine) c.view.ensures.is)
          (c.new-new.ensures.is ∙ ap (λ (z : List Procedure). plan_of (routines_of z) c.args.after.now.engine) c.changed.ensures.is ∙ ap (λ (z : Setting). plan_of (routines_of qs) z.engine) c.requires.1.1.1.1)
          c.procs.ensures.numbered
          c.requires.1.0.numbered
          c.requires.0.entries
          (record {
            at_puts = subst (ArePutsLooked old new s) c.as_slice.ensures.value c.in_ok-look_at_puts.ensures.looked;
            on = c.in_ok-look_at_callers.ensures.on;
            at_callers = subst (λ (z : List Procedure). (k : ℕ) → k < length z → AreCallersLooked old new t ps z k) c.changed-now.ensures.is (subst (λ (z : List Procedure). (k : ℕ) → k < length ws → AreCallersLooked old new t z ws k) c.view-2.ensures.is callers);
            further = c.in_ok-look_at_loops.ensures.on;
            at_loops = subst (λ (z : List Procedure). old.engine.widening.delay < old.engine.budget → (k : ℕ) → k < length z → AreLoopsLooked old new u k) c.changed-now.ensures.is loops;
          })
          c.into_iter.ensures.into_iter_gives.4
          (items_from_collect {E = Unit {0}} (Ok c.in_ok-collect.field-0) c.in_ok-collect.ensures.ran (YieldsList-from_rest u.changed.keys c.into_iter.ensures.into_iter_gives.0));
    }
