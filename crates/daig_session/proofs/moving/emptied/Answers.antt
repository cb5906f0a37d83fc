use Rattle.std.proofs.Common.{◌≡◌, Ok, Err, ap, sym, subst, ◌∙◌}
use Rattle.std.specs.Prelude.{Result, IfOk}
use Rattle.cell_names.specs.Known.{Known}
use Rattle.daig_graph.specs.Cells.{Cells}
use Rattle.cell_removal.specs.Removal.{IsRising, Removes}
use Rattle.call_contexts.specs.Settings.{Setting}
use Rattle.edit_history.specs.After.{changed_program}
use Rattle.edit_invalidate.specs.Touched.{AreNamed, AreTouched, IsTouched}
use Rattle.edit_invalidate.proofs.Rising.{are_named, rise}
use Rattle.edit_keeps.specs.Apart.{flow_of}
use Rattle.daig_query.specs.declared.held.Held.{Held}
use Rattle.daig_query.proofs.Holding.{right_holds}
use Rattle.daig_session.proofs.moving.emptied.Goals as goal

pub plan-requires-clause-named : goal.plan-requires-clause-named
plan-requires-clause-named g c =
    let dom = g.D.Domain.operations c.args.engine.now.domain in
    let store = c.args.engine.now.store in
    let flow = flow_of c.args.setting.now.engine c.args.table.now.program in
    subst (λ (m : Cells Held). AreNamed m.cells c.names.result.now.names) (sym c.graph.ensures.is) (
    subst (λ (k : Known). AreNamed store.graph.cells k.names) (sym c.names.ensures.is) (
    are_named dom flow store.names.names store.graph.cells (right_holds dom flow store c.requires.right)))

pub plan-requires-clause-rising : goal.plan-requires-clause-rising
plan-requires-clause-rising g c =
    let dom = g.D.Domain.operations c.args.engine.now.domain in
    let store = c.args.engine.now.store in
    let flow = flow_of c.args.setting.now.engine c.args.table.now.program in
    subst (λ (m : Cells Held). IsRising m.cells) (sym c.graph.ensures.is) (rise dom flow store.names.names store.graph.cells (right_holds dom flow store c.requires.right))

-- what is said of a result in two clauses
both_ok : {A E : Type 0} {P Q R : A → Type 0} (r : Result A E) → IfOk r P → IfOk r Q → ((x : A) → P x → Q x → R x) → IfOk r R
both_ok (Ok a) p q f = f a p q
both_ok (Err e) p q f = tt

-- what is said of some parts holds of equal ones
of_equal : {A B C D E : Type 0} (P : A → B → C → D → E → Type 0) {a x : A} {b y : B} {c z : C} {d v : D} {e w : E} → a ≡ x → b ≡ y → c ≡ z → d ≡ v → e ≡ w → P a b c d e → P x y z v w
of_equal P {x = x} {b = b} {y = y} {c = c} {z = z} {d = d} {v = v} {e = e} h k l m n p =
    subst (λ o. P x y z v o) n (subst (λ o. P x y z o e) m (subst (λ o. P x y o d e) l (subst (λ o. P x o c d e) k (subst (λ o. P o b c d e) h p))))

pub returns : goal.returns
returns g c =
    let engine = c.args.setting.now.engine in
    let old = c.new-old.ensures.is ∙ ap (flow_of engine) c.view.ensures.is in
    let same : c.args.other.now.engine ≡ engine = ap (λ (s : Setting). s.engine) c.requires.set_other in
    let new = c.new-new.ensures.is ∙ (ap (flow_of c.args.other.now.engine) c.changed.ensures.is ∙ ap (λ e. flow_of e (changed_program c.args.table.now.program c.args.change.now)) same) in
    record {
      empties = both_ok c.plan.result c.plan.ensures.removes c.plan.ensures.touched (λ e r t.
          record {
            stmts = c.in_ok-changed.changed.items;
            changed = c.in_ok-changed.ensures.are;
            removes = of_equal (λ (m : Cells Held) (k : Known) o n xs. Removes m.cells (IsTouched o n k.names m.cells xs) e.order) c.graph.ensures.is c.names.ensures.is old new c.as_slice.ensures.value r;
            touched = of_equal (λ (m : Cells Held) (k : Known) o n xs. AreTouched o n k.names m.cells xs e.touched) c.graph.ensures.is c.names.ensures.is old new c.as_slice.ensures.value t;
          });
    }
