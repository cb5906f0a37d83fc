use Rattle.std.proofs.Common.{◌≡◌, ◌&&◌, MatchBool, sym, ap, subst, ◌∙◌}
use Rattle.std.specs.Option.{option_map}
use Rattle.cell_names.specs.contracts.frame.PointPartialEq.TheImpl as points
use Rattle.imp_flow_rows.specs.Entered.{node_now}
use Rattle.imp_flow.specs.Plans.{thresholds_at}
use Rattle.imp_flow.specs.Changed.{Stays, IsChanged, same_shapes}
use Rattle.imp_flow.proofs.ChangedRows.{by_verdict}
use Rattle.imp_flow.proofs.ChangedStays.{found_fine, none_stays, bare_stays, gone_changed, told_found}
use Rattle.imp_flow.proofs.changed.stays.Goals as goal

pub returns-in_default : goal.returns-in_default
returns-in_default c = record { is = none_stays c.args.old.now c.args.new.now c.requires.one c.args.stmt (sym c.node.ensures.is ∙ ap (option_map node_now) c.in_default.is) }

pub returns-then-is_bare : goal.returns-then-is_bare
returns-then-is_bare c = record {
  is = bare_stays c.args.old.now c.args.new.now c.requires.one c.args.stmt (node_now c.in-Some.node) (sym c.in-Some.ensures.is) (sym c.is_bare.ensures.is ∙ c.if-is_bare.true);
}

pub returns-in-None : goal.returns-in-None
returns-in-None c = record {
  is = gone_changed c.args.old.now c.args.new.now c.requires.one c.args.stmt (node_now c.in-Some.node) (sym c.in-Some.ensures.is) (sym c.is_bare.ensures.is ∙ c.if-is_bare.false) (sym c.in-None.ensures.is);
}

pub returns-then-eq : goal.returns-then-eq
returns-then-eq c =
    let x = (node_now c.in-Some.node) in
    let y = (node_now c.in-Some-node.other) in
    let old = c.args.old.now in
    let new = c.args.new.now in
    let n = c.args.stmt in
    let e = sym c.in-Some.ensures.is in
    let f = sym c.in-Some-node.ensures.is in
    let v = told_found old new c.requires.one n x y e f (sym c.is_bare.ensures.is ∙ c.if-is_bare.false) (found_fine old n x c.requires.old e) (found_fine new n y c.requires.new f) in
    let before : points.ghosts.eq x.front y.front ≡ points.ghosts.eq c.front-before.result c.front-other_before.result = λ i. points.ghosts.eq (sym c.front-before.ensures.is i) (sym c.front-other_before.ensures.is i) in
    record {
      is =
          subst (λ b. MatchBool b (Stays old new n) (IsChanged old new n))
          (ap (λ b. b && same_shapes old.engine (thresholds_at old x.place) (thresholds_at new y.place) x.shape y.shape) (before ∙ sym c.eq.ensures ∙ c.if-eq.true) ∙ sym c.same_shapes.ensures.is)
          (by_verdict v);
    }

pub returns-else-eq : goal.returns-else-eq
returns-else-eq c =
    let x = (node_now c.in-Some.node) in
    let y = (node_now c.in-Some-node.other) in
    let old = c.args.old.now in
    let new = c.args.new.now in
    let n = c.args.stmt in
    let e = sym c.in-Some.ensures.is in
    let f = sym c.in-Some-node.ensures.is in
    let v = told_found old new c.requires.one n x y e f (sym c.is_bare.ensures.is ∙ c.if-is_bare.false) (found_fine old n x c.requires.old e) (found_fine new n y c.requires.new f) in
    let before : points.ghosts.eq x.front y.front ≡ points.ghosts.eq c.front-before.result c.front-other_before.result = λ i. points.ghosts.eq (sym c.front-before.ensures.is i) (sym c.front-other_before.ensures.is i) in
    record {
      is =
          subst (λ b. MatchBool b (Stays old new n) (IsChanged old new n))
          (ap (λ b. b && same_shapes old.engine (thresholds_at old x.place) (thresholds_at new y.place) x.shape y.shape) (before ∙ sym c.eq.ensures ∙ c.if-eq.false) ∙ sym c.if-eq.false)
          (by_verdict v);
    }
