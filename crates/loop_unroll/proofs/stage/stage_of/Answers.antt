use Rattle.std.proofs.Common.{◌≡◌, suc, ◌-◌, length, Some, sym, ap, ◌∙◌, subst, arith}
use Rattle.daig_graph.specs.declared.value.Value.{Value}
use Rattle.loop_unroll.specs.declared.stage.Stage.{Stage}
use Rattle.loop_unroll.specs.Iterates.{iterate_of, IsOverValue}
use Rattle.loop_unroll.specs.Stages.{IsStage}
use Rattle.loop_unroll.proofs.Deciding.{stage-over, stage-equal, stage-rest, counted, last-value, cell-has}
use Rattle.loop_unroll.proofs.stage.stage_of.Goals as goal

pub returns-in-None : goal.returns-in-None
returns-in-None g c = cell-has c.args.graph.now.cells c.args.cells.now (length c.args.cells.now - 1) (omega (arith, c.if-count-eq0.false)) c.requires.cells c.in-None.ensures.value

pub returns-in-Some-Over : goal.returns-in-Some-Over
returns-in-Some-Over g c =
    let last = length c.args.cells.now - 1 in
    let e : length c.args.cells.now ≡ suc last = omega (arith, c.if-count-eq0.false) in
    let it = iterate_of c.args.graph.now.cells c.args.cells.now in
    let Q : Value g.row.V.Denot → Type 0 = IsOverValue in
    record {
      stage = counted c.args.budget it (length c.args.cells.now) last _ e c.requires.earlier
          (λ earlier. stage-over c.args.budget it last earlier
          (c.in-Some-Over.field-0.now, last-value c.args.graph.now.cells c.args.cells.now last (omega (arith, e)) ∙ sym c.in-Some-Over.ensures.value, subst Q (sym c.in-Some-Over.field-0-is) tt));
    }

pub returns-then-repeats : goal.returns-then-repeats
returns-then-repeats g c =
    let last = length c.args.cells.now - 1 in
    let e : length c.args.cells.now ≡ suc last = omega (arith, c.if-count-eq0.false) in
    let it = iterate_of c.args.graph.now.cells c.args.cells.now in
    record {
      stage = counted c.args.budget it (length c.args.cells.now) last _ e c.requires.earlier
          (λ earlier. stage-equal c.args.budget it last earlier (c.repeats.ensures.is.0 c.if-repeats.true));
    }

pub returns-else-repeats : goal.returns-else-repeats
returns-else-repeats g c =
    let last = length c.args.cells.now - 1 in
    let e : length c.args.cells.now ≡ suc last = omega (arith, c.if-count-eq0.false) in
    let it = iterate_of c.args.graph.now.cells c.args.cells.now in
    let P : Stage → Type 0 = IsStage c.args.budget it (suc last) in
    let is = last-value c.args.graph.now.cells c.args.cells.now last (omega (arith, e)) ∙ sym c.in-Some-State.ensures.value ∙ ap Some c.in-Some-State.field-0-is in
    record {
      stage = counted c.args.budget it (length c.args.cells.now) last _ e c.requires.earlier
          (λ earlier. subst P (sym c.spent_at.ensures.is)
          (stage-rest c.args.budget it last earlier c.in-Some-State.state is (λ equal. let t = c.repeats.ensures.is.1 equal in let f = c.if-repeats.false in absurd (cc))));
    }
