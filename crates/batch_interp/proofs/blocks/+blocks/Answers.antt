use Rattle.std.proofs.Common.{◌≡◌, ◌+◌, ◌-◌, suc, sym, ap, ◌∙◌, arith, reverse, true, false}
use Rattle.imp_slots.specs.Sizes.{code_size}
use Rattle.batch_meaning.specs.Values as plain
use Rattle.batch_meaning.specs.Values.{lift}
use Rattle.batch_meaning.specs.Batch as meaning
use Rattle.batch_meaning.specs.Batch.{with_leaving, iterate, head_of}
use Rattle.batch_interp.specs.Frames.{thresholds_at, calls_in, passed}
use Rattle.batch_interp.specs.Answered.{value_of}
use Rattle.batch_interp.specs.declared.frames.CallFrame.{CallFrame}
use Rattle.batch_interp.specs.Passing.{states}
use Rattle.batch_interp.proofs.BlockLemmas.{ends_along, block_on, block_left, block_end, while_at, while_over, of_callee, of_callee_body, gave_before, ends_value, stopped, round_over, round_stops, round_goes_on}
use Rattle.batch_interp.proofs.Procedures.{call_gone}
use Rattle.batch_interp.proofs.Weights.{weight, weight_falls}
use Rattle.batch_interp.proofs.blocks.+blocks.Goals as goal

pub block_answer-loop-node-init : goal.block_answer-loop-node-init
block_answer-loop-node-init g t c =
    let dom = g.D.Domain.operations c.args.interpreter.now.dom.now in
    record {
      is = c.statements-node-items.ensures.same;
      told = ap (λ b. with_leaving (states c.args.leaving.now) (passed dom c.args.interpreter.now.plan.now c.args.interpreter.now.frame.now.place c.args.interpreter.now.frame.now.sites b (plain.State c.args.state))) c.statements-node-items.ensures.same;
      right = c.requires.right;
    }

pub block_answer-returns-in-Over : goal.block_answer-returns-in-Over
block_answer-returns-in-Over g t c =
    let dom = g.D.Domain.operations c.args.interpreter.now.dom.now in
    let plan = c.args.interpreter.now.plan.now in
    let place = c.args.interpreter.now.frame.now.place in
    let z = c.args.interpreter.now.frame.now.sites in
    let h = rw c.in-Over.is at c.in_ok-next.ensures.is in
    record {
      is = block_left dom plan.engine (thresholds_at plan place) z (calls_in dom plan place z) c.statements-node-items.result.now c.loop-node.node-index c.node-item.result c.loop-node.now c.in-Over.head (reverse c.in-Over.chain) c.args.leaving.now c.loop-node.leaving (passed dom plan place z c.args.block.now (plain.State c.args.state)) c.loop-node.invariant.told c.loop-node-test.true c.node-item.is h;
      right = c.in_ok-next.ensures.right;
    }

pub block_answer-loop-node-preserved : goal.block_answer-loop-node-preserved
block_answer-loop-node-preserved g t c =
    let dom = g.D.Domain.operations c.args.interpreter.now.dom.now in
    let plan = c.args.interpreter.now.plan.now in
    let place = c.args.interpreter.now.frame.now.place in
    let z = c.args.interpreter.now.frame.now.sites in
    let h = rw c.in-State.is at c.in_ok-next.ensures.is in
    record {
      is = c.loop-node.invariant.is;
      told = block_on dom plan.engine (thresholds_at plan place) z (calls_in dom plan place z) c.statements-node-items.result.now c.loop-node.node-index c.node-item.result c.loop-node.now c.in-State.next c.args.leaving.now c.loop-node.leaving c.node_answer.new.leaving (passed dom plan place z c.args.block.now (plain.State c.args.state)) c.loop-node.invariant.told c.loop-node-test.true c.node-item.is h;
      right = c.in_ok-next.ensures.right;
    }

pub block_answer-returns : goal.block_answer-returns
block_answer-returns g t c =
    let dom = g.D.Domain.operations c.args.interpreter.now.dom.now in
    let plan = c.args.interpreter.now.plan.now in
    let place = c.args.interpreter.now.frame.now.place in
    let z = c.args.interpreter.now.frame.now.sites in
    record {
      is =
          sym c.loop-node.invariant.told
          ∙ block_end dom plan.engine (thresholds_at plan place) z (calls_in dom plan place z) c.statements-node-items.result.now c.loop-node.node-index c.loop-node.now c.loop-node.leaving c.loop-node-test.false;
      right = c.loop-node.invariant.right;
    }

pub callee_answer-returns-in-None : goal.callee_answer-returns-in-None
callee_answer-returns-in-None g t c =
    record { is = sym (call_gone (g.D.Domain.operations c.args.interpreter.now.dom.now) c.args.interpreter.now.plan.now c.args.interpreter.now.frame.now.place c.args.interpreter.now.frame.now.sites c.args.n c.args.callee (plain.State c.args.entered) (sym c.in-None.ensures.is)); right = c.requires.right }

pub callee_answer-procedure_answer-requires : goal.callee_answer-procedure_answer-requires
callee_answer-procedure_answer-requires g t c =
    let program = c.args.interpreter.now.plan.now.program in
    let k = c.args.interpreter.now.frame.now.place in
    let routine = c.in-Some.routine.now in
    let there : c.in_ok-inner-in-Some.inner.place ≡ c.args.callee = ap (λ (f : CallFrame). f.place) c.in_ok-inner-in-Some.ensures.is in
    let before : weight program c.in_ok-inner-in-Some.inner.place ≡ weight program c.args.callee = ap (weight program) there in
    let size : code_size c.body.result.now ≡ code_size routine.code = ap code_size c.body.ensures.same in
    let falls = weight_falls program k c.args.callee routine (sym c.in-Some.ensures.is) in
    let body = of_callee_body program k c.args.callee c.in_ok-inner-in-Some.inner.place routine c.body.result.now c.in-Some.ensures.is there c.body.ensures.same in
    search (arith, before, size, falls, body, c.decreases, c.requires.right)

pub callee_answer-returns-in_ok-inner-in-Some : goal.callee_answer-returns-in_ok-inner-in-Some
callee_answer-returns-in_ok-inner-in-Some g t c =
    record {
      is = of_callee (g.D.Domain.operations c.args.interpreter.now.dom.now) c.args.interpreter.now.plan.now c.procedure_answer.result c.args.interpreter.now.frame.now.place c.args.interpreter.now.frame.now.sites c.args.n c.args.callee c.in-Some.routine.now c.body.result.now c.in_ok-inner-in-Some.inner (plain.State c.args.entered) c.in-Some.ensures.is c.in_ok-inner-in-Some.ensures.is c.body.ensures.same c.procedure_answer.ensures.is;
      right = c.procedure_answer.ensures.right;
    }

pub procedure_answer-returns-in-Some : goal.procedure_answer-returns-in-Some
procedure_answer-returns-in-Some g t c =
    let dom = g.D.Domain.operations c.args.interpreter.now.dom.now in
    let plan = c.args.interpreter.now.plan.now in
    let place = c.args.interpreter.now.frame.now.place in
    let z = c.args.interpreter.now.frame.now.sites in
    let h = rw c.in-Some.is at c.in_ok-end.ensures.gives in
    record {
      is = sym (ap (λ b. (passed dom plan place z b (plain.State c.args.entered)).value) c.requires.body ∙ h z);
      right = c.requires.right;
    }

pub procedure_answer-note-requires : goal.procedure_answer-note-requires
procedure_answer-note-requires g t c =
    let dom = g.D.Domain.operations c.args.interpreter.now.dom.now in
    let plan = c.args.interpreter.now.plan.now in
    let place = c.args.interpreter.now.frame.now.place in
    let z = c.args.interpreter.now.frame.now.sites in
    record {
      right = c.in_ok-answer-in-None.ensures.right;
      gave = gave_before dom plan place z c.args.body.now c.args.entered c.in_ok-before-in-None.before (value_of c.in_ok-answer-in-None.answer) c.requires.body c.in_ok-before-in-None.ensures.same (ends_value c.new-leaving.result c.block_answer.new.leaving (passed dom plan place z c.args.body.now (plain.State c.args.entered)) c.in_ok-answer-in-None.answer c.in_ok-answer-in-None.ensures.is);
    }

pub procedure_answer-returns-in_ok-answer-in-None : goal.procedure_answer-returns-in_ok-answer-in-None
procedure_answer-returns-in_ok-answer-in-None g t c =
    let dom = g.D.Domain.operations c.args.interpreter.now.dom.now in
    let plan = c.args.interpreter.now.plan.now in
    let place = c.args.interpreter.now.frame.now.place in
    let z = c.args.interpreter.now.frame.now.sites in
    record {
      is = ends_value c.new-leaving.result c.block_answer.new.leaving (passed dom plan place z c.args.body.now (plain.State c.args.entered)) c.in_ok-answer-in-None.answer c.in_ok-answer-in-None.ensures.is;
      right = c.note.ensures.right;
    }

pub loop_head-returns-in-Over : goal.loop_head-returns-in-Over
loop_head-returns-in-Over g t c =
    let dom = g.D.Domain.operations c.args.interpreter.now.dom.now in
    let plan = c.args.interpreter.now.plan.now in
    let place = c.args.interpreter.now.frame.now.place in
    let z = c.args.interpreter.now.frame.now.sites in
    let h = rw c.in-Over.is at c.in_ok-end.ensures.is in
    let e : plan.engine.budget - c.loop-k.k ≡ suc (plan.engine.budget - (c.loop-k.k + 1)) = omega arith in
    record {
      is =
          ap (λ (f : meaning.Fixed g.row.D-State.Denot). f.value)
          (sym c.loop-k.invariant.told
          ∙ round_over dom plan.engine (thresholds_at plan place) z (calls_in dom plan place z) c.args.cond.now c.args.body.now (plain.Over c.args.n z) c.loop-k.now (plan.engine.budget - c.loop-k.k) (plan.engine.budget - (c.loop-k.k + 1)) c.loop-k.k c.in-Over.head (reverse c.in-Over.chain) e h);
      right = c.in_ok-end.ensures.right;
    }

pub loop_head-returns-then-eq : goal.loop_head-returns-then-eq
loop_head-returns-then-eq g t c =
    let dom = g.D.Domain.operations c.args.interpreter.now.dom.now in
    let plan = c.args.interpreter.now.plan.now in
    let place = c.args.interpreter.now.frame.now.place in
    let z = c.args.interpreter.now.frame.now.sites in
    let h = rw c.in-State.is at c.in_ok-end.ensures.is in
    let e : plan.engine.budget - c.loop-k.k ≡ suc (plan.engine.budget - (c.loop-k.k + 1)) = omega arith in
    let same : dom.same c.in_ok-next.next c.loop-k.now ≡ true = g.met.D.Domain.tests_equality c.args.interpreter.now.dom.now c.in_ok-next.next c.loop-k.now ∙ sym c.if-eq.ensures in
    record {
      is = (
        ap (λ (f : meaning.Fixed g.row.D-State.Denot). f.value)
            (sym c.loop-k.invariant.told
            ∙ round_stops dom plan.engine (thresholds_at plan place) z (calls_in dom plan place z) c.args.cond.now c.args.body.now (plain.Over c.args.n z) c.loop-k.now c.in-State.end c.in_ok-next.next (plan.engine.budget - c.loop-k.k) (plan.engine.budget - (c.loop-k.k + 1)) c.loop-k.k c.new-leaving.result c.block_under.new.leaving e h c.in_ok-next.ensures.value same),
        stopped dom plan.engine (thresholds_at plan place) z (calls_in dom plan place z) c.args.cond.now c.args.body.now c.loop-k.now c.in-State.end c.new-leaving.result c.block_under.new.leaving c.new-leaving.ensures.empty h,
      );
      right = c.in_ok-end.ensures.right;
    }

pub loop_head-loop-k-preserved : goal.loop_head-loop-k-preserved
loop_head-loop-k-preserved g t c =
    let dom = g.D.Domain.operations c.args.interpreter.now.dom.now in
    let plan = c.args.interpreter.now.plan.now in
    let place = c.args.interpreter.now.frame.now.place in
    let z = c.args.interpreter.now.frame.now.sites in
    let h = rw c.in-State.is at c.in_ok-end.ensures.is in
    let e : plan.engine.budget - c.loop-k.k ≡ suc (plan.engine.budget - (c.loop-k.k + 1)) = omega arith in
    let other : dom.same c.in_ok-next.next c.loop-k.now ≡ false = g.met.D.Domain.tests_equality c.args.interpreter.now.dom.now c.in_ok-next.next c.loop-k.now ∙ sym c.if-eq.ensures in
    let F = iterate dom plan.engine (thresholds_at plan place) (λ x. (passed dom plan place z c.args.body.now (lift (dom.assume c.args.cond.now true) x)).value) (plain.Over c.args.n z) in
    let k : c.loop-k.k + 1 ≡ suc c.loop-k.k = omega arith in
    record {
      told =
          ap (λ j. F (plan.engine.budget - (c.loop-k.k + 1)) j c.in_ok-next.next) k
          ∙ sym (round_goes_on dom plan.engine (thresholds_at plan place) z (calls_in dom plan place z) c.args.cond.now c.args.body.now (plain.Over c.args.n z) c.loop-k.now c.in-State.end c.in_ok-next.next (plan.engine.budget - c.loop-k.k) (plan.engine.budget - (c.loop-k.k + 1)) c.loop-k.k c.new-leaving.result c.block_under.new.leaving e h c.in_ok-next.ensures.value other)
          ∙ c.loop-k.invariant.told;
      right = c.in_ok-end.ensures.right;
    }

pub while_answer-returns-in_ok-all-in-At : goal.while_answer-returns-in_ok-all-in-At
while_answer-returns-in_ok-all-in-At g t c =
    let dom = g.D.Domain.operations c.args.interpreter.now.dom.now in
    let plan = c.args.interpreter.now.plan.now in
    let place = c.args.interpreter.now.frame.now.place in
    let z = c.args.interpreter.now.frame.now.sites in
    let body = passed dom plan place z c.args.body.now in
    let v = (head_of dom plan.engine (thresholds_at plan place) z c.args.n c.args.cond.now body (plain.State c.args.state.now)).value in
    let h = rw c.in-At.is at c.in_ok-head.ensures.is in
    record { is = while_at dom plan.engine c.args.cond.now body v c.in-At.head c.in_ok-out-in-At.out c.in_ok-all-in-At.all c.in-At.leaving c.as_slice.result.now h.0 h.1 c.in_ok-out-in-At.ensures.value c.as_slice.ensures.same (c.in_ok-all-in-At.ensures.value plan.engine); right = c.in_ok-head.ensures.right }

pub while_answer-returns-in-Over : goal.while_answer-returns-in-Over
while_answer-returns-in-Over g t c =
    let dom = g.D.Domain.operations c.args.interpreter.now.dom.now in
    let plan = c.args.interpreter.now.plan.now in
    let place = c.args.interpreter.now.frame.now.place in
    let z = c.args.interpreter.now.frame.now.sites in
    let body = passed dom plan place z c.args.body.now in
    let v = (head_of dom plan.engine (thresholds_at plan place) z c.args.n c.args.cond.now body (plain.State c.args.state.now)).value in
    let h = rw c.in-Over.is at c.in_ok-head.ensures.is in
    record { is = while_over dom plan.engine c.args.cond.now body v c.in-Over.head (reverse c.in-Over.chain) h; right = c.in_ok-head.ensures.right }

pub block_under-returns : goal.block_under-returns
block_under-returns g t c =
    let interpreter = c.args.interpreter.now in
    record { is = ends_along c.block_answer.result c.args.leaving.now c.block_answer.new.leaving (λ s. passed (g.D.Domain.operations interpreter.dom.now) interpreter.plan.now interpreter.frame.now.place interpreter.frame.now.sites c.args.block.now (plain.State s)) c.in_ok-inside.inside _ c.block_answer.ensures.is c.in_ok-inside.ensures.value; right = c.block_answer.ensures.right }
