use Rattle.std.proofs.Common.{◌≡◌, ℕ, Some, append-nil, ◌++◌, ◌+◌, ◌-◌, length, length-take, take, refl, arith, ap, sym, ◌∙◌}
use Rattle.serve_script.specs.Lines.{kept}
use Rattle.serve_script.specs.Replies.{replies, machine_after}
use Rattle.serve_script.proofs.LastLemmas.{fewer}
use Rattle.serve_script.proofs.LineLemmas.{on_ok}
use Rattle.serve_script.proofs.ScriptLemmas.{stands_first, lines_read, part_read, handed_out, stands_more, part_on, holds_more, written_more, block_prefix, block_lines, read_to_end, all_answered, end_prefix, end_lines, read_so_far, read_bytes}
use Rattle.serve_script.proofs.read.answer_script.Goals as goal

pub loop-total-init : goal.loop-total-init
loop-total-init g c = record {
  few = omega arith;
  lasts = record { most = 1099511627776; enough = omega arith; held = c.requires.lasts };
  stands = λ text told. stands_first text _ told;
  pending = λ text told. c.new-pending.ensures.empty;
  next = λ m stands text told. stands;
  written = λ m stands text taken told_text told_taken. told_taken ∙ ap Some (sym (append-nil taken));
  script_rises = omega arith;
  sink_rises = omega arith;
}

pub answer_rest-requires : goal.answer_rest-requires
answer_rest-requires g c = record {
  lasts = fewer (1099511627776 - c.loop-total.total) 1 (omega arith) c.loop-total.invariant.lasts;
}

pub answer_block-requires : goal.answer_block-requires
answer_block-requires g c = record {
  lasts =
      let more = (c.in-Ok.ensures {u = tt}).no_more in
      fewer (1099511627776 - c.loop-total.total) (length (take c.in-Ok.count c.read_block.new.block))
      (omega (arith, more, length-take {A = ℕ})) c.loop-total.invariant.lasts;
}

pub returns-in-Err-clause-script_lines : goal.returns-in-Err-clause-script_lines
returns-in-Err-clause-script_lines g c = λ _ m stands text taken told_text told_taken.
    read_so_far g.A.Answerer.machine m text taken c.loop-total.total _ _ _
    (c.loop-total.invariant.stands text told_text) (c.in-Err.ensures {u = tt}).hands_out (c.loop-total.invariant.written m stands text taken told_text told_taken)

pub returns-in-Ok-eq0-clause-ended : goal.returns-in-Ok-eq0-clause-ended
returns-in-Ok-eq0-clause-ended g c =
    on_ok c.answer_rest.result c.answer_rest.ensures.written (λ _ text told_text.
    read_to_end text c.loop-total.total _ _ c.in-Ok-eq0.field-0 c.read_block.new.block
    (c.loop-total.invariant.stands text told_text) ((c.in-Ok-eq0.ensures {u = tt}).end (omega arith)) (c.in-Ok-eq0.ensures {u = tt}).hands_out (omega arith) c.loop-total-test.true)

pub returns-in-Ok-eq0-clause-answered : goal.returns-in-Ok-eq0-clause-answered
returns-in-Ok-eq0-clause-answered g c =
    let machine = g.A.Answerer.machine in
    on_ok c.answer_rest.result c.answer_rest.ensures.written (λ written m stands text taken told_text told_taken.
    all_answered machine m text taken c.loop-total.total _ _
    (c.loop-total.invariant.stands text told_text) ((c.in-Ok-eq0.ensures {u = tt}).end (omega arith))
    (written (machine_after machine m (lines_read text c.loop-total.total)) (c.loop-total.invariant.next m stands text told_text) (part_read text c.loop-total.total) (taken ++ replies machine m (lines_read text c.loop-total.total))
    (c.loop-total.invariant.pending text told_text) (c.loop-total.invariant.written m stands text taken told_text told_taken)))

pub returns-in-Ok-eq0-clause-sink_prefix : goal.returns-in-Ok-eq0-clause-sink_prefix
returns-in-Ok-eq0-clause-sink_prefix g c = λ sink m stands text taken told_text told_taken.
    let machine = g.A.Answerer.machine in
    let wrote = c.answer_rest.ensures.prefix sink (machine_after machine m (lines_read text c.loop-total.total)) (c.loop-total.invariant.next m stands text told_text) (part_read text c.loop-total.total) (taken ++ replies machine m (lines_read text c.loop-total.total))
    (c.loop-total.invariant.pending text told_text) (c.loop-total.invariant.written m stands text taken told_text told_taken) in
    end_prefix machine m text taken c.loop-total.total _ _ (c.loop-total.invariant.stands text told_text) ((c.in-Ok-eq0.ensures {u = tt}).end (omega arith)) wrote

pub returns-in-Ok-eq0-clause-memory_lines : goal.returns-in-Ok-eq0-clause-memory_lines
returns-in-Ok-eq0-clause-memory_lines g c = λ memory m stands text taken told_text told_taken.
    let machine = g.A.Answerer.machine in
    let wrote = c.answer_rest.ensures.lines memory (machine_after machine m (lines_read text c.loop-total.total)) (c.loop-total.invariant.next m stands text told_text) (part_read text c.loop-total.total) (taken ++ replies machine m (lines_read text c.loop-total.total))
    (c.loop-total.invariant.pending text told_text) (c.loop-total.invariant.written m stands text taken told_text told_taken) in
    end_lines machine m text taken c.loop-total.total _ _ (c.loop-total.invariant.stands text told_text) ((c.in-Ok-eq0.ensures {u = tt}).end (omega arith)) wrote

pub loop-total-preserved : goal.loop-total-preserved
loop-total-preserved g c =
    let machine = g.A.Answerer.machine in
    let block = c.in-Ok-answer_block.ensures {u = tt} in
    record {
      lasts =
          let more = (c.in-Ok.ensures {u = tt}).no_more in
          block.lasts (1099511627776 - (c.loop-total.total + c.in-Ok.count))
          (fewer (1099511627776 - c.loop-total.total) (length (take c.in-Ok.count c.read_block.new.block) + (1099511627776 - (c.loop-total.total + c.in-Ok.count)))
          (omega (arith, more, length-take {A = ℕ})) c.loop-total.invariant.lasts);
      few = let more = (c.in-Ok.ensures {u = tt}).no_more in omega (arith, more);
      stands = λ text told_text.
          stands_more text c.loop-total.total _ c.in-Ok.count _
          (handed_out text c.loop-total.total _ _ c.in-Ok.count c.read_block.new.block (take c.in-Ok.count c.read_block.new.block) (c.loop-total.invariant.stands text told_text) (c.in-Ok.ensures {u = tt}).hands_out refl);
      pending = λ text told_text.
          block.pending (part_read text c.loop-total.total) (c.loop-total.invariant.pending text told_text)
          ∙ ap kept (sym (part_on text c.loop-total.total _ c.in-Ok.count _
          (handed_out text c.loop-total.total _ _ c.in-Ok.count c.read_block.new.block (take c.in-Ok.count c.read_block.new.block) (c.loop-total.invariant.stands text told_text) (c.in-Ok.ensures {u = tt}).hands_out refl)));
      next = λ m stands text told_text.
          holds_more machine (g.A.Answerer.stands c.answer_block.new.answerer) m text c.loop-total.total _ c.in-Ok.count _
          (handed_out text c.loop-total.total _ _ c.in-Ok.count c.read_block.new.block (take c.in-Ok.count c.read_block.new.block) (c.loop-total.invariant.stands text told_text) (c.in-Ok.ensures {u = tt}).hands_out refl)
          (block.next (machine_after machine m (lines_read text c.loop-total.total)) (c.loop-total.invariant.next m stands text told_text) (part_read text c.loop-total.total) (c.loop-total.invariant.pending text told_text));
      written = λ m stands text taken told_text told_taken.
          written_more machine m text taken c.loop-total.total _ _ c.in-Ok.count _
          (handed_out text c.loop-total.total _ _ c.in-Ok.count c.read_block.new.block (take c.in-Ok.count c.read_block.new.block) (c.loop-total.invariant.stands text told_text) (c.in-Ok.ensures {u = tt}).hands_out refl)
          (block.written (machine_after machine m (lines_read text c.loop-total.total)) (c.loop-total.invariant.next m stands text told_text) (part_read text c.loop-total.total) (taken ++ replies machine m (lines_read text c.loop-total.total))
          (c.loop-total.invariant.pending text told_text) (c.loop-total.invariant.written m stands text taken told_text told_taken));
      script_rises = omega arith;
      sink_rises = omega arith;
    }

pub returns-in-Err-answer_block-clause-sink_prefix : goal.returns-in-Err-answer_block-clause-sink_prefix
returns-in-Err-answer_block-clause-sink_prefix g c = λ sink m stands text taken told_text told_taken.
    let machine = g.A.Answerer.machine in
    block_prefix machine m text taken c.loop-total.total _ _ c.in-Ok.count _
    (handed_out text c.loop-total.total _ _ c.in-Ok.count c.read_block.new.block (take c.in-Ok.count c.read_block.new.block) (c.loop-total.invariant.stands text told_text) (c.in-Ok.ensures {u = tt}).hands_out refl)
    ((c.in-Err-answer_block.ensures {u = tt}).prefix sink (machine_after machine m (lines_read text c.loop-total.total)) (c.loop-total.invariant.next m stands text told_text) (part_read text c.loop-total.total) (taken ++ replies machine m (lines_read text c.loop-total.total))
    (c.loop-total.invariant.pending text told_text) (c.loop-total.invariant.written m stands text taken told_text told_taken))

pub returns-in-Err-answer_block-clause-memory_lines : goal.returns-in-Err-answer_block-clause-memory_lines
returns-in-Err-answer_block-clause-memory_lines g c = λ memory m stands text taken told_text told_taken.
    let machine = g.A.Answerer.machine in
    block_lines machine m text taken c.loop-total.total _ _ c.in-Ok.count _
    (handed_out text c.loop-total.total _ _ c.in-Ok.count c.read_block.new.block (take c.in-Ok.count c.read_block.new.block) (c.loop-total.invariant.stands text told_text) (c.in-Ok.ensures {u = tt}).hands_out refl)
    ((c.in-Err-answer_block.ensures {u = tt}).lines memory (machine_after machine m (lines_read text c.loop-total.total)) (c.loop-total.invariant.next m stands text told_text) (part_read text c.loop-total.total) (taken ++ replies machine m (lines_read text c.loop-total.total))
    (c.loop-total.invariant.pending text told_text) (c.loop-total.invariant.written m stands text taken told_text told_taken))

pub returns-clause-long : goal.returns-clause-long
returns-clause-long g c = λ _ text told_text.
    let all : c.loop-total.total ≡ 1099511627776 = omega arith in
    rw (← all) (read_bytes text c.loop-total.total _ (c.loop-total.invariant.stands text told_text))

pub returns-clause-long_lines : goal.returns-clause-long_lines
returns-clause-long_lines g c = λ _ m stands text taken told_text told_taken.
    read_so_far g.A.Answerer.machine m text taken c.loop-total.total _ _ _
    (c.loop-total.invariant.stands text told_text) refl (c.loop-total.invariant.written m stands text taken told_text told_taken)
