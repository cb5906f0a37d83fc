use Rattle.std.proofs.Common.{◌+◌, ◌++◌, ◌∙◌, [], ◌∷◌, Some, suc, length, take, drop, slice_index_or, ap, refl, arith}
use Rattle.serve_script.specs.Lines.{whole_lines, last_part, kept}
use Rattle.serve_script.specs.Replies.{replies, machine_after}
use Rattle.serve_script.proofs.LastLemmas.{fewer}
use Rattle.serve_script.proofs.LineLemmas.{lines_around, prefix_behind, lines_behind, replies_behind, holds_behind, part_more, lines_more}
use Rattle.serve_script.proofs.read.answer_block.Goals as goal

pub answer_byte-requires : goal.answer_byte-requires
answer_byte-requires g c = record {
  lasts = c.loop-byte.invariant.lasts 1 (fewer (length c.args.block.now) (c.loop-byte.byte-index + 1) (omega arith) c.requires.lasts);
}

pub returns-clause-lasts : goal.returns-clause-lasts
returns-clause-lasts g c = λ n for. c.loop-byte.invariant.lasts n (fewer (length c.args.block.now + n) (c.loop-byte.byte-index + n) (omega arith) for)

pub returns-in-Err-clause-prefix : goal.returns-in-Err-clause-prefix
returns-in-Err-clause-prefix g c = λ sink m stands part taken is told.
    let machine = g.A.Answerer.machine in
    let block = c.args.block.now in
    let i = c.loop-byte.byte-index in
    let b = slice_index_or block i 0 in
    let before = whole_lines part (take i block) in
    let pending = last_part part (take i block) in
    prefix_behind machine m before (whole_lines pending (b ∷ [])) (whole_lines (last_part pending (b ∷ [])) (drop (i + 1) block)) (whole_lines part block) taken _
    (lines_around part pending block i b c.loop-byte-test.true refl refl)
    ((c.in-Err.ensures {u = tt}).prefix sink (machine_after machine m before) (c.loop-byte.invariant.next m stands part is) pending (taken ++ replies machine m before)
    (c.loop-byte.invariant.pending part is) (c.loop-byte.invariant.written m stands part taken is told))

pub returns-in-Err-clause-lines : goal.returns-in-Err-clause-lines
returns-in-Err-clause-lines g c = λ memory m stands part taken is told.
    let machine = g.A.Answerer.machine in
    let block = c.args.block.now in
    let i = c.loop-byte.byte-index in
    let b = slice_index_or block i 0 in
    let before = whole_lines part (take i block) in
    let pending = last_part part (take i block) in
    lines_behind machine m before (whole_lines pending (b ∷ [])) (whole_lines (last_part pending (b ∷ [])) (drop (i + 1) block)) (whole_lines part block) taken _
    (lines_around part pending block i b c.loop-byte-test.true refl refl)
    ((c.in-Err.ensures {u = tt}).lines memory (machine_after machine m before) (c.loop-byte.invariant.next m stands part is) pending (taken ++ replies machine m before)
    (c.loop-byte.invariant.pending part is) (c.loop-byte.invariant.written m stands part taken is told))

pub loop-byte-preserved : goal.loop-byte-preserved
loop-byte-preserved g c =
    let machine = g.A.Answerer.machine in
    let block = c.args.block.now in
    let i = c.loop-byte.byte-index in
    let b = slice_index_or block i 0 in
    let call = c.in-Ok.ensures {u = tt} in
    record {
      pending = λ part is. call.pending (last_part part (take i block)) (c.loop-byte.invariant.pending part is) ∙ ap kept (part_more part (last_part part (take i block)) block i b c.loop-byte-test.true refl refl);
      next = λ m stands part is.
          holds_behind machine (g.A.Answerer.stands _) m (whole_lines part (take i block)) (whole_lines (last_part part (take i block)) (b ∷ [])) (whole_lines part (take (i + 1) block))
          (lines_more part (last_part part (take i block)) block i b c.loop-byte-test.true refl refl)
          (call.next (machine_after machine m (whole_lines part (take i block))) (c.loop-byte.invariant.next m stands part is) (last_part part (take i block)) (c.loop-byte.invariant.pending part is));
      lasts = λ n for. call.lasts n (c.loop-byte.invariant.lasts (suc n) (fewer (i + 1 + n) (i + suc n) (omega arith) for));
      rises = omega arith;
      written = λ m stands part taken is told.
          call.written (machine_after machine m (whole_lines part (take i block))) (c.loop-byte.invariant.next m stands part is) (last_part part (take i block)) (taken ++ replies machine m (whole_lines part (take i block)))
          (c.loop-byte.invariant.pending part is) (c.loop-byte.invariant.written m stands part taken is told)
          ∙ ap Some (replies_behind machine m (whole_lines part (take i block)) (whole_lines (last_part part (take i block)) (b ∷ [])) taken
          ∙ ap (λ ls. taken ++ replies machine m ls) (lines_more part (last_part part (take i block)) block i b c.loop-byte-test.true refl refl));
    }
