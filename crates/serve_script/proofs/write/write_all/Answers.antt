use Rattle.std.proofs.Common.{◌<◌, ◌-◌, ◌+◌, ◌++◌, ◌∙◌, Some, length, take, drop, sym, ap, arith, append-nil}
use Rattle.std.proofs.lemmas.List.{take_all, length-drop, take-append-drop}
use Rattle.serve_script.proofs.WriteLemmas.{took_more, rose_since}
use Rattle.serve_script.proofs.write.write_all.Goals as goal
use Rattle.base_values.proofs.Lists.{rest_whole}

pub loop-at-init : goal.loop-at-init
loop-at-init g c = record {
  within = omega arith;
  rises = omega arith;
  written = λ taken told. told ∙ ap Some (sym (append-nil taken));
}

pub loop-at-preserved : goal.loop-at-preserved
loop-at-preserved g c =
    let call = c.in-Ok.ensures {u = tt} in
    record {
      within = let bound = rw (rest_whole c.args.piece.now c.loop-at.at) at call.within in omega (arith, length-drop c.loop-at.at c.args.piece.now);
      rises = omega arith;
      written = λ taken told. took_more _ _ taken c.args.piece.now c.loop-at.at c.in-Ok.count (c.loop-at.invariant.written taken told) call.takes;
    }

pub returns-in_default-clause-prefix : goal.returns-in_default-clause-prefix
returns-in_default-clause-prefix g c = λ taken told. record {
  sent = take (c.loop-at.at + c.in-Ok.count) c.args.piece.now;
  unsent = drop (c.loop-at.at + c.in-Ok.count) c.args.piece.now;
  split = sym (take-append-drop (c.loop-at.at + c.in-Ok.count) c.args.piece.now);
  written = took_more _ _ taken c.args.piece.now c.loop-at.at c.in-Ok.count (c.loop-at.invariant.written taken told) (c.in-Ok.ensures {u = tt}).takes;
}

pub returns-in_default-clause-failed : goal.returns-in_default-clause-failed
returns-in_default-clause-failed g c =
    let some : 0 < length (take (length c.args.piece.now - c.loop-at.at) (drop c.loop-at.at c.args.piece.now)) = rw (rest_whole c.args.piece.now c.loop-at.at) (omega (arith, length-drop c.loop-at.at c.args.piece.now)) in
    rose_since _ _ _ c.loop-at.invariant.rises ((c.in-Ok.ensures {u = tt}).nothing_taken (omega arith) some)

pub returns-in_default-clause-never_falls : goal.returns-in_default-clause-never_falls
returns-in_default-clause-never_falls g c = omega arith

pub returns-in_default-2-clause-prefix : goal.returns-in_default-2-clause-prefix
returns-in_default-2-clause-prefix g c = λ taken told. record {
  sent = take c.loop-at.at c.args.piece.now;
  unsent = drop c.loop-at.at c.args.piece.now;
  split = sym (take-append-drop c.loop-at.at c.args.piece.now);
  written = c.in_default.ensures.takes ∙ c.loop-at.invariant.written taken told;
}

pub returns-in_default-2-clause-failed : goal.returns-in_default-2-clause-failed
returns-in_default-2-clause-failed g c = rose_since _ _ _ c.loop-at.invariant.rises c.in_default.ensures.failed

pub returns-clause-written : goal.returns-clause-written
returns-clause-written g c = λ taken told. c.loop-at.invariant.written taken told ∙ ap (λ xs. Some (taken ++ xs)) (take_all _ _ (omega arith))
