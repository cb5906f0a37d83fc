use Rattle.std.proofs.Common.{[], ◌∷◌, ◌++◌, ap, ◌∙◌, sym, arith}
use Rattle.base_sets.proofs.Below.{zero_word, full_bit, next_bit, next_none}
use Rattle.why_slice.proofs.Listed.{small_bit}
use Rattle.why_slice.proofs.statements.push_word.Goals as goal
use Rattle.why_slice.proofs.statements.push_word.Goals.{then-word-bit-eq1+in_ok-push, else-word-bit-eq1}

pub returns-then-word-eq0 : goal.returns-then-word-eq0
returns-then-word-eq0 c = record { below = c.requires.below ∙ sym (zero_word c.args.words.now c.args.place c.if-word-eq0.true) }

pub overflow_cast-place : goal.overflow_cast-place
overflow_cast-place c =
    let t = full_bit c.args.words.now c.args.place c.all.bit c.all-test.true c.if-word.true in
    let l = small_bit c.args.words.now c.args.place c.all.bit c.requires.small c.all-test.true t in
    omega (arith, l)

pub all-preserved : goal.all-preserved
all-preserved c =
    let t = full_bit c.args.words.now c.args.place c.all.bit c.all-test.true c.if-word.true in (
      next_bit c.args.words.now c.all.stmts.items c.push_reserved.new.self.items c.args.place c.all.bit c.all-test.true t c.all.invariant.0
          (c.push_reserved.ensures.items ∙ ap (λ n. c.all.stmts.items ++ n ∷ []) c.new.ensures.is),
      omega (arith, c.all.invariant.1, c.push_reserved.ensures.len, c.push_reserved.ensures.capacity),
    )

pub overflow_cast-place-then-word-bit-eq1 : goal.overflow_cast-place-then-word-bit-eq1
overflow_cast-place-then-word-bit-eq1 c =
    let l = small_bit c.args.words.now c.args.place c.some.bit c.requires.small c.some-test.true c.if-word-bit-eq1.true in
    omega (arith, l)

pub some-preserved : goal.some-preserved
some-preserved c =
    elim c.if-word-bit-eq1.branch [
      | then-word-bit-eq1+in_ok-push w ↦
          next_bit c.args.words.now c.some.stmts.items c.if-word-bit-eq1.stmts.items c.args.place c.some.bit c.some-test.true w.if-word-bit-eq1.true c.some.invariant (ap (λ v. v.items) w.stmts-is ∙ w.in_ok-push.ensures.items ∙ ap (λ n. c.some.stmts.items ++ n ∷ []) w.new-then-word-bit-eq1.ensures.is)
      | else-word-bit-eq1 w ↦ ap (λ v. v.items) w.stmts-is ∙ next_none c.args.words.now c.some.stmts.items c.args.place c.some.bit c.some-test.true w.if-word-bit-eq1.false c.some.invariant
    ]
