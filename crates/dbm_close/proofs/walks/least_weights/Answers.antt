use Rattle.std.proofs.Common.{arith, ◌≡◌, ◌*◌, ap, sym, ◌∙◌, subst, length}
use Rattle.dbm_close.proofs.RoundLemmas.{HasLeastWeights-last, IsRounded, IsRounded-first, IsRounded-next, IsRounded-room, negative-from_diagonal, negative-from_rounded}
use Rattle.dbm_close.specs.Rounds.{IsDiagonalNegative, IsDiagonalSound}
use Rattle.dbm_core.specs.Half.{entry, nodes}
use Rattle.dbm_close.proofs.walks.least_weights.Goals as goal

pub loop-q-init : goal.loop-q-init
loop-q-init c = subst (λ s. IsRounded c.args.m.now s 0) (sym c.in_ok-current.ensures.same) (IsRounded-first c.args.m.now c.kinds-slots.ensures.matrix c.requires.within)

pub is_slot_negative-requires-clause-within : goal.is_slot_negative-requires-clause-within
is_slot_negative-requires-clause-within c = IsRounded-room c.args.m.now c.loop-q.current c.loop-q.q c.loop-q.invariant (omega (arith, c.kinds-slots.ensures.matrix.few, ap length c.kinds-slots.ensures.value))

pub returns-then-is_slot_negative : goal.returns-then-is_slot_negative
returns-then-is_slot_negative c = record { weights = negative-from_rounded c.args.m.now c.loop-q.current c.loop-q.q (omega (arith, ap length c.kinds-slots.ensures.value)) c.loop-q.invariant c.if-is_slot_negative.ensures.negative }

pub round-requires-clause-within : goal.round-requires-clause-within
round-requires-clause-within c = IsRounded-room c.args.m.now c.loop-q.current c.loop-q.q c.loop-q.invariant (omega (arith, c.kinds-slots.ensures.matrix.few, ap length c.kinds-slots.ensures.value))

pub loop-q-preserved : goal.loop-q-preserved
loop-q-preserved c =
    let e : length c.loop-q.current.kinds ≡ length c.args.m.now.kinds = ap length c.loop-q.invariant.same_kinds in
    IsRounded-next c.args.m.now c.loop-q.current c.round.new.d c.loop-q.q (omega (arith, ap length c.kinds-slots.ensures.value)) c.kinds-slots.ensures.matrix c.loop-q.invariant
    c.round.ensures.matrix (c.round.ensures.same_kinds ∙ c.loop-q.invariant.same_kinds) c.if-is_slot_negative.ensures.negative
    (λ i j hi w. c.round.ensures.kept i j (omega arith) w)

pub returns-then-is_diagonal_negative : goal.returns-then-is_diagonal_negative
returns-then-is_diagonal_negative c =
    let k : c.loop-q.q ≡ length c.args.m.now.kinds = omega (arith, ap length c.kinds-slots.ensures.value) in
    let e : nodes c.loop-q.current ≡ nodes c.args.m.now = ap (λ k. 2 * length k) c.loop-q.invariant.same_kinds in
    record {
      weights = negative-from_diagonal c.args.m.now c.loop-q.current (subst (IsRounded c.args.m.now c.loop-q.current) k c.loop-q.invariant)
          (subst (λ n. IsDiagonalNegative n (entry c.loop-q.current)) e c.if-is_diagonal_negative.ensures.negative);
    }

pub returns : goal.returns
returns c =
    let k : c.loop-q.q ≡ length c.args.m.now.kinds = omega (arith, ap length c.kinds-slots.ensures.value) in
    let e : nodes c.loop-q.current ≡ nodes c.args.m.now = ap (λ k. 2 * length k) c.loop-q.invariant.same_kinds in
    record {
      weights = HasLeastWeights-last c.args.m.now c.loop-q.current c.requires.diagonal c.kinds-slots.ensures.matrix.few (subst (IsRounded c.args.m.now c.loop-q.current) k c.loop-q.invariant)
          (subst (λ n. IsDiagonalSound n (entry c.loop-q.current)) e c.if-is_diagonal_negative.ensures.negative);
    }
