use Rattle.std.specs.Prelude.{◌≡◌, ◌<◌, ◌≤◌, ◌*◌, ◌^◌, ℕ, ℤ, Option, Some, length, FitsSigned, refl}
use Rattle.std.proofs.Common.{arith, rules, ◌∙◌, ap, sym, subst, drop, get_or}
use Rattle.std.proofs.lemmas.Int.{to_z-of_z}
use Rattle.std.proofs.lemmas.List.{drop_all}
use mir.Syntax.{w128}
use Rattle.dbm_close.proofs.RoundLemmas.{AreWithin-more, IsWithin-more}
use Rattle.dbm_close.specs.Walks.{HasNegativeWalk}
use Rattle.dbm_core.proofs.HalfLemmas.{entry-coherent}
use Rattle.dbm_core.specs.Half.{HalfMatrix, entry, nodes}
use Rattle.dbm_core.specs.Limits.{AreWithin, IsWithin}
use Rattle.dbm_core.specs.Operations.{lowered}
use Rattle.dbm_incremental.specs.declared.bounds.Bound.{Bound}
use Rattle.dbm_incremental.proofs.AllLemmas.{IsLoweredSoFar, IsLoweredSoFar-next, negative-so_far, no_bound, rest-first, rest-next, step_bound, step_bound-least, step_bound-next, step_bound-room}
use Rattle.dbm_incremental.proofs.CloseLemmas.{close-from_entries, empty-from_entries, finish-answer, whole-weights}
use Rattle.dbm_incremental.specs.Steps.{lowered_all}
use Rattle.dbm_incremental.specs.Triangles.{AreSoundWeights}
use Rattle.dbm_incremental.proofs.bounds.close_after_bounds.Goals as goal

pub loop-bound-init : goal.loop-bound-init
loop-bound-init c =
    let e : c.in_ok-weights.weights ≡ c.args.closed.now = c.in_ok-weights.ensures.same in
    record {
      same_kinds = ap (λ (m : HalfMatrix). m.kinds) e;
      within = rw e (AreWithin-more (nodes c.args.closed.now) (2 ^ 64) (2 ^ 70) (entry c.args.closed.now) (omega arith) c.requires.within);
      rest = c.requires.bounds;
      so_far = (
        entry c.args.closed.now,
        record {
          coherent = entry-coherent c.args.closed.now c.kinds-slots.ensures.matrix;
          weights = rw e (whole-weights c.args.closed.now c.requires.closed c.requires.whole);
          left = refl;
        },
      );
    }

pub lower-requires-clause-within : goal.lower-requires-clause-within
lower-requires-clause-within c =
    let l : c.loop-bound.bound-index < length c.args.bounds.now = c.loop-bound-test.true in
    let f : length c.args.bounds.now ≤ 4 = c.requires.few in
    let r : step_bound c.loop-bound.bound-index ≤ 2 ^ 86 = step_bound-room c.loop-bound.bound-index (omega arith) in
    AreWithin-more (nodes c.loop-bound.weights) (step_bound c.loop-bound.bound-index) (2 ^ 96) (entry c.loop-bound.weights) (omega arith) c.loop-bound.invariant.within

pub lower-requires-clause-small : goal.lower-requires-clause-small
lower-requires-clause-small c =
    let b : Bound = get_or c.args.bounds.now c.loop-bound.bound-index no_bound in
    let g : FitsSigned w128 b.bound = search rules in
    let w : IsWithin (2 ^ 70) (Some b.bound) = (rest-first (nodes c.args.closed.now) c.args.bounds.now c.loop-bound.bound-index c.loop-bound-test.true c.loop-bound.invariant.rest).1.1 in
    rw (to_z-of_z w128 b.bound g) (IsWithin-more (2 ^ 70) (2 ^ 96) (Some b.bound) (omega arith) w)

pub returns-then-not-lower : goal.returns-then-not-lower
unfolding entry
returns-then-not-lower c =
    let b : Bound = get_or c.args.bounds.now c.loop-bound.bound-index no_bound in
    let g : FitsSigned w128 b.bound = search rules in
    let p : (w : ℕ → ℕ → Option ℤ) × IsLoweredSoFar (entry c.args.closed.now) (nodes c.args.closed.now) c.args.bounds.now (drop c.loop-bound.bound-index c.args.bounds.now) (entry c.loop-bound.weights) w = c.loop-bound.invariant.so_far in
    let z : HasNegativeWalk (lowered p.0 b.row b.column b.bound) (nodes c.args.closed.now) =
    (rw (to_z-of_z w128 b.bound g, c.loop-bound.invariant.same_kinds) at c.if-not-lower.ensures.lowered) p.0 p.1.coherent p.1.weights in
    record {
      closed = λ t h. empty-from_entries c.args.closed.now.kinds (lowered_all (entry c.args.closed.now) c.args.bounds.now) t h
          (negative-so_far (entry c.args.closed.now) (nodes c.args.closed.now) c.args.bounds.now c.loop-bound.bound-index (entry c.loop-bound.weights) p.0 c.loop-bound-test.true p.1 z);
      stays_closed = tt;
    }

pub loop-bound-preserved : goal.loop-bound-preserved
unfolding entry
loop-bound-preserved c =
    let b : Bound = get_or c.args.bounds.now c.loop-bound.bound-index no_bound in
    let g : FitsSigned w128 b.bound = search rules in
    let p : (w : ℕ → ℕ → Option ℤ) × IsLoweredSoFar (entry c.args.closed.now) (nodes c.args.closed.now) c.args.bounds.now (drop c.loop-bound.bound-index c.args.bounds.now) (entry c.loop-bound.weights) w = c.loop-bound.invariant.so_far in
    let q : AreSoundWeights (lowered p.0 b.row b.column b.bound) (nodes c.args.closed.now) (entry c.lower.new.weights) =
    (rw (to_z-of_z w128 b.bound g, c.loop-bound.invariant.same_kinds) at c.if-not-lower.ensures.lowered) p.0 p.1.coherent p.1.weights in
    let v : IsWithin (2 ^ 70) (Some b.bound) = (rest-first (nodes c.args.closed.now) c.args.bounds.now c.loop-bound.bound-index c.loop-bound-test.true c.loop-bound.invariant.rest).1.1 in
    let u : IsWithin (step_bound c.loop-bound.bound-index) (Some b.bound) = IsWithin-more (2 ^ 70) (step_bound c.loop-bound.bound-index) (Some b.bound) (step_bound-least c.loop-bound.bound-index) v in
    record {
      same_kinds = c.lower.ensures.same_kinds ∙ c.loop-bound.invariant.same_kinds;
      within = subst (λ n. AreWithin (nodes c.lower.new.weights) n (entry c.lower.new.weights)) (step_bound-next c.loop-bound.bound-index)
          ((rw (to_z-of_z w128 b.bound g) at c.if-not-lower.ensures.within) (step_bound c.loop-bound.bound-index) c.loop-bound.invariant.within u);
      rest = rest-next (nodes c.args.closed.now) c.args.bounds.now c.loop-bound.bound-index c.loop-bound-test.true c.loop-bound.invariant.rest;
      so_far = (lowered p.0 b.row b.column b.bound, IsLoweredSoFar-next (entry c.args.closed.now) (length c.args.closed.now.kinds) c.args.bounds.now c.loop-bound.bound-index (entry c.loop-bound.weights) (entry c.lower.new.weights) p.0 c.loop-bound-test.true p.1 q);
    }

pub finish-requires : goal.finish-requires
finish-requires c =
    let l : c.loop-bound.bound-index ≤ length c.args.bounds.now = c.loop-bound.auto.bound-index-end in
    let f : length c.args.bounds.now ≤ 4 = c.requires.few in
    let r : step_bound c.loop-bound.bound-index ≤ 2 ^ 86 = step_bound-room c.loop-bound.bound-index (omega arith) in
    record { within = AreWithin-more (nodes c.loop-bound.weights) (step_bound c.loop-bound.bound-index) (2 ^ 102) (entry c.loop-bound.weights) (omega arith) c.loop-bound.invariant.within }

pub returns : goal.returns
returns c =
    let p : (w : ℕ → ℕ → Option ℤ) × IsLoweredSoFar (entry c.args.closed.now) (nodes c.args.closed.now) c.args.bounds.now (drop c.loop-bound.bound-index c.args.bounds.now) (entry c.loop-bound.weights) w = c.loop-bound.invariant.so_far in
    let e : p.0 ≡ lowered_all (entry c.args.closed.now) c.args.bounds.now =
    ap (lowered_all p.0) (sym (drop_all c.loop-bound.bound-index c.args.bounds.now (omega arith))) ∙ p.1.left in
    record {
      closed = λ t h. close-from_entries c.args.closed.now.kinds (lowered_all (entry c.args.closed.now) c.args.bounds.now) c.loop-bound.weights t c.finish.result c.loop-bound.invariant.same_kinds h
          (subst (λ w. AreSoundWeights w (nodes c.args.closed.now) (entry c.loop-bound.weights)) e p.1.weights) c.finish.ensures.finish;
      stays_closed = finish-answer p.0 c.loop-bound.weights c.finish.result c.kinds-kinds.ensures.matrix
          (subst (λ n. AreSoundWeights p.0 n (entry c.loop-bound.weights)) (ap (λ x. 2 * length x) (sym c.loop-bound.invariant.same_kinds)) p.1.weights)
          c.finish.ensures.finish;
    }
