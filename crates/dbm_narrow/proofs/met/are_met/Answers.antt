use Rattle.std.specs.Prelude.{◌≡◌, ◌*◌, ◌≤ℤ◌, ℕ, ℤ, neg_ℤ, pos, Option, FitsSigned, length, refl}
use Rattle.std.proofs.Common.{arith, rules, ◌∙◌, ap, sym, subst, drop, get_or}
use Rattle.std.proofs.lemmas.Int.{ints, to_z-of_z}
use Rattle.std.proofs.lemmas.List.{drop_all}
use mir.Syntax.{w128}
use Rattle.dbm_core.proofs.HalfLemmas.{entry-coherent}
use Rattle.dbm_core.specs.Half.{entry}
use Rattle.dbm_core.specs.Operations.{lowered}
use Rattle.dbm_incremental.proofs.AllLemmas.{IsLoweredSoFar, IsLoweredSoFar-next, no_bound, rest-first, rest-next}
use Rattle.dbm_incremental.proofs.TriangleLemmas.{own-weights}
use Rattle.dbm_incremental.specs.declared.bounds.Bound.{Bound}
use Rattle.dbm_incremental.specs.Steps.{lowered_all}
use Rattle.dbm_incremental.specs.Triangles.{AreSoundWeights}
use Rattle.dbm_narrow.proofs.LowerLemmas.{lowers-kept}
use Rattle.dbm_narrow.proofs.RoundLemmas.{narrow-size}
use Rattle.dbm_narrow.specs.Entries.{held, pair_at}
use Rattle.dbm_narrow.specs.Lowerings.{LowersTo}
use Rattle.dbm_narrow.proofs.met.are_met.Goals as goal

pub loop-bound-init : goal.loop-bound-init
loop-bound-init gen c = record {
  rest = c.requires.bounds;
  so_far = (
    entry (held gen.W.Width.unit c.args.kinds.now c.args.entries.now),
    record {
      coherent = entry-coherent (held gen.W.Width.unit c.args.kinds.now c.args.entries.now) c.requires.narrow.matrix;
      weights = own-weights (entry (held gen.W.Width.unit c.args.kinds.now c.args.entries.now)) (2 * length c.args.kinds.now) c.requires.weights.diagonal c.requires.weights.triangles;
      left = refl;
    },
  );
}

pub entry_at-current-requires-clause-row : goal.entry_at-current-requires-clause-row
entry_at-current-requires-clause-row gen c = (rest-first (2 * length c.args.kinds.now) c.args.bounds.now c.loop-bound.bound-index c.loop-bound-test.true c.loop-bound.invariant.rest).0

pub entry_at-current-requires-clause-column : goal.entry_at-current-requires-clause-column
entry_at-current-requires-clause-column gen c = (rest-first (2 * length c.args.kinds.now) c.args.bounds.now c.loop-bound.bound-index c.loop-bound-test.true c.loop-bound.invariant.rest).1.0

pub entry_at-current-requires-clause-size : goal.entry_at-current-requires-clause-size
entry_at-current-requires-clause-size gen c = narrow-size gen.W.Width.unit gen.W.Width.positive c.args.kinds.now c.args.entries.now c.requires.narrow

pub loop-bound-preserved : goal.loop-bound-preserved
loop-bound-preserved gen c =
    let b : Bound = get_or c.args.bounds.now c.loop-bound.bound-index no_bound in
    let g : FitsSigned w128 b.bound = search rules in
    let s : c.in-Some.small ≡ b.bound = c.in-Some.ensures.small.0 ∙ to_z-of_z w128 b.bound g in
    let low : neg_ℤ (pos (2 * gen.W.Width.unit)) ≤ℤ b.bound = subst (λ x. neg_ℤ (pos (2 * gen.W.Width.unit)) ≤ℤ x) s c.in-Some.ensures.small.1.0 in
    let high : b.bound ≤ℤ pos (2 * gen.W.Width.unit) = subst (λ x. x ≤ℤ pos (2 * gen.W.Width.unit)) s c.in-Some.ensures.small.1.1 in
    let h : c.entry_at-current.result ≤ℤ c.in-Some.small = grind (arith, ints) in
    let m : pair_at gen.W.Width.unit c.args.entries.now b.row b.column ≤ℤ b.bound = subst (λ x. pair_at gen.W.Width.unit c.args.entries.now b.row b.column ≤ℤ x) s (subst (λ x. x ≤ℤ c.in-Some.small) c.entry_at-current.ensures.entry h) in
    let p : (w : ℕ → ℕ → Option ℤ) × IsLoweredSoFar (entry (held gen.W.Width.unit c.args.kinds.now c.args.entries.now)) (2 * length c.args.kinds.now) c.args.bounds.now (drop c.loop-bound.bound-index c.args.bounds.now) (entry (held gen.W.Width.unit c.args.kinds.now c.args.entries.now)) w = c.loop-bound.invariant.so_far in
    let q : LowersTo gen.W.Width.unit c.args.kinds.now c.args.entries.now c.args.entries.now b.row b.column b.bound = lowers-kept gen.W.Width.unit gen.W.Width.positive c.args.kinds.now c.args.entries.now b.row b.column b.bound c.requires.narrow
    (rest-first (2 * length c.args.kinds.now) c.args.bounds.now c.loop-bound.bound-index c.loop-bound-test.true c.loop-bound.invariant.rest).0
    (rest-first (2 * length c.args.kinds.now) c.args.bounds.now c.loop-bound.bound-index c.loop-bound-test.true c.loop-bound.invariant.rest).1.0 low high c.requires.weights m in
    record {
      rest = rest-next (2 * length c.args.kinds.now) c.args.bounds.now c.loop-bound.bound-index c.loop-bound-test.true c.loop-bound.invariant.rest;
      so_far = (
        lowered p.0 b.row b.column b.bound,
        IsLoweredSoFar-next (entry (held gen.W.Width.unit c.args.kinds.now c.args.entries.now)) (length c.args.kinds.now) c.args.bounds.now c.loop-bound.bound-index (entry (held gen.W.Width.unit c.args.kinds.now c.args.entries.now)) (entry (held gen.W.Width.unit c.args.kinds.now c.args.entries.now)) p.0 c.loop-bound-test.true p.1 (q.weights p.0 p.1.coherent p.1.weights),
      );
    }

pub returns : goal.returns
returns gen c =
    let p : (w : ℕ → ℕ → Option ℤ) × IsLoweredSoFar (entry (held gen.W.Width.unit c.args.kinds.now c.args.entries.now)) (2 * length c.args.kinds.now) c.args.bounds.now (drop c.loop-bound.bound-index c.args.bounds.now) (entry (held gen.W.Width.unit c.args.kinds.now c.args.entries.now)) w = c.loop-bound.invariant.so_far in
    let e : p.0 ≡ lowered_all (entry (held gen.W.Width.unit c.args.kinds.now c.args.entries.now)) c.args.bounds.now =
    ap (lowered_all p.0) (sym (drop_all c.loop-bound.bound-index c.args.bounds.now (omega arith))) ∙ p.1.left in
    record {
      met = λ t. record { narrow = c.requires.narrow; weights = subst (λ w. AreSoundWeights w (2 * length c.args.kinds.now) (entry (held gen.W.Width.unit c.args.kinds.now c.args.entries.now))) e p.1.weights };
    }
