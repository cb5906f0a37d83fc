use Rattle.std.specs.Prelude.{◌≡◌, ◌*◌, ◌^◌, ℕ, ℤ, Option, Some, length, refl}
use Rattle.std.proofs.Common.{FitsSigned, arith, rules, ◌∙◌, ap, sym, subst, drop, get_or}
use Rattle.std.proofs.lemmas.List.{drop_all}
use Rattle.dbm_core.proofs.HalfLemmas.{entry-coherent}
use Rattle.dbm_core.specs.Half.{entry}
use Rattle.dbm_core.specs.Limits.{IsWithin}
use Rattle.dbm_core.specs.Operations.{lowered}
use Rattle.dbm_incremental.specs.declared.bounds.Bound.{Bound}
use Rattle.dbm_incremental.proofs.AllLemmas.{IsLoweredSoFar, IsLoweredSoFar-next, negative-so_far, no_bound, rest-first, rest-next}
use Rattle.dbm_incremental.proofs.TriangleLemmas.{own-weights}
use Rattle.dbm_incremental.specs.Steps.{lowered_all}
use Rattle.dbm_incremental.specs.Triangles.{AreSoundWeights}
use Rattle.std.proofs.lemmas.Int.{to_z-of_z}
use mir.Syntax.{w128}
use Rattle.dbm_narrow.proofs.EntryLemmas.{entry-more}
use Rattle.dbm_narrow.proofs.GrowthLemmas.{has_room, seven-times, small-checked}
use Rattle.dbm_narrow.specs.Entries.{AreEntries, at, held}
use Rattle.dbm_narrow.specs.Lowerings.{LowersNegative, LowersTo}
use Rattle.dbm_narrow.proofs.adding.lower_all.Goals as goal

pub loop-bound-init : goal.loop-bound-init
loop-bound-init gen c = record {
  narrow = c.requires.narrow;
  own = c.requires.weights;
  rest = c.requires.bounds;
  so_far = (
    entry (held gen.W.Width.unit c.args.kinds.now c.args.entries.now),
    record {
      coherent = entry-coherent (held gen.W.Width.unit c.args.kinds.now c.args.entries.now) c.requires.narrow.matrix;
      weights = own-weights (entry (held gen.W.Width.unit c.args.kinds.now c.args.entries.now)) (2 * length c.args.kinds.now) c.requires.weights.diagonal c.requires.weights.triangles;
      left = refl;
    },
  );
  within = λ e k. entry-more gen.W.Width.unit gen.W.Width.positive (2 ^ 64) (2 ^ 70) (at gen.W.Width.unit c.args.entries.now k) (omega arith) (c.requires.within k);
}

pub lower-requires-clause-row : goal.lower-requires-clause-row
lower-requires-clause-row gen c = (rest-first (2 * length c.args.kinds.now) c.args.bounds.now c.loop-bound.bound-index c.loop-bound-test.true c.loop-bound.invariant.rest).0

pub lower-requires-clause-column : goal.lower-requires-clause-column
lower-requires-clause-column gen c = (rest-first (2 * length c.args.kinds.now) c.args.bounds.now c.loop-bound.bound-index c.loop-bound-test.true c.loop-bound.invariant.rest).1.0

pub lower-requires-clause-room : goal.lower-requires-clause-room
lower-requires-clause-room gen c = λ e.
    let b : Bound = get_or c.args.bounds.now c.loop-bound.bound-index no_bound in
    let g : FitsSigned w128 b.bound = search rules in
    let s : c.in-Some.small ≡ b.bound = c.in-Some.ensures.small.0 ∙ to_z-of_z w128 b.bound g in
    let r : IsWithin (2 ^ 70) (Some b.bound) = (rest-first (2 * length c.args.kinds.now) c.args.bounds.now c.loop-bound.bound-index c.loop-bound-test.true c.loop-bound.invariant.rest).1.1 in
    (2 ^ 70 * 7 ^ c.loop-bound.bound-index, has_room gen.W.Width.unit gen.W.Width.positive (gen.W.Width.roomy e) c.loop-bound.bound-index (omega (arith, c.requires.few)) c.loop-bound.entries c.in-Some.small (c.loop-bound.invariant.within e) (subst (λ x. IsWithin (2 ^ 70) (Some x)) (sym s) r))

pub loop-bound-preserved : goal.loop-bound-preserved
loop-bound-preserved gen c =
    let b : Bound = get_or c.args.bounds.now c.loop-bound.bound-index no_bound in
    let g : FitsSigned w128 b.bound = search rules in
    let s : c.in-Some.small ≡ b.bound = c.in-Some.ensures.small.0 ∙ to_z-of_z w128 b.bound g in
    let p : (w : ℕ → ℕ → Option ℤ) × IsLoweredSoFar (entry (held gen.W.Width.unit c.args.kinds.now c.args.entries.now)) (2 * length c.args.kinds.now) c.args.bounds.now (drop c.loop-bound.bound-index c.args.bounds.now) (entry (held gen.W.Width.unit c.args.kinds.now c.loop-bound.entries)) w = c.loop-bound.invariant.so_far in
    let q : LowersTo gen.W.Width.unit c.args.kinds.now c.loop-bound.entries c.lower.new.entries b.row b.column b.bound = subst (λ x. LowersTo gen.W.Width.unit c.args.kinds.now c.loop-bound.entries c.lower.new.entries b.row b.column x) s c.in-Done.ensures.lowering in
    record {
      narrow = q.narrow;
      own = q.own;
      rest = rest-next (2 * length c.args.kinds.now) c.args.bounds.now c.loop-bound.bound-index c.loop-bound-test.true c.loop-bound.invariant.rest;
      so_far = (
        lowered p.0 b.row b.column b.bound,
        IsLoweredSoFar-next (entry (held gen.W.Width.unit c.args.kinds.now c.args.entries.now)) (length c.args.kinds.now) c.args.bounds.now c.loop-bound.bound-index (entry (held gen.W.Width.unit c.args.kinds.now c.loop-bound.entries)) (entry (held gen.W.Width.unit c.args.kinds.now c.lower.new.entries)) p.0 c.loop-bound-test.true p.1 (q.weights p.0 p.1.coherent p.1.weights),
      );
      within = λ e.
          (let r : IsWithin (2 ^ 70) (Some b.bound) = (rest-first (2 * length c.args.kinds.now) c.args.bounds.now c.loop-bound.bound-index c.loop-bound-test.true c.loop-bound.invariant.rest).1.1 in
          subst (λ n. AreEntries gen.W.Width.unit n c.lower.new.entries) (seven-times c.loop-bound.bound-index)
          (c.in-Done.ensures.within e (2 ^ 70 * 7 ^ c.loop-bound.bound-index) (has_room gen.W.Width.unit gen.W.Width.positive (gen.W.Width.roomy e) c.loop-bound.bound-index (omega (arith, c.requires.few)) c.loop-bound.entries c.in-Some.small (c.loop-bound.invariant.within e) (subst (λ x. IsWithin (2 ^ 70) (Some x)) (sym s) r))));
    }

pub returns-in-Negative : goal.returns-in-Negative
returns-in-Negative gen c =
    let b : Bound = get_or c.args.bounds.now c.loop-bound.bound-index no_bound in
    let g : FitsSigned w128 b.bound = search rules in
    let s : c.in-Some.small ≡ b.bound = c.in-Some.ensures.small.0 ∙ to_z-of_z w128 b.bound g in
    let p : (w : ℕ → ℕ → Option ℤ) × IsLoweredSoFar (entry (held gen.W.Width.unit c.args.kinds.now c.args.entries.now)) (2 * length c.args.kinds.now) c.args.bounds.now (drop c.loop-bound.bound-index c.args.bounds.now) (entry (held gen.W.Width.unit c.args.kinds.now c.loop-bound.entries)) w = c.loop-bound.invariant.so_far in
    let q : LowersNegative gen.W.Width.unit c.args.kinds.now c.loop-bound.entries b.row b.column b.bound = subst (λ x. LowersNegative gen.W.Width.unit c.args.kinds.now c.loop-bound.entries b.row b.column x) s c.in-Negative.ensures.lowering in
    record { lowered = negative-so_far (entry (held gen.W.Width.unit c.args.kinds.now c.args.entries.now)) (2 * length c.args.kinds.now) c.args.bounds.now c.loop-bound.bound-index (entry (held gen.W.Width.unit c.args.kinds.now c.loop-bound.entries)) p.0 c.loop-bound-test.true p.1 (q p.0 p.1.coherent p.1.weights); total = tt }

pub returns : goal.returns
returns gen c =
    let p : (w : ℕ → ℕ → Option ℤ) × IsLoweredSoFar (entry (held gen.W.Width.unit c.args.kinds.now c.args.entries.now)) (2 * length c.args.kinds.now) c.args.bounds.now (drop c.loop-bound.bound-index c.args.bounds.now) (entry (held gen.W.Width.unit c.args.kinds.now c.loop-bound.entries)) w = c.loop-bound.invariant.so_far in
    let e : p.0 ≡ lowered_all (entry (held gen.W.Width.unit c.args.kinds.now c.args.entries.now)) c.args.bounds.now =
    ap (lowered_all p.0) (sym (drop_all c.loop-bound.bound-index c.args.bounds.now (omega arith))) ∙ p.1.left in
    record {
      lowered = record { narrow = c.loop-bound.invariant.narrow; weights = subst (λ w. AreSoundWeights w (2 * length c.args.kinds.now) (entry (held gen.W.Width.unit c.args.kinds.now c.loop-bound.entries))) e p.1.weights };
      total = tt;
    }

pub returns-in-None : goal.returns-in-None
returns-in-None gen c =
    let b : Bound = get_or c.args.bounds.now c.loop-bound.bound-index no_bound in
    let g : FitsSigned w128 b.bound = search rules in
    record {
      lowered = tt;
      total = small-checked gen.W.Width.unit gen.W.Width.positive gen.W.Width.checked gen.W.Width.roomy b.bound
          (rest-first (2 * length c.args.kinds.now) c.args.bounds.now c.loop-bound.bound-index c.loop-bound-test.true c.loop-bound.invariant.rest).1.1
          (subst (λ x. IsWithin (2 * gen.W.Width.unit) (Some x) → ⊥) (to_z-of_z w128 b.bound g) c.in-None.ensures.small);
    }
