use Rattle.std.specs.Prelude.{IfOk, ℕ, ℤ, ◌*◌}
use Rattle.std.proofs.Common.{length}
use Rattle.dbm_core.proofs.HalfLemmas.{entries-if_ok}
use Rattle.dbm_core.proofs.LimitLemmas.{IsLimited-entries, unbounded-diagonal, unbounded-within}
use Rattle.dbm_core.proofs.OperationLemmas.{unbounded-coherent}
use Rattle.dbm_core.proofs.ValuationLemmas.{entries-if_ok-then, Meets-entries, unbounded-meets}
use Rattle.dbm_core.specs.Half.{HasEntries}
use Rattle.dbm_core.specs.Limits.{IsLimited}
use Rattle.dbm_core.specs.Operations.{unbounded}
use Rattle.dbm_core.specs.Valuations.{IsSatisfiedBy}
use Rattle.dbm_core.proofs.matrix.Matrix.new.Goals as goal

pub returns : goal.returns
returns c =
    let h : IfOk c.from_fn.result (HasEntries c.args.arrays.now unbounded) =
    entries-if_ok c.from_fn.result c.args.arrays.now unbounded (unbounded-coherent (2 * length c.args.arrays.now)) c.from_fn.ensures.matrix c.from_fn.ensures.same_kinds
    c.from_fn.ensures.kept in
    record {
      entries = h;
      limited = entries-if_ok-then (HasEntries c.args.arrays.now unbounded) (IsLimited 0) c.from_fn.result
          (λ m p. IsLimited-entries c.args.arrays.now unbounded m 0 (unbounded-diagonal (2 * length c.args.arrays.now)) (unbounded-within (2 * length c.args.arrays.now)) p) h;
      free = entries-if_ok-then (HasEntries c.args.arrays.now unbounded) (λ m. (x : ℕ → ℤ) → IsSatisfiedBy m x) c.from_fn.result
          (λ m p x. Meets-entries c.args.arrays.now unbounded m x p (unbounded-meets (2 * length c.args.arrays.now) x)) h;
    }
