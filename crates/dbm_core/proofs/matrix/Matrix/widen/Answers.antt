use Rattle.std.specs.Prelude.{IfOk, ◌≡◌, ◌<◌, ◌⊎◌, ◌^◌}
use Rattle.std.proofs.Common.{length, ap}
use Rattle.dbm_core.proofs.HalfLemmas.{entries-if_ok}
use Rattle.dbm_core.proofs.LimitLemmas.{IsLimited-widened, widened-above_left, widened-above_right}
use Rattle.dbm_core.proofs.OperationLemmas.{widened-coherent}
use Rattle.dbm_core.proofs.RisesLemmas.{rises-widened, rises-few}
use Rattle.dbm_core.proofs.ValuationLemmas.{entries-if_ok-then, both_if_ok, Covers-entries, Covers-other}
use Rattle.dbm_core.specs.Half.{HasEntries, nodes}
use Rattle.dbm_core.specs.Limits.{IsLimited}
use Rattle.dbm_core.specs.Operations.{widened}
use Rattle.dbm_core.specs.Rises.{rises}
use Rattle.dbm_core.specs.Valuations.{Covers}
use Rattle.dbm_core.proofs.matrix.Matrix.widen.Goals as goal

pub returns : goal.returns
returns c =
    let h : IfOk c.from_fn.result (HasEntries c.args.self.now.kinds (widened c.args.thresholds.now c.args.self.now c.args.other.now)) =
    entries-if_ok c.from_fn.result c.args.self.now.kinds (widened c.args.thresholds.now c.args.self.now c.args.other.now)
    (widened-coherent c.args.thresholds.now c.args.self.now c.args.other.now c.kinds-kinds.ensures.matrix c.kinds-slots.ensures.matrix (ap length c.requires.same_kinds))
    c.from_fn.ensures.matrix (rw c.kinds-kinds.ensures.value at c.from_fn.ensures.same_kinds)
    (entries-if_ok-then _ _ c.from_fn.result (λ m p i j hi w. (p i j hi w).0) (rw c.kinds-kinds.ensures.value at c.from_fn.ensures.kept)) in
    record {
      entries = h;
      covers_left = entries-if_ok-then (HasEntries c.args.self.now.kinds (widened c.args.thresholds.now c.args.self.now c.args.other.now)) (Covers c.args.self.now) c.from_fn.result
          (λ m. Covers-entries c.args.self.now (widened c.args.thresholds.now c.args.self.now c.args.other.now) m (widened-above_left c.args.thresholds.now c.args.self.now c.args.other.now (nodes c.args.self.now))) h;
      covers_right = entries-if_ok-then (HasEntries c.args.self.now.kinds (widened c.args.thresholds.now c.args.self.now c.args.other.now)) (Covers c.args.other.now) c.from_fn.result
          (λ m. Covers-other c.args.self.now.kinds c.args.other.now (widened c.args.thresholds.now c.args.self.now c.args.other.now) m c.requires.same_kinds (widened-above_right c.args.thresholds.now c.args.self.now c.args.other.now (nodes c.args.other.now))) h;
      limited = λ p q. both_if_ok (HasEntries c.args.self.now.kinds (widened c.args.thresholds.now c.args.self.now c.args.other.now)) _ (IsLimited (2 ^ 64)) c.from_fn.result
          (λ m e w. IsLimited-widened c.args.thresholds.now c.args.self.now c.args.other.now m c.requires.same_kinds p q e (λ i j hi wj. (w i j hi wj).1)) h
          (rw c.kinds-kinds.ensures.value at c.from_fn.ensures.kept);
      rises = entries-if_ok-then (HasEntries c.args.self.now.kinds (widened c.args.thresholds.now c.args.self.now c.args.other.now))
          (λ m. (m ≡ c.args.self.now) ⊎ (rises c.args.thresholds.now m < rises c.args.thresholds.now c.args.self.now)) c.from_fn.result
          (λ m. rises-widened c.args.thresholds.now c.args.self.now c.args.other.now m c.kinds-kinds.ensures.matrix) h;
      few_rises = rises-few c.args.thresholds.now c.args.self.now;
    }
