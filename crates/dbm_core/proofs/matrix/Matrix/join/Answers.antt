use Rattle.std.specs.Prelude.{IfOk}
use Rattle.std.proofs.Common.{length, ap}
use Rattle.dbm_core.proofs.HalfLemmas.{entries-if_ok}
use Rattle.dbm_core.proofs.LimitLemmas.{IsLimited-entries, IsLimited-of, joined-above_left, joined-above_right, joined-diagonal, joined-within}
use Rattle.dbm_core.proofs.OperationLemmas.{joined-coherent}
use Rattle.dbm_core.proofs.ValuationLemmas.{entries-if_ok-then, Covers-entries, Covers-other}
use Rattle.dbm_core.specs.Half.{HasEntries, nodes}
use Rattle.dbm_core.specs.Limits.{IsLimited}
use Rattle.dbm_core.specs.Operations.{joined}
use Rattle.dbm_core.specs.Valuations.{Covers}
use Rattle.dbm_core.proofs.matrix.Matrix.join.Goals as goal

pub returns : goal.returns
returns c =
    let h : IfOk c.joined_with.result (HasEntries c.args.self.now.kinds (joined c.args.self.now c.args.other.now)) =
    entries-if_ok c.joined_with.result c.args.self.now.kinds (joined c.args.self.now c.args.other.now)
    (joined-coherent c.args.self.now c.args.other.now c.kinds-kinds.ensures.matrix c.kinds-slots.ensures.matrix (ap length c.requires.same_kinds))
    c.joined_with.ensures.matrix c.joined_with.ensures.same_kinds
    (entries-if_ok-then _ _ c.joined_with.result (λ m p i j hi w. p i j) c.joined_with.ensures.entries) in
    record {
      entries = h;
      covers_left = entries-if_ok-then (HasEntries c.args.self.now.kinds (joined c.args.self.now c.args.other.now)) (Covers c.args.self.now) c.joined_with.result
          (λ m. Covers-entries c.args.self.now (joined c.args.self.now c.args.other.now) m (joined-above_left c.args.self.now c.args.other.now (nodes c.args.self.now))) h;
      covers_right = entries-if_ok-then (HasEntries c.args.self.now.kinds (joined c.args.self.now c.args.other.now)) (Covers c.args.other.now) c.joined_with.result
          (λ m. Covers-other c.args.self.now.kinds c.args.other.now (joined c.args.self.now c.args.other.now) m c.requires.same_kinds (joined-above_right c.args.self.now c.args.other.now (nodes c.args.other.now))) h;
      limited = λ b p q. entries-if_ok-then (HasEntries c.args.self.now.kinds (joined c.args.self.now c.args.other.now)) (IsLimited b) c.joined_with.result
          (λ m. IsLimited-entries c.args.self.now.kinds (joined c.args.self.now c.args.other.now) m b
          (joined-diagonal c.args.self.now c.args.other.now (nodes c.args.self.now) p.diagonal (IsLimited-of c.args.self.now.kinds b c.args.other.now c.requires.same_kinds q).0)
          (joined-within c.args.self.now c.args.other.now (nodes c.args.self.now) b p.within (IsLimited-of c.args.self.now.kinds b c.args.other.now c.requires.same_kinds q).1)) h;
    }
