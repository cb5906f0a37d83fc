use Rattle.dbm_core.proofs.LimitLemmas.{IsLimited-entries, forgotten-diagonal, forgotten-within}
use Rattle.dbm_core.proofs.ValuationLemmas.{Frees-entries}
use Rattle.std.proofs.Common.{subst}
use Rattle.dbm_core.specs.Half.{HalfMatrix, HasEntries, entry, nodes}
use Rattle.dbm_core.specs.Operations.{forgotten}
use Rattle.dbm_core.proofs.matrix.Matrix.forget.Goals as goal

pub returns : goal.returns
returns c =
    let h : HasEntries c.args.self.now.kinds (forgotten (entry c.args.self.now) c.args.slot) c.drop_bounds.new.self =
    subst (λ (m : HalfMatrix). HasEntries m.kinds (forgotten (entry m) c.args.slot) c.drop_bounds.new.self) c.in_ok-matrix.ensures.same c.drop_bounds.ensures.entries in
    record {
      entries = h;
      frees = Frees-entries c.args.self.now c.args.slot c.drop_bounds.new.self h;
      limited = λ b l. IsLimited-entries c.args.self.now.kinds (forgotten (entry c.args.self.now) c.args.slot) c.drop_bounds.new.self b
          (forgotten-diagonal (entry c.args.self.now) c.args.slot (nodes c.args.self.now) l.diagonal) (forgotten-within (entry c.args.self.now) c.args.slot (nodes c.args.self.now) b l.within) h;
    }
