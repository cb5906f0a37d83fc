use Rattle.std.specs.Prelude.{◌≡◌}
use Rattle.std.proofs.Common.{arith}
use Rattle.dbm_narrow.proofs.RowLemmas.{copied-row, done-set, rest-set}
use Rattle.dbm_narrow.specs.Entries.{at}
use Rattle.dbm_narrow.proofs.standing.copy_row.Goals as goal

pub loop-j-preserved : goal.loop-j-preserved
loop-j-preserved gen c =
    let r : c.read-copied.result ≡ at gen.W.Width.unit c.args.from.now c.loop-j.j = c.read-copied.ensures.value in
    record {
      done = done-set gen.W.Width.unit gen.W.Width.positive (λ a x. x ≡ at gen.W.Width.unit c.args.from.now a) c.loop-j.row c.loop-j.j _ (omega arith) c.loop-j.invariant.done r;
      rest = rest-set gen.W.Width.unit gen.W.Width.positive (λ a x. x ≡ at gen.W.Width.unit c.args.row.now a) c.loop-j.row c.loop-j.j _ c.loop-j.invariant.rest;
    }

pub returns-clause-within : goal.returns-clause-within
returns-clause-within gen c = copied-row gen.W.Width.unit gen.W.Width.positive c.args.from.now c.args.row.now c.loop-j.row c.loop-j.j (omega arith) c.requires.from c.requires.row c.loop-j.invariant.done c.loop-j.invariant.rest
