use Rattle.std.specs.Prelude.{◌≡◌}
use Rattle.std.proofs.Common.{arith, ◌∙◌, ap}
use Rattle.dbm_narrow.proofs.ForgetLemmas.{dropped-row}
use Rattle.dbm_narrow.proofs.RowLemmas.{done-set, rest-set}
use Rattle.dbm_narrow.specs.Entries.{at, dropped}
use Rattle.dbm_narrow.proofs.dropping.drop_each.Goals as goal

pub loop-j-preserved : goal.loop-j-preserved
loop-j-preserved gen c =
    let rx : c.read-here.result ≡ at gen.W.Width.unit c.args.row.now c.loop-j.j = c.read-here.ensures.value ∙ c.loop-j.invariant.rest c.loop-j.j (omega arith) in
    let e : c.dropped_entry.result ≡ dropped gen.W.Width.unit c.args.slot c.args.i c.loop-j.j (at gen.W.Width.unit c.args.row.now c.loop-j.j) =
    c.dropped_entry.ensures.value ∙ ap (dropped gen.W.Width.unit c.args.slot c.args.i c.loop-j.j) rx in
    record {
      done = done-set gen.W.Width.unit gen.W.Width.positive (λ a x. x ≡ dropped gen.W.Width.unit c.args.slot c.args.i a (at gen.W.Width.unit c.args.row.now a)) c.loop-j.row c.loop-j.j _ (omega arith) c.loop-j.invariant.done e;
      rest = rest-set gen.W.Width.unit gen.W.Width.positive (λ a x. x ≡ at gen.W.Width.unit c.args.row.now a) c.loop-j.row c.loop-j.j _ c.loop-j.invariant.rest;
    }

pub returns-clause-within : goal.returns-clause-within
returns-clause-within gen c = dropped-row gen.W.Width.unit gen.W.Width.positive c.args.slot c.args.i c.args.row.now c.loop-j.row c.loop-j.j (omega arith) c.requires.row c.loop-j.invariant.done c.loop-j.invariant.rest
