use Rattle.std.specs.Int.{int_min}
use Rattle.std.specs.Prelude.{◌*◌, ◌≡◌, ◌+ℤ◌}
use Rattle.std.proofs.Common.{arith, sym, subst, ap, ◌∙◌}
use Rattle.dbm_narrow.proofs.EntryLemmas.{entry-more, sum-room}
use Rattle.dbm_narrow.proofs.RowLemmas.{done-set, rest-set, strengthened-row}
use Rattle.dbm_narrow.specs.Entries.{IsEntry, at, settle, strengthened_by}
use Rattle.dbm_narrow.proofs.rows.strengthen.Goals as goal

pub sum-requires : goal.sum-requires
sum-requires gen c =
    let e : c.read-half.result ≡ at gen.W.Width.unit c.args.from.now c.loop-j.j = c.read-half.ensures.value in
    record {
      room = sum-room gen.W.Width.unit gen.W.Width.positive c.args.to c.read-half.result (entry-more gen.W.Width.unit gen.W.Width.positive gen.W.Width.unit (8 * gen.W.Width.unit) c.args.to (omega arith) c.requires.to)
          (subst (IsEntry gen.W.Width.unit (8 * gen.W.Width.unit)) (sym e) (entry-more gen.W.Width.unit gen.W.Width.positive gen.W.Width.unit (8 * gen.W.Width.unit) (at gen.W.Width.unit c.args.from.now c.loop-j.j) (omega arith) (c.requires.from c.loop-j.j)));
    }

pub loop-j-preserved : goal.loop-j-preserved
loop-j-preserved gen c =
    let rf : c.read-half.result ≡ at gen.W.Width.unit c.args.from.now c.loop-j.j = c.read-half.ensures.value in
    let r : c.read-here.result ≡ at gen.W.Width.unit c.loop-j.row c.loop-j.j = c.read-here.ensures.value in
    let rx : c.read-here.result ≡ at gen.W.Width.unit c.args.row.now c.loop-j.j = r ∙ c.loop-j.invariant.rest c.loop-j.j (omega arith) in
    let e : c.settled.result ≡ strengthened_by gen.W.Width.unit c.args.to (at gen.W.Width.unit c.args.from.now c.loop-j.j) (at gen.W.Width.unit c.args.row.now c.loop-j.j) =
    c.settled.ensures.value ∙ ap (settle gen.W.Width.unit) (c.lesser.ensures.value ∙ ap (λ y. int_min c.read-here.result y) c.sum.ensures.value ∙ ap (λ x. int_min x (c.args.to +ℤ c.read-half.result)) rx)
    ∙ ap (λ f. strengthened_by gen.W.Width.unit c.args.to f (at gen.W.Width.unit c.args.row.now c.loop-j.j)) rf in
    record {
      done = done-set gen.W.Width.unit gen.W.Width.positive (λ k x. x ≡ strengthened_by gen.W.Width.unit c.args.to (at gen.W.Width.unit c.args.from.now k) (at gen.W.Width.unit c.args.row.now k)) c.loop-j.row c.loop-j.j _ (omega arith) c.loop-j.invariant.done e;
      rest = rest-set gen.W.Width.unit gen.W.Width.positive (λ k x. x ≡ at gen.W.Width.unit c.args.row.now k) c.loop-j.row c.loop-j.j _ c.loop-j.invariant.rest;
    }

pub returns-clause-within : goal.returns-clause-within
returns-clause-within gen c = strengthened-row gen.W.Width.unit gen.W.Width.positive c.args.to c.args.from.now c.args.row.now c.loop-j.row c.loop-j.j (omega arith)
    c.requires.to c.requires.from c.requires.row c.loop-j.invariant.done c.loop-j.invariant.rest
