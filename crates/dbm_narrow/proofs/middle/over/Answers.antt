use Rattle.std.specs.Prelude.{ℤ, replicate, ◌*◌, ◌≡◌, ◌+◌, ◌+ℤ◌}
use Rattle.std.specs.Int.{int_min}
use Rattle.std.proofs.Common.{arith, sym, ◌∙◌, subst, ap, refl, length-set}
use Rattle.dbm_narrow.proofs.EntryLemmas.{entries-from, entry-more, min-entry, none-anywhere, settle-sum}
use Rattle.dbm_narrow.proofs.RowLemmas.{done-set, rest-set}
use Rattle.dbm_narrow.specs.Entries.{IsEntry, at, none, settle}
use Rattle.dbm_narrow.proofs.middle.over.Goals as goal

pub loop-j-init : goal.loop-j-init
loop-j-init gen c = record { size = refl; done = λ k l. absurd (omega arith); rest = λ k l. subst (λ z. at gen.W.Width.unit (replicate {A = ℤ} 32 z) k ≡ none gen.W.Width.unit) (sym c.none-sums.ensures.value) (none-anywhere gen.W.Width.unit gen.W.Width.positive 32 k) }

pub plus-requires-clause-right : goal.plus-requires-clause-right
plus-requires-clause-right gen c = subst (IsEntry gen.W.Width.unit (8 * gen.W.Width.unit)) (sym c.read-beyond.ensures.value) (entry-more gen.W.Width.unit gen.W.Width.positive (4 * gen.W.Width.unit) (8 * gen.W.Width.unit) (at gen.W.Width.unit c.args.next.now c.loop-j.j) (omega arith) (c.requires.next c.loop-j.j))

pub loop-j-preserved : goal.loop-j-preserved
loop-j-preserved gen c =
    let rn : c.read-beyond.result ≡ at gen.W.Width.unit c.args.next.now c.loop-j.j = c.read-beyond.ensures.value in
    let rr : c.read-here.result ≡ at gen.W.Width.unit c.args.row.now c.loop-j.j = c.read-here.ensures.value in
    let e : c.lesser.result ≡ int_min (at gen.W.Width.unit c.args.row.now c.loop-j.j) (settle gen.W.Width.unit (c.args.step +ℤ at gen.W.Width.unit c.args.next.now c.loop-j.j)) =
    c.lesser.ensures.value ∙ ap (λ x. int_min x c.plus.result) rr
    ∙ ap (int_min (at gen.W.Width.unit c.args.row.now c.loop-j.j)) (c.plus.ensures.sum ∙ ap (λ x. settle gen.W.Width.unit (c.args.step +ℤ x)) rn) in
    record {
      size = length-set c.loop-j.sums c.loop-j.j _ ∙ c.loop-j.invariant.size;
      done = done-set gen.W.Width.unit gen.W.Width.positive (λ k x. x ≡ int_min (at gen.W.Width.unit c.args.row.now k) (settle gen.W.Width.unit (c.args.step +ℤ at gen.W.Width.unit c.args.next.now k))) c.loop-j.sums c.loop-j.j _ (omega (arith, c.loop-j.invariant.size)) c.loop-j.invariant.done e;
      rest = rest-set gen.W.Width.unit gen.W.Width.positive (λ k x. x ≡ none gen.W.Width.unit) c.loop-j.sums c.loop-j.j _ c.loop-j.invariant.rest;
    }

pub returns-clause-entries : goal.returns-clause-entries
returns-clause-entries gen c = λ b k l m p q. entries-from gen.W.Width.unit gen.W.Width.positive (b + k) c.loop-j.j c.loop-j.sums (λ x. int_min (at gen.W.Width.unit c.args.row.now x) (settle gen.W.Width.unit (c.args.step +ℤ at gen.W.Width.unit c.args.next.now x)))
    c.loop-j.invariant.done c.loop-j.invariant.rest
    (λ x. min-entry gen.W.Width.unit gen.W.Width.positive (b + k) (at gen.W.Width.unit c.args.row.now x) (settle gen.W.Width.unit (c.args.step +ℤ at gen.W.Width.unit c.args.next.now x)) (entry-more gen.W.Width.unit gen.W.Width.positive (2 * gen.W.Width.unit) (b + k) (at gen.W.Width.unit c.args.row.now x) l (c.requires.row x))
    (settle-sum gen.W.Width.unit gen.W.Width.positive b k (c.args.step) (at gen.W.Width.unit c.args.next.now x) m p (q x)))
