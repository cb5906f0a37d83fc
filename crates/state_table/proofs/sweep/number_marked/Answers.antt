use Rattle.std.proofs.Common.{◌≡◌, suc, ◌<◌, ◌≤◌, length, refl, ap, ◌∙◌, arith}
use Rattle.std.proofs.lemmas.Option.{slice_get_within}
use Rattle.state_table.proofs.MarkLemmas.{length-then, numbers-else, numbers-first, numbers-marked, numbers-then, numbers-unmarked}
use Rattle.base_values.proofs.Lists.{get_some}
use Rattle.state_table.proofs.sweep.number_marked.Goals as goal
use Rattle.state_table.proofs.sweep.number_marked.Goals.{then-mark_of-gt0, else-mark_of-gt0}

pub loop-place-init : goal.loop-place-init
loop-place-init g c = record { numbers = numbers-first c.args.states.now.entries; low = omega arith; same = refl }

pub loop-place-preserved : goal.loop-place-preserved
loop-place-preserved g c =
    let old = c.args.states.now.entries in
    let es = c.loop-place.states.entries in
    let place = c.loop-place.place in
    let next = c.loop-place.next in
    let below : place < length es = omega (arith, c.loop-place-test.true, c.len-place-end.ensures.len, c.loop-place.invariant.same) in
    let p = get_some es place below in
    let is : c.mark_of.result ≡ p.0.1 = c.mark_of.ensures.is p.0.0 p.0.1 p.1 in
    elim c.if-mark_of-gt0.branch [
      | then-mark_of-gt0 w ↦
          let some : 0 < p.0.1 = omega (arith, is, w.if-mark_of-gt0.true) in
          let numbers = numbers-marked old es place next p.0.0 p.0.1 c.loop-place.invariant.numbers p.1 some in
          record {
            numbers = numbers-then old es _ _ place next _ numbers w.set_mark.ensures.set (ap (λ s. s.entries) w.states-is) w.next-is;
            low = omega (arith, w.next-is, c.loop-place.invariant.low);
            same = length-then es _ _ place next _ w.set_mark.ensures.set (ap (λ s. s.entries) w.states-is) c.loop-place.invariant.same;
          }
      | else-mark_of-gt0 w ↦
          let none : p.0.1 ≤ 0 = omega (arith, is, w.if-mark_of-gt0.false) in
          let numbers = numbers-unmarked old es place next p.0.0 p.0.1 c.loop-place.invariant.numbers p.1 none in
          record {
            numbers = numbers-else old es _ place next _ numbers (ap (λ s. s.entries) w.states-is) w.next-is;
            low = omega (arith, w.next-is, c.loop-place.invariant.low);
            same = ap (λ s. length s.entries) w.states-is ∙ c.loop-place.invariant.same;
          }
    ]

pub returns-clause-numbered : goal.returns-clause-numbered
returns-clause-numbered g c n s mark e =
    let es = c.loop-place.states.entries in
    let within : n < length es = slice_get_within es n (s, suc mark) e in
    let below : n < c.loop-place.place = omega (arith, within, c.loop-place-test.false, c.len-place-end.ensures.len, c.loop-place.invariant.same) in
    c.loop-place.invariant.numbers.numbered n s mark below e
