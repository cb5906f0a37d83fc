use Rattle.std.proofs.Common.{◌≡◌, ◌+◌, ◌<◌, length, refl, sym, ap, ◌∙◌, add-one, arith}
use Rattle.indexmap.specs.IndexMap.{set_value_at}
use Rattle.state_table.specs.Marks.{rank, states_in}
use Rattle.state_table.proofs.MarkLemmas.{length-set, rank-all, rank-before, rank-suc, rank-zero, set-here, states-set}
use Rattle.base_values.proofs.Lists.{get_some}
use Rattle.state_table.proofs.sweep.unmark.Goals as goal

pub loop-place-init : goal.loop-place-init
loop-place-init g c = record { states = refl; none = rank-zero c.args.states.now.entries; same = refl }

pub loop-place-preserved : goal.loop-place-preserved
loop-place-preserved g c =
    let es = c.loop-place.states.entries in
    let place = c.loop-place.place in
    let below : place < length es = omega (arith, c.loop-place-test.true, c.len-place-end.ensures.len, c.loop-place.invariant.same) in
    let p = get_some es place below in
    let at = set-here es place 0 p.0.0 p.0.1 p.1 in
    record {
      states = ap states_in c.set_mark.ensures.set ∙ states-set es place 0 ∙ c.loop-place.invariant.states;
      none =
          ap (λ l. rank l (place + 1)) c.set_mark.ensures.set ∙ ap (rank (set_value_at es place 0)) (add-one place) ∙ rank-suc (set_value_at es place 0) place p.0.0 0 at
          ∙ rank-before es place 0 ∙ c.loop-place.invariant.none;
      same = ap length c.set_mark.ensures.set ∙ length-set es place 0 ∙ c.loop-place.invariant.same;
    }

pub returns-clause-unmarked : goal.returns-clause-unmarked
returns-clause-unmarked g c =
    let es = c.loop-place.states.entries in
    let end : length es ≡ c.loop-place.place = omega (arith, c.loop-place-test.false, c.len-place-end.ensures.len, c.loop-place.invariant.same, c.loop-place.auto.place-end) in
    sym (rank-all es) ∙ ap (rank es) end ∙ c.loop-place.invariant.none
