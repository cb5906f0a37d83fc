use Rattle.std.specs.Prelude.{◌≡◌, ◌*◌, length}
use Rattle.std.proofs.Common.{arith, rules, subst}
use Rattle.dbm_narrow.proofs.MiddleLemmas.{AreWays, ways-middle}
use Rattle.dbm_narrow.proofs.EntryLemmas.{entry-more}
use Rattle.dbm_narrow.proofs.PuttingLemmas.{narrow-between, narrow-put, ways-next, ways-none}
use Rattle.dbm_narrow.proofs.RoundLemmas.{narrow-size}
use Rattle.dbm_narrow.specs.Entries.{IsEntry}
use Rattle.dbm_narrow.specs.Putting.{IsNarrowBetween}
use Rattle.dbm_narrow.proofs.middle.fill_middle.Goals as goal

pub bounds_between-own-requires-clause-size : goal.bounds_between-own-requires-clause-size
bounds_between-own-requires-clause-size gen c = narrow-size gen.W.Width.unit gen.W.Width.positive c.args.kinds.now c.args.entries.now c.requires.narrow

pub bounds_between-here-requires-clause-size : goal.bounds_between-here-requires-clause-size
bounds_between-here-requires-clause-size gen c = narrow-size gen.W.Width.unit gen.W.Width.positive c.args.kinds.now c.args.entries.now c.requires.narrow

pub loop-slot-init : goal.loop-slot-init
loop-slot-init gen c = record { ways = ways-none gen.W.Width.unit gen.W.Width.positive c.args.entries.now c.args.q c.args.middle.now; narrow = c.requires.entries }

pub put_from-requires : goal.put_from-requires
put_from-requires gen c =
    let n : IsNarrowBetween gen.W.Width.unit c.bounds_between-here.result = narrow-between gen.W.Width.unit gen.W.Width.positive c.args.entries.now c.args.q c.loop-slot.slot c.bounds_between-here.result c.requires.narrow.entries c.bounds_between-here.ensures.bounds in
    let own : IsNarrowBetween gen.W.Width.unit c.bounds_between-own.result = narrow-between gen.W.Width.unit gen.W.Width.positive c.args.entries.now c.args.q c.args.q c.bounds_between-own.result c.requires.narrow.entries c.bounds_between-own.ensures.bounds in
    let b : IsEntry gen.W.Width.unit (2 * gen.W.Width.unit) c.bounds_between-own.result.second_even = own.second_even in
    search rules

pub put_to-requires : goal.put_to-requires
put_to-requires gen c =
    let n : IsNarrowBetween gen.W.Width.unit c.bounds_between-here.result = narrow-between gen.W.Width.unit gen.W.Width.positive c.args.entries.now c.args.q c.loop-slot.slot c.bounds_between-here.result c.requires.narrow.entries c.bounds_between-here.ensures.bounds in
    let own : IsNarrowBetween gen.W.Width.unit c.bounds_between-own.result = narrow-between gen.W.Width.unit gen.W.Width.positive c.args.entries.now c.args.q c.args.q c.bounds_between-own.result c.requires.narrow.entries c.bounds_between-own.ensures.bounds in
    let b : IsEntry gen.W.Width.unit (2 * gen.W.Width.unit) c.bounds_between-own.result.first_odd = own.first_odd in
    search rules

pub loop-slot-preserved : goal.loop-slot-preserved
loop-slot-preserved gen c =
    let own : IsNarrowBetween gen.W.Width.unit c.bounds_between-own.result = narrow-between gen.W.Width.unit gen.W.Width.positive c.args.entries.now c.args.q c.args.q c.bounds_between-own.result c.requires.narrow.entries c.bounds_between-own.ensures.bounds in
    let here : IsNarrowBetween gen.W.Width.unit c.bounds_between-here.result = narrow-between gen.W.Width.unit gen.W.Width.positive c.args.entries.now c.args.q c.loop-slot.slot c.bounds_between-here.result c.requires.narrow.entries c.bounds_between-here.ensures.bounds in
    record {
      ways = ways-next gen.W.Width.unit gen.W.Width.positive c.args.entries.now c.args.q c.loop-slot.slot c.bounds_between-here.result _ _ c.loop-slot.middle c.put_from.new.middle c.put_to.new.middle c.loop-slot.invariant.ways c.bounds_between-here.ensures.bounds
          (c.bounds_between-own.ensures.bounds.first_odd) (c.bounds_between-own.ensures.bounds.second_even)
          c.put_from.ensures.put c.put_to.ensures.put;
      narrow = narrow-put gen.W.Width.unit gen.W.Width.positive c.loop-slot.slot c.bounds_between-here.result _ _ c.loop-slot.middle c.put_from.new.middle c.put_to.new.middle c.loop-slot.invariant.narrow here
          (entry-more gen.W.Width.unit gen.W.Width.positive (2 * gen.W.Width.unit) (2 * gen.W.Width.unit) c.bounds_between-own.result.first_odd (omega arith) own.first_odd) (entry-more gen.W.Width.unit gen.W.Width.positive (2 * gen.W.Width.unit) (2 * gen.W.Width.unit) c.bounds_between-own.result.second_even (omega arith) own.second_even)
          c.put_from.ensures.put c.put_to.ensures.put;
    }

pub returns : goal.returns
returns gen c =
    let e : c.loop-slot.slot ≡ length c.args.kinds.now = omega arith in
    record {
      bounds = ways-middle gen.W.Width.unit gen.W.Width.positive c.args.kinds.now c.args.entries.now c.args.q c.loop-slot.middle c.requires.narrow c.requires.middle (subst (λ n. AreWays gen.W.Width.unit gen.W.Width.positive (2 * n) c.args.entries.now c.args.q c.loop-slot.middle) e c.loop-slot.invariant.ways);
      entries = c.loop-slot.invariant.narrow;
    }
