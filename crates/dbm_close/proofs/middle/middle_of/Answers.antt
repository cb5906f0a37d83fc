use Rattle.std.proofs.Common.{arith, ◌*◌, ◌+◌, ◌^◌, ap, length}
use Rattle.dbm_close.proofs.MiddleLemmas.{small-column}
use Rattle.dbm_close.proofs.RoundLemmas.{IsWithin-more, through-within}
use Rattle.dbm_close.specs.Rounds.{through}
use Rattle.dbm_core.specs.Half.{entry, nodes}
use Rattle.dbm_close.proofs.middle.middle_of.Goals as goal

pub returns-clause-small : goal.returns-clause-small
returns-clause-small c = record {
  to_first = small-column (2 ^ 103) (nodes c.args.d.now) c.column-to_first.result (λ i. entry c.args.d.now i (2 * c.args.q))
      (λ i l. c.column-to_first.ensures.bounds i (omega (arith, ap length c.kinds.ensures.value)))
      (λ i l. c.column-to_first.ensures.beyond i (omega (arith, ap length c.kinds.ensures.value)))
      (λ i l. IsWithin-more (2 ^ 102) (2 ^ 103) (entry c.args.d.now i (2 * c.args.q)) (omega arith) (c.requires.within i (2 * c.args.q) l (omega arith)));
  from_first = small-column (2 ^ 103) (nodes c.args.d.now) c.column-from_first.result (λ j. entry c.args.d.now (2 * c.args.q) j)
      (λ j l. c.column-from_first.ensures.bounds j (omega (arith, ap length c.kinds.ensures.value)))
      (λ j l. c.column-from_first.ensures.beyond j (omega (arith, ap length c.kinds.ensures.value)))
      (λ j l. IsWithin-more (2 ^ 102) (2 ^ 103) (entry c.args.d.now (2 * c.args.q) j) (omega arith) (c.requires.within (2 * c.args.q) j (omega arith) l));
  to_second = small-column (2 ^ 103) (nodes c.args.d.now) c.column-to_second.result (λ i. through (entry c.args.d.now) (2 * c.args.q) i (2 * c.args.q + 1))
      (λ i l. c.column-to_second.ensures.bounds i (omega (arith, ap length c.kinds.ensures.value)))
      (λ i l. c.column-to_second.ensures.beyond i (omega (arith, ap length c.kinds.ensures.value)))
      (λ i l. through-within (nodes c.args.d.now) (2 ^ 102) (entry c.args.d.now) (2 * c.args.q) (omega arith) c.requires.within i (2 * c.args.q + 1) l (omega arith));
  from_second = small-column (2 ^ 103) (nodes c.args.d.now) c.column-from_second.result (λ j. through (entry c.args.d.now) (2 * c.args.q) (2 * c.args.q + 1) j)
      (λ j l. c.column-from_second.ensures.bounds j (omega (arith, ap length c.kinds.ensures.value)))
      (λ j l. c.column-from_second.ensures.beyond j (omega (arith, ap length c.kinds.ensures.value)))
      (λ j l. through-within (nodes c.args.d.now) (2 ^ 102) (entry c.args.d.now) (2 * c.args.q) (omega arith) c.requires.within (2 * c.args.q + 1) j (omega arith) l);
}
