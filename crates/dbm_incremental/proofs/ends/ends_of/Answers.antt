use Rattle.std.specs.Prelude.{◌<◌, Some}
use Rattle.std.proofs.Common.{arith, ◌^◌, ap, length}
use Rattle.std.proofs.lemmas.Int.{to_z-of_z}
use mir.Syntax.{w128}
use Rattle.dbm_close.proofs.MiddleLemmas.{small-column}
use Rattle.dbm_close.proofs.RoundLemmas.{IsWithin-add, IsWithin-more}
use Rattle.dbm_core.proofs.NodeLemmas.{flip_below}
use Rattle.dbm_core.specs.Half.{entry, nodes}
use Rattle.dbm_core.specs.Nodes.{flip}
use Rattle.dbm_core.specs.Weights.{add_weight}
use Rattle.dbm_incremental.proofs.EndsLemmas.{edged-within}
use Rattle.dbm_incremental.specs.Triangles.{edged}
use Rattle.dbm_incremental.proofs.ends.ends_of.Goals as goal

pub returns-clause-small : goal.returns-clause-small
returns-clause-small c =
    let fa : flip c.args.a < nodes c.args.d.now = flip_below c.args.a (length c.args.d.now.kinds) c.requires.first in
    let fb : flip c.args.b < nodes c.args.d.now = flip_below c.args.b (length c.args.d.now.kinds) c.requires.last in
    record {
      to_first = small-column (2 ^ 120) (nodes c.args.d.now) c.column-to_first.result (λ i. entry c.args.d.now i c.args.a)
          (λ i l. c.column-to_first.ensures.bounds i (omega (arith, ap length c.kinds.ensures.value)))
          (λ i l. c.column-to_first.ensures.beyond i (omega (arith, ap length c.kinds.ensures.value)))
          (λ i l. IsWithin-more (2 ^ 96) (2 ^ 120) (entry c.args.d.now i c.args.a) (omega arith) (c.requires.within i c.args.a l c.requires.first));
      from_first = small-column (2 ^ 120) (nodes c.args.d.now) c.column-from_first.result (λ j. add_weight (Some c.args.c) (entry c.args.d.now c.args.b j))
          (λ j l. rw (to_z-of_z w128 c.args.c c.ranges.c) at (c.column-from_first.ensures.bounds j (omega (arith, ap length c.kinds.ensures.value))))
          (λ j l. c.column-from_first.ensures.beyond j (omega (arith, ap length c.kinds.ensures.value)))
          (λ j l. IsWithin-more (2 ^ 97) (2 ^ 120) (add_weight (Some c.args.c) (entry c.args.d.now c.args.b j)) (omega arith)
          (IsWithin-add (2 ^ 96) (Some c.args.c) (entry c.args.d.now c.args.b j) c.requires.small (c.requires.within c.args.b j c.requires.last l)));
      to_second = small-column (2 ^ 120) (nodes c.args.d.now) c.column-to_second.result (λ i. edged (entry c.args.d.now) c.args.a c.args.b c.args.c i c.other_sign-behind.result)
          (λ i l. rw (to_z-of_z w128 c.args.c c.ranges.c) at (c.column-to_second.ensures.bounds i (omega (arith, ap length c.kinds.ensures.value))))
          (λ i l. c.column-to_second.ensures.beyond i (omega (arith, ap length c.kinds.ensures.value)))
          (λ i l. IsWithin-more (2 ^ 98) (2 ^ 120) (edged (entry c.args.d.now) c.args.a c.args.b c.args.c i c.other_sign-behind.result) (omega arith)
          (edged-within (nodes c.args.d.now) (2 ^ 96) (entry c.args.d.now) c.args.a c.args.b c.args.c c.requires.first c.requires.last c.requires.within c.requires.small i c.other_sign-behind.result l (rw c.other_sign-behind.ensures.flipped fb)));
      from_second = small-column (2 ^ 120) (nodes c.args.d.now) c.column-from_second.result (λ j. add_weight (Some c.args.c) (edged (entry c.args.d.now) c.args.a c.args.b c.args.c c.other_sign-ahead.result j))
          (λ j l. rw (to_z-of_z w128 c.args.c c.ranges.c) at (c.column-from_second.ensures.bounds j (omega (arith, ap length c.kinds.ensures.value))))
          (λ j l. c.column-from_second.ensures.beyond j (omega (arith, ap length c.kinds.ensures.value)))
          (λ j l. IsWithin-more (2 ^ 99) (2 ^ 120) (add_weight (Some c.args.c) (edged (entry c.args.d.now) c.args.a c.args.b c.args.c c.other_sign-ahead.result j)) (omega arith)
          (IsWithin-add (2 ^ 98) (Some c.args.c) (edged (entry c.args.d.now) c.args.a c.args.b c.args.c c.other_sign-ahead.result j)
          (IsWithin-more (2 ^ 96) (2 ^ 98) (Some c.args.c) (omega arith) c.requires.small)
          (edged-within (nodes c.args.d.now) (2 ^ 96) (entry c.args.d.now) c.args.a c.args.b c.args.c c.requires.first c.requires.last c.requires.within c.requires.small c.other_sign-ahead.result j (rw c.other_sign-ahead.ensures.flipped fa) l)));
    }
