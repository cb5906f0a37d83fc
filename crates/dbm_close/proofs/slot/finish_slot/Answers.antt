use Rattle.std.specs.Prelude.{◌≡◌, ◌*◌, Some, pos, negsuc}
use Rattle.std.proofs.Common.{ap, subst, inl, inr, length}
use Rattle.dbm_core.proofs.HalfLemmas.{entry-coherent}
use Rattle.dbm_core.specs.Half.{HasEntries, entry, nodes}
use Rattle.dbm_core.specs.Weights.{AtMost}
use Rattle.dbm_close.proofs.SlotLemmas.{slot-consistent, slot-contradictory, slot-empty, slot-entries, slot-in_range, slot-low, slot-ranges}
use Rattle.dbm_close.proofs.StrongLemmas.{stage_cut-within}
use Rattle.dbm_close.specs.Close.{closed_entry}
use Rattle.dbm_close.specs.Halves.{HasLowPair, HasNoLowPair}
use Rattle.dbm_close.proofs.slot.finish_slot.Goals as goal

pub returns-then-is_negative : goal.returns-then-is_negative
returns-then-is_negative c = record {
  finish = inl (slot-contradictory (entry c.args.weights) (length c.args.weights.kinds) c.args.slot c.halves_of-halves.result c.halves_of-halves.ensures.halves c.requires.slot
      (subst (λ x. AtMost x (Some (negsuc 0))) c.plus.ensures.sum c.if-is_negative.ensures.negative));
}

pub returns-then-has_low_pair : goal.returns-then-has_low_pair
returns-then-has_low_pair c =
    let h : HasEntries c.args.weights.kinds (closed_entry (entry c.args.weights)) c.finish_pairs.new.m =
    slot-entries c.args.weights c.finish_pairs.new.m c.args.slot c.halves_of-halves.result c.kinds-kinds.ensures.matrix c.finish_pairs.ensures.matrix c.finish_pairs.ensures.same_kinds c.halves_of-halves.ensures.halves
    c.finish_pairs.ensures.changed c.finish_pairs.ensures.rest c.requires.rest.entries in
    let n : nodes c.finish_pairs.new.m ≡ nodes c.args.weights = ap (λ k. 2 * length k) c.finish_pairs.ensures.same_kinds in
    record {
      finish = inr (inl (slot-low c.args.weights.kinds (entry c.args.weights) c.finish_pairs.new.m c.args.slot h c.requires.slot
          (subst (λ n. HasLowPair n (entry c.finish_pairs.new.m) c.args.slot) n c.if-has_low_pair.ensures.low)));
    }

pub is_range_empty-requires-clause-within : goal.is_range_empty-requires-clause-within
is_range_empty-requires-clause-within c =
    let h : HasEntries c.args.weights.kinds (closed_entry (entry c.args.weights)) c.finish_pairs.new.m =
    slot-entries c.args.weights c.finish_pairs.new.m c.args.slot c.halves_of-halves.result c.kinds-kinds.ensures.matrix c.finish_pairs.ensures.matrix c.finish_pairs.ensures.same_kinds c.halves_of-halves.ensures.halves
    c.finish_pairs.ensures.changed c.finish_pairs.ensures.rest c.requires.rest.entries in
    stage_cut-within c.args.weights.kinds (entry c.args.weights) c.finish_pairs.new.m c.requires.within h

pub returns-then-is_range_empty : goal.returns-then-is_range_empty
returns-then-is_range_empty c =
    let h : HasEntries c.args.weights.kinds (closed_entry (entry c.args.weights)) c.finish_pairs.new.m =
    slot-entries c.args.weights c.finish_pairs.new.m c.args.slot c.halves_of-halves.result c.kinds-kinds.ensures.matrix c.finish_pairs.ensures.matrix c.finish_pairs.ensures.same_kinds c.halves_of-halves.ensures.halves
    c.finish_pairs.ensures.changed c.finish_pairs.ensures.rest c.requires.rest.entries in
    record { finish = inr (inr (slot-empty c.args.weights.kinds (entry c.args.weights) c.finish_pairs.new.m c.args.slot h c.requires.slot c.if-is_range_empty.ensures.empty)) }

pub returns : goal.returns
returns c =
    let h : HasEntries c.args.weights.kinds (closed_entry (entry c.args.weights)) c.finish_pairs.new.m =
    slot-entries c.args.weights c.finish_pairs.new.m c.args.slot c.halves_of-halves.result c.kinds-kinds.ensures.matrix c.finish_pairs.ensures.matrix c.finish_pairs.ensures.same_kinds c.halves_of-halves.ensures.halves
    c.finish_pairs.ensures.changed c.finish_pairs.ensures.rest c.requires.rest.entries in
    let n : nodes c.finish_pairs.new.m ≡ nodes c.args.weights = ap (λ k. 2 * length k) c.finish_pairs.ensures.same_kinds in
    record {
      finish = record {
        consistent = slot-consistent (entry c.args.weights) (length c.args.weights.kinds) c.args.slot c.halves_of-halves.result c.halves_of-halves.ensures.halves c.requires.slot
            (subst (λ x. AtMost (Some (pos 0)) x) c.plus.ensures.sum c.if-is_negative.ensures.negative) c.requires.rest.consistent;
        in_range = slot-in_range c.args.weights.kinds (entry c.args.weights) c.finish_pairs.new.m c.args.slot (entry-coherent c.args.weights c.kinds-kinds.ensures.matrix) h c.requires.slot
            (subst (λ n. HasNoLowPair n (entry c.finish_pairs.new.m) c.args.slot) n c.if-has_low_pair.ensures.low) c.requires.rest.in_range;
        ranges = slot-ranges c.args.weights.kinds (entry c.args.weights) c.finish_pairs.new.m c.args.slot h c.requires.slot c.if-is_range_empty.ensures.empty c.requires.rest.ranges;
        entries = h;
      };
    }
