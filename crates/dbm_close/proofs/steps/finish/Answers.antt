use Rattle.std.specs.Prelude.{◌≡◌, ◌*◌, length}
use Rattle.std.proofs.Common.{ap, subst, inl, inr}
use Rattle.dbm_close.proofs.FinishLemmas.{empty_range-here, low-here, none_low-here}
use Rattle.dbm_close.proofs.StrongLemmas.{no_empty_range-agree, stage_cut-within}
use Rattle.dbm_close.specs.Close.{HasNoEmptyRange, closed_entry}
use Rattle.dbm_core.specs.Half.{HasEntries, entry, nodes}
use Rattle.dbm_close.proofs.HalvesLemmas.{fused-entries, halves-consistent, halves-contradictory}
use Rattle.dbm_close.specs.Halves.{HasNegativeHalves, HasNoNegativeHalves}
use Rattle.dbm_close.proofs.steps.finish.Goals as goal

pub returns-then-has_negative_halves : goal.returns-then-has_negative_halves
returns-then-has_negative_halves c =
    let k : 2 * length c.kinds.result.now ≡ nodes c.args.weights = ap (λ x. 2 * length x) c.kinds.ensures.value in
    record {
      finish = inl (halves-contradictory (entry c.args.weights) (length c.args.weights.kinds) c.halves_of-halves.result c.halves_of-halves.ensures.halves
          (subst (λ n. HasNegativeHalves n c.halves_of-halves.result) k c.if-has_negative_halves.ensures.negative));
    }

pub returns-then-has_low_entry : goal.returns-then-has_low_entry
returns-then-has_low_entry c = record {
  finish = inr (inl (low-here c.args.weights.kinds (entry c.args.weights) c.strengthen_and_cut.new.m
      (fused-entries c.args.weights c.strengthen_and_cut.new.m c.halves_of-halves.result c.kinds.ensures.matrix c.strengthen_and_cut.ensures.matrix c.strengthen_and_cut.ensures.same_kinds c.halves_of-halves.ensures.halves c.strengthen_and_cut.ensures.kept)
      c.if-has_low_entry.ensures.low));
}

pub has_empty_range-requires : goal.has_empty_range-requires
has_empty_range-requires c = record {
  within = stage_cut-within c.args.weights.kinds (entry c.args.weights) c.strengthen_and_cut.new.m c.requires.within
      (fused-entries c.args.weights c.strengthen_and_cut.new.m c.halves_of-halves.result c.kinds.ensures.matrix c.strengthen_and_cut.ensures.matrix c.strengthen_and_cut.ensures.same_kinds c.halves_of-halves.ensures.halves c.strengthen_and_cut.ensures.kept);
}

pub returns-then-has_empty_range : goal.returns-then-has_empty_range
returns-then-has_empty_range c = record {
  finish = inr (inr (empty_range-here c.args.weights.kinds (entry c.args.weights) c.strengthen_and_cut.new.m
      (fused-entries c.args.weights c.strengthen_and_cut.new.m c.halves_of-halves.result c.kinds.ensures.matrix c.strengthen_and_cut.ensures.matrix c.strengthen_and_cut.ensures.same_kinds c.halves_of-halves.ensures.halves c.strengthen_and_cut.ensures.kept)
      c.if-has_empty_range.ensures.empty));
}

pub returns : goal.returns
returns c =
    let k : 2 * length c.kinds.result.now ≡ nodes c.args.weights = ap (λ x. 2 * length x) c.kinds.ensures.value in
    let h : HasEntries c.args.weights.kinds (closed_entry (entry c.args.weights)) c.strengthen_and_cut.new.m =
    fused-entries c.args.weights c.strengthen_and_cut.new.m c.halves_of-halves.result c.kinds.ensures.matrix c.strengthen_and_cut.ensures.matrix c.strengthen_and_cut.ensures.same_kinds c.halves_of-halves.ensures.halves c.strengthen_and_cut.ensures.kept in
    record {
      finish = record {
        consistent = halves-consistent (entry c.args.weights) (length c.args.weights.kinds) c.halves_of-halves.result c.halves_of-halves.ensures.halves
            (subst (λ n. HasNoNegativeHalves n c.halves_of-halves.result) k c.if-has_negative_halves.ensures.negative);
        in_range = none_low-here c.args.weights.kinds (entry c.args.weights) c.strengthen_and_cut.new.m h c.if-has_low_entry.ensures.low;
        ranges = no_empty_range-agree c.args.weights.kinds (entry c.strengthen_and_cut.new.m) (closed_entry (entry c.args.weights)) h.entries
            (subst (λ x. HasNoEmptyRange x (entry c.strengthen_and_cut.new.m)) h.same_kinds c.if-has_empty_range.ensures.empty);
        entries = h;
      };
    }
