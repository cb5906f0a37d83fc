use Rattle.std.proofs.Common.{◌≡◌, ℤ, List, Some, slice_get, sym, ap, ◌∙◌, subst}
use Rattle.std.proofs.lemmas.Result.{IfOk-weaker}
use Rattle.std.specs.List.Sorted.{IsStrictlySortedBy}
use Rattle.std.specs.Ordering.{nat_cmp}
use Rattle.imp_check.specs.Slots.{routines_of}
use Rattle.imp_chains.specs.Thresholds.{thresholds_of}
use Rattle.call_contexts.specs.Settings.{all_thresholds}
use Rattle.call_contexts.proofs.Keyed.{keys_rise, keys_small, no_thresholds, thresholds_by_keys}
use Rattle.call_contexts.proofs.part.Thresholds.of_counts.Goals as goal

pub returns-then-not-widening : goal.returns-then-not-widening
returns-then-not-widening c =
    let w = c.args.widening in
    let ps = c.args.prog.now in
    record {
      are =
          IfOk-weaker c.new-then-not-widening.result (λ (ms : List ℤ). ms ≡ c.new.result) (λ (ms : List ℤ). slice_get (all_thresholds w (routines_of ps)) c.args.proc ≡ Some ms)
          (λ ms e. no_thresholds w ps c.args.proc c.args.counts.now c.if-not-widening.true c.requires.counts ∙ ap Some (sym (e ∙ c.new.ensures.empty)))
          c.new-then-not-widening.ensures.is;
    }

pub numbers-requires : goal.numbers-requires
numbers-requires c =
    record {
      small = keys_small c.args.widening c.args.prog.now c.args.proc c.args.counts.now c.if-not-widening.false c.requires.counts c.thresholds_rise.ensures.rising c.procs.ensures.fit;
    }

pub thresholds_of-requires : goal.thresholds_of-requires
thresholds_of-requires c =
    record {
      rise =
          subst (IsStrictlySortedBy nat_cmp) (sym (c.as_slice.ensures.same ∙ c.in_ok-numbers.ensures.are))
          (keys_rise c.args.widening c.args.prog.now c.args.proc c.args.counts.now c.if-not-widening.false c.requires.counts);
    }

pub returns : goal.returns
returns c =
    let w = c.args.widening in
    let ps = c.args.prog.now in
    record {
      are =
          IfOk-weaker c.new-2.result (λ (ms : List ℤ). ms ≡ c.in_ok-thresholds_of.field-0) (λ (ms : List ℤ). slice_get (all_thresholds w (routines_of ps)) c.args.proc ≡ Some ms)
          (λ ms e. thresholds_by_keys w ps c.args.proc c.args.counts.now c.if-not-widening.false c.requires.counts ms (e ∙ c.in_ok-thresholds_of.ensures.are ∙ ap thresholds_of (c.as_slice.ensures.same ∙ c.in_ok-numbers.ensures.are)))
          c.new-2.ensures.is;
    }
