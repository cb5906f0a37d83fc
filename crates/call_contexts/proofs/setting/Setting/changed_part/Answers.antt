use Rattle.std.proofs.Common.{subst, sym, ap, ◌∙◌, Some, List, ℕ}
use Rattle.std.specs.Bool.{OnTrue}
use Rattle.std.specs.Map.{keys_of}
use Rattle.std.specs.Prelude.{◌≡◌}
use Rattle.imp_check.specs.Slots.{routines_of}
use Rattle.call_contexts.specs.declared.part.Part.{Part}
use Rattle.call_contexts.proofs.Parted.{tally_changed, thresholds_kept_if, made_of, part_same, shared_part}
use Rattle.call_contexts.proofs.setting.Setting.changed_part.Goals as goal

pub returns-then-are_none : goal.returns-then-are_none
returns-then-are_none c =
    let w = c.args.self.now.engine.widening in
    let old = c.args.old.now in
    let new = c.args.new.now in
    let puts = c.args.puts.now in
    let k = c.args.proc in
    let ms = c.args.before.now in
    let t = c.args.tally.now in
    let os = c.args.loops in
    let ls = c.in_ok-differences.differences.lost in
    let gs = c.in_ok-differences.differences.gained in
    record {
      is =
          shared_part c.shared.result (λ (p : Part). p.thresholds) (λ (p : Part). p.tally) (λ (p : Part). p.loops) w (routines_of new) k ms t os c.shared.ensures.thresholds c.shared.ensures.tally c.shared.ensures.loops
          (part_same w old new puts k ms t os ls gs c.requires.brings c.requires.widens c.requires.there c.requires.thresholds c.requires.tally c.requires.loops c.in_ok-differences.ensures.are c.if-are_none.ensures.none);
    }

pub thresholds_over-requires-clause-counts : goal.thresholds_over-requires-clause-counts
thresholds_over-requires-clause-counts c =
    let w = c.args.self.now.engine.widening in
    let old = c.args.old.now in
    let new = c.args.new.now in
    let puts = c.args.puts.now in
    let k = c.args.proc in
    let t = c.args.tally.now in
    let u = c.in_ok-counts.counts in
    let ls = c.in_ok-differences.differences.lost in
    let gs = c.in_ok-differences.differences.gained in
    let makes = made_of t c.counts.result.now u ls c.lost-lost.result.now gs c.gained-gained.result.now c.counts.ensures.is c.lost-lost.ensures.are c.gained-gained.ensures.are c.in_ok-counts.ensures.told in
    tally_changed w old new puts k t u ls gs c.requires.brings c.requires.widens c.requires.there c.requires.tally c.in_ok-differences.ensures.are makes

pub thresholds_over-requires-clause-kept : goal.thresholds_over-requires-clause-kept
thresholds_over-requires-clause-kept c =
    let w = c.args.self.now.engine.widening in
    let old = c.args.old.now in
    let new = c.args.new.now in
    let puts = c.args.puts.now in
    let k = c.args.proc in
    let t = c.args.tally.now in
    let u = c.in_ok-counts.counts in
    let ls = c.in_ok-differences.differences.lost in
    let gs = c.in_ok-differences.differences.gained in
    let makes = made_of t c.counts.result.now u ls c.lost-lost.result.now gs c.gained-gained.result.now c.counts.ensures.is c.lost-lost.ensures.are c.gained-gained.ensures.are c.in_ok-counts.ensures.told in
    thresholds_kept_if c.has_same_numbers-is_kept.result w old new k c.args.before.now t u c.requires.widens c.requires.thresholds c.requires.tally
    (tally_changed w old new puts k t u ls gs c.requires.brings c.requires.widens c.requires.there c.requires.tally c.in_ok-differences.ensures.are makes)
    (subst (λ (z : List (ℕ × ℕ)). OnTrue c.has_same_numbers-is_kept.result (keys_of u ≡ keys_of z)) c.counts-3.ensures.is c.has_same_numbers-is_kept.ensures.same)

pub returns : goal.returns
returns c =
    let w = c.args.self.now.engine.widening in
    let old = c.args.old.now in
    let new = c.args.new.now in
    let puts = c.args.puts.now in
    let k = c.args.proc in
    let t = c.args.tally.now in
    let u = c.in_ok-counts.counts in
    let ls = c.in_ok-differences.differences.lost in
    let gs = c.in_ok-differences.differences.gained in
    let makes = made_of t c.counts.result.now u ls c.lost-lost.result.now gs c.gained-gained.result.now c.counts.ensures.is c.lost-lost.ensures.are c.gained-gained.ensures.are c.in_ok-counts.ensures.told in
    record {
      is = record {
        thresholds_are = c.in_ok-thresholds.ensures.are;
        tally_is = tally_changed w old new puts k t u ls gs c.requires.brings c.requires.widens c.requires.there c.requires.tally c.in_ok-differences.ensures.are makes ∙ ap Some (sym c.in_ok-new.ensures.is);
        loops_are = c.requires.loops;
      };
    }
