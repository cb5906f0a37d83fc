use Rattle.std.proofs.Common.{ℕ, slice_get, sym, ap, ◌∙◌}
use Rattle.std.specs.BTreeSet.{contains}
use Rattle.std.specs.Ordering.{nat_cmp}
use Rattle.imp_check.specs.Slots.{routines_of}
use Rattle.call_contexts.specs.Settings.{Setting}
use Rattle.call_contexts.specs.declared.part.Part.{Part}
use Rattle.call_contexts.proofs.Parted.{part_kept, shared_part}
use Rattle.call_contexts.proofs.setting.Setting.part_over.Goals as goal

pub returns-else-recounts : goal.returns-else-recounts
returns-else-recounts c =
    let w = c.args.self.now.engine.widening in
    let old = c.args.old.now in
    let new = c.args.new.now in
    let k = c.args.proc in
    let ms = c.in-Some-Some-Some.thresholds.now in
    let t = c.in-Some-Some-Some.tally.now in
    let ls = c.in_ok-loops.loops in
    let thresholds = ap (λ (s : Setting). slice_get s.thresholds k) (sym c.requires.before) ∙ ap (λ (j : ℕ). slice_get c.args.self.now.thresholds j) (sym c.place-place.ensures.is) ∙ ap (λ (s : Setting). slice_get s.thresholds c.place-place.result) (sym c.self.view_is) ∙ sym c.in-Some-Some-Some.ensures.item in
    let tallies = ap (λ (s : Setting). slice_get s.tallies k) (sym c.requires.before) ∙ ap (λ (j : ℕ). slice_get c.args.self.now.tallies j) (sym c.place-place.ensures.is) ∙ ap (λ (s : Setting). slice_get s.tallies c.place-place.result) (sym c.self.view_is) ∙ sym c.in-Some-Some-Some.ensures'.item in
    record {
      is =
          shared_part c.shared.result (λ (p : Part). p.thresholds) (λ (p : Part). p.tally) (λ (p : Part). p.loops) w (routines_of new) k ms t ls c.shared.ensures.thresholds c.shared.ensures.tally c.shared.ensures.loops
          (part_kept w old new c.args.puts.now k (contains nat_cmp c.args.touched.now k) ms t ls c.requires.brings (c.requires.touched k) c.requires.there thresholds tallies c.in_ok-loops.ensures.are (sym c.recounts.ensures.is ∙ c.if-recounts.false));
    }
