use Rattle.std.proofs.Common.{◌≡◌, ◌∙◌, sym, ap, List, map, ℤ}
use Rattle.std.specs.List.{zip}
use Rattle.dom_interval_meaning.specs.State.{Intervals, Within}
use Rattle.dom_interval.specs.View.{intervals_of}
use Rattle.dom_interval_meaning.specs.Widening.{widen_slot, widen}
use Rattle.dom_interval_meaning.specs.declared.slot_range.SlotRange.{SlotRange}
use Rattle.dom_interval.proofs.widening.widened.Goals as goal

slots_widened : (ms : List ℤ) (s t u : Intervals) (rs qs ws : List SlotRange) → u ≡ Within ws → ws ≡ map (λ p. widen_slot ms p.0 p.1) (zip rs qs) → Within rs ≡ s → Within qs ≡ t → u ≡ widen ms s t
unfolding widen
slots_widened ms s t u rs qs ws e f p q = e ∙ ap Within f ∙ (λ i. widen ms (p i) (q i))

pub returns-in_ok-widened_slots-in-Within-Within : goal.returns-in_ok-widened_slots-in-Within-Within
returns-in_ok-widened_slots-in-Within-Within c =
    let arm = c.in-Within-Within in
    record {
      exact = slots_widened c.args.thresholds.now c.args.l.now c.args.r.now c.within.result arm.a.items arm.b.items c.in_ok-widened_slots-in-Within-Within.field-0.items
          c.within.ensures.exact
          (c.in_ok-widened_slots-in-Within-Within.ensures.exact ∙ (λ i. map (λ p. widen_slot (c.new-thresholds.ensures.are i) p.0 p.1) (zip (c.deref.ensures.value i) (c.deref-in-Within-Within.ensures.value i))))
          (sym (ap intervals_of arm.is-0) ∙ c.l.view_is)
          (sym (ap intervals_of arm.is-1) ∙ c.r.view_is);
    }
