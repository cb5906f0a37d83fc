use Rattle.std.proofs.Common.{◌∙◌, sym, subst}
use Rattle.call_contexts.specs.Tallies.{Tells}
use Rattle.call_contexts.proofs.Counted.{has_alone, less_alone, less_once}
use Rattle.call_contexts.proofs.counts.Counts.take.Goals as goal

pub returns-in-len1 : goal.returns-in-len1
returns-in-len1 c =
    let alone = has_alone c.args.numbers.now c.number-item.result c.value.result c.in-len1.len_at_least c.in-len1.len_below c.number-item.is c.value.ensures.same in
    record {
      less = λ f t.
          less_alone c.take_one.new.counts.entries f c.value.result c.args.numbers.now alone
          (c.take_one.ensures.less f (subst (λ es. Tells es f) (sym c.self.view_is) t));
    }

pub returns-in_ok-once-in_default : goal.returns-in_ok-once-in_default
returns-in_ok-once-in_default c =
    record {
      less = λ f t.
          less_once c.take_each.new.counts.entries f c.as_slice.result.now c.args.numbers.now (c.as_slice.ensures.value ∙ c.in_ok-once-in_default.ensures.is)
          (c.take_each.ensures.less f (subst (λ es. Tells es f) (sym c.self.view_is) t));
    }
