use Rattle.std.proofs.Common.{◌∙◌, sym, subst}
use Rattle.call_contexts.specs.Tallies.{Tells, capped}
use Rattle.call_contexts.proofs.Counted.{has_alone, more_alone, more_once}
use Rattle.call_contexts.proofs.counts.Counts.add.Goals as goal

pub returns-in_ok-add_one-in-len1 : goal.returns-in_ok-add_one-in-len1
returns-in_ok-add_one-in-len1 c =
    let alone = has_alone c.args.numbers.now c.number-item.result c.value.result c.in-len1.len_at_least c.in-len1.len_below c.number-item.is c.value.ensures.same in
    record {
      more = λ f t.
          more_alone c.add_one.new.counts.entries f c.value.result c.args.numbers.now alone
          (c.in_ok-add_one-in-len1.ensures.more f (subst (λ es. Tells es (λ n. capped (f n))) (sym c.self.view_is) t));
    }

pub returns-in_ok-add_each-in_default : goal.returns-in_ok-add_each-in_default
returns-in_ok-add_each-in_default c =
    record {
      more = λ f t.
          more_once c.add_each.new.counts.entries f c.as_slice.result.now c.args.numbers.now (c.as_slice.ensures.value ∙ c.in_ok-once-in_default.ensures.is)
          (c.in_ok-add_each-in_default.ensures.more f (subst (λ es. Tells es (λ n. capped (f n))) (sym c.self.view_is) t));
    }
