use Rattle.std.proofs.Common.{◌+◌, ◌++◌, ℕ, List, subst, ap, ◌∙◌}
use Rattle.imp_chains.specs.Chains.{has}
use Rattle.call_contexts.specs.Literals.{form_literals, literals_in}
use Rattle.call_contexts.specs.Tallies.{one_if, Tells, capped}
use Rattle.call_contexts.proofs.tallying.count_statement.Goals as goal

pub returns-in_ok-add : goal.returns-in_ok-add
returns-in_ok-add c =
    let form = c.in-Some.entry.now.form in
    let own = ap (λ (ns : List ℕ). ns ++ form_literals form) c.clear.ensures.items in
    record {
      more = λ f t.
          subst (λ ns. Tells c.add.new.self (λ n. capped (f n + one_if (has n ns))))
          (c.as_slice.ensures.value ∙ c.in_ok-add_form.ensures.added ∙ own ∙ ap literals_in c.in-Some.ensures.is)
          (c.in_ok-add.ensures.more f t);
    }
