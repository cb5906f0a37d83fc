use Rattle.std.proofs.Common.{ℕ, ◌≡◌, inl, inr, length, None, sym, ◌∙◌, below_more, arith}
use Rattle.std.proofs.lemmas.Bool.{cases_lt}
use Rattle.imp_check.specs.Tables.{entry_in}
use Rattle.imp_check.proofs.PutLemmas.{slot_get, entry_past}
use Rattle.imp_table.proofs.PageLemmas.{nothing_in}
use Rattle.imp_table.proofs.page.are_free.Goals as goal

pub loop-place-preserved : goal.loop-place-preserved
loop-place-preserved c =
    let xs = c.args.places.now in
    let i = c.loop-place.place-index in
    below_more (λ (n : ℕ). entry_in xs n ≡ None) i c.loop-place.invariant (
    sym (c.place-item.is ∙ slot_get xs i c.place-item.result c.loop-place-test.true)
    ∙ sym c.entry.ensures.is
    ∙ nothing_in c.entry.result (sym c.is_some.ensures ∙ c.if-is_some.false))

pub returns : goal.returns
returns c =
    let xs = c.args.places.now in
    record {
      free = λ _ n. elim (cases_lt n (length xs)) [
        | inl l ↦ c.loop-place.invariant n (omega (arith, l, c.loop-place-test.false))
        | inr l ↦ entry_past xs n l
      ];
    }
