use Rattle.std.proofs.Common.{◌≡◌, inl, inr, slice_index_or, ap, sym, ◌∙◌, subst, arith}
use Rattle.std.proofs.lemmas.Bool.{cases_lt}
use Rattle.imp_table.specs.Pages.{lengths, HasPlace}
use Rattle.imp_table.specs.declared.change.Put.{Put}
use Rattle.imp_table.proofs.FallingLemmas.{any_default}
use Rattle.imp_table.proofs.pages.make_places.Goals as goal

pub loop-put-preserved : goal.loop-put-preserved
loop-put-preserved c =
    let i = c.loop-put.put-index in
    let inv = c.loop-put.invariant in
    let puts = c.args.puts.now in
    let made = c.in_ok-make_place.ensures in
    record {
      made = λ k d l. elim (cases_lt k i) [
        | inl h ↦ made.no_less (slice_index_or puts k d).number (inv.made k d h)
        | inr h ↦
            let e : k ≡ i = omega (arith, l, h) in
            let p : Put = c.put-item.result in
            let q : p ≡ slice_index_or puts k d = c.put-item.is ∙ any_default puts i p d c.loop-put-test.true ∙ ap (λ j. slice_index_or puts j d) (sym e) in
            subst (λ (z : Put). HasPlace (lengths c.make_place.new.pages.items) z.number) q made.place
      ];
      kept = λ n. made.kept n ∙ inv.kept n;
      no_less = λ n h. made.no_less n (inv.no_less n h);
    }
