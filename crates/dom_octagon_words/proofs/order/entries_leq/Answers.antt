use Rattle.std.proofs.Common.{◌≡◌, ◌*◌, ◌<◌, ◌/◌, ◌%◌, false, length, sym, ap, ◌∙◌, subst}
use Rattle.dbm_core.specs.Half.{entry, nodes}
use Rattle.dom_octagon_words.specs.Words.{at_place, bound_leq}
use Rattle.dom_octagon_words.proofs.Below.{not_all}
use Rattle.dom_octagon_words.proofs.order.entries_leq.Goals as goal

pub returns-then-not-bound_leq : goal.returns-then-not-bound_leq
returns-then-not-bound_leq c =
    let a = c.args.left.now in
    let b = c.args.right.now in
    let k : 2 * length c.kinds.result.now ≡ nodes a = ap (λ k. 2 * length k) c.kinds.ensures.value in
    let n = nodes a in
    let l : c.loop-place.place < n * n = subst (λ k. c.loop-place.place < k * k) k c.loop-place-test.true in
    let p = c.loop-place.place in
    let here : at_place n (λ i j. bound_leq (entry a i j) (entry b i j)) p ≡ false =
    sym (ap (λ n. bound_leq (entry a (p / n) (p % n)) (entry b (p / n) (p % n))) k) ∙
    sym (λ i. bound_leq (c.get.ensures.bound i) (c.get-in-loop-place.ensures.bound i)) ∙ sym c.bound_leq.ensures.exact ∙ c.if-not-bound_leq.true in
    record { exact = sym (not_all (n * n) p (at_place n (λ i j. bound_leq (entry a i j) (entry b i j))) l here) }
