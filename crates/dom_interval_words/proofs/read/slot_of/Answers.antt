use Rattle.std.proofs.Common.{◌≡◌, ◌≤ℤ◌, ℤ, pos, negsuc, true, SFits, w64, to_z, of_z, to_z-of_z, sym, ap, ◌∙◌, arith}
use Rattle.std.proofs.lemmas.Int.{ints}
use Rattle.num_bounds.specs.Bounds.{least, greatest}
use Rattle.dom_interval_meaning.specs.Ranges.{extremes}
use Rattle.dom_interval_words.specs.Slots.{within_extremes}
use Rattle.dom_interval_words.proofs.Slots.{slot_made, ends_are_words}
use Rattle.dom_interval_words.proofs.read.slot_of.Goals as goal

word : (z : ℤ) → least ≤ℤ z → z ≤ℤ greatest → SFits w64 z
word (pos n) a b = record { sfits = omega (arith, ints) }
word (negsuc n) a b = record { sfits = omega (arith, ints) }

pub returns : goal.returns
returns c =
    let a = c.is_array-is_array.result in
    let lo = to_z-of_z c.ranges.lo in
    let hi = to_z-of_z c.ranges.hi in
    let within : within_extremes (extremes a) c.args.lo c.args.hi ≡ true = (λ i. within_extremes (extremes a) (sym lo i) (sym hi i)) ∙ sym c.is_within.ensures.exact ∙ c.if-not-is_within.false in
    let w = ends_are_words a c.args.lo c.args.hi within in
    let low = ap (λ z. to_z w64 (of_z w64 z)) lo ∙ to_z-of_z (word c.args.lo w.0 w.1) in
    let high = ap (λ z. to_z w64 (of_z w64 z)) hi ∙ to_z-of_z (word c.args.hi w.2 w.3) in
    record { exact = slot_made c.args.number.now a c.args.lo c.args.hi c.from_ends.result c.is_array-is_array.ensures.same (c.from_ends.ensures.exact ∙ (λ i. record { lo = low i; hi = high i })) within }
