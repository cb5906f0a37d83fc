use Rattle.std.proofs.Common.{◌*◌, ◌<◌, sym, ◌∙◌, arith}
use Rattle.dom_octagon_words.specs.Words.{at_place, is_entry}
use Rattle.dom_octagon_words.proofs.Below.{not_all}
use Rattle.dom_octagon_words.proofs.read.all_entries.Goals as goal

pub returns-then-not-is_entry : goal.returns-then-not-is_entry
returns-then-not-is_entry c =
    let n = 2 * c.args.slots in
    let l : c.loop-place.place < n * n = omega arith in
    record { exact = sym (not_all (n * n) c.loop-place.place (at_place n (is_entry c.args.words.now n)) l (sym c.is_entry.ensures.exact ∙ c.if-not-is_entry.true)) }
