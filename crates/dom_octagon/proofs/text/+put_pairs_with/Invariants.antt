use Rattle.std.proofs.Common.{length}
use Rattle.dom_octagon.proofs.text.+put_pairs_with.Given as goal

abbrev pub decreases-put_pairs_with : goal.decreases-put_pairs_with
decreases-put_pairs_with l = length l.numbers.now
