use Rattle.std.proofs.Common.{◌≡◌, subst}
use Rattle.std.specs.BTreeSet.{insert_key}
use Rattle.std.specs.Ordering.{nat_cmp}
use Rattle.base_sets.specs.Bits.{numbers_in}
use Rattle.base_sets.specs.Sets.{Puts}
use Rattle.base_sets.proofs.Below.{added}
use Rattle.base_sets.proofs.set.NumberSet.add.Goals as goal

pub returns-clause-puts : goal.returns-clause-puts
returns-clause-puts c =
    subst (λ xs. Puts xs (numbers_in c.set_bit.new.words.items) c.args.number) c.self.view_is
    (added c.self.inside.words.items c.reserve.new.words.items c.set_bit.new.words.items c.args.number c.in_ok-reserve.ensures.same c.in_ok-reserve.ensures.word c.set_bit.ensures.sets).0

pub returns-clause-inserts : goal.returns-clause-inserts
returns-clause-inserts c =
    subst (λ xs. numbers_in c.set_bit.new.words.items ≡ insert_key nat_cmp xs c.args.number) c.self.view_is
    (added c.self.inside.words.items c.reserve.new.words.items c.set_bit.new.words.items c.args.number c.in_ok-reserve.ensures.same c.in_ok-reserve.ensures.word c.set_bit.ensures.sets).1
