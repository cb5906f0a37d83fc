use Rattle.std.proofs.Common.{◌≡◌, ◌+◌, ◌*◌, ◌≤◌}
use Rattle.std.specs.Vec.{vec_capacity, vec_len}
use Rattle.base_sets.specs.Bits.{numbers_below}
use Rattle.why_slice.proofs.statements.push_word.Given as goal

abbrev pub invariant-all : goal.invariant-all
invariant-all l = (l.stmts.items ≡ numbers_below l.words (64 * l.place + l.bit)) × (vec_len l.stmts + 64 ≤ vec_capacity l.stmts + l.bit)

abbrev pub invariant-some : goal.invariant-some
invariant-some l = l.stmts.items ≡ numbers_below l.words (64 * l.place + l.bit)
