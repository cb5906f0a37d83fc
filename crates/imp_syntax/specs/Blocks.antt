-- Blocks and lists of statements are the same.
use Rattle.std.specs.Prelude.{ℕ, zero, suc, ◌+◌, ◌<◌, ◌≡◌, refl, List, [], ◌∷◌, length, drop, slice_index_or}
use Rattle.std.proofs.Common.{ap, arith, add-one, drop-cons}
use Rattle.imp_syntax.specs.Plain.{Statement, Statements, Ends, Starts, block_of, statements_of, statement_size, block_size}

pub statements_back : (ss : List Statement) → statements_of (block_of ss) ≡ ss
statements_back [] = refl
statements_back (s ∷ ss) = λ i. s ∷ statements_back ss i

pub block_again : (b : Statements) → block_of (statements_of b) ≡ b
block_again Ends = refl
block_again (Starts s ss) = λ i. Starts s (block_again ss i)

-- each statement of a block is smaller than the block
pub member_smaller : (ss : List Statement) (i : ℕ) (s : Statement) → i < length ss → s ≡ slice_index_or ss i s → statement_size s < block_size (block_of ss)
member_smaller [] i s h e = absurd (omega arith)
member_smaller (x ∷ ss) zero s h e = let same : statement_size s ≡ statement_size x = ap statement_size e in omega arith
member_smaller (x ∷ ss) (suc i) s h e = omega (arith, member_smaller ss i s (omega arith) e)

-- the block from a place on is the statement there and the rest
pub block_rest : (ss : List Statement) (i : ℕ) (s : Statement) → i < length ss → s ≡ slice_index_or ss i s → block_of (drop i ss) ≡ Starts s (block_of (drop (i + 1) ss))
block_rest ss i s h e = rw (drop-cons ss i s, add-one, ← e) refl
