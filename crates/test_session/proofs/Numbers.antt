-- Numbers of programs, one procedure after the other.
use Rattle.std.proofs.Common.{ℕ, suc, ◌<◌, List, [], ◌∷◌, length, arith}
use Rattle.std.specs.List.{All}
use Rattle.std.proofs.lemmas.List.Elements.{All-append, All-nil}
use Rattle.imp_syntax.specs.Plain.{Procedure, numbers, program_numbers}
use Rattle.imp_check.specs.Walks.{numbers_at}

pub all_below : (ps : List Procedure) (b : ℕ) → ((k : ℕ) → k < length ps → All (λ (n : ℕ). n < b) (numbers_at ps k)) → All (λ (n : ℕ). n < b) (program_numbers ps)
all_below [] b h = All-nil (λ (n : ℕ). n < b)
all_below (p ∷ ps) b h = All-append (λ (n : ℕ). n < b) (numbers p.body) (program_numbers ps) (h 0 (omega arith)) (all_below ps b (λ k l. h (suc k) (omega arith)))
