-- A write past the end of a list changes nothing.
use Rattle.std.proofs.Common.{ℕ, zero, suc, ◌≤◌, ◌≡◌, List, [], ◌∷◌, length, refl, ap, arith}
use Rattle.std.specs.Prelude.{slice_set}

pub set_past_end : {A : Type 0} (xs : List A) (i : ℕ) (x : A) → length xs ≤ i → slice_set xs i x ≡ xs
set_past_end [] i x h = refl
set_past_end (y ∷ ys) zero x h = absurd (omega arith)
set_past_end (y ∷ ys) (suc i) x h = ap (λ zs. y ∷ zs) (set_past_end ys i x (omega arith))
