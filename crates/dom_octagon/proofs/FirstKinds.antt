-- The kinds of the first slots of a layout.
use Rattle.std.specs.Prelude.{◌≡◌, ℕ, List, [], ◌∷◌, map, take, refl}
use Rattle.std.proofs.Common.{ap, suc, zero}
use Rattle.imp_slots.specs.Plain.{Numeric}
use Rattle.dom_octagon_meaning.specs.Operations.{kinds_of}

taken : (n : ℕ) (ks : List Numeric) → map (λ (k : Numeric). k.is_array) (take n ks) ≡ take n (map (λ (k : Numeric). k.is_array) ks)
taken zero ks = refl
taken (suc n) [] = refl
taken (suc n) (k ∷ ks) = ap (λ bs. k.is_array ∷ bs) (taken n ks)

pub kinds_taken : (ks : List Numeric) → map (λ (k : Numeric). k.is_array) (take 16 ks) ≡ kinds_of ks
kinds_taken ks = taken 16 ks
