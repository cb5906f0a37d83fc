-- How much work procedures hold.
use Rattle.std.proofs.Common.{ℕ, zero, suc, ◌≡◌, ◌+◌, ◌≤◌, List, [], ◌∷◌, take, slice_get, Some, arith, ap}
use Rattle.imp_slots.specs.Plain.{Routine}
use Rattle.imp_slots.specs.Sizes.{code_size}

-- the first k procedures
abbrev pub weight : List Routine → ℕ → ℕ
weight rs zero = 0
weight [] (suc k) = 0
weight (r ∷ rs) (suc k) = code_size r.code + 1 + weight rs k

-- a procedure before a place weighs less than all before the place, with those before it
pub weight_falls : (rs : List Routine) (k q : ℕ) (r : Routine) → slice_get (take k rs) q ≡ Some r → weight rs q + code_size r.code + 1 ≤ weight rs k
weight_falls rs zero q r e = absurd cc
weight_falls [] (suc k) q r e = absurd cc
weight_falls (x ∷ rs) (suc k) zero r e = let same : x ≡ r = cc in let i : code_size x.code ≡ code_size r.code = ap (λ (y : Routine). code_size y.code) same in omega arith
weight_falls (x ∷ rs) (suc k) (suc q) r e = omega (arith, weight_falls rs k q r e)
