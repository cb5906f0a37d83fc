-- What is missing over more kept names.
use Rattle.std.specs.Prelude.{◌≡◌, ◌≤◌, Bool, true, not, List, [], filter, length}
use Rattle.daig_order.specs.Order.{System, IsAcyclic, fill_all}
use Rattle.daig_order.specs.OrderLaws.{IsClosed}

-- What is left of some names when those that are kept are taken out: no more of them, in the same order.
pub record IsRest {T : Type 0} (kept : T → Bool) (rest all : List T) : Type 0 where
  pub is : rest ≡ filter (λ x. not (kept x)) all
  pub most : length rest ≤ length all

-- Over more kept names, closed under inputs, a demand misses the rest of what it missed.
abbrev pub MissesRest : Type 0 → Type 0
MissesRest T =
    (s : System T) → IsAcyclic s → (few many : T → Bool) → IsClosed s few → IsClosed s many → ((x : T) → few x ≡ true → many x ≡ true) →
    (xs : List T) → IsRest many (fill_all s many [] xs) (fill_all s few [] xs)
