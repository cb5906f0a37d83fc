-- Numbers that an edit uses, counted up to a limit.
use Rattle.std.proofs.lemmas.Bool.Decides.{nat_tests}
use Rattle.std.proofs.Common.{ℕ, ◌≡◌, ◌+◌, ◌-◌, ◌^◌, ◌<◌, ◌≤◌, ◌&&◌, ◌⊎◌, inl, inr, nat_lt, min, cond, true, false, Some, None, sym, ap, ◌∙◌, arith}
use Rattle.std.proofs.lemmas.Bool.{and_from}
use Rattle.std.proofs.Math.Bool.{and-false}
use Rattle.base_values.proofs.Cases.{less_test}
use Rattle.imp_edit.specs.Refusals.{passes}

-- a count below the limit is exact, and one at it is no less
limited : (u c : ℕ) → c ≡ min u (2 ^ 32 - 1) → ((c ≡ u) × (u ≤ 2 ^ 32 - 1)) ⊎ ((c ≡ 2 ^ 32 - 1) × (c ≤ u))
limited u c e = grind arith

not_less : (m n : ℕ) → n ≤ m → nat_lt m n ≡ false
not_less m n h = grind (arith, nat_tests)

pub too_many : (u c next : ℕ) → c ≡ min u (2 ^ 32 - 1) → 0 < c → 1000001 < next + c → passes u next ≡ true
too_many u c next e p q = go (limited u c e)
  where
    go : ((c ≡ u) × (u ≤ 2 ^ 32 - 1)) ⊎ ((c ≡ 2 ^ 32 - 1) × (c ≤ u)) → passes u next ≡ true
    go (inl h) = and_from (nat_lt 0 u) (nat_lt 1000001 (next + u)) (less_test 0 u (omega (arith, h.0))) (less_test 1000001 (next + u) (omega (arith, h.0)))
    go (inr h) = and_from (nat_lt 0 u) (nat_lt 1000001 (next + u)) (less_test 0 u (omega (arith, h.1))) (less_test 1000001 (next + u) (omega (arith, h.1)))

pub none_new : (u c next : ℕ) → c ≡ min u (2 ^ 32 - 1) → c ≤ 0 → cond (passes u next) None (Some (next + u)) ≡ Some (next + c)
none_new u c next e h = go (limited u c e)
  where
    go : ((c ≡ u) × (u ≤ 2 ^ 32 - 1)) ⊎ ((c ≡ 2 ^ 32 - 1) × (c ≤ u)) → cond (passes u next) None (Some (next + u)) ≡ Some (next + c)
    go (inl k) = ap (λ b. cond (b && nat_lt 1000001 (next + u)) None (Some (next + u))) (not_less 0 u (omega (arith, k.0))) ∙ ap (λ m. Some (next + m)) (sym k.0)
    go (inr k) = absurd (omega (arith, k.0))

pub few_new : (u c next : ℕ) → c ≡ min u (2 ^ 32 - 1) → next + c ≤ 1000001 → cond (passes u next) None (Some (next + u)) ≡ Some (next + c)
few_new u c next e h = go (limited u c e)
  where
    go : ((c ≡ u) × (u ≤ 2 ^ 32 - 1)) ⊎ ((c ≡ 2 ^ 32 - 1) × (c ≤ u)) → cond (passes u next) None (Some (next + u)) ≡ Some (next + c)
    go (inl k) = ap (λ b. cond (nat_lt 0 u && b) None (Some (next + u))) (not_less 1000001 (next + u) (omega (arith, k.0))) ∙ ap (λ b. cond b None (Some (next + u))) (and-false (nat_lt 0 u)) ∙ ap (λ m. Some (next + m)) (sym k.0)
    go (inr k) = absurd (omega (arith, k.0))
