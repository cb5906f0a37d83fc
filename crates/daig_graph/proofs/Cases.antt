-- Numbers, uses and options told apart.
use Rattle.std.proofs.Common.{◌≡◌, ◌≢◌, ℕ, Bool, true, false, Option, Some, None, nat_eq, refl, ap, ◌∙◌, arith, ◌⊎◌, inl, inr}
use Rattle.daig_graph.specs.declared.graph.Use.{Use}
use Rattle.std.proofs.lemmas.Bool.Decides.{nat_tests}
use Rattle.std.proofs.lemmas.Bool.{cases_eq}
use Rattle.std.proofs.lemmas.Option.{same_Some}

pub nat_eq-false : (a b : ℕ) → a ≢ b → nat_eq a b ≡ false
nat_eq-false a b h = by (nat_eq a b) refl
  where
    by : (r : Bool) → nat_eq a b ≡ r → nat_eq a b ≡ false
    by true e = absurd (h (grind (arith, nat_tests)))
    by false e = e

pub none-some : {A : Type 0} {x : A} {P : Type 0} → None ≡ Some x → P
none-some e = absurd (cc)

-- two items are the same or not
abbrev pub Decides : Type 0 → Type 0
Decides K = (a b : K) → (a ≡ b) ⊎ (a ≢ b)

-- an option has the item, or it has not
pub has_item : {K : Type 0} → Decides K → (o : Option K) (k : K) → (o ≡ Some k) ⊎ (o ≢ Some k)
has_item decide None k = inr (λ e. none-some e)
has_item decide (Some j) k = elim (decide j k) [
  | inl e ↦ inl (ap Some e)
  | inr ne ↦ inr (λ e. ne (same_Some j k e))
]

pub numbers_differ : Decides ℕ
numbers_differ a b = cases_eq a b

pub uses_differ : Decides Use
uses_differ u v = elim (cases_eq u.cell v.cell) [
  | inl c ↦ elim (cases_eq u.place v.place) [
    | inl p ↦ inl (ap (λ n. record { cell = n; place = u.place }) c ∙ ap (λ n. record { cell = v.cell; place = n }) p)
    | inr ne ↦ inr (λ e. ne (ap (λ w. w.place) e))
  ]
  | inr ne ↦ inr (λ e. ne (ap (λ w. w.cell) e))
]
