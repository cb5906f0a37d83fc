-- The theorems, from the lemmas: each list of names has a bound of ranks.
use Rattle.std.proofs.Common.{◌≡◌, ℕ, ◌+◌, ◌<◌, max, true, false, List, [], ◌∷◌, ap, arith, inl, inr}
use Rattle.daig_order.specs.Order.{System, IsAcyclic, member, fill_all}
use Rattle.daig_order.specs.Machine.{AreBelow}
use Rattle.daig_order.specs.OrderLaws.{under}
use Rattle.daig_order.specs.Theorems.{OrderIsDistinct, OrderFollowsInputs, OrderIsNeeded, OrderIsClosed, MissingIsRest, FilledIsKeptOrNeeded, FilledIsClosed, RowsAreStable}
use Rattle.std.proofs.lemmas.Bool.{or_left, or_cases}
use Rattle.daig_order.proofs.OrderLawProofs.{order-distinct, order-follows, order-needed, needed-seen, missing-order, closed-after}
use Rattle.daig_order.proofs.Stable.{stable}

-- a number above the rank of each of these names
pub ceiling : {T : Type 0} → System T → List T → ℕ
ceiling s [] = 0
ceiling s (x ∷ xs) = max (s.rank x + 1) (ceiling s xs)

pub below : {T : Type 0} (s : System T) → IsAcyclic s → (xs : List T) → AreBelow s xs (ceiling s xs)
unfolding ceiling
below s law [] y m = absurd (cc)
below s law (x ∷ xs) y m = elim (or_cases (s.same y x) (member s.same xs y) m) [
  | inl e ↦ let q : s.rank y ≡ s.rank x = ap s.rank (law.same_true y x e) in omega arith
  | inr k ↦ let h : s.rank y < ceiling s xs = below s law xs y k in omega arith
]

pub distinct : {T : Type 0} → OrderIsDistinct T
distinct s law xs = order-distinct s law (λ _. false) xs (ceiling s xs) (below s law xs)

pub follows : {T : Type 0} → OrderFollowsInputs T
follows s law xs = order-follows s law (λ _. false) xs (ceiling s xs) (below s law xs)

pub needed : {T : Type 0} → OrderIsNeeded T
needed s law xs x = (
  λ m. (order-needed s law (λ _. false) xs (ceiling s xs) (below s law xs) x m).0,
  λ n. needed-seen s law (λ _. false) xs (ceiling s xs) (below s law xs) x (λ a b h m. absurd (cc)) n,
)

pub closed : {T : Type 0} → OrderIsClosed T
closed s law xs x y h m = (needed s law xs y).1 (under x y ((needed s law xs x).0 h) m)

pub missing : {T : Type 0} → MissingIsRest T
missing s law kept c xs = missing-order s law kept c xs (ceiling s xs) (below s law xs)

pub kept_or_needed : {T : Type 0} → FilledIsKeptOrNeeded T
kept_or_needed s law kept c xs x = (
  λ h. elim (or_cases (kept x) (member s.same (fill_all s kept [] xs) x) h) [
    | inl k ↦ inl k
    | inr m ↦ inr (order-needed s law kept xs (ceiling s xs) (below s law xs) x m).0
  ],
  λ h. elim h [
    | inl k ↦ or_left (kept x) (member s.same (fill_all s kept [] xs) x) k
    | inr n ↦ needed-seen s law kept xs (ceiling s xs) (below s law xs) x c n
  ],
)

pub filled : {T : Type 0} → FilledIsClosed T
filled s law kept c xs n = closed-after s law kept xs (ceiling s xs) (below s law xs) n c

pub stable_rows : {T V : Type 0} → RowsAreStable T V
stable_rows t u tl ul p closed rows x h = stable t u tl ul (λ y. p y ≡ true) rows closed x h
