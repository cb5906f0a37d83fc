-- A list of names has dependents among its own, and a peak.
use Rattle.std.proofs.Common.{◌≡◌, ℕ, ◌+◌, ◌≤◌, Bool, true, false, cond, List, [], ◌∷◌, refl, sym, ap, ◌∙◌, inl, inr, arith}
use Rattle.daig_order.specs.Order.{System, IsAcyclic, member}
use Rattle.daig_order.specs.Within.{AreDependents}
use Rattle.std.proofs.lemmas.Bool.{or_left, or_right, or_cases}

module _ {T : Type 0} (same : T → T → Bool) (eq : (x y : T) → same x y ≡ true → x ≡ y) where
  -- the names of a list that pass a test
  abbrev pub passing : (T → Bool) → List T → List T
  passing test [] = []
  passing test (x ∷ xs) = cond (test x) (x ∷ passing test xs) (passing test xs)

  pub passes : (test : T → Bool) (xs : List T) (y : T) → member same (passing test xs) y ≡ true → (member same xs y ≡ true) × (test y ≡ true)
  passes test [] y m = absurd cc
  passes test (x ∷ xs) y m = go (test x) refl m (passes test xs y)
    where
      go : (b : Bool) → test x ≡ b → member same (cond b (x ∷ passing test xs) (passing test xs)) y ≡ true → (member same (passing test xs) y ≡ true → (member same xs y ≡ true) × (test y ≡ true)) → (member same (x ∷ xs) y ≡ true) × (test y ≡ true)
      go true e m h =
          elim (or_cases (same y x) (member same (passing test xs) y) m) [
            | inl k ↦ (or_left (same y x) (member same xs y) k, ap test (eq y x k) ∙ e)
            | inr k ↦ (or_right (same y x) (member same xs y) (h k).0, (h k).1)
          ]
      go false e m h = (or_right (same y x) (member same xs y) (h m).0, (h m).1)

  pub passed : (test : T → Bool) (xs : List T) (y : T) → member same xs y ≡ true → test y ≡ true → member same (passing test xs) y ≡ true
  passed test [] y m t = absurd cc
  passed test (x ∷ xs) y m t = go (test x) refl (passed test xs y)
    where
      go : (b : Bool) → test x ≡ b → (member same xs y ≡ true → test y ≡ true → member same (passing test xs) y ≡ true) → member same (cond b (x ∷ passing test xs) (passing test xs)) y ≡ true
      go true e h =
          elim (or_cases (same y x) (member same xs y) m) [
            | inl k ↦ or_left (same y x) (member same (passing test xs) y) k
            | inr k ↦ or_right (same y x) (member same (passing test xs) y) (h k t)
          ]
      go false e h =
          elim (or_cases (same y x) (member same xs y) m) [
            | inl k ↦ (let f : true ≡ false = sym t ∙ ap test (eq y x k) ∙ e in absurd cc)
            | inr k ↦ h k t
          ]

  abbrev pub peak_of : (T → ℕ) → List T → ℕ
  peak_of rank [] = 0
  peak_of rank (x ∷ xs) = rank x + peak_of rank xs

  under : (rank : T → ℕ) (xs : List T) (y : T) → member same xs y ≡ true → rank y ≤ peak_of rank xs
  under rank [] y m = absurd cc
  under rank (x ∷ xs) y m =
      elim (or_cases (same y x) (member same xs y) m) [
        | inl k ↦ (let e : rank y ≡ rank x = ap rank (eq y x k) in omega arith)
        | inr k ↦ (let l = under rank xs y k in omega arith)
      ]

pub dependents : {T : Type 0} (s : System T) (law : IsAcyclic s) (xs : List T) → (users : T → List T) × (peak : ℕ) × AreDependents s (member s.same xs) users peak
dependents s law xs = (
  (λ x. passing s.same law.same_true (λ y. member s.same (s.inputs y) x) xs),
  peak_of s.same law.same_true s.rank xs,
  record {
    uses = λ x y m. passes s.same law.same_true (λ y. member s.same (s.inputs y) x) xs y m;
    used = λ x y c m. passed s.same law.same_true (λ y. member s.same (s.inputs y) x) xs y c m;
    below = λ y c. under s.same law.same_true s.rank xs y c;
  },
)
