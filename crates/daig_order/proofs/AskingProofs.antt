-- Inputs that are asked for by values: they end, rank below, and each is the next one asked for.
use Rattle.std.proofs.Common.{◌≡◌, ℕ, zero, suc, ◌+◌, ◌<◌, ◌≤◌, Bool, true, List, [], ◌∷◌, ◌++◌, map, take, length, slice_get, Option, Some, None, refl, ap, inl, inr, arith, length-append, append_assoc, append-nil}
use Rattle.daig_order.specs.Order.{member, IsAcyclic}
use Rattle.daig_order.specs.Asking.{Rows, AreRows, gather, value_at, value_of, inputs_of, system_of}
use Rattle.std.proofs.lemmas.Bool.{or_cases}

pub by_option : {A P : Type 0} (o : Option A) → (o ≡ None → P) → ((x : A) → o ≡ Some x → P) → P
by_option None f g = f refl
by_option (Some x) f g = g x refl

pub gather-none : {T V : Type 0} (value : T → V) (asks : List V → Option T) (n : ℕ) (vs : List V) → asks vs ≡ None → gather value asks n vs ≡ []
unfolding gather
gather-none value asks zero vs h = refl
gather-none value asks (suc n) vs h = rw h refl

pub gather-some : {T V : Type 0} (value : T → V) (asks : List V → Option T) (n : ℕ) (vs : List V) (y : T) → asks vs ≡ Some y → gather value asks (suc n) vs ≡ y ∷ gather value asks n (vs ++ value y ∷ [])
unfolding gather
gather-some value asks n vs y h = rw h refl

-- what is asked for, with its reason
pub gather-asked : {T V : Type 0} (same : T → T → Bool) → ((x y : T) → same x y ≡ true → x ≡ y) → (value : T → V) (asks : List V → Option T) (P : T → Type 0) → ((vs : List V) (y : T) → asks vs ≡ Some y → P y) → (n : ℕ) (vs : List V) (y : T) → member same (gather value asks n vs) y ≡ true → P y
gather-asked same eq value asks P reason zero vs y h = absurd (unfold gather in cc)
gather-asked same eq value asks P reason (suc n) vs y h =
    by_option (asks vs)
    (λ k. let m = rw (gather-none value asks (suc n) vs k) at h in absurd (cc))
    (λ z k.
    let m = rw (gather-some value asks n vs z k) at h in
    elim (or_cases (same y z) (member same (gather value asks n (vs ++ value z ∷ [])) y) m) [
      | inl e ↦ rw (eq y z e) (reason vs z k)
      | inr q ↦ gather-asked same eq value asks P reason n (vs ++ value z ∷ []) y q
    ])

-- values that agree on what is asked for gather the same names, and the same values
gather-same : {T V : Type 0} (v w : T → V) (asks : List V → Option T) → ((vs : List V) (y : T) → asks vs ≡ Some y → v y ≡ w y) → (n : ℕ) (vs : List V) → (gather v asks n vs ≡ gather w asks n vs) × (map v (gather v asks n vs) ≡ map w (gather w asks n vs))
gather-same v w asks e zero vs = (unfold gather in refl, unfold gather in refl)
gather-same v w asks e (suc n) vs =
    by_option (asks vs)
    (λ k. rw (gather-none v asks (suc n) vs k, gather-none w asks (suc n) vs k) (refl, refl))
    (λ y k.
    let r = gather-same v w asks e n (vs ++ w y ∷ []) in
    rw (gather-some v asks n vs y k, gather-some w asks n vs y k, e vs y k)
    (ap (λ xs. y ∷ xs) r.0, ap (λ xs. w y ∷ xs) r.1))

-- each input is the next one asked for
nothing_left : {T V : Type 0} (value : T → V) (asks : List V → Option T) (vs : List V) (xs : List T) (k : ℕ) → xs ≡ [] → asks vs ≡ None → asks (vs ++ map value (take k xs)) ≡ slice_get xs k
nothing_left value asks vs xs zero e h = rw (e, append-nil) h
nothing_left value asks vs xs (suc k) e h = rw (e, append-nil) h

pub gather-next : {T V : Type 0} (value : T → V) (asks : List V → Option T) (m : ℕ) → ((us : List V) → m ≤ length us → asks us ≡ None) → (n : ℕ) (vs : List V) → m ≤ length vs + n → (k : ℕ) → k ≤ length (gather value asks n vs) → asks (vs ++ map value (take k (gather value asks n vs))) ≡ slice_get (gather value asks n vs) k
gather-next value asks m ends zero vs le k h = let none : asks vs ≡ None = ends vs (omega arith) in nothing_left value asks vs (gather value asks zero vs) k (gather-none value asks zero vs none) none
gather-next value asks m ends (suc n) vs le k h =
    by_option (asks vs)
    (λ none. nothing_left value asks vs (gather value asks (suc n) vs) k (gather-none value asks (suc n) vs none) none)
    (λ y some.
    let e = gather-some value asks n vs y some in
    let longer : m ≤ length (vs ++ value y ∷ []) + n = omega (arith, length-append vs (value y ∷ [])) in
    let next = gather-next value asks m ends n (vs ++ value y ∷ []) longer in
    let short : k ≤ suc (length (gather value asks n (vs ++ value y ∷ []))) = rw e at h in
    rw e (at_cons k y (gather value asks n (vs ++ value y ∷ [])) some next short))
  where
    at_cons : (k : ℕ) (y : _) (xs : List _) → asks vs ≡ Some y → ((i : ℕ) → i ≤ length xs → asks ((vs ++ value y ∷ []) ++ map value (take i xs)) ≡ slice_get xs i) → k ≤ suc (length xs) → asks (vs ++ map value (take k (y ∷ xs))) ≡ slice_get (y ∷ xs) k
    at_cons zero y xs some next short = rw append-nil some
    at_cons (suc i) y xs some next short = rw (← append_assoc vs (value y ∷ []) (map value (take i xs))) (next i (omega arith))

module _ {T V : Type 0} (t : Rows T V) (law : AreRows t) where
  value-fuel : (f g : ℕ) (x : T) → t.rank x < f → t.rank x < g → value_at t f x ≡ value_at t g x
  unfolding value_at
  value-fuel zero g x h k = absurd (omega arith)
  value-fuel (suc f) zero x h k = absurd (omega arith)
  value-fuel (suc f) (suc g) x h k =
      ap (t.operation x) (gather-same (value_at t f) (value_at t g) (t.asks x) (λ vs y a. let b : t.rank y < t.rank x = law.falls x y vs a in value-fuel f g y (omega arith) (omega arith)) (t.most x) []).1

  -- a name's value is its operation over its inputs' values
  pub value-is : (x : T) → value_of t x ≡ t.operation x (map (value_of t) (inputs_of t x))
  unfolding value_of inputs_of value_at
  value-is x =
      ap (t.operation x) (gather-same (value_at t (t.rank x)) (value_of t) (t.asks x) (λ vs y a. let b : t.rank y < t.rank x = law.falls x y vs a in value-fuel (t.rank x) (suc (t.rank y)) y b (omega arith)) (t.most x) []).1

  -- the next input is the one that the values of those before it ask for
  pub asks-next : (x : T) (k : ℕ) → k ≤ length (inputs_of t x) → t.asks x (map (value_of t) (take k (inputs_of t x))) ≡ slice_get (inputs_of t x) k
  unfolding inputs_of
  asks-next x k h = gather-next (value_of t) (t.asks x) (t.most x) (law.ends x) (t.most x) [] (omega arith) k h

  pub system-acyclic : IsAcyclic (system_of t)
  unfolding inputs_of
  system-acyclic = record {
    same_true = law.same_true;
    same_refl = law.same_refl;
    falls = λ x y m. gather-asked t.same law.same_true (value_of t) (t.asks x) (λ z. t.rank z < t.rank x) (λ vs z a. law.falls x z vs a) (t.most x) [] y m;
  }
