-- A function that solves the rows of the names of a class is the table's value on them.
use Rattle.std.proofs.Common.{◌≡◌, ℕ, zero, suc, ◌<◌, List, [], ◌∷◌, ◌++◌, map, Option, Some, refl, sym, ap, ◌∙◌, arith, Bool, true}
use Rattle.daig_order.specs.Asking.{Rows, AreRows, gather, value_of, inputs_of}
use Rattle.daig_order.proofs.AskingProofs.{by_option, gather-none, gather-some, value-is}
use Rattle.std.proofs.lemmas.Bool.{or_left, or_right}
use Rattle.daig_order.specs.Order.{member}

abbrev pub All : {A : Type 0} → (A → Type 0) → List A → Type 0
All P [] = Unit {0}
All P (x ∷ xs) = P x × All P xs

pub all_map : {A : Type 0} (P Q R : A → Type 0) → ((x : A) → P x → Q x → R x) → (xs : List A) → All P xs → All Q xs → All R xs
all_map P Q R f [] p q = tt
all_map P Q R f (x ∷ xs) p q = (f x p.0 q.0, all_map P Q R f xs p.1 q.1)

gather-reason : {T V : Type 0} (v : T → V) (asks : List V → Option T) (P : T → Type 0) → ((vs : List V) (y : T) → asks vs ≡ Some y → P y) → (n : ℕ) (vs : List V) → All P (gather v asks n vs)
gather-reason v asks P f zero vs = unfold gather in tt
gather-reason v asks P f (suc n) vs =
    by_option (asks vs)
    (λ k. rw (gather-none v asks (suc n) vs k) tt)
    (λ y k. rw (gather-some v asks n vs y k) (f vs y k, gather-reason v asks P f n _))

-- functions that agree on what is asked for ask for the same
pub gather-agree : {T V : Type 0} (v w : T → V) (asks : List V → Option T) (n : ℕ) (vs : List V) → All (λ y. w y ≡ v y) (gather v asks n vs) → (gather w asks n vs ≡ gather v asks n vs) × (map w (gather w asks n vs) ≡ map v (gather v asks n vs))
gather-agree v w asks zero vs h = (unfold gather in refl, unfold gather in refl)
gather-agree v w asks (suc n) vs h =
    by_option (asks vs)
    (λ k. rw (gather-none v asks (suc n) vs k, gather-none w asks (suc n) vs k) (refl, refl))
    (λ y k.
    let e = gather-some v asks n vs y k in
    let a = rw e at h in
    let here : w y ≡ v y = a.0 in
    let rest = gather-agree v w asks n (vs ++ v y ∷ []) a.1 in
    rw (e, gather-some w asks n vs y k, here)
    (ap (λ xs. y ∷ xs) rest.0, ap (λ xs. v y ∷ xs) rest.1))

module _ {T V : Type 0} (t : Rows T V) (f : T → V) (P : T → Type 0) where
  -- the inputs as the function has them
  abbrev pub inputs_by : T → List T
  inputs_by x = gather f (t.asks x) (t.most x) []

  pub record Solves : Type 0 where
    pub value : (x : T) → P x → f x ≡ t.operation x (map f (inputs_by x))
    pub down : (x : T) → P x → All P (inputs_by x)

  module _ (law : AreRows t) (s : Solves) where
    agrees : (x : T) → All (λ y. value_of t y ≡ f y) (inputs_by x) → (inputs_of t x ≡ inputs_by x) × (map (value_of t) (inputs_of t x) ≡ map f (inputs_by x))
    unfolding inputs_of
    agrees x h = gather-agree f (value_of t) (t.asks x) (t.most x) [] h

    unique-at : (r : ℕ) (x : T) → t.rank x < r → P x → (inputs_of t x ≡ inputs_by x) × (value_of t x ≡ f x)
    unique-at zero x h p = absurd (omega arith)
    unique-at (suc r) x h p =
        let lower = gather-reason f (t.asks x) (λ y. t.rank y < t.rank x) (λ vs y k. law.falls x y vs k) (t.most x) [] in
        let same = all_map P (λ y. t.rank y < t.rank x) (λ y. value_of t y ≡ f y) (λ y q l. (unique-at r y (omega arith) q).1) (inputs_by x) (s.down x p) lower in
        let e = agrees x same in
        (e.0, value-is t law x ∙ ap (t.operation x) e.1 ∙ sym (s.value x p))

    pub unique : (x : T) → P x → (inputs_of t x ≡ inputs_by x) × (value_of t x ≡ f x)
    unique x p = unique-at (suc (t.rank x)) x (omega arith) p

-- what holds of each member holds of all
pub all_of : {T : Type 0} (same : T → T → Bool) → ((x : T) → same x x ≡ true) → (P : T → Type 0) (xs : List T) → ((y : T) → member same xs y ≡ true → P y) → All P xs
all_of same re P [] h = tt
all_of same re P (x ∷ xs) h = (h x (or_left (same x x) (member same xs x) (re x)), all_of same re P xs (λ y m. h y (or_right (same y x) (member same xs y) m)))
