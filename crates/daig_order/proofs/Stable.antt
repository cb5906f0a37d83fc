-- A name whose row, and that of all it depends on, is the same in two programs has the same value and inputs in both.
use Rattle.std.proofs.Common.{◌≡◌, ℕ, zero, suc, ◌<◌, Bool, true, List, [], ◌∷◌, ◌++◌, map, Option, Some, refl, sym, ap, ◌∙◌, subst, arith}
use Rattle.daig_order.specs.Order.{member}
use Rattle.daig_order.specs.Asking.{Rows, AreRows, SameRow, gather, value_of, inputs_of}
use Rattle.std.proofs.lemmas.Bool.{or_left, or_right}
use Rattle.daig_order.proofs.AskingProofs.{by_option, gather-none, gather-some, value-is, system-acyclic}

gather-path : {T V : Type 0} (same : T → T → Bool) → ((x : T) → same x x ≡ true) → (v w : T → V) (a b : List V → Option T) → ((vs : List V) → a vs ≡ b vs) → (n : ℕ) (vs : List V) → ((y : T) → member same (gather v a n vs) y ≡ true → v y ≡ w y) → (gather v a n vs ≡ gather w b n vs) × (map v (gather v a n vs) ≡ map w (gather w b n vs))
gather-path same re v w a b ext zero vs h = (unfold gather in refl, unfold gather in refl)
gather-path same re v w a b ext (suc n) vs h =
    by_option (a vs)
    (λ k. rw (gather-none v a (suc n) vs k, gather-none w b (suc n) vs (sym (ext vs) ∙ k)) (refl, refl))
    (λ y k.
    let m : b vs ≡ Some y = sym (ext vs) ∙ k in
    let e = gather-some v a n vs y k in
    let here : v y ≡ w y = h y (rw e (or_left (same y y) _ (re y))) in
    let rest = gather-path same re v w a b ext n (vs ++ v y ∷ []) (λ z q. h z (rw e (or_right (same z y) _ q))) in
    let r = subst (λ (x : _). (gather v a n (vs ++ v y ∷ []) ≡ gather w b n (vs ++ x ∷ [])) × (map v (gather v a n (vs ++ v y ∷ [])) ≡ map w (gather w b n (vs ++ x ∷ [])))) here rest in
    rw (e, gather-some w b n vs y m)
    (ap (λ xs. y ∷ xs) r.0, ap (λ xs. v y ∷ xs) r.1 ∙ ap (λ q. q ∷ map w (gather w b n (vs ++ w y ∷ []))) here))

module _ {T V : Type 0} (t u : Rows T V) (tl : AreRows t) (ul : AreRows u) (P : T → Type 0) (rows : (x : T) → P x → SameRow t u x) (down : (x y : T) → P x → member t.same (inputs_of t x) y ≡ true → P y) where
  inputs-path : (x : T) → P x → ((y : T) → member t.same (inputs_of t x) y ≡ true → value_of t y ≡ value_of u y) → (inputs_of t x ≡ inputs_of u x) × (map (value_of t) (inputs_of t x) ≡ map (value_of u) (inputs_of u x))
  unfolding inputs_of
  inputs-path x p h =
      rw (← (rows x p).most)
      (gather-path t.same tl.same_refl (value_of t) (value_of u) (t.asks x) (u.asks x) (rows x p).asks (t.most x) [] h)

  stable-at : (r : ℕ) (x : T) → t.rank x < r → P x → (inputs_of t x ≡ inputs_of u x) × (value_of t x ≡ value_of u x)
  stable-at zero x h p = absurd (omega arith)
  stable-at (suc r) x h p =
      let f = inputs-path x p (λ y m.
      let b : t.rank y < t.rank x = (system-acyclic t tl).falls x y m in
      (stable-at r y (omega arith) (down x y p m)).1) in
      (f.0, value-is t tl x ∙ (rows x p).operation (map (value_of t) (inputs_of t x)) ∙ ap (u.operation x) f.1 ∙ sym (value-is u ul x))

  pub stable : (x : T) → P x → (inputs_of t x ≡ inputs_of u x) × (value_of t x ≡ value_of u x)
  stable x p = stable-at (suc (t.rank x)) x (omega arith) p
