-- Two tables with the same rows except the names, and for operations that give the same on the values that are there.
use Rattle.std.proofs.Common.{◌≡◌, ℕ, zero, suc, ◌<◌, Bool, true, List, [], ◌∷◌, ◌++◌, map, Option, Some, option_map, refl, sym, ap, ◌∙◌, arith}
use Rattle.daig_order.specs.Order.{member}
use Rattle.daig_order.specs.Asking.{Rows, AreRows, gather, value_of, inputs_of}
use Rattle.std.proofs.lemmas.Bool.{or_left, or_right}
use Rattle.daig_order.proofs.AskingProofs.{by_option, gather-none, gather-some, value-is, system-acyclic}

-- The values of what is asked for are the same where names are turned.
gather_turned : {T V : Type 0} (same : T → T → Bool) → ((x : T) → same x x ≡ true) → (turn : T → T) (v w : T → V) (a b : List V → Option T) → ((vs : List V) → b vs ≡ option_map turn (a vs)) → (n : ℕ) (vs : List V) → ((y : T) → member same (gather v a n vs) y ≡ true → w (turn y) ≡ v y) → map w (gather w b n vs) ≡ map v (gather v a n vs)
gather_turned same re turn v w a b ext zero vs h = unfold gather in refl
gather_turned same re turn v w a b ext (suc n) vs h =
    by_option (a vs)
    (λ k. rw (gather-none v a (suc n) vs k, gather-none w b (suc n) vs (ext vs ∙ ap (option_map turn) k)) refl)
    (λ y k.
    let m : b vs ≡ Some (turn y) = ext vs ∙ ap (option_map turn) k in
    let e = gather-some v a n vs y k in
    let here : w (turn y) ≡ v y = h y (rw e (or_left (same y y) _ (re y))) in
    let rest = gather_turned same re turn v w a b ext n (vs ++ v y ∷ []) (λ z q. h z (rw e (or_right (same z y) _ q))) in
    rw (e, gather-some w b n vs (turn y) m, here)
    (ap (λ xs. v y ∷ xs) rest))

module _ {T V : Type 0} (t u : Rows T V) (turn : T → T) where
  -- The row of a turned name: it asks for the turned names, and gives the same on the values of these.
  pub record TurnedRow (x : T) : Type 0 where
    pub asks : (vs : List V) → u.asks (turn x) vs ≡ option_map turn (t.asks x vs)
    pub most : u.most (turn x) ≡ t.most x
    pub operation : u.operation (turn x) (map (value_of t) (inputs_of t x)) ≡ t.operation x (map (value_of t) (inputs_of t x))

  module _ (tl : AreRows t) (ul : AreRows u) (P : T → Type 0) (rows : (x : T) → P x → TurnedRow x) (down : (x y : T) → P x → member t.same (inputs_of t x) y ≡ true → P y) where
    inputs_turned : (x : T) → P x → ((y : T) → member t.same (inputs_of t x) y ≡ true → value_of u (turn y) ≡ value_of t y) → map (value_of u) (inputs_of u (turn x)) ≡ map (value_of t) (inputs_of t x)
    unfolding inputs_of
    inputs_turned x p h =
        rw (rows x p).most
        (gather_turned t.same tl.same_refl turn (value_of t) (value_of u) (t.asks x) (u.asks (turn x)) (rows x p).asks (t.most x) [] h)

    turned_at : (r : ℕ) (x : T) → t.rank x < r → P x → value_of u (turn x) ≡ value_of t x
    turned_at zero x h p = absurd (omega arith)
    turned_at (suc r) x h p =
        let f = inputs_turned x p (λ y m.
        let b : t.rank y < t.rank x = (system-acyclic t tl).falls x y m in
        turned_at r y (omega arith) (down x y p m)) in
        value-is u ul (turn x) ∙ ap (u.operation (turn x)) f ∙ (rows x p).operation ∙ sym (value-is t tl x)

    pub turned : (x : T) → P x → value_of u (turn x) ≡ value_of t x
    turned x p = turned_at (suc (t.rank x)) x (omega arith) p
