-- Numbers of a list without equal states, and of the list with one state more.
use Rattle.std.proofs.Common.{◌≡◌, ℕ, zero, suc, Bool, false, List, [], ◌∷◌, Some, slice_get, refl, sym, ap, ◌∙◌, subst}
use Rattle.std.specs.Cmp.{IsEquivalence}
use Rattle.std.specs.List.{IsDistinct, AllByRecursion, list_any}
use Rattle.std.proofs.lemmas.Map.Keys.{IsDistinct-head, IsDistinct-tail}
use Rattle.base_values.proofs.Cases.{by_bool, not_both}
use Rattle.state_table.specs.Numbers.{with_state, KeepsNumbers, AreOnce}
use Rattle.base_values.proofs.Lists.{get_front}

-- what holds of all holds at each place
at_place : {T : Type 0} (P : T → Type 0) (xs : List T) → AllByRecursion P xs → (n : ℕ) (t : T) → slice_get xs n ≡ Some t → P t
at_place P [] h n t at = cc
at_place P (x ∷ xs) h zero t at = let e : x ≡ t = cc in subst P e h.0
at_place P (x ∷ xs) h (suc n) t at = at_place P xs h.1 n t at

pub distinct-once : {T : Type 0} (eq : T → T → Bool) → IsEquivalence eq → (xs : List T) → IsDistinct eq xs → AreOnce eq xs
distinct-once eq law [] d m n s t p q e = cc
distinct-once eq law (x ∷ xs) d zero zero s t p q e = refl
distinct-once eq law (x ∷ xs) d zero (suc n) s t p q e =
    let is : x ≡ s = cc in
    let h = at_place (λ y. eq x y ≡ false) xs (IsDistinct-head eq x xs d) n t q in
    not_both (eq s t) e (ap (λ y. eq y t) (sym is) ∙ h)
distinct-once eq law (x ∷ xs) d (suc m) zero s t p q e =
    let is : x ≡ t = cc in
    let h = at_place (λ y. eq x y ≡ false) xs (IsDistinct-head eq x xs d) m s p in
    not_both (eq s t) e (law.symm s t ∙ ap (λ y. eq y s) (sym is) ∙ h)
distinct-once eq law (x ∷ xs) d (suc m) (suc n) s t p q e = ap suc (distinct-once eq law xs (IsDistinct-tail eq x xs d) m n s t p q e)

pub with_state-keeps : {T : Type 0} (eq : T → T → Bool) (states : List T) (state : T) → KeepsNumbers states (with_state eq states state)
with_state-keeps eq states state =
    by_bool (list_any (eq state) states)
    (λ t. rw t (λ n s at. at))
    (λ t. rw t (get_front states (state ∷ [])))
