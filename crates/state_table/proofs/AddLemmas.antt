-- A state that is added has its first place, or the end.
use Rattle.std.proofs.Common.{◌≡◌, ℕ, zero, suc, Bool, true, false, List, [], ◌∷◌, ◌++◌, length, Some, slice_get, if◌then◌else◌, ◌⊎◌, inl, inr, ⊎_elim, refl, sym, ap, ◌∙◌, one-add, ◌≤◌, ◌+◌, arith}
use Rattle.std.specs.Cmp.{IsEquivalence}
use Rattle.std.specs.List.{list_any, position_or_len}
use Rattle.base_values.proofs.Cases.{by_bool}
use Rattle.base_values.proofs.Lists.{get_last, one_more}
use Rattle.state_table.specs.Numbers.{with_state, IsNumberOf, TellsApart, Adds}
use Rattle.base_values.proofs.Cases.{not_both}

-- the first place that passes, or none
abbrev First : {T : Type 0} → (T → Bool) → List T → Type 0
First {T} test xs =
    ((s : T) × (slice_get xs (position_or_len test xs) ≡ Some s) × (test s ≡ true) × (list_any test xs ≡ true))
    ⊎ (((m : ℕ) (s : T) → slice_get xs m ≡ Some s → test s ≡ false) × (position_or_len test xs ≡ length xs) × (list_any test xs ≡ false))

fails_on : {T : Type 0} (test : T → Bool) (x : T) (xs : List T) → test x ≡ false → ((m : ℕ) (s : T) → slice_get xs m ≡ Some s → test s ≡ false) → (m : ℕ) (s : T) → slice_get (x ∷ xs) m ≡ Some s → test s ≡ false
fails_on test x xs f h zero s e = let is : x ≡ s = cc in ap test (sym is) ∙ f
fails_on test x xs f h (suc m) s e = h m s e

first : {T : Type 0} (test : T → Bool) (xs : List T) → First test xs
first test [] = inr ((λ m s e. cc), refl, refl)
first {T} test (x ∷ xs) =
    by_bool (test x)
    (λ t. inl (x, rw t refl, t, rw t refl))
    (λ f. ⊎_elim
    (λ h. inl (h.0, rw (f, one-add) h.1, h.2, rw f h.3))
    (λ h. inr (fails_on test x xs f h.0, rw (f, one-add) (ap suc h.1), rw f h.2))
    (first test xs))

-- a state that is added has its first place, or the end
pub with_state-adds : {T : Type 0} (eq : T → T → Bool) → IsEquivalence eq → TellsApart eq → (states : List T) (state : T) → Adds states (with_state eq states state) state (position_or_len (eq state) states)
with_state-adds {T} eq law tells states state =
    ⊎_elim
    (λ h. inl (h.1 ∙ ap Some (sym (tells state h.0 h.2)), rw h.3 refl))
    (λ h. inr ((λ m e. not_both (eq state state) (law.refl state) (h.0 m state e)), h.1, rw h.2 refl))
    (first (eq state) states)

-- one more at most
pub with_state-length : {T : Type 0} (eq : T → T → Bool) (states : List T) (state : T) → length (with_state eq states state) ≤ length states + 1
with_state-length {T} eq states state =
    by_bool (list_any (eq state) states)
    (λ t. let h : length (with_state eq states state) ≡ length states = ap (λ b. length (if b then states else states ++ state ∷ [])) t in omega (arith, h))
    (λ f. let h : length (with_state eq states state) ≡ suc (length states) = ap (λ b. length (if b then states else states ++ state ∷ [])) f ∙ one_more states state in omega (arith, h))

-- the number of the state that is added is its own
pub with_state-number : {T : Type 0} (eq : T → T → Bool) → IsEquivalence eq → (states : List T) (state : T) → IsNumberOf eq (with_state eq states state) state (position_or_len (eq state) states)
with_state-number {T} eq law states state =
    ⊎_elim
    (λ h. (h.0, ap (λ b. slice_get (if b then states else states ++ state ∷ []) (position_or_len (eq state) states)) h.3 ∙ h.1, h.2))
    (λ h. (state, ap (λ b. slice_get (if b then states else states ++ state ∷ []) (position_or_len (eq state) states)) h.2 ∙ ap (slice_get (states ++ state ∷ [])) h.1 ∙ get_last states state, law.refl state))
    (first (eq state) states)
