-- The statements of a block and what is known at them.
use Rattle.std.specs.Prelude.{◌≡◌, ◌≢◌, ℕ, ℤ, List, [], ◌∷◌, slice_get, Some, if◌then◌else◌, ◌++◌, Option, None, true}
use Rattle.std.proofs.Common.{refl, sym, ap, subst}
use Rattle.base_values.proofs.Cases.{by_test}
use Rattle.base_values.proofs.Members.{Member, here, there, in_left, in_right, Each, none_there, each_more, each_both, each_as, keys, keys_both}
use Rattle.imp_slots.specs.Plain.{Layout, Invoke, Code, Stop, Simple, If, While, Call, Break, Routine, code_numbers}
use Rattle.imp_slots.specs.Fits.{FitsCall, FitsCode, Absent, Distinct}
use Rattle.imp_chains.specs.Chains.{calls_to, has}
use Rattle.domain_laws.specs.Operations.{Operations}
use Rattle.batch_meaning.specs.Values.{Value}
use Rattle.batch_meaning.specs.Batch.{LoopOptions}
use Rattle.batch_meaning.specs.Places.{Spot, spots, find}
use Rattle.std.proofs.lemmas.Option.{same_Some}

absent_not : {A : Type 0} (n : ℕ) (x : ℕ × A) (xs : List (ℕ × A)) → Absent n (keys xs) → Member x xs → n ≢ x.0
absent_not n x [] a m = elim m [ ]
absent_not n x (y ∷ xs) a here = a.0
absent_not n x (y ∷ xs) a (there m) = absent_not n x xs a.1 m

-- an entry of a number that stands once is the one that is found
pub found : {A : Type 0} (x : ℕ × A) (xs : List (ℕ × A)) → Distinct (keys xs) → Member x xs → find x.0 xs ≡ Some x.1
found x [] d m = elim m [ ]
found x (y ∷ xs) d here = by_test x.0 x.0 (λ c. (if c then Some x.1 else find x.0 xs) ≡ Some x.1) (λ k. refl) (λ k. absurd (k refl))
found x (y ∷ xs) d (there m) = by_test x.0 y.0 (λ c. (if c then Some y.1 else find x.0 xs) ≡ Some x.1) (λ k. absurd (absent_not y.0 x xs d.0 m (sym k))) (λ k. found x xs d.1 m)

-- what is found is an entry
pub found_member : {A : Type 0} (n : ℕ) (x : A) (xs : List (ℕ × A)) → find n xs ≡ Some x → Member (n, x) xs
found_member n x [] e = absurd cc
found_member {A} n x (y ∷ xs) e =
    (by_test n y.0 (λ c. (if c then Some y.1 else find n xs) ≡ Some x → Member (n, x) (y ∷ xs))
    (λ k e. let i : y.1 ≡ x = cc in subst (λ (v : A). Member (n, v) (y ∷ xs)) i (subst (λ (j : ℕ). Member (j, y.1) (y ∷ xs)) (sym k) here))
    (λ k e. there (found_member n x xs e))) e

module _ {S : Type 0} (dom : Operations S) (engine : LoopOptions) (thresholds : List ℤ) (z : List ℕ) (calls : ℕ → ℕ → Value S → Value S) where
  abbrev all : Code → Value S → List (ℕ × Spot S)
  all = spots dom engine thresholds z calls

  pub keys_numbers : (c : Code) (a : Value S) → keys (all c a) ≡ code_numbers c
  keys_numbers Stop a = refl
  keys_numbers (Simple n e r) a = ap (λ k. n ∷ k) (keys_numbers r _)
  keys_numbers (If n g t e r) a = rw (keys_both, keys_both, keys_numbers t, keys_numbers e, keys_numbers r)
  keys_numbers (While n g b r) a = rw (keys_both, keys_numbers b, keys_numbers r)
  keys_numbers (Call n i q r) a = ap (λ k. n ∷ k) (keys_numbers r _)
  keys_numbers (Break n r) a = ap (λ k. n ∷ k) (keys_numbers r _)

  -- a call fits the layout and one of the routines before
  abbrev CallFits : List Routine → Layout → ℕ × Spot S → Type 0
  CallFits before l x = (q : Invoke × ℕ) → x.1.call ≡ Some q → FitsCall l q.0 (slice_get before q.1)

  pub calls_fit : (before : List Routine) (l : Layout) (c : Code) (a : Value S) → FitsCode before l c → Each (CallFits before l) (all c a)
  calls_fit before l Stop a h = none_there (CallFits before l)
  calls_fit before l (Simple n e r) a h = each_more (CallFits before l) _ _ (λ q e. absurd cc) (calls_fit before l r _ h.1)
  calls_fit before l (If n g t e r) a h =
      each_more (CallFits before l) _ _ (λ q e. absurd cc) (each_both (CallFits before l) _ _ (calls_fit before l t _ h.1) (each_both (CallFits before l) _ _ (calls_fit before l e _ h.2) (calls_fit before l r _ h.3)))
  calls_fit before l (While n g b r) a h =
      each_more (CallFits before l) _ _ (λ q e. absurd cc) (each_both (CallFits before l) _ _ (calls_fit before l b _ h.1) (calls_fit before l r _ h.2))
  calls_fit before l (Call n i q r) a h = each_more (CallFits before l) _ _ (λ p e. subst (λ (k : Invoke × ℕ). FitsCall l k.0 (slice_get before k.1)) (same_Some _ _ e) h.0) (calls_fit before l r _ h.1)
  calls_fit before l (Break n r) a h = each_more (CallFits before l) _ _ (λ q e. absurd cc) (calls_fit before l r _ h)

  -- a statement that calls q is among the calls of q
  abbrev IsCall : Code → ℕ × Spot S → Type 0
  IsCall c x = (q : Invoke × ℕ) → x.1.call ≡ Some q → Member x.0 (calls_to q.1 c)

  pub are_calls : (c : Code) (a : Value S) → Each (IsCall c) (all c a)
  are_calls Stop a = none_there (IsCall Stop)
  are_calls (Simple n e r) a = each_more (IsCall (Simple n e r)) _ _ (λ q e. absurd cc) (are_calls r _)
  are_calls (If n g t e r) a =
      each_more (IsCall (If n g t e r)) _ _ (λ q e. absurd cc)
      (each_both (IsCall (If n g t e r)) _ _ (each_as (IsCall t) _ _ (λ x f q i. in_left _ (f q i)) (are_calls t _))
      (each_both (IsCall (If n g t e r)) _ _ (each_as (IsCall e) _ _ (λ x f q i. in_right (calls_to q.1 t) (in_left _ (f q i))) (are_calls e _))
      (each_as (IsCall r) _ _ (λ x f q i. in_right (calls_to q.1 t) (in_right (calls_to q.1 e) (f q i))) (are_calls r _))))
  are_calls (While n g b r) a =
      each_more (IsCall (While n g b r)) _ _ (λ q e. absurd cc)
      (each_both (IsCall (While n g b r)) _ _ (each_as (IsCall b) _ _ (λ x f q i. in_left _ (f q i)) (are_calls b _))
      (each_as (IsCall r) _ _ (λ x f q i. in_right (calls_to q.1 b) (f q i)) (are_calls r _)))
  are_calls (Call n inv p r) a =
      each_more (IsCall (Call n inv p r)) _ _
      (λ q e. by_test q.1 p (λ c. Member n (if c then n ∷ calls_to q.1 r else calls_to q.1 r)) (λ k. here) (λ k. absurd (k (sym (ap (λ (y : Invoke × ℕ). y.1) (same_Some _ _ e))))))
      (each_as (IsCall r) _ _ (λ x f q i. by_test q.1 p (λ c. Member x.0 (if c then n ∷ calls_to q.1 r else calls_to q.1 r)) (λ k. there (f q i)) (λ k. f q i)) (are_calls r _))
  are_calls (Break n r) a = each_more (IsCall (Break n r)) _ _ (λ q e. absurd cc) (are_calls r _)

-- what is found in two lists is found in the first, or else in the second
abbrev pub or_else : {A : Type 0} → Option A → Option A → Option A
or_else None o = o
or_else (Some a) o = Some a

pub find_both : {A : Type 0} (n : ℕ) (xs ys : List (ℕ × A)) → find n (xs ++ ys) ≡ or_else (find n xs) (find n ys)
find_both n [] ys = refl
find_both n (x ∷ xs) ys = by_test n x.0 (λ c. (if c then Some x.1 else find n (xs ++ ys)) ≡ or_else (if c then Some x.1 else find n xs) (find n ys)) (λ e. refl) (λ e. find_both n xs ys)

pub find_key : {A : Type 0} (n : ℕ) (xs : List (ℕ × A)) → has n (keys xs) ≡ true → (x : A) × (find n xs ≡ Some x)
find_key n [] e = absurd cc
find_key {A} n (x ∷ xs) e =
    (by_test n x.0 (λ c. (if c then true else has n (keys xs)) ≡ true → (y : A) × ((if c then Some x.1 else find n xs) ≡ Some y))
    (λ i e. (x.1, refl))
    (λ i e. find_key n xs e)) e
