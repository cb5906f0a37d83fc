-- Call statements.
use Rattle.std.proofs.Common.{ℕ, zero, suc, ◌≡◌, ◌+◌, ◌<◌, ◌≤◌, List, [], ◌∷◌, ◌++◌, length, slice_get, Some, None, refl, sym, ap, ◌∙◌, arith, add-one, length-append, ◌⊎◌, inl, inr}
use Rattle.std.proofs.lemmas.Bool.{cases_lt}
use Rattle.imp_check.specs.Entries.{sites_in, sites_below}
use Rattle.imp_check.specs.declared.entry.Entry.{Entry}
use Rattle.std.proofs.lemmas.Option.{slice_get_past}

pub below_step : (es : List Entry) (n : ℕ) → sites_below es (n + 1) ≡ sites_below es n ++ sites_in es n ∷ []
below_step es n = rw add-one refl

below_length : (es : List Entry) (n : ℕ) → length (sites_below es n) ≡ n
below_length es zero = refl
below_length es (suc n) = omega (arith, length-append (sites_below es n) (sites_in es n ∷ []), below_length es n)

-- the last of a list, and what stands before it
last_at : {A : Type 0} (xs : List A) (x : A) (n : ℕ) → length xs ≡ n → slice_get (xs ++ x ∷ []) n ≡ Some x
last_at [] x zero h = refl
last_at [] x (suc n) h = absurd (omega arith)
last_at (y ∷ xs) x zero h = absurd (omega arith)
last_at (y ∷ xs) x (suc n) h = last_at xs x n (omega arith)

before_last : {A : Type 0} (xs : List A) (x : A) (p : ℕ) → p < length xs → slice_get (xs ++ x ∷ []) p ≡ slice_get xs p
before_last [] x p h = absurd (omega arith)
before_last (y ∷ xs) x zero h = refl
before_last (y ∷ xs) x (suc p) h = before_last xs x p (omega arith)

below_by : (es : List Entry) (n p : ℕ) → (p < n → slice_get (sites_below es n) p ≡ Some (sites_in es p)) → (p < n) ⊎ (n ≤ p) → p < suc n → slice_get (sites_below es n ++ sites_in es n ∷ []) p ≡ Some (sites_in es p)
below_by es n p ih (inl k) h = before_last (sites_below es n) (sites_in es n) p (omega (arith, below_length es n)) ∙ ih k
below_by es n p ih (inr k) h =
    let e : n ≡ p = omega arith in
    ap (λ (q : ℕ). slice_get (sites_below es n ++ sites_in es n ∷ []) q) (sym e) ∙ last_at (sites_below es n) (sites_in es n) n (below_length es n) ∙ ap (λ (q : ℕ). Some (sites_in es q)) e

pub below_at : (es : List Entry) (n p : ℕ) → p < n → slice_get (sites_below es n) p ≡ Some (sites_in es p)
below_at es zero p h = absurd (omega arith)
below_at es (suc n) p h = below_by es n p (below_at es n p) (cases_lt p n) h

pub below_past : (es : List Entry) (n p : ℕ) → n ≤ p → slice_get (sites_below es n) p ≡ None
below_past es n p h = slice_get_past (sites_below es n) p (omega (arith, below_length es n))
