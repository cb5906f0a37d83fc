-- Entries put into a table one after the other.
use Rattle.std.specs.Prelude.{ℕ, zero, suc, List, [], ◌∷◌, ◌++◌, Option, Some, None}
use Rattle.imp_check.specs.declared.entry.Entry.{Entry}
use Rattle.imp_check.specs.declared.entry.SlotForm.{SlotForm}
use Rattle.imp_check.specs.declared.entry.SlotForm.TheVariants as form

-- a table with what stands at a number
abbrev pub put_at : List (Option Entry) → ℕ → Option Entry → List (Option Entry)
put_at [] zero o = o ∷ []
put_at [] (suc n) o = None ∷ put_at [] n o
put_at (x ∷ xs) zero o = o ∷ xs
put_at (x ∷ xs) (suc n) o = x ∷ put_at xs n o

abbrev pub put_all : List Entry → List (Option Entry) → List (Option Entry)
put_all [] t = t
put_all (e ∷ es) t = put_all es (put_at t e.number (Some e))

-- the call statements of procedures, with one more of the procedure at a place
abbrev pub with_site : ℕ → (place : ℕ) → List (List ℕ) → List (List ℕ)
with_site n p [] = []
with_site n zero (s ∷ ss) = (s ++ n ∷ []) ∷ ss
with_site n (suc p) (s ∷ ss) = s ∷ with_site n p ss

abbrev pub with_form : ℕ → SlotForm → List (List ℕ) → List (List ℕ)
with_form n (form.Stmt s) ss = ss
with_form n (form.Cond c) ss = ss
with_form n (form.Call i p) ss = with_site n p ss

abbrev pub with_sites : List Entry → List (List ℕ) → List (List ℕ)
with_sites [] ss = ss
with_sites (e ∷ es) ss = with_sites es (with_form e.number e.form ss)

abbrev pub no_sites : ℕ → List (List ℕ)
no_sites zero = []
no_sites (suc n) = [] ∷ no_sites n
