-- Tables by number, and entries put into them.
use Rattle.std.proofs.lemmas.Bool.Decides.{nat_tests}
use Rattle.std.proofs.Common.{◌≡◌, ℕ, zero, suc, ◌<◌, ◌≤◌, ◌==◌, cond, Bool, true, false, List, [], ◌∷◌, ◌++◌, length, slice_set, slice_index_or, Option, Some, None, refl, sym, ap, ◌∙◌, arith}
use Rattle.imp_slots.specs.Fits.{Absent, Distinct}
use Rattle.imp_check.specs.Faults.{first}
use Rattle.imp_check.specs.Tables.{entry_in}
use Rattle.imp_check.specs.Entries.{entry_of}
use Rattle.imp_check.specs.Puts.{put_at, put_all, with_sites, with_form}
use Rattle.imp_check.specs.declared.entry.Entry.{Entry}
use Rattle.imp_check.proofs.RebuildLemmas.{entry_numbers}

pub other : (k m : ℕ) → (k ≡ m → ⊥) → (k == m) ≡ false
other k m h = go (k == m) refl
  where
    go : (b : Bool) → (k == m) ≡ b → b ≡ false
    go false e = refl
    go true e = absurd (h (grind (arith, nat_tests)))

pub same : (k : ℕ) → (k == k) ≡ true
same k = grind (arith, nat_tests)

pub less : (k m : ℕ) → (suc k == suc m) ≡ (k == m)
less k m = go (k == m) refl
  where
    go : (b : Bool) → (k == m) ≡ b → (suc k == suc m) ≡ b
    go true e = let q : k ≡ m = grind (arith, nat_tests) in ap (λ n. suc k == suc n) (sym q) ∙ same (suc k)
    go false e = other (suc k) (suc m) (λ q. let r : k ≡ m = omega (arith, q) in absurd (grind (arith, nat_tests)))

-- nothing stands past the last place
pub entry_past : (xs : List (Option Entry)) (k : ℕ) → length xs ≤ k → entry_in xs k ≡ None
entry_past [] k h = refl
entry_past (x ∷ xs) zero h = absurd (omega arith)
entry_past (x ∷ xs) (suc k) h = entry_past xs k (omega arith)

pub slot_get : (xs : List (Option Entry)) (k : ℕ) (d : Option Entry) → k < length xs → slice_index_or xs k d ≡ entry_in xs k
slot_get [] k d h = absurd (omega arith)
slot_get (x ∷ xs) zero d h = refl
slot_get (x ∷ xs) (suc k) d h = slot_get xs k d (omega arith)

pub slot_set : (xs : List (Option Entry)) (k : ℕ) (o : Option Entry) (m : ℕ) → k < length xs → entry_in (slice_set xs k o) m ≡ cond (k == m) o (entry_in xs m)
slot_set [] k o m h = absurd (omega arith)
slot_set (x ∷ xs) zero o zero h = ap (λ b. cond b o x) (sym (same 0))
slot_set (x ∷ xs) zero o (suc m) h = ap (λ b. cond b o (entry_in xs m)) (sym (other 0 (suc m) (λ q. omega (arith, q))))
slot_set (x ∷ xs) (suc k) o zero h = ap (λ b. cond b o x) (sym (other (suc k) 0 (λ q. omega (arith, q))))
slot_set (x ∷ xs) (suc k) o (suc m) h = slot_set xs k o m (omega arith) ∙ ap (λ b. cond b o (entry_in xs m)) (sym (less k m))

-- a place more where nothing stands
pub entry_more : (xs : List (Option Entry)) (m : ℕ) → entry_in (xs ++ None ∷ []) m ≡ entry_in xs m
entry_more [] zero = refl
entry_more [] (suc m) = refl
entry_more (x ∷ xs) zero = refl
entry_more (x ∷ xs) (suc m) = entry_more xs m

pub put_more : (xs : List (Option Entry)) (n : ℕ) (o : Option Entry) → length xs < n → put_at (xs ++ None ∷ []) n o ≡ put_at xs n o
put_more [] zero o h = absurd (omega arith)
put_more [] (suc n) o h = refl
put_more (x ∷ xs) zero o h = absurd (omega arith)
put_more (x ∷ xs) (suc n) o h = ap (λ ys. x ∷ ys) (put_more xs n o (omega arith))

pub put_there : (xs : List (Option Entry)) (n : ℕ) (o : Option Entry) → n < length xs → slice_set xs n o ≡ put_at xs n o
put_there [] n o h = absurd (omega arith)
put_there (x ∷ xs) zero o h = refl
put_there (x ∷ xs) (suc n) o h = ap (λ ys. x ∷ ys) (put_there xs n o (omega arith))

pub put_end : (xs : List (Option Entry)) (n : ℕ) (o : Option Entry) → length xs ≡ n → xs ++ o ∷ [] ≡ put_at xs n o
put_end [] zero o h = refl
put_end [] (suc n) o h = absurd (omega arith)
put_end (x ∷ xs) zero o h = absurd (omega arith)
put_end (x ∷ xs) (suc n) o h = ap (λ ys. x ∷ ys) (put_end xs n o (omega arith))

entry_nothing : (n m : ℕ) (o : Option Entry) → entry_in (put_at [] n o) m ≡ cond (n == m) o None
entry_nothing zero zero o = ap (λ b. cond b o None) (sym (same 0))
entry_nothing zero (suc m) o = ap (λ b. cond b o None) (sym (other 0 (suc m) (λ q. omega (arith, q))))
entry_nothing (suc n) zero o = ap (λ b. cond b o None) (sym (other (suc n) 0 (λ q. omega (arith, q))))
entry_nothing (suc n) (suc m) o = entry_nothing n m o ∙ ap (λ b. cond b o None) (sym (less n m))

pub entry_put : (xs : List (Option Entry)) (n m : ℕ) (o : Option Entry) → entry_in (put_at xs n o) m ≡ cond (n == m) o (entry_in xs m)
entry_put [] n m o = entry_nothing n m o
entry_put (x ∷ xs) zero zero o = ap (λ b. cond b o x) (sym (same 0))
entry_put (x ∷ xs) zero (suc m) o = ap (λ b. cond b o (entry_in xs m)) (sym (other 0 (suc m) (λ q. omega (arith, q))))
entry_put (x ∷ xs) (suc n) zero o = ap (λ b. cond b o x) (sym (other (suc n) 0 (λ q. omega (arith, q))))
entry_put (x ∷ xs) (suc n) (suc m) o = entry_put xs n m o ∙ ap (λ b. cond b o (entry_in xs m)) (sym (less n m))

-- Entries put one after the other.
pub all_both : (xs ys : List Entry) (t : List (Option Entry)) → put_all (xs ++ ys) t ≡ put_all ys (put_all xs t)
all_both [] ys t = refl
all_both (x ∷ xs) ys t = all_both xs ys (put_at t x.number (Some x))

pub sites_both : (xs ys : List Entry) (ss : List (List ℕ)) → with_sites (xs ++ ys) ss ≡ with_sites ys (with_sites xs ss)
sites_both [] ys ss = refl
sites_both (x ∷ xs) ys ss = sites_both xs ys (with_form x.number x.form ss)

absent : (n m : ℕ) (es : List Entry) → Absent n (entry_numbers es) → n ≡ m → entry_of es m ≡ None
absent n m [] a q = refl
absent n m (e ∷ es) a q =
    ap (λ b. cond b (Some e) (entry_of es m)) (other e.number m (λ r. a.0 (q ∙ sym r))) ∙ absent n m es a.1 q

pub all_at : (es : List Entry) (t : List (Option Entry)) (m : ℕ) → Distinct (entry_numbers es) → entry_in (put_all es t) m ≡ first (entry_of es m) (entry_in t m)
all_at [] t m d = refl
all_at (e ∷ es) t m d =
    all_at es (put_at t e.number (Some e)) m d.1
    ∙ ap (first (entry_of es m)) (entry_put t e.number m (Some e))
    ∙ go (e.number == m) refl
  where
    go : (b : Bool) → (e.number == m) ≡ b → first (entry_of es m) (cond b (Some e) (entry_in t m)) ≡ first (cond b (Some e) (entry_of es m)) (entry_in t m)
    go true q = let r : e.number ≡ m = grind (arith, nat_tests) in ap (λ o. first o (Some e)) (absent e.number m es d.0 r)
    go false q = refl
