-- Pages of a table.
use Rattle.std.proofs.lemmas.Bool.Decides.{nat_tests}
use Rattle.std.proofs.lemmas.Bool.{cases_lt}
use Rattle.std.proofs.Common.{◌≡◌, ℕ, zero, suc, ◌<◌, ◌≤◌, ◌/◌, ◌%◌, ◌==◌, ◌⊎◌, inl, inr, cond, Bool, true, false, List, [], ◌∷◌, ◌++◌, length, slice_set, slice_index_or, Bor, Option, Some, None, refl, sym, ap, ◌∙◌, subst, arith}
use Rattle.std.specs.Option.{is_some, option_copied}
use Rattle.imp_check.specs.declared.entry.Entry.{Entry}
use Rattle.imp_check.specs.Tables.{entry_in}
use Rattle.imp_check.proofs.PutLemmas.{other, same, less, slot_set, entry_past}
use Rattle.imp_table.specs.Pages.{entry_at, lengths, HasPlace}

-- what an entry that is not there was
pub nothing_in : (o : Option (Bor Entry)) → is_some o ≡ false → option_copied o ≡ None
nothing_in None h = refl
nothing_in (Some x) h = absurd cc

abbrev pub page_at : List (List (Option Entry)) → ℕ → List (Option Entry)
page_at pages i = slice_index_or pages i []

-- Pages of a list.
pub page_is : (pages : List (List (Option Entry))) (i : ℕ) (d : List (Option Entry)) → i < length pages → slice_index_or pages i d ≡ page_at pages i
page_is [] i d h = absurd (omega arith)
page_is (p ∷ ps) zero d h = refl
page_is (p ∷ ps) (suc i) d h = page_is ps i d (omega arith)

pub page_past : (pages : List (List (Option Entry))) (i : ℕ) → length pages ≤ i → page_at pages i ≡ []
page_past [] i h = refl
page_past (p ∷ ps) zero h = absurd (omega arith)
page_past (p ∷ ps) (suc i) h = page_past ps i (omega arith)

page_set : (pages : List (List (Option Entry))) (i : ℕ) (p : List (Option Entry)) (a : ℕ) → i < length pages → page_at (slice_set pages i p) a ≡ cond (i == a) p (page_at pages a)
page_set [] i p a h = absurd (omega arith)
page_set (x ∷ xs) zero p zero h = ap (λ b. cond b p x) (sym (same 0))
page_set (x ∷ xs) zero p (suc a) h = ap (λ b. cond b p (page_at xs a)) (sym (other 0 (suc a) (λ q. omega (arith, q))))
page_set (x ∷ xs) (suc i) p zero h = ap (λ b. cond b p x) (sym (other (suc i) 0 (λ q. omega (arith, q))))
page_set (x ∷ xs) (suc i) p (suc a) h = page_set xs i p a (omega arith) ∙ ap (λ b. cond b p (page_at xs a)) (sym (less i a))

pub page_more : (pages : List (List (Option Entry))) (i : ℕ) → page_at (pages ++ [] ∷ []) i ≡ page_at pages i
page_more [] zero = refl
page_more [] (suc i) = refl
page_more (p ∷ ps) zero = refl
page_more (p ∷ ps) (suc i) = page_more ps i

-- Places of pages.
lengths_at : (pages : List (List (Option Entry))) (i : ℕ) → slice_index_or (lengths pages) i 0 ≡ length (page_at pages i)
lengths_at [] i = refl
lengths_at (p ∷ ps) zero = refl
lengths_at (p ∷ ps) (suc i) = lengths_at ps i

pub in_page : (pages : List (List (Option Entry))) (n : ℕ) → HasPlace (lengths pages) n → n % 64 < length (page_at pages (n / 64))
in_page pages n h = subst (λ l. n % 64 < l) (lengths_at pages (n / 64)) h

pub of_page : (pages : List (List (Option Entry))) (n : ℕ) → n % 64 < length (page_at pages (n / 64)) → HasPlace (lengths pages) n
of_page pages n h = subst (λ l. n % 64 < l) (sym (lengths_at pages (n / 64))) h

pub page_there : (pages : List (List (Option Entry))) (n : ℕ) → HasPlace (lengths pages) n → n / 64 < length pages
page_there pages n h = go (cases_lt (n / 64) (length pages))
  where
    go : ((n / 64) < length pages) ⊎ (length pages ≤ (n / 64)) → n / 64 < length pages
    go (inl l) = l
    go (inr l) = absurd (omega (arith, in_page pages n h, ap (λ (p : List (Option Entry)). length p) (page_past pages (n / 64) l)))

pub in_page_low : (n l : ℕ) → 64 ≤ l → n % 64 < l
in_page_low n l h = omega (arith, h)

-- nothing stands where there is no place
pub nothing_at : (pages : List (List (Option Entry))) (n : ℕ) → (HasPlace (lengths pages) n → ⊥) → entry_at pages n ≡ None
nothing_at pages n h = go (cases_lt (n % 64) (length (page_at pages (n / 64))))
  where
    go : (n % 64 < length (page_at pages (n / 64))) ⊎ (length (page_at pages (n / 64)) ≤ n % 64) → entry_at pages n ≡ None
    go (inl l) = absurd (h (of_page pages n l))
    go (inr l) = entry_past (page_at pages (n / 64)) (n % 64) l

-- A page is set.
module _ (pages : List (List (Option Entry))) (i : ℕ) (p : List (Option Entry)) (there : i < length pages) where
  pub set_entry : ((n : ℕ) → entry_in p n ≡ entry_in (page_at pages i) n) → (n : ℕ) → entry_at (slice_set pages i p) n ≡ entry_at pages n
  set_entry same_in n =
      ap (λ q. entry_in q (n % 64)) (page_set pages i p (n / 64) there) ∙ go (i == n / 64) refl
    where
      go : (b : Bool) → (i == n / 64) ≡ b → entry_in (cond b p (page_at pages (n / 64))) (n % 64) ≡ entry_at pages n
      go true e = let q : i ≡ n / 64 = grind (arith, nat_tests) in same_in (n % 64) ∙ ap (λ k. entry_in (page_at pages k) (n % 64)) q
      go false e = refl

  pub set_place : (n : ℕ) → n / 64 ≡ i → n % 64 < length p → HasPlace (lengths (slice_set pages i p)) n
  set_place n q l =
      of_page (slice_set pages i p) n (
      subst (λ (r : List (Option Entry)). n % 64 < length r) (sym (page_set pages i p (n / 64) there ∙ ap (λ b. cond b p (page_at pages (n / 64))) (ap (λ k. k == n / 64) (sym q) ∙ same (n / 64)))) l)

  pub set_still : (n : ℕ) → (n / 64 ≡ i → length (page_at pages i) ≤ length p) → HasPlace (lengths pages) n → HasPlace (lengths (slice_set pages i p)) n
  set_still n longer h = go (i == n / 64) refl
    where
      here : n % 64 < length (page_at pages (n / 64))
      here = in_page pages n h

      go : (b : Bool) → (i == n / 64) ≡ b → HasPlace (lengths (slice_set pages i p)) n
      go true e =
          let q : i ≡ n / 64 = grind (arith, nat_tests) in
          let l : n % 64 < length (page_at pages i) = subst (λ k. n % 64 < length (page_at pages k)) (sym q) here in
          set_place n (sym q) (omega (arith, l, longer (sym q)))
      go false e =
          of_page (slice_set pages i p) n (
          subst (λ (r : List (Option Entry)). n % 64 < length r) (sym (page_set pages i p (n / 64) there ∙ ap (λ b. cond b p (page_at pages (n / 64))) e)) here)

pub set_lengths : (pages : List (List (Option Entry))) (i : ℕ) (p : List (Option Entry)) → length p ≡ length (page_at pages i) → lengths (slice_set pages i p) ≡ lengths pages
set_lengths [] i p h = refl
set_lengths (x ∷ xs) zero p h = ap (λ n. n ∷ lengths xs) h
set_lengths (x ∷ xs) (suc i) p h = ap (λ ns. length x ∷ ns) (set_lengths xs i p h)

pub place_length : (xs : List (Option Entry)) (i : ℕ) (o : Option Entry) → length (slice_set xs i o) ≡ length xs
place_length [] i o = refl
place_length (x ∷ xs) zero o = refl
place_length (x ∷ xs) (suc i) o = ap suc (place_length xs i o)

-- What stands at a number is set.
module _ (pages : List (List (Option Entry))) (k : ℕ) (o : Option Entry) (h : HasPlace (lengths pages) k) where
  pub number_set : (m : ℕ) → entry_at (slice_set pages (k / 64) (slice_set (page_at pages (k / 64)) (k % 64) o)) m ≡ cond (k == m) o (entry_at pages m)
  number_set m =
      ap (λ q. entry_in q (m % 64)) (page_set pages (k / 64) (slice_set (page_at pages (k / 64)) (k % 64) o) (m / 64) (page_there pages k h))
      ∙ go (k / 64 == m / 64) refl
    where
      go : (b : Bool) → (k / 64 == m / 64) ≡ b → entry_in (cond b (slice_set (page_at pages (k / 64)) (k % 64) o) (page_at pages (m / 64))) (m % 64) ≡ cond (k == m) o (entry_at pages m)
      go true e =
          let q : k / 64 ≡ m / 64 = grind (arith, nat_tests) in
          slot_set (page_at pages (k / 64)) (k % 64) o (m % 64) (in_page pages k h)
          ∙ ap (λ j. cond (k % 64 == m % 64) o (entry_in (page_at pages j) (m % 64))) q
          ∙ ap (λ b. cond b o (entry_at pages m)) (within (k % 64 == m % 64) refl)
        where
          within : (b : Bool) → (k % 64 == m % 64) ≡ b → b ≡ (k == m)
          within true f =
              let q : k / 64 ≡ m / 64 = grind (arith, nat_tests) in
              let r : k % 64 ≡ m % 64 = grind (arith, nat_tests) in
              let s : k ≡ m = omega (arith, q, r) in
              sym (ap (λ n. k == n) (sym s) ∙ same k)
          within false f = sym (other k m (λ s. let r : k % 64 ≡ m % 64 = ap (λ n. n % 64) s in absurd (grind (arith, nat_tests))))
      go false e = ap (λ b. cond b o (entry_at pages m)) (sym (other k m (λ s. let r : k / 64 ≡ m / 64 = ap (λ n. n / 64) s in absurd (grind (arith, nat_tests)))))

  pub number_lengths : lengths (slice_set pages (k / 64) (slice_set (page_at pages (k / 64)) (k % 64) o)) ≡ lengths pages
  number_lengths = set_lengths pages (k / 64) (slice_set (page_at pages (k / 64)) (k % 64) o) (place_length (page_at pages (k / 64)) (k % 64) o)

-- A page without places more.
pub entry_more : (pages : List (List (Option Entry))) (n : ℕ) → entry_at (pages ++ [] ∷ []) n ≡ entry_at pages n
entry_more pages n = ap (λ p. entry_in p (n % 64)) (page_more pages (n / 64))

pub place_more : (pages : List (List (Option Entry))) (n : ℕ) → HasPlace (lengths pages) n → HasPlace (lengths (pages ++ [] ∷ [])) n
place_more pages n h = of_page (pages ++ [] ∷ []) n (subst (λ (p : List (Option Entry)). n % 64 < length p) (sym (page_more pages (n / 64))) (in_page pages n h))
