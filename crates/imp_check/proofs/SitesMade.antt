-- Call statements, each put to those of its callee.
use Rattle.std.proofs.Common.{◌≡◌, ℕ, zero, suc, ◌+◌, ◌<◌, ◌≤◌, ◌==◌, ◌⊎◌, inl, inr, cond, Bool, true, false, List, [], ◌∷◌, ◌++◌, length, slice_get, slice_set, slice_index_or, Option, Some, None, option_map, refl, sym, ap, ◌∙◌, arith, add-one, append-nil, append_assoc}
use Rattle.std.proofs.lemmas.Bool.{cases_lt}
use Rattle.imp_check.specs.Entries.{calls_here, sites_in, sites_below}
use Rattle.imp_check.specs.Puts.{with_site, with_form, with_sites, no_sites}
use Rattle.imp_check.specs.declared.entry.Entry.{Entry}
use Rattle.imp_check.specs.declared.entry.SlotForm.{SlotForm}
use Rattle.imp_check.specs.declared.entry.SlotForm.TheVariants as form
use Rattle.imp_check.proofs.PutLemmas.{other, same, less}
use Rattle.imp_check.proofs.SiteLemmas.{below_at, below_past}

-- one more call statement, at a place that there is and at one that there is not
pub site_there : (ss : List (List ℕ)) (p n : ℕ) (d : List ℕ) → p < length ss → slice_set ss p (slice_index_or ss p d ++ n ∷ []) ≡ with_site n p ss
site_there [] p n d h = absurd (omega arith)
site_there (s ∷ ss) zero n d h = refl
site_there (s ∷ ss) (suc p) n d h = ap (λ xs. s ∷ xs) (site_there ss p n d (omega arith))

pub site_gone : (ss : List (List ℕ)) (p n : ℕ) → length ss ≤ p → with_site n p ss ≡ ss
site_gone [] p n h = refl
site_gone (s ∷ ss) zero n h = absurd (omega arith)
site_gone (s ∷ ss) (suc p) n h = ap (λ xs. s ∷ xs) (site_gone ss p n (omega arith))

pub none_more : (n : ℕ) → no_sites (n + 1) ≡ no_sites n ++ [] ∷ []
none_more zero = refl
none_more (suc n) = rw add-one (ap (λ xs. [] ∷ xs) (sym (rw add-one refl) ∙ none_more n))

site_at : (ss : List (List ℕ)) (p n q : ℕ) → slice_get (with_site n p ss) q ≡ cond (p == q) (option_map (λ s. s ++ n ∷ []) (slice_get ss q)) (slice_get ss q)
site_at [] p n q = go (p == q) None
  where
    go : (b : Bool) (o : Option (List ℕ)) → o ≡ cond b o o
    go true o = refl
    go false o = refl
site_at (s ∷ ss) zero n zero = ap (λ b. cond b (Some (s ++ n ∷ [])) (Some s)) (sym (same 0))
site_at (s ∷ ss) zero n (suc q) = ap (λ b. cond b (option_map (λ s. s ++ n ∷ []) (slice_get ss q)) (slice_get ss q)) (sym (other 0 (suc q) (λ r. omega (arith, r))))
site_at (s ∷ ss) (suc p) n zero = ap (λ b. cond b (Some (s ++ n ∷ [])) (Some s)) (sym (other (suc p) 0 (λ r. omega (arith, r))))
site_at (s ∷ ss) (suc p) n (suc q) = site_at ss p n q ∙ ap (λ b. cond b (option_map (λ s. s ++ n ∷ []) (slice_get ss q)) (slice_get ss q)) (sym (less p q))

form_at : (n : ℕ) (f : SlotForm) (more : List ℕ) (ss : List (List ℕ)) (q : ℕ) → option_map (λ s. s ++ more) (slice_get (with_form n f ss) q) ≡ option_map (λ s. s ++ cond (calls_here f q) (n ∷ more) more) (slice_get ss q)
form_at n (form.Stmt s) more ss q = refl
form_at n (form.Cond c) more ss q = refl
form_at n (form.Call i p) more ss q = ap (option_map (λ s. s ++ more)) (site_at ss p n q) ∙ go (p == q) (slice_get ss q)
  where
    go : (b : Bool) (o : Option (List ℕ)) → option_map (λ s. s ++ more) (cond b (option_map (λ s. s ++ n ∷ []) o) o) ≡ option_map (λ s. s ++ cond b (n ∷ more) more) o
    go true None = refl
    go true (Some s) = ap Some (append_assoc s (n ∷ []) more)
    go false o = refl

sites_at : (es : List Entry) (ss : List (List ℕ)) (q : ℕ) → slice_get (with_sites es ss) q ≡ option_map (λ s. s ++ sites_in es q) (slice_get ss q)
sites_at [] ss q = go (slice_get ss q)
  where
    go : (o : Option (List ℕ)) → o ≡ option_map (λ s. s ++ []) o
    go None = refl
    go (Some s) = ap Some (sym (append-nil s))
sites_at (e ∷ es) ss q = sites_at es (with_form e.number e.form ss) q ∙ form_at e.number e.form (sites_in es q) ss q

none_at : (n q : ℕ) → q < n → slice_get (no_sites n) q ≡ Some []
none_at zero q h = absurd (omega arith)
none_at (suc n) zero h = refl
none_at (suc n) (suc q) h = none_at n q (omega arith)

none_past : (n q : ℕ) → n ≤ q → slice_get (no_sites n) q ≡ None
none_past zero q h = refl
none_past (suc n) zero h = absurd (omega arith)
none_past (suc n) (suc q) h = none_past n q (omega arith)

made_at : (es : List Entry) (n q : ℕ) → slice_get (with_sites es (no_sites n)) q ≡ slice_get (sites_below es n) q
made_at es n q = sites_at es (no_sites n) q ∙ go (cases_lt q n)
  where
    go : (q < n) ⊎ (n ≤ q) → option_map (λ s. s ++ sites_in es q) (slice_get (no_sites n) q) ≡ slice_get (sites_below es n) q
    go (inl h) = ap (option_map (λ s. s ++ sites_in es q)) (none_at n q h) ∙ sym (below_at es n q h)
    go (inr h) = ap (option_map (λ s. s ++ sites_in es q)) (none_past n q h) ∙ sym (below_past es n q h)

alike : (xs ys : List (List ℕ)) → ((q : ℕ) → slice_get xs q ≡ slice_get ys q) → xs ≡ ys
alike [] [] h = refl
alike [] (y ∷ ys) h = let e : None ≡ Some y = h 0 in cc
alike (x ∷ xs) [] h = let e : Some x ≡ None = h 0 in cc
alike (x ∷ xs) (y ∷ ys) h =
    let e : Some x ≡ Some y = h 0 in
    let head : x ≡ y = cc in
    let rest : xs ≡ ys = alike xs ys (λ q. h (suc q)) in
    λ i. head i ∷ rest i

-- the call statements of each procedure, put one after the other
pub sites_made : (es : List Entry) (n : ℕ) → with_sites es (no_sites n) ≡ sites_below es n
sites_made es n = alike (with_sites es (no_sites n)) (sites_below es n) (made_at es n)
