-- The change from one table to another.
use Rattle.std.proofs.lemmas.Bool.Decides.{nat_tests}
use Rattle.std.proofs.Common.{◌≡◌, ℕ, zero, suc, ◌<◌, ◌≤◌, ◌==◌, ◌⊎◌, inl, inr, cond, Bool, true, false, List, [], ◌∷◌, ◌++◌, length, Option, Some, None, refl, sym, ap, ◌∙◌, subst, arith}
use Rattle.std.specs.List.{All}
use Rattle.base_values.proofs.Lists.{one_more}
use Rattle.std.proofs.lemmas.Bool.{cases_lt}
use Rattle.std.proofs.lemmas.List.Elements.{All-push}
use Rattle.imp_slots.specs.Fits.{Absent}
use Rattle.imp_syntax.specs.Plain.{Procedure, program_numbers}
use Rattle.imp_table.specs.Changes.{overlay, AreWithin}
use Rattle.imp_check.specs.Entries.{entries_of, entry_of}
use Rattle.imp_check.specs.declared.entry.Entry.{Entry}
use Rattle.imp_table.specs.declared.change.Put.{Put}
use Rattle.imp_check.specs.Tables.{entry_in}
use Rattle.imp_check.proofs.PutLemmas.{other}
use Rattle.imp_check.proofs.RebuildLemmas.{entry_numbers, all_numbers}
use Rattle.imp_table.proofs.OverlayLemmas.{put_numbers, overlay_more, overlay_other}
use Rattle.imp_table.proofs.FallingLemmas.{falling_more}

-- numbers above one are not it
apart : (k : ℕ) (ps : List Put) → All (λ (p : Put). suc k ≤ p.number) ps → Absent k (put_numbers ps)
apart k [] a = tt
apart k (p ∷ ps) a = let l : suc k ≤ p.number = a 0 p (omega arith) in ((λ e. omega (arith, e, l)), apart k ps (λ i d h. a (suc i) d (omega arith)))

-- the last place
in_front : (xs : List (Option Entry)) (o : Option Entry) (m : ℕ) → m < length xs → entry_in (xs ++ o ∷ []) m ≡ entry_in xs m
in_front [] o m h = absurd (omega arith)
in_front (x ∷ xs) o zero h = refl
in_front (x ∷ xs) o (suc m) h = in_front xs o m (omega arith)

at_end : (xs : List (Option Entry)) (o : Option Entry) → entry_in (xs ++ o ∷ []) (length xs) ≡ o
at_end [] o = refl
at_end (x ∷ xs) o = at_end xs o

-- The last place is taken from a list that begins as another one.
module _ (xs ys zs : List (Option Entry)) (o : Option Entry) (e : xs ≡ ys ++ o ∷ []) (kept : (m : ℕ) → m < length xs → entry_in xs m ≡ entry_in zs m) where
  more : length xs ≡ suc (length ys)
  more = ap (λ ws. length ws) e ∙ one_more ys o

  pub still_kept : (m : ℕ) → m < length ys → entry_in ys m ≡ entry_in zs m
  still_kept m h = sym (in_front ys o m h) ∙ ap (λ ws. entry_in ws m) (sym e) ∙ kept m (omega (arith, more))

  taken : o ≡ entry_in zs (length ys)
  taken = sym (at_end ys o) ∙ ap (λ ws. entry_in ws (length ys)) (sym e) ∙ kept (length ys) (omega (arith, more))

  -- It is put where those taken before it are, or left out, where nothing stands there.
  module _ (f : ℕ → Option Entry) (moved : (m : ℕ) → length xs ≤ m → f m ≡ entry_in zs m) (free : (m : ℕ) → m < length xs → f m ≡ None) where
    pub moved_put : (g : ℕ → Option Entry) (k : ℕ) → k ≡ length ys → ((m : ℕ) → g m ≡ cond (k == m) o (f m)) → (m : ℕ) → length ys ≤ m → g m ≡ entry_in zs m
    moved_put g k n put m h = put m ∙ go (k == m) refl
      where
        go : (t : Bool) → (k == m) ≡ t → cond t o (f m) ≡ entry_in zs m
        go true q = let r : k ≡ m = grind (arith, nat_tests) in taken ∙ ap (entry_in zs) (sym n ∙ r)
        go false q = moved m (let r : k ≡ m → ⊥ = λ s. absurd (grind (arith, nat_tests)) in grind (arith, more, n))

    pub free_put : (g : ℕ → Option Entry) (k : ℕ) → k ≡ length ys → ((m : ℕ) → g m ≡ cond (k == m) o (f m)) → (m : ℕ) → m < length ys → g m ≡ None
    free_put g k n put m h = put m ∙ ap (λ t. cond t o (f m)) (other k m (λ q. omega (arith, q, n))) ∙ free m (omega (arith, more))

    pub moved_left : o ≡ None → (m : ℕ) → length ys ≤ m → f m ≡ entry_in zs m
    moved_left none m h = go (length ys == m) refl
      where
        go : (t : Bool) → (length ys == m) ≡ t → f m ≡ entry_in zs m
        go true q =
            let r : length ys ≡ m = grind (arith, nat_tests) in
            subst (λ n. f n ≡ entry_in zs n) r (free (length ys) (omega (arith, more)) ∙ sym none ∙ taken)
        go false q = moved m (let r : length ys ≡ m → ⊥ = λ s. absurd (grind (arith, nat_tests)) in grind (arith, more))

    pub free_left : (m : ℕ) → m < length ys → f m ≡ None
    free_left m h = free m (omega (arith, more))

-- What stands at a number is put, below a bound ..
module _ (k b : ℕ) (zs at : ℕ → Option Entry) (ps : List Put) (high : All (λ (q : Put). suc k ≤ q.number) ps) (comes : (m : ℕ) → suc k ≤ m → m < b → overlay ps at m ≡ zs m) where
  free : Absent k (put_numbers ps)
  free = apart k ps high

  pub comes_put : (p : Put) → p.number ≡ k → p.entry ≡ zs k → (m : ℕ) → k ≤ m → m < b → overlay (ps ++ p ∷ []) at m ≡ zs m
  comes_put p n w m h l =
      overlay_more ps p at m (subst (λ k. Absent k (put_numbers ps)) (sym n) free)
      ∙ ap (λ k. cond (k == m) p.entry (overlay ps at m)) n
      ∙ go (k == m) refl
    where
      go : (t : Bool) → (k == m) ≡ t → cond t p.entry (overlay ps at m) ≡ zs m
      go true q = let r : k ≡ m = grind (arith, nat_tests) in w ∙ ap zs r
      go false q = comes m (let r : k ≡ m → ⊥ = λ s. absurd (grind (arith, nat_tests)) in grind arith) l

  pub high_put : (p : Put) → p.number ≡ k → All (λ (q : Put). k ≤ q.number) (ps ++ p ∷ [])
  high_put p n = All-push (λ (q : Put). k ≤ q.number) ps p (λ i d h. omega (arith, high i d h)) (omega (arith, n))

  pub within_put : (p : Put) → p.number ≡ k → k < b → AreWithin b ps → AreWithin b (ps ++ p ∷ [])
  within_put p n l w = record {
    falling = falling_more ps p w.falling (λ i d h. omega (arith, n, high i d h));
    below = All-push (λ (q : Put). q.number < b) ps p w.below (omega (arith, n));
  }

  -- .. or left out, where nothing stands there nor comes.
  pub comes_left : (zs k ≡ None) × (at k ≡ None) → (m : ℕ) → k ≤ m → m < b → overlay ps at m ≡ zs m
  comes_left none m h l = go (k == m) refl
    where
      go : (t : Bool) → (k == m) ≡ t → overlay ps at m ≡ zs m
      go true q =
          let r : k ≡ m = grind (arith, nat_tests) in
          subst (λ n. overlay ps at n ≡ zs n) r (overlay_other ps at k free ∙ none.1 ∙ sym none.0)
      go false q = comes m (let r : k ≡ m → ⊥ = λ s. absurd (grind (arith, nat_tests)) in grind arith) l

  pub high_left : All (λ (q : Put). k ≤ q.number) ps
  high_left = λ i d h. omega (arith, high i d h)

-- a number of no statement has no entry
pub no_entry : (es : List Entry) (n : ℕ) → Absent n (entry_numbers es) → entry_of es n ≡ None
no_entry [] n a = refl
no_entry (e ∷ es) n a = ap (λ b. cond b (Some e) (entry_of es n)) (other e.number n (λ q. a.0 (sym q))) ∙ no_entry es n a.1

absent_below : (b : ℕ) (ns : List ℕ) → All (λ (n : ℕ). n < b) ns → (m : ℕ) → b ≤ m → Absent m ns
absent_below b [] a m h = tt
absent_below b (n ∷ ns) a m h = let l : n < b = a 0 n (omega arith) in ((λ e. omega (arith, e, l, h)), absent_below b ns (λ i d k. a (suc i) d (omega arith)) m h)

past_entry : (ps : List Procedure) (b : ℕ) → All (λ (n : ℕ). n < b) (program_numbers ps) → (m : ℕ) → b ≤ m → entry_of (entries_of ps) m ≡ None
past_entry ps b a m h = no_entry (entries_of ps) m (subst (Absent m) (sym (all_numbers ps)) (absent_below b (program_numbers ps) a m h))

absent_put : (b : ℕ) (ps : List Put) → All (λ (p : Put). p.number < b) ps → (m : ℕ) → b ≤ m → Absent m (put_numbers ps)
absent_put b [] a m h = tt
absent_put b (p ∷ ps) a m h = let l : p.number < b = a 0 p (omega arith) in ((λ e. omega (arith, e, l, h)), absent_put b ps (λ i d k. a (suc i) d (omega arith)) m h)

-- What comes below a number above all those of two programs makes the second of the first.
pub entries_made : (old new : List Procedure) (at : ℕ → Option Entry) (puts : List Put) (b : ℕ) → All (λ (n : ℕ). n < b) (program_numbers old) → All (λ (n : ℕ). n < b) (program_numbers new) → ((n : ℕ) → at n ≡ entry_of (entries_of new) n) → ((n : ℕ) → n < b → overlay puts (entry_of (entries_of old)) n ≡ at n) → AreWithin b puts → (n : ℕ) → entry_of (entries_of new) n ≡ overlay puts (entry_of (entries_of old)) n
entries_made old new at puts b low lows is comes w n = go (cases_lt n b)
  where
    go : (n < b) ⊎ (b ≤ n) → entry_of (entries_of new) n ≡ overlay puts (entry_of (entries_of old)) n
    go (inl l) = sym (comes n l ∙ is n)
    go (inr l) = past_entry new b lows n l ∙ sym (overlay_other puts (entry_of (entries_of old)) n (absent_put b puts w.below n l) ∙ past_entry old b low n l)
