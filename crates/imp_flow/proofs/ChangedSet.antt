-- The changed statements are those that are found.
use Rattle.std.proofs.lemmas.Bool.Decides.{nat_tests}
use Rattle.std.proofs.lemmas.Map.Keys.{IsStrictlyIncreasing-from_sorted}
use Rattle.std.proofs.lemmas.Map.Views.{btree_set_contains_iff}
use Rattle.std.proofs.lemmas.Map.Lookups.{exact_unsigned}
use Rattle.std.specs.Cmp.{nat_cmp_total}
use Rattle.std.proofs.Common.{◌≡◌, inl, inr, ℕ, ◌+◌, ◌<◌, ◌==◌, ◌||◌, ◌&&◌, not, List, [], ◌∷◌, reverse, Some, Bool, true, false, MatchBool, slice_get, refl, sym, ap, subst, ◌∙◌, arith}
use Rattle.std.specs.BTreeSet.{contains, IsOrdered}
use Rattle.std.specs.Ordering.{nat_cmp}
use Rattle.base_values.specs.Equal.{same, same_equal, same_Decides}
use Rattle.imp_slots.specs.PartCodes.{layout_code}
use Rattle.batch_meaning.specs.Places.{main_layout}
use Rattle.base_values.proofs.Cases.{by_test}
use Rattle.cell_names.specs.declared.frame.NameFrame.{NameFrame}
use Rattle.cell_names.specs.declared.frame.Point.{Point}
use Rattle.cell_names.specs.declared.frame.Point.TheVariants.{Entry, Then, Else, Body, Post, Iterate, Fix, Exit, Leap}
use Rattle.cell_rows.specs.Rows.{Row, Init}
use Rattle.cell_rows.specs.Flat.{flat_row}
use Rattle.imp_flow.specs.Plans.{Plan, loops_at}
use Rattle.imp_flow.specs.Owners.{owner}
use Rattle.imp_flow.specs.Changed.{is_start, IsChanged, IsTold, AreChanged, Stays}
use Rattle.imp_syntax.specs.Plain.{Procedure}
use Rattle.imp_slots.specs.Fits.{IsChecked}
use Rattle.imp_check.specs.Entries.{entries_of, sites_in}
use Rattle.imp_table.specs.declared.change.Put.{Put}
use Rattle.imp_flow.specs.declared.search.Search.{Search}
use Rattle.imp_flow.specs.Searches.{left_by, IsSearch, GoesOn, IsLooked, AllLooked, ArePutsLooked, AreCallersLooked, AreLoopsLooked}
use Rattle.std.proofs.lemmas.Option.{same_Some}
use Rattle.std.proofs.lemmas.Bool.{false≢true}

-- the second set has what the first has, and m, unless it is kept
abbrev pub Adds : (has more : ℕ → Bool) → (m : ℕ) → (kept : Bool) → Type 0
Adds has more m kept = (n : ℕ) → more n ≡ (has n || (not kept && (n == m)))

adds_true : (has kept : Bool) (n m : ℕ) (more : Bool) → more ≡ (has || (not kept && (n == m))) → has ≡ false → more ≡ true → (kept ≡ false) × (n ≡ m)
adds_true true kept n m more e h k = absurd cc
adds_true false true n m more e h k = absurd cc
adds_true false false n m more e h k = (refl, let f : (n == m) ≡ true = sym e ∙ k in grind (arith, nat_tests))

adds_kept : (has kept : Bool) (m : ℕ) (more : Bool) → more ≡ (has || (not kept && (m == m))) → more ≡ false → kept ≡ true
adds_kept true kept m more e h = absurd cc
adds_kept false true m more e h = refl
adds_kept false false m more e h = let f : (m == m) ≡ false = sym e ∙ h in absurd (grind (arith, nat_tests))

module _ (old new : Plan) where
  abbrev main_old : Row
  main_old = Init (main_layout (reverse old.program))

  abbrev main_new : Row
  main_new = Init (main_layout (reverse new.program))

  -- A search that looked at the start of main.
  pub search_begun : (s : Search) (has : ℕ → Bool) (kept : Bool) → old.engine ≡ new.engine → IsChecked old.program → IsChecked new.program → IsTold old new s.pair → ((n : ℕ) → has n ≡ false) → Adds has (contains nat_cmp s.changed) 0 kept → kept ≡ same layout_code (main_layout (reverse old.program)) (main_layout (reverse new.program)) → IsSearch old new s
  search_begun s has kept one c d t none h e = record {
    one = one;
    old_checked = c;
    new_checked = d;
    told = t;
    start = λ f. same_equal layout_code (main_layout (reverse old.program)) (main_layout (reverse new.program)) (sym e ∙ adds_kept (has 0) kept 0 (more 0) (h 0) f);
    only = only;
  }
    where
      more : ℕ → Bool
      more = contains nat_cmp s.changed

      lost : kept ≡ false → Some main_new ≡ Some main_old → ⊥
      lost k f =
          let g : main_layout (reverse old.program) ≡ main_layout (reverse new.program) = cc in
          let t = (same_Decides layout_code (main_layout (reverse old.program)) (main_layout (reverse new.program))).1 g in
          false≢true (sym k ∙ e ∙ t)

      only : (n : ℕ) → more n ≡ true → IsChanged old new n
      only n f =
          let t = adds_true (has n) kept n 0 (more n) (h n) (none n) f in
          record { path = []; point = Entry; row = main_old; owned = sym t.1; had = refl; lost = lost t.0 }

  -- It looks at one more statement.
  module _ (s t : Search) (m : ℕ) (kept : Bool) (is : IsSearch old new s) (told : MatchBool kept (Stays old new m) (IsChanged old new m)) (pair : IsTold old new t.pair) (adds : Adds (contains nat_cmp s.changed) (contains nat_cmp t.changed) m kept) where
    changed : (kept : Bool) → kept ≡ false → MatchBool kept (Stays old new m) (IsChanged old new m) → IsChanged old new m
    changed true k t = absurd cc
    changed false k t = t

    abbrev has : ℕ → Bool
    has = contains nat_cmp s.changed

    abbrev more : ℕ → Bool
    more = contains nat_cmp t.changed

    only : (n : ℕ) → more n ≡ true → (b : Bool) → has n ≡ b → IsChanged old new n
    only n f true e = is.only n e
    only n f false e = let t = adds_true (has n) kept n m (more n) (adds n) e f in subst (IsChanged old new) (sym t.1) (changed kept t.0 told)

  start_is : (w : List NameFrame) (p : Point) → is_start w p ≡ true → (w ≡ []) × (p ≡ Entry)
  start_is [] Entry h = (refl, refl)
  start_is [] Body h = absurd cc
  start_is [] (Then n) h = absurd cc
  start_is [] (Else n) h = absurd cc
  start_is [] (Post n) h = absurd cc
  start_is [] (Iterate n k) h = absurd cc
  start_is [] (Fix n) h = absurd cc
  start_is [] (Exit n) h = absurd cc
  start_is [] (Leap n k) h = absurd cc
  start_is (f ∷ w) p h = absurd cc

  module _ (s : Search) (is : IsSearch old new s) (rest : (n : ℕ) → contains nat_cmp s.changed n ≡ false → Stays old new n) where
    unchanged_start : (w : List NameFrame) (p : Point) (r : Row) → contains nat_cmp s.changed (owner w p) ≡ false → w ≡ [] → p ≡ Entry → flat_row old.engine (reverse old.program) w p ≡ Some r → flat_row new.engine (reverse new.program) w p ≡ Some r
    unchanged_start w p r h a b had =
        let P : List NameFrame → Point → Type 0 = λ w p. contains nat_cmp s.changed (owner w p) ≡ false → flat_row old.engine (reverse old.program) w p ≡ Some r → flat_row new.engine (reverse new.program) w p ≡ Some r in
        let q : P [] Entry = λ h had. ap (λ l. Some (Init l)) (sym (is.start h)) ∙ had in
        (subst (λ w. P w p) (sym a) (subst (P []) (sym b) q)) h had

    unchanged : (n : ℕ) → contains nat_cmp s.changed n ≡ false → IsChanged old new n → ⊥
    unchanged n h x = x.lost (by_start (is_start x.path x.point) refl)
      where
        by_start : (t : Bool) → is_start x.path x.point ≡ t → flat_row new.engine (reverse new.program) x.path x.point ≡ Some x.row
        by_start true e = let q = start_is x.path x.point e in unchanged_start x.path x.point x.row (ap (contains nat_cmp s.changed) x.owned ∙ h) q.0 q.1 x.had
        by_start false e = rest n h x.path x.point x.row x.owned e x.had

    found : (n : ℕ) → IsChanged old new n → contains nat_cmp s.changed n ≡ true
    found n x = go (contains nat_cmp s.changed n) refl
      where
        go : (b : Bool) → contains nat_cmp s.changed n ≡ b → contains nat_cmp s.changed n ≡ true
        go true e = e
        go false e = absurd (unchanged n e x)

    -- Where all that it has not found keep their rows, it has found the changed ones.
    pub are_changed : (ns : List ℕ) → IsOrdered nat_cmp s.changed → ns ≡ s.changed.keys → AreChanged old new ns
    are_changed ns o e =
        subst (AreChanged old new) (sym e)
        (record {
          rising = IsStrictlyIncreasing-from_sorted s.changed.keys o;
          only = λ n c. is.only n ((btree_set_contains_iff nat_cmp_total exact_unsigned s.changed n).1 c);
          all = λ n x. (btree_set_contains_iff nat_cmp_total exact_unsigned s.changed n).0 (found n x);
        })

-- It looked at what comes or goes at a number, and at the loop that a break leaves there.
pub record IsPutLooked (old new : Plan) (s : Search) (p : Put) : Type 0 where
  pub at : IsLooked old new s p.number
  pub left : (n : ℕ) → left_by p.entry ≡ Some n → IsLooked old new s n

module _ (old new : Plan) where
  -- A search goes on step by step, and what it looked at stays looked at.
  pub goes_both : (r s t : Search) → GoesOn old new r s → GoesOn old new s t → GoesOn old new r t
  goes_both r s t a b = record { is = b.is; more = λ n h. b.more n (a.more n h) }

  module _ (s t : Search) (g : GoesOn old new s t) where
    pub looked_more : (n : ℕ) → IsLooked old new s n → IsLooked old new t n
    looked_more n l = record { kept = λ f. l.kept (go (contains nat_cmp s.changed n) refl f) }
      where
        go : (b : Bool) → contains nat_cmp s.changed n ≡ b → contains nat_cmp t.changed n ≡ false → b ≡ false
        go true e f = absurd (false≢true (sym f ∙ g.more n e))
        go false e f = refl

    pub all_looked_more : (ns : List ℕ) → AllLooked old new s ns → AllLooked old new t ns
    all_looked_more ns a = record { at = λ i n e. looked_more n (a.at i n e) }

    pub put_looked_more : (p : Put) → IsPutLooked old new s p → IsPutLooked old new t p
    put_looked_more p a = record { at = looked_more p.number a.at; left = λ n e. looked_more n (a.left n e) }

    pub puts_looked_more : (puts : List Put) → ArePutsLooked old new s puts → ArePutsLooked old new t puts
    puts_looked_more puts a = record { at = λ i p e. looked_more p.number (a.at i p e); left = λ i p n e f. looked_more n (a.left i p n e f) }

    pub callers_looked_more : (ps qs : List Procedure) (k : ℕ) → AreCallersLooked old new s ps qs k → AreCallersLooked old new t ps qs k
    callers_looked_more ps qs k (inl e) = inl e
    callers_looked_more ps qs k (inr a) = inr (all_looked_more (sites_in (entries_of qs) k) a)

    pub loops_looked_more : (k : ℕ) → AreLoopsLooked old new s k → AreLoopsLooked old new t k
    loops_looked_more k (inl e) = inl e
    loops_looked_more k (inr a) = inr (all_looked_more (loops_at new k) a)

-- what holds of the first items of a list, and of one more
pub one_more : {A : Type 0} (xs : List A) (P : A → Type 0) (i : ℕ) (x : A) → ((k : ℕ) (y : A) → k < i → slice_get xs k ≡ Some y → P y) → slice_get xs i ≡ Some x → P x → (k : ℕ) (y : A) → k < i + 1 → slice_get xs k ≡ Some y → P y
one_more xs P i x all at p k y l e =
    (by_test k i (λ b. slice_get xs k ≡ Some y → P y)
    (λ q f. subst P (same_Some x y (sym at ∙ ap (slice_get xs) (sym q) ∙ f)) p)
    (λ q f. all k y (omega arith) f)) e

pub one_further : (P : ℕ → Type 0) (i : ℕ) → ((k : ℕ) → k < i → P k) → P i → (k : ℕ) → k < i + 1 → P k
one_further P i all p k l = by_test k i (λ b. P k) (λ q. subst P (sym q) p) (λ q. all k (omega arith))
