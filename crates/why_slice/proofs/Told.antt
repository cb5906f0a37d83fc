-- The list of the statements that an answer depends on has exactly those.
use Rattle.std.specs.Ordering.{nat_cmp}
use Rattle.std.specs.Cmp.{nat_cmp_is}
use Rattle.std.specs.List.{AllByRecursion}
use Rattle.std.specs.List.Sorted.{IsStrictlySortedBy}
use Rattle.std.proofs.lemmas.Bool.{or_left, or_right, or_cases}
use Rattle.std.proofs.Common.{◌≡◌, ◌↔◌, ℕ, ◌<◌, List, [], ◌∷◌, ◌++◌, reverse, Option, Some, None, Bool, true, false, if◌then◌else◌, Contains, Less, refl, sym, subst, inl, inr}
use Rattle.imp_syntax.specs.declared.edit.Location.{Location}
use Rattle.imp_slots.specs.Plain.{Routine}
use Rattle.imp_slots.specs.Fits.{IsChecked}
use Rattle.imp_chains.specs.Chains.{selected}
use Rattle.domain_laws.specs.Operations.{Operations}
use Rattle.batch_meaning.specs.Batch.{LoopOptions}
use Rattle.daig_order.specs.Order.{member}
use Rattle.daig_order.proofs.AskingProofs.{system-acyclic}
use Rattle.daig_order.proofs.TheoremProofs.{needed}
use Rattle.cell_names.specs.Paths.{CellName}
use Rattle.base_values.proofs.Members.{Member, here, there, in_left, in_right, either, contains_of, member_of}
use Rattle.cell_rows.specs.Names.{IsSame}
use Rattle.cell_rows.specs.Rows.{Row}
use Rattle.cell_rows.specs.Flat.{flat_row}
use Rattle.cell_rows.specs.Targets.{Target, demanded}
use Rattle.daig_demands.specs.Claims.{found_by, names_of}
use Rattle.daig_demands.proofs.Machine.{rows, law}
use Rattle.why_slice.specs.Upstream.{statement_at, listed, all_of, statement_of_name, matters, HangsOn, NeededBy, IsUpstream, at_location, in_chain, by_name, hung_on, all_hung, needed_by, upstream}
use Rattle.base_sets.specs.Sets.{Strict}
use Rattle.base_sets.proofs.Rising.{rising_strict, in_rising, of_rising}

pub is_member : {A : Type 0} (same : A → A → Bool) → ((x y : A) → same x y ≡ true → x ≡ y) → (xs : List A) (x : A) → member same xs x ≡ true → Member x xs
is_member same eq [] x m = absurd cc
is_member {A} same eq (y ∷ xs) x m = elim (or_cases (same x y) (member same xs x) m) [ inl e ↦ subst (λ (z : A). Member x (z ∷ xs)) (eq x y e) here | inr k ↦ there (is_member same eq xs x k) ]

pub as_member : {A : Type 0} (same : A → A → Bool) → ((x : A) → same x x ≡ true) → (xs : List A) (x : A) → Member x xs → member same xs x ≡ true
as_member same re [] x m = elim m [ ]
as_member same re (y ∷ xs) _ here = or_left (same y y) (member same xs y) (re y)
as_member same re (y ∷ xs) x (there m) = or_right (same x y) (member same xs x) (as_member same re xs x m)

-- an option's one item
listed_only : (o : Option ℕ) (n : ℕ) → Member n (listed o) → o ≡ Some n
listed_only None n m = elim m [ ]
listed_only (Some k) _ here = refl
listed_only (Some k) n (there m) = elim m [ ]

listed_there : (o : Option ℕ) (n : ℕ) → o ≡ Some n → Member n (listed o)
listed_there o n e = subst (λ o. Member n (listed o)) (sym e) here

-- items of lists that are put one after another
pub all_only : (nss : List (List ℕ)) (n : ℕ) → Member n (all_of nss) → (ns : List ℕ) × Member ns nss × Member n ns
all_only [] n m = elim m [ ]
all_only (ns ∷ nss) n m = elim (either n ns (all_of nss) m) [ inl a ↦ (ns, here, a) | inr b ↦ (let x = all_only nss n b in (x.0, there x.1, x.2)) ]

pub all_there : (nss : List (List ℕ)) (ns : List ℕ) (n : ℕ) → Member ns nss → Member n ns → Member n (all_of nss)
all_there [] ns n m k = elim m [ ]
all_there (ns ∷ nss) _ n here k = in_left (all_of nss) k
all_there (ms ∷ nss) ns n (there m) k = in_right ms (all_there nss ns n m k)

pub strict_sorted : (ks : List ℕ) → Strict ks → IsStrictlySortedBy nat_cmp ks
unfolding IsStrictlySortedBy
strict_sorted [] s = tt
strict_sorted (k ∷ ks) s = (above ks s.0, strict_sorted ks s.1)
  where
    above : (is : List ℕ) → ((i : ℕ) → Member i is → k < i) → AllByRecursion (λ y. nat_cmp k y ≡ Less) is
    above [] h = tt
    above (i ∷ is) h = (sym (nat_cmp_is k i Less (h i here)), above is (λ j m. h j (there m)))

module _ {S : Type 0} (dom : Operations S) (engine : LoopOptions) (program : List Routine) (same : CellName → CellName → Bool) (is : IsSame same) (checked : IsChecked program) where
  abbrev row_at : CellName → Option Row
  row_at x = flat_row engine (reverse program) x.path x.point

  hung_only : (x : CellName) (o : Option Row) (n : ℕ) → row_at x ≡ o → Member n (hung_on dom engine program same x o) → HangsOn dom engine program same x n
  hung_only x None n e m = elim m [ ]
  hung_only x (Some r) n e m = go (matters dom (found_by dom engine program same) r) refl m
    where
      go : (b : Bool) → matters dom (found_by dom engine program same) r ≡ b → Member n (if b then listed (statement_of_name x.path x.point) else []) → HangsOn dom engine program same x n
      go true h m = record { row = r; is = e; names = listed_only (statement_of_name x.path x.point) n m; counts = h }
      go false h m = elim m [ ]

  hung_there : (x : CellName) (n : ℕ) → HangsOn dom engine program same x n → Member n (hung_on dom engine program same x (row_at x))
  hung_there x n h =
      subst (λ o. Member n (hung_on dom engine program same x o)) (sym h.is)
      (subst (λ b. Member n (if b then listed (statement_of_name x.path x.point) else [])) (sym h.counts) (listed_there (statement_of_name x.path x.point) n h.names))

  pub all_hung_only : (xs : List CellName) (n : ℕ) → Member n (all_hung dom engine program same xs) → (x : CellName) × Member x xs × HangsOn dom engine program same x n
  all_hung_only [] n m = elim m [ ]
  all_hung_only (x ∷ xs) n m =
      elim (either n (hung_on dom engine program same x (row_at x)) (all_hung dom engine program same xs) m) [
        | inl a ↦ (x, here, hung_only x (row_at x) n refl a)
        | inr b ↦ (let y = all_hung_only xs n b in (y.0, there y.1, y.2))
      ]

  pub all_hung_there : (xs : List CellName) (x : CellName) (n : ℕ) → Member x xs → HangsOn dom engine program same x n → Member n (all_hung dom engine program same xs)
  all_hung_there [] x n m h = elim m [ ]
  all_hung_there (x ∷ xs) _ n here h = in_left (all_hung dom engine program same xs) (hung_there x n h)
  all_hung_there (y ∷ xs) x n (there m) h = in_right (hung_on dom engine program same y (row_at y)) (all_hung_there xs x n m h)

  module _ (l : Location) (string : List ℕ) (p : ℕ) (ts : List Target) where
    pub needs : (x : CellName) → (member same (needed_by dom engine program same ts) x ≡ true) ↔ NeededBy dom engine program same ts x
    needs x = needed (names_of dom engine program same) (system-acyclic (rows dom engine program same is checked) (law dom engine program same is checked)) (demanded (found_by dom engine program same) ts) x

    chains : List (List ℕ)
    chains = selected program p string

    pub told : (n : ℕ) → Contains (upstream dom engine program same l string p ts) n ↔ IsUpstream dom engine program same l string p ts n
    unfolding chains
    told n = (
      λ c.
          elim (either n (listed (statement_at l)) (all_of chains ++ all_hung dom engine program same (needed_by dom engine program same ts)) (of_rising _ n (member_of n _ c))) [
            | inl a ↦ at_location (listed_only (statement_at l) n a)
            | inr b ↦ elim (either n (all_of chains) (all_hung dom engine program same (needed_by dom engine program same ts)) b) [
              | inl d ↦ (let z = all_only chains n d in in_chain z.0 (contains_of z.0 chains z.1) (contains_of n z.0 z.2))
              | inr h ↦ (let x = all_hung_only (needed_by dom engine program same ts) n h in by_name x.0 ((needs x.0).0 (as_member same is.same_refl (needed_by dom engine program same ts) x.0 x.1)) x.2)
            ]
          ],
      λ u. contains_of n _ (in_rising _ n (there_if u)),
    )
      where
        there_if : IsUpstream dom engine program same l string p ts n → Member n (listed (statement_at l) ++ (all_of (selected program p string) ++ all_hung dom engine program same (needed_by dom engine program same ts)))
        there_if (at_location e) = in_left (all_of (selected program p string) ++ all_hung dom engine program same (needed_by dom engine program same ts)) (listed_there (statement_at l) n e)
        there_if (in_chain z c k) =
            in_right (listed (statement_at l)) (in_left (all_hung dom engine program same (needed_by dom engine program same ts)) (all_there (selected program p string) z n (member_of z (selected program p string) c) (member_of n z k)))
        there_if (by_name x k h) =
            in_right (listed (statement_at l)) (in_right (all_of (selected program p string))
            (all_hung_there (needed_by dom engine program same ts) x n (is_member same is.same_true (needed_by dom engine program same ts) x ((needs x).1 k)) h))

    pub rises : IsStrictlySortedBy nat_cmp (upstream dom engine program same l string p ts)
    rises = strict_sorted _ (rising_strict (listed (statement_at l) ++ (all_of (selected program p string) ++ all_hung dom engine program same (needed_by dom engine program same ts))))
