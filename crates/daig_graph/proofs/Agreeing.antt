-- What the parts of a graph say of its cells.
use Rattle.std.proofs.Common.{◌≡◌, ◌≢◌, ℕ, zero, suc, ◌<◌, ◌≤◌, ◌↔◌, List, [], ◌∷◌, length, true, false, nat_eq, Option, Some, None, IsSome, is_some, option_map, slice_get, get_or, refl, sym, ap, ◌∙◌, arith}
use Rattle.std.specs.List.{filter}
use Rattle.std.specs.FinMap.{FinMap, get}
use Rattle.std.specs.Ordering.{nat_cmp}
use Rattle.daig_graph.specs.declared.graph.Use.{Use}
use Rattle.daig_graph.specs.declared.value.Value.{Value}
use Rattle.daig_graph.specs.Agrees.{cell_of, filled_at, value_at, Agrees}
use Rattle.daig_graph.specs.Buckets.{bucket_of}
use Rattle.daig_graph.specs.Cells.{Filled, AreCells, IsUse, IsOwned, IsUnused, is_owned, owned_by}
use Rattle.daig_graph.specs.Held.{IsIn}
use Rattle.daig_graph.specs.Owners.{owner_at, IsListed}
use Rattle.daig_graph.specs.Threads.{inputs_at, AllBelow}
use Rattle.daig_graph.proofs.Cases.{none-some}
use Rattle.daig_graph.proofs.Maps.{cell_map, get-cell}
use Rattle.daig_graph.proofs.Filtering.{in-filter, to-filter}
use Rattle.std.proofs.lemmas.Bool.Decides.{nat_tests}
use Rattle.std.proofs.lemmas.Option.{same_Some}

-- what is there has an item
pub some-is : {A : Type 0} (o : Option A) → IsSome o → (a : A) × (o ≡ Some a)
some-is None h = absurd (cc)
some-is (Some a) h = (a, refl)

pub is-some : {A : Type 0} (o : Option A) (a : A) → o ≡ Some a → IsSome o
is-some o a e = ap is_some e

-- an item that is there has a place
pub at-below : {A : Type 0} (items : List (Option A)) (n : ℕ) → IsSome (get_or items n None) → n < length items
at-below [] n h = absurd (cc)
at-below (o ∷ items) zero h = omega arith
at-below (o ∷ items) (suc n) h = omega (arith, at-below items n h)

module _ {V : Type 0} where
  -- a cell has what its parts have
  pub cell-parts : (v : Option (Value V)) (o : Option ℕ) (xs : List ℕ) (f : Filled V) → cell_of v o xs ≡ Some f → (v ≡ Some f.value) × (o ≡ Some f.owner) × (xs ≡ f.inputs)
  cell-parts None o xs f e = none-some e
  cell-parts (Some v) None xs f e = none-some e
  cell-parts (Some v) (Some o) xs f e = let is = same_Some _ _ e in (ap (λ g. Some g.value) is, ap (λ g. Some g.owner) is, ap (λ g. g.inputs) is)

  pub cell-none : (v : Option (Value V)) (o : Option ℕ) (xs : List ℕ) → v ≡ None → cell_of v o xs ≡ None
  cell-none v o xs e = ap (λ w. cell_of w o xs) e

  pub cell-made : (v : Option (Value V)) (o : Option ℕ) (xs : List ℕ) (x : Value V) (n : ℕ) → v ≡ Some x → o ≡ Some n → cell_of v o xs ≡ Some (record { owner = n; value = x; inputs = xs })
  cell-made v o xs x n e f = ap (λ w. cell_of w o xs) e ∙ ap (λ p. cell_of (Some x) p xs) f

  -- there is a cell where there is a value, if owners are where values are
  pub cell-some : (v : Option (Value V)) (o : Option ℕ) (xs : List ℕ) → is_some o ≡ is_some v → is_some (cell_of v o xs) ≡ is_some v
  cell-some None o xs e = refl
  cell-some (Some v) None xs e = e
  cell-some (Some v) (Some o) xs e = refl

  pub cell-value : (v : Option (Value V)) (o : Option ℕ) (xs : List ℕ) → is_some o ≡ is_some v → option_map (λ f. f.value) (cell_of v o xs) ≡ v
  cell-value None o xs e = refl
  cell-value (Some v) None xs e = absurd (cc)
  cell-value (Some v) (Some o) xs e = refl

  pub cell-owner : (v : Option (Value V)) (o : Option ℕ) (xs : List ℕ) → is_some o ≡ is_some v → option_map (λ f. f.owner) (cell_of v o xs) ≡ o
  cell-owner None None xs e = refl
  cell-owner None (Some o) xs e = absurd (cc)
  cell-owner (Some v) None xs e = refl
  cell-owner (Some v) (Some o) xs e = refl

-- the test says whether a cell belongs to a statement
owned-is : {V : Type 0} (n : ℕ) (o : Option (Filled V)) → owned_by n o ≡ true → (f : Filled V) × (o ≡ Some f) × (f.owner ≡ n)
owned-is n None e = absurd (cc)
owned-is n (Some f) e = (f, refl, grind (arith, nat_tests))

is-owned : {V : Type 0} (n : ℕ) (o : Option (Filled V)) (f : Filled V) → o ≡ Some f → f.owner ≡ n → owned_by n o ≡ true
is-owned n o f is e = ap (owned_by n) is ∙ grind (arith, nat_tests)

owned-test : {V : Type 0} (s n : ℕ) (o : Option (Filled V)) → option_map (λ f. f.owner) o ≡ Some n → nat_eq n s ≡ owned_by s o
owned-test s n None e = none-some e
owned-test s n (Some f) e = ap (λ m. nat_eq m s) (sym (same_Some _ _ e))

not-owned : {V : Type 0} (s : ℕ) (o : Option (Filled V)) → option_map (λ f. f.owner) o ≡ None → false ≡ owned_by s o
not-owned s None e = refl
not-owned s (Some f) e = none-some (sym e)

module _ {V : Type 0} (values : List (Option (Value V))) (owners : List (Option ℕ)) (inputs : List (List ℕ)) (count : ℕ) (agrees : Agrees values owners inputs count) (v : FinMap nat_cmp (Filled V)) (v_is : cell_map values owners inputs ≡ v) where
  -- the cell at a number
  pub cell-at : (n : ℕ) → get v n ≡ filled_at values owners inputs n
  cell-at n = ap (λ m. get m n) (sym v_is) ∙ get-cell values owners inputs count agrees n

  pub at-parts : (n : ℕ) (f : Filled V) → get v n ≡ Some f → (value_at values n ≡ Some f.value) × (owner_at owners n ≡ Some f.owner) × (inputs_at inputs n ≡ f.inputs)
  at-parts n f e = cell-parts (value_at values n) (owner_at owners n) (inputs_at inputs n) f (sym (cell-at n) ∙ e)

  pub some-value : (n : ℕ) → is_some (get v n) ≡ is_some (value_at values n)
  some-value n = ap is_some (cell-at n) ∙ cell-some (value_at values n) (owner_at owners n) (inputs_at inputs n) (agrees.owned n)

  pub value-is : (n : ℕ) → option_map (λ f. f.value) (get v n) ≡ value_at values n
  value-is n = ap (option_map (λ f. f.value)) (cell-at n) ∙ cell-value (value_at values n) (owner_at owners n) (inputs_at inputs n) (agrees.owned n)

  pub owner-is : (n : ℕ) → option_map (λ f. f.owner) (get v n) ≡ owner_at owners n
  owner-is n = ap (option_map (λ f. f.owner)) (cell-at n) ∙ cell-owner (value_at values n) (owner_at owners n) (inputs_at inputs n) (agrees.owned n)

  -- a cell has a place
  pub cell-below : (n : ℕ) → IsSome (get v n) → n < length values
  cell-below n h = at-below values n (sym (some-value n) ∙ h)

  pub value-none : (n : ℕ) → get v n ≡ None → value_at values n ≡ None
  value-none n e = sym (value-is n) ∙ ap (option_map (λ f. f.value)) e

  pub owner-none : (n : ℕ) → get v n ≡ None → owner_at owners n ≡ None
  owner-none n e = sym (owner-is n) ∙ ap (option_map (λ f. f.owner)) e

  -- a number with inputs is that of a cell
  pub inputs-cell : (n i x : ℕ) → slice_get (inputs_at inputs n) i ≡ Some x → (f : Filled V) × (get v n ≡ Some f)
  inputs-cell n i x e = by (value_at values n) refl
    where
      by : (w : Option (Value V)) → value_at values n ≡ w → (f : Filled V) × (get v n ≡ Some f)
      by None none = none-some (ap (λ l. slice_get l i) (sym (agrees.blank n none)) ∙ e)
      by (Some w) is = some-is (get v n) (some-value n ∙ ap is_some is)

  -- inputs are cells
  pub cells-closed : (n : ℕ) → AreCells v (inputs_at inputs n)
  cells-closed n i x e = some-value x ∙ agrees.closed n i x e

  -- cells have places
  pub cells-below : (xs : List ℕ) → AreCells v xs → (room : ℕ) → length values ≤ room → AllBelow xs room
  cells-below xs cells room h i x e = omega (arith, cell-below x (cells i x e), h)

  -- a use is an input at its place
  pub use-is : (x : ℕ) (u : Use) → (slice_get (inputs_at inputs u.cell) u.place ≡ Some x) ↔ IsUse v x u
  use-is x u = (to, from)
    where
      to : slice_get (inputs_at inputs u.cell) u.place ≡ Some x → IsUse v x u
      to e = let f = inputs-cell u.cell u.place x e in (f.0, f.1, ap (λ l. slice_get l u.place) (sym (at-parts u.cell f.0 f.1).2) ∙ e)

      from : IsUse v x u → slice_get (inputs_at inputs u.cell) u.place ≡ Some x
      from h = ap (λ l. slice_get l u.place) (at-parts u.cell h.0 h.1).2 ∙ h.2

  -- what no cell has as an input stands nowhere among inputs
  pub unused-is : (x : ℕ) → IsUnused v x → (n i : ℕ) → slice_get (inputs_at inputs n) i ≢ Some x
  unused-is x unused n i e = let f = inputs-cell n i x e in unused n i f.0 f.1 (ap (λ l. slice_get l i) (sym (at-parts n f.0 f.1).2) ∙ e)

  -- what a cell with a value has as inputs
  pub inputs-is : (n : ℕ) (w : Value V) → option_map (λ f. f.value) (get v n) ≡ Some w → Some (inputs_at inputs n) ≡ option_map (λ f. f.inputs) (get v n)
  inputs-is n w e = by (get v n) refl e
    where
      by : (o : Option (Filled V)) → get v n ≡ o → option_map (λ f. f.value) o ≡ Some w → Some (inputs_at inputs n) ≡ option_map (λ f. f.inputs) o
      by None is e = none-some e
      by (Some f) is e = ap Some (at-parts n f is).2

  pub there-below : (n : ℕ) (w : Value V) → option_map (λ f. f.value) (get v n) ≡ Some w → n < length values
  there-below n w e = at-below values n (is-some (value_at values n) w (sym (value-is n) ∙ e))

  pub owned-some : (s n o : ℕ) → owner_at owners n ≡ Some o → nat_eq o s ≡ is_owned v s n
  owned-some s n o e = owned-test s o (get v n) (owner-is n ∙ e)

  pub owned-none : (s n : ℕ) → owner_at owners n ≡ None → false ≡ is_owned v s n
  owned-none s n e = not-owned s (get v n) (owner-is n ∙ e)

  -- of the cells on the list that a statement hangs on, its own
  pub cells-owned : (s list : ℕ) (items : List ℕ) → list ≡ bucket_of s → ((x : ℕ) → IsIn items x ↔ IsListed owners list x) → (x : ℕ) → IsIn (filter (is_owned v s) items) x ↔ IsOwned v s x
  cells-owned s list items list_is listed x = (to, from)
    where
      to : IsIn (filter (is_owned v s) items) x → IsOwned v s x
      to h = owned-is s (get v x) (in-filter (is_owned v s) items x h).1

      from : IsOwned v s x → IsIn (filter (is_owned v s) items) x
      from h = to-filter (is_owned v s) items x ((listed x).1 (h.0.owner, (at-parts x h.0 h.1).1, ap bucket_of h.2 ∙ sym list_is)) (is-owned s (get v x) h.0 h.1 h.2)
