-- One number gets another cell, or none.
use Rattle.std.proofs.Common.{◌≡◌, ◌≢◌, ℕ, zero, suc, ◌+◌, ◌<◌, ◌≤◌, cond, List, [], ◌∷◌, ◌++◌, length, Option, Some, None, IsSome, is_some, Result, Ok, Err, OnErr, count_by, slice_get, get_or, set, refl, sym, ap, ◌∙◌, arith, inl, inr}
use Rattle.std.specs.FinMap.{get, insert, remove}
use Rattle.daig_graph.specs.declared.value.Value.{Value}
use Rattle.daig_graph.specs.Agrees.{cell_of, filled_at, value_at, Agrees}
use Rattle.daig_graph.specs.Cells.{Filled}
use Rattle.daig_graph.specs.Owners.{owner_at}
use Rattle.daig_graph.specs.Threads.{inputs_at}
use Rattle.daig_graph.proofs.Maps.{cell_map, get-cell, insert-is, remove-is}
use Rattle.std.proofs.lemmas.Bool.{cases_eq}
use Rattle.std.proofs.lemmas.List.{get_or-set_same, get_or-set_other}
use Rattle.std.proofs.lemmas.List.Sums.{sum_by-set, sum_by_push}

-- how many are there, after one is set
pub count-set : {A : Type 0} (items : List (Option A)) (n : ℕ) (o : Option A) → n < length items
    → count_by is_some (set items n o) + cond (is_some (get_or items n None)) 1 0 ≡ count_by is_some items + cond (is_some o) 1 0
count-set items n o h = sum_by-set (λ p. cond (is_some p) 1 0) items n o None h

module _ {V : Type 0} (values new_values : List (Option (Value V))) (owners new_owners : List (Option ℕ)) (inputs new_inputs : List (List ℕ)) where
  -- what stands at a number becomes this, and all else stays
  pub record Puts (cell : ℕ) (v : Option (Value V)) (o : Option ℕ) (xs : List ℕ) : Type 0 where
    pub value_here : value_at new_values cell ≡ v
    pub values_others : (q : ℕ) → q ≢ cell → value_at new_values q ≡ value_at values q
    pub owner_here : owner_at new_owners cell ≡ o
    pub owners_others : (q : ℕ) → q ≢ cell → owner_at new_owners q ≡ owner_at owners q
    pub inputs_here : inputs_at new_inputs cell ≡ xs
    pub inputs_others : (q : ℕ) → q ≢ cell → inputs_at new_inputs q ≡ inputs_at inputs q
    pub owners_many : length new_values ≤ length new_owners
    pub inputs_many : length new_values ≤ length new_inputs

  module _ (count new_count cell : ℕ) (v : Option (Value V)) (o : Option ℕ) (xs : List ℕ) (agrees : Agrees values owners inputs count) (p : Puts cell v o xs) where
    module _ (even : is_some o ≡ is_some v) (bare : v ≡ None → xs ≡ [])
        (there : (i x : ℕ) → slice_get xs i ≡ Some x → IsSome (value_at new_values x))
        (users : v ≡ None → (n i : ℕ) → slice_get (inputs_at inputs n) i ≢ Some cell)
        (counted : count_by is_some new_values ≡ new_count) where
      owned : (n : ℕ) → is_some (owner_at new_owners n) ≡ is_some (value_at new_values n)
      owned n = elim (cases_eq n cell) [
        | inl same ↦ ap (λ m. is_some (owner_at new_owners m)) same ∙ ap is_some p.owner_here ∙ even ∙ sym (ap (λ m. is_some (value_at new_values m)) same ∙ ap is_some p.value_here)
        | inr ne ↦ ap is_some (p.owners_others n ne) ∙ agrees.owned n ∙ sym (ap is_some (p.values_others n ne))
      ]

      blank : (n : ℕ) → value_at new_values n ≡ None → inputs_at new_inputs n ≡ []
      blank n e = elim (cases_eq n cell) [
        | inl same ↦ ap (inputs_at new_inputs) same ∙ p.inputs_here ∙ bare (sym p.value_here ∙ ap (value_at new_values) (sym same) ∙ e)
        | inr ne ↦ p.inputs_others n ne ∙ agrees.blank n (sym (p.values_others n ne) ∙ e)
      ]

      -- an input of another cell is still there
      still : (n i x : ℕ) → slice_get (inputs_at inputs n) i ≡ Some x → IsSome (value_at new_values x)
      still n i x e = elim (cases_eq x cell) [
        | inl same ↦ by v refl same
        | inr ne ↦ ap is_some (p.values_others x ne) ∙ agrees.closed n i x e
      ]
        where
          by : (w : Option (Value V)) → v ≡ w → x ≡ cell → IsSome (value_at new_values x)
          by None is same = absurd (users is n i (e ∙ ap Some same))
          by (Some w) is same = ap (λ m. is_some (value_at new_values m)) same ∙ ap is_some (p.value_here ∙ is)

      closed : (n i x : ℕ) → slice_get (inputs_at new_inputs n) i ≡ Some x → IsSome (value_at new_values x)
      closed n i x e = elim (cases_eq n cell) [
        | inl same ↦ there i x (ap (λ l. slice_get l i) (sym (ap (inputs_at new_inputs) same ∙ p.inputs_here)) ∙ e)
        | inr ne ↦ still n i x (ap (λ l. slice_get l i) (sym (p.inputs_others n ne)) ∙ e)
      ]

      pub agrees-put : Agrees new_values new_owners new_inputs new_count
      agrees-put = record { owners_many = p.owners_many; inputs_many = p.inputs_many; owned = owned; blank = blank; closed = closed; counted = counted }

    module _ (next : Agrees new_values new_owners new_inputs new_count) where
      get-here : get (cell_map new_values new_owners new_inputs) cell ≡ cell_of v o xs
      get-here = get-cell new_values new_owners new_inputs new_count next cell ∙ ap (λ w. cell_of w (owner_at new_owners cell) (inputs_at new_inputs cell)) p.value_here
          ∙ ap (λ n. cell_of v n (inputs_at new_inputs cell)) p.owner_here ∙ ap (λ l. cell_of v o l) p.inputs_here

      get-others : (q : ℕ) → q ≢ cell → get (cell_map new_values new_owners new_inputs) q ≡ get (cell_map values owners inputs) q
      get-others q ne = get-cell new_values new_owners new_inputs new_count next q ∙ ap (λ w. cell_of w (owner_at new_owners q) (inputs_at new_inputs q)) (p.values_others q ne)
          ∙ ap (λ n. cell_of (value_at values q) n (inputs_at new_inputs q)) (p.owners_others q ne) ∙ ap (λ l. cell_of (value_at values q) (owner_at owners q) l) (p.inputs_others q ne)
          ∙ sym (get-cell values owners inputs count agrees q)

      pub map-put : (f : Filled V) → cell_of v o xs ≡ Some f → cell_map new_values new_owners new_inputs ≡ insert (cell_map values owners inputs) cell f
      map-put f is = insert-is (cell_map values owners inputs) (cell_map new_values new_owners new_inputs) cell f (get-here ∙ is) get-others

      pub map-take : v ≡ None → cell_map new_values new_owners new_inputs ≡ remove (cell_map values owners inputs) cell
      map-take none = remove-is (cell_map values owners inputs) (cell_map new_values new_owners new_inputs) cell (get-here ∙ ap (λ w. cell_of w o xs) none) get-others

-- the same stands at each number
module _ {V : Type 0} (values new_values : List (Option (Value V))) (owners new_owners : List (Option ℕ)) (inputs new_inputs : List (List ℕ)) where
  pub record Keeps : Type 0 where
    pub same_values : (n : ℕ) → value_at new_values n ≡ value_at values n
    pub same_owners : (n : ℕ) → owner_at new_owners n ≡ owner_at owners n
    pub same_inputs : (n : ℕ) → inputs_at new_inputs n ≡ inputs_at inputs n
    pub owners_many : length values ≤ length owners → length values ≤ length inputs → length new_values ≤ length new_owners
    pub inputs_many : length values ≤ length owners → length values ≤ length inputs → length new_values ≤ length new_inputs
    pub counted : count_by is_some new_values ≡ count_by is_some values

  module _ (k : Keeps) where
    pub filled-keep : (n : ℕ) → filled_at new_values new_owners new_inputs n ≡ filled_at values owners inputs n
    filled-keep n = ap (λ w. cell_of w (owner_at new_owners n) (inputs_at new_inputs n)) (k.same_values n)
        ∙ ap (λ o. cell_of (value_at values n) o (inputs_at new_inputs n)) (k.same_owners n) ∙ ap (λ l. cell_of (value_at values n) (owner_at owners n) l) (k.same_inputs n)

    pub agrees-keep : (count : ℕ) → Agrees values owners inputs count → Agrees new_values new_owners new_inputs count
    agrees-keep count a = record {
      owners_many = k.owners_many a.owners_many a.inputs_many;
      inputs_many = k.inputs_many a.owners_many a.inputs_many;
      owned = λ n. ap is_some (k.same_owners n) ∙ a.owned n ∙ sym (ap is_some (k.same_values n));
      blank = λ n e. k.same_inputs n ∙ a.blank n (sym (k.same_values n) ∙ e);
      closed = λ n i x e. ap is_some (k.same_values x) ∙ a.closed n i x (ap (λ l. slice_get l i) (sym (k.same_inputs n)) ∙ e);
      counted = k.counted ∙ a.counted;
    }

-- one place more, with nothing
module _ {A : Type 0} where
  pub at-push : (items : List (Option A)) (n : ℕ) → get_or (items ++ None ∷ []) n None ≡ get_or items n None
  at-push [] zero = refl
  at-push [] (suc n) = refl
  at-push (o ∷ items) zero = refl
  at-push (o ∷ items) (suc n) = at-push items n

  pub count-push : (items : List (Option A)) → count_by is_some (items ++ None ∷ []) ≡ count_by is_some items
  count-push items = omega (arith, sum_by_push (λ (o : Option A). cond (is_some o) 1 0) items None)

-- what is there stays, when something is put
pub some-set : {A : Type 0} (items : List (Option A)) (n : ℕ) (a : A) → n < length items → (x : ℕ) → IsSome (get_or items x None) → IsSome (get_or (set items n (Some a)) x None)
some-set items n a h x there = elim (cases_eq x n) [
  | inl same ↦ ap is_some (ap (λ m. get_or (set items n (Some a)) m None) same ∙ get_or-set_same items n (Some a) None h)
  | inr ne ↦ ap is_some (get_or-set_other items n x (Some a) None ne) ∙ there
]

-- what holds holds after an error
pub on-err : {T E P : Type 0} (r : Result T E) → P → OnErr r P
on-err (Ok a) p = tt
on-err (Err e) p = p
