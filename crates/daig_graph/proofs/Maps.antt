-- The map of the cells by their numbers.
use Rattle.std.proofs.Common.{◌≡◌, ◌≢◌, ℕ, zero, suc, ◌+◌, ◌<◌, ◌≤◌, true, false, cond, List, [], ◌∷◌, length, Option, Some, None, is_some, count_by, get_or, refl, sym, ap, ◌∙◌, arith, inl, inr}
use Rattle.std.proofs.lemmas.List.Sums.{sum_by-cons}
use Rattle.std.specs.Ordering.{nat_cmp, eq_by_cmp}
use Rattle.std.specs.Cmp.{unsigned_tied, nat_cmp_total}
use Rattle.std.specs.FinMap.{FinMap, get, insert, remove, from_entries, len, get-insert, get-remove, get-from_entries, len-insert, len-empty, same_map, nat_cmp-IsAntisymmetric}
use Rattle.daig_graph.specs.declared.value.Value.{Value}
use Rattle.daig_graph.specs.Agrees.{numbered, filled_cells, cell_of, filled_at, value_at, Agrees}
use Rattle.daig_graph.specs.Cells.{Filled}
use Rattle.daig_graph.specs.Owners.{owner_at}
use Rattle.daig_graph.proofs.Cases.{nat_eq-false}
use Rattle.std.proofs.lemmas.Bool.{cases_eq}
use Rattle.base_values.proofs.Cases.{equal_test}

pub tied : (q k : ℕ) → q ≡ k → eq_by_cmp nat_cmp q k ≡ true
tied q k e = unsigned_tied q k ∙ equal_test q k e

pub apart : (q k : ℕ) → q ≢ k → eq_by_cmp nat_cmp q k ≡ false
apart q k e = unsigned_tied q k ∙ nat_eq-false q k e

module _ {X : Type 0} (m : FinMap nat_cmp X) where
  pub get-insert-here : (k : ℕ) (v : X) → get (insert m k v) k ≡ Some v
  get-insert-here k v = get-insert nat_cmp_total m k v k ∙ ap (λ b. cond b (Some v) (get m k)) (tied k k refl)

  pub get-insert-other : (k : ℕ) (v : X) (q : ℕ) → q ≢ k → get (insert m k v) q ≡ get m q
  get-insert-other k v q ne = get-insert nat_cmp_total m k v q ∙ ap (λ b. cond b (Some v) (get m q)) (apart q k ne)

  pub get-remove-here : (k : ℕ) → get (remove m k) k ≡ None
  get-remove-here k = get-remove nat_cmp_total m k k ∙ ap (λ b. cond b None (get m k)) (tied k k refl)

  pub get-remove-other : (k q : ℕ) → q ≢ k → get (remove m k) q ≡ get m q
  get-remove-other k q ne = get-remove nat_cmp_total m k q ∙ ap (λ b. cond b None (get m q)) (apart q k ne)

  pub insert-is : (n : FinMap nat_cmp X) (k : ℕ) (v : X) → get n k ≡ Some v → ((q : ℕ) → q ≢ k → get n q ≡ get m q) → n ≡ insert m k v
  insert-is n k v here others = same_map nat_cmp_total nat_cmp-IsAntisymmetric n (insert m k v) (λ q. elim (cases_eq q k) [
    | inl same ↦ ap (get n) same ∙ here ∙ sym (ap (get (insert m k v)) same ∙ get-insert-here k v)
    | inr ne ↦ others q ne ∙ sym (get-insert-other k v q ne)
  ])

  pub remove-is : (n : FinMap nat_cmp X) (k : ℕ) → get n k ≡ None → ((q : ℕ) → q ≢ k → get n q ≡ get m q) → n ≡ remove m k
  remove-is n k here others = same_map nat_cmp_total nat_cmp-IsAntisymmetric n (remove m k) (λ q. elim (cases_eq q k) [
    | inl same ↦ ap (get n) same ∙ here ∙ sym (ap (get (remove m k)) same ∙ get-remove-here k)
    | inr ne ↦ others q ne ∙ sym (get-remove-other k q ne)
  ])

-- What stands in a list, as a map by numbers from one on.
module _ {X : Type 0} where
  -- nothing stands below the first number
  pub numbered-before : (start : ℕ) (items : List (Option X)) (q : ℕ) → q < start → get (from_entries {R = nat_cmp} (numbered start items)) q ≡ None
  numbered-before start [] q h = get-from_entries nat_cmp_total [] q
  numbered-before start (None ∷ items) q h = numbered-before (suc start) items q (omega (arith, h))
  numbered-before start (Some x ∷ items) q h =
      get-insert-other (from_entries (numbered (suc start) items)) start x q (λ e. absurd (omega (arith, h, e)))
      ∙ numbered-before (suc start) items q (omega (arith, h))

  -- what stands at a place has the place's number
  pub numbered-at : (start : ℕ) (items : List (Option X)) (n q : ℕ) → q ≡ start + n → get (from_entries {R = nat_cmp} (numbered start items)) q ≡ get_or items n None
  numbered-at start [] n q e = get-from_entries nat_cmp_total [] q
  numbered-at start (None ∷ items) zero q e = numbered-before (suc start) items q (omega (arith, e))
  numbered-at start (None ∷ items) (suc n) q e = numbered-at (suc start) items n q (omega (arith, e))
  numbered-at start (Some x ∷ items) zero q e =
      let same : q ≡ start = omega (arith, e) in
      ap (get (insert (from_entries (numbered (suc start) items)) start x)) same ∙ get-insert-here (from_entries (numbered (suc start) items)) start x
  numbered-at start (Some x ∷ items) (suc n) q e =
      get-insert-other (from_entries (numbered (suc start) items)) start x q (λ s. absurd (omega (arith, e, s)))
      ∙ numbered-at (suc start) items n q (omega (arith, e))

  -- as many as stand there
  pub numbered-len : (start : ℕ) (items : List (Option X)) → len (from_entries {R = nat_cmp} (numbered start items)) ≡ count_by is_some items
  numbered-len start [] = len-empty nat_cmp X
  numbered-len start (None ∷ items) = numbered-len (suc start) items ∙ omega (arith, sum_by-cons (λ (o : Option X). cond (is_some o) 1 0) None items)
  numbered-len start (Some x ∷ items) =
      let rest = from_entries {R = nat_cmp} (numbered (suc start) items) in
      len-insert nat_cmp_total rest start x
      ∙ ap (λ o. cond (is_some o) (len rest) (len rest + 1)) (numbered-before (suc start) items start (omega arith))
      ∙ omega (arith, numbered-len (suc start) items, sum_by-cons (λ (o : Option X). cond (is_some o) 1 0) (Some x) items)

module _ {V : Type 0} where
  -- the map of the cells that stand at these numbers
  abbrev pub cell_map : List (Option (Value V)) → List (Option ℕ) → List (List ℕ) → FinMap nat_cmp (Filled V)
  cell_map values owners inputs = from_entries (numbered 0 (filled_cells values owners inputs))

  -- the cells that stand at the numbers are those of the parts
  pub filled-at : (values : List (Option (Value V))) (owners : List (Option ℕ)) (inputs : List (List ℕ)) → length values ≤ length owners → length values ≤ length inputs → (n : ℕ) → get_or (filled_cells values owners inputs) n None ≡ filled_at values owners inputs n
  filled-at [] owners inputs o i n = refl
  filled-at (v ∷ values) [] inputs o i n = absurd (omega (arith, o))
  filled-at (v ∷ values) (w ∷ owners) [] o i n = absurd (omega (arith, i))
  filled-at (v ∷ values) (w ∷ owners) (xs ∷ inputs) o i zero = refl
  filled-at (v ∷ values) (w ∷ owners) (xs ∷ inputs) o i (suc n) = filled-at values owners inputs (omega (arith, o)) (omega (arith, i)) n

  -- whether there is a cell, where values have owners
  filled-some : (v : Option (Value V)) (o : Option ℕ) (xs : List ℕ) → is_some o ≡ is_some v → is_some (cell_of v o xs) ≡ is_some v
  filled-some None o xs e = refl
  filled-some (Some v) None xs e = e
  filled-some (Some v) (Some o) xs e = refl

  pub filled-count : (values : List (Option (Value V))) (owners : List (Option ℕ)) (inputs : List (List ℕ)) → length values ≤ length owners → length values ≤ length inputs
      → ((n : ℕ) → is_some (owner_at owners n) ≡ is_some (value_at values n)) → count_by is_some (filled_cells values owners inputs) ≡ count_by is_some values
  filled-count [] owners inputs o i owned = refl
  filled-count (v ∷ values) [] inputs o i owned = absurd (omega (arith, o))
  filled-count (v ∷ values) (w ∷ owners) [] o i owned = absurd (omega (arith, i))
  filled-count (v ∷ values) (w ∷ owners) (xs ∷ inputs) o i owned =
      let rest = filled-count values owners inputs (omega (arith, o)) (omega (arith, i)) (λ n. owned (suc n)) in
      sum_by-cons (λ (f : Option (Filled V)). cond (is_some f) 1 0) (cell_of v w xs) (filled_cells values owners inputs)
      ∙ ap (λ b. cond b 1 0 + count_by is_some (filled_cells values owners inputs)) (filled-some v w xs (owned 0))
      ∙ ap (λ n. cond (is_some v) 1 0 + n) rest
      ∙ sym (sum_by-cons (λ (u : Option (Value V)). cond (is_some u) 1 0) v values)

  module _ (values : List (Option (Value V))) (owners : List (Option ℕ)) (inputs : List (List ℕ)) (count : ℕ) (agrees : Agrees values owners inputs count) where
    -- the map has at each number the cell of the parts
    pub get-cell : (n : ℕ) → get (cell_map values owners inputs) n ≡ filled_at values owners inputs n
    get-cell n = numbered-at 0 (filled_cells values owners inputs) n n (omega arith) ∙ filled-at values owners inputs agrees.owners_many agrees.inputs_many n

    pub map-len : len (cell_map values owners inputs) ≡ count
    map-len = numbered-len 0 (filled_cells values owners inputs) ∙ filled-count values owners inputs agrees.owners_many agrees.inputs_many agrees.owned ∙ agrees.counted

-- parts that have the same cells have the same map
pub map-same : {V : Type 0} (values new_values : List (Option (Value V))) (owners new_owners : List (Option ℕ)) (inputs new_inputs : List (List ℕ)) (count new_count : ℕ)
    → Agrees values owners inputs count → Agrees new_values new_owners new_inputs new_count
    → ((n : ℕ) → filled_at new_values new_owners new_inputs n ≡ filled_at values owners inputs n) → cell_map new_values new_owners new_inputs ≡ cell_map values owners inputs
map-same values new_values owners new_owners inputs new_inputs count new_count a b same =
    same_map nat_cmp_total nat_cmp-IsAntisymmetric (cell_map new_values new_owners new_inputs) (cell_map values owners inputs)
    (λ n. get-cell new_values new_owners new_inputs new_count b n ∙ same n ∙ sym (get-cell values owners inputs count a n))
