-- Places from a number on, with nothing, are given back.
use Rattle.std.proofs.Common.{◌≡◌, ℕ, zero, suc, ◌<◌, ◌≤◌, cond, true, List, [], ◌∷◌, length, Option, Some, None, IsSome, is_some, count_by, get_or, take, refl, sym, ap, ◌∙◌, arith, length-take-le}
use Rattle.std.specs.FinMap.{FinMap, get}
use Rattle.std.specs.Ordering.{nat_cmp}
use Rattle.daig_graph.specs.declared.value.Value.{Value}
use Rattle.daig_graph.specs.Agrees.{filled_at, value_at, Agrees}
use Rattle.daig_graph.specs.Cells.{Filled}
use Rattle.daig_graph.specs.Numbers.{renumbered, EndsBy, Moves}
use Rattle.daig_graph.specs.Owners.{owner_at}
use Rattle.daig_graph.specs.Renumbered.{renumbered_cell, Renumbers}
use Rattle.daig_graph.specs.Threads.{inputs_at, AllBelow}
use Rattle.daig_graph.proofs.Agreeing.{some-is, at-below, cell-some, cell-at}
use Rattle.daig_graph.proofs.Filled.{Keeps, filled-keep}
use Rattle.daig_graph.proofs.Maps.{cell_map, get-cell}
use Rattle.daig_graph.proofs.NewNumbers.{is-none}
use Rattle.std.proofs.lemmas.List.Sums.{sum_by-cons}

cut-same : {A : Type 0} (items : List A) (d : A) (room : ℕ) → ((n : ℕ) → room ≤ n → get_or items n d ≡ d) → (n : ℕ) → get_or (take room items) n d ≡ get_or items n d
cut-same [] d zero h n = refl
cut-same [] d (suc room) h n = refl
cut-same (x ∷ items) d zero h n = sym (h n (omega arith))
cut-same (x ∷ items) d (suc room) h zero = refl
cut-same (x ∷ items) d (suc room) h (suc n) = cut-same items d room (λ k l. h (suc k) (omega (arith, l))) n

count-none : {A : Type 0} (items : List (Option A)) → ((n : ℕ) → get_or items n None ≡ None) → count_by is_some items ≡ 0
count-none [] h = refl
count-none {A} (x ∷ items) h =
    let none = ap {B = ℕ} (λ (o : Option A). cond (is_some o) 1 0) (h 0) in
    omega (arith, sum_by-cons (λ (o : Option A). cond (is_some o) 1 0) x items, none, count-none items (λ n. h (suc n)))

count-cut : {A : Type 0} (items : List (Option A)) (room : ℕ) → ((n : ℕ) → room ≤ n → get_or items n None ≡ None) → count_by is_some (take room items) ≡ count_by is_some items
count-cut [] zero h = refl
count-cut [] (suc room) h = refl
count-cut (x ∷ items) zero h = sym (count-none (x ∷ items) (λ n. h n (omega arith)))
count-cut {A} (x ∷ items) (suc room) h =
    let rest = count-cut items room (λ k l. h (suc k) (omega (arith, l))) in
    omega (arith, sum_by-cons (λ (o : Option A). cond (is_some o) 1 0) x items, sum_by-cons (λ (o : Option A). cond (is_some o) 1 0) x (take room items), rest)

take-shorter : {A B : Type 0} (xs : List A) (ys : List B) (n : ℕ) → length xs ≤ length ys → length (take n xs) ≤ length (take n ys)
take-shorter [] ys zero h = omega arith
take-shorter [] ys (suc n) h = omega arith
take-shorter (x ∷ xs) [] n h = absurd (omega (arith, h))
take-shorter (x ∷ xs) (y ∷ ys) zero h = omega arith
take-shorter (x ∷ xs) (y ∷ ys) (suc n) h = omega (arith, take-shorter xs ys n (omega (arith, h)))

module _ {V : Type 0} (values : List (Option (Value V))) (owners : List (Option ℕ)) (inputs : List (List ℕ)) (count room : ℕ) (agrees : Agrees values owners inputs count) (ends : EndsBy (filled_at values owners inputs) room) where
  -- what is there is below
  value-end : (n : ℕ) → is_some (value_at values n) ≡ true → n < room
  value-end n h =
      let f = some-is (filled_at values owners inputs n) (cell-some (value_at values n) (owner_at owners n) (inputs_at inputs n) (agrees.owned n) ∙ h) in
      ends n f.0 f.1

  pub no-value : (n : ℕ) → room ≤ n → value_at values n ≡ None
  no-value n l = by (value_at values n) refl
    where
      by : (o : Option (Value V)) → value_at values n ≡ o → value_at values n ≡ None
      by None e = e
      by (Some v) e = let below = value-end n (ap is_some e) in absurd (omega (arith, l, below))

  pub no-owner : (n : ℕ) → room ≤ n → owner_at owners n ≡ None
  no-owner n l = is-none (owner_at owners n) (value_at values n) (agrees.owned n) (no-value n l)

  pub no-inputs : (n : ℕ) → room ≤ n → inputs_at inputs n ≡ []
  no-inputs n l = agrees.blank n (no-value n l)

  pub inputs-end : (n : ℕ) → AllBelow (inputs_at inputs n) room
  inputs-end n i x e = value-end x (agrees.closed n i x e)

  pub keeps-cut : (new_values : List (Option (Value V))) (new_owners : List (Option ℕ)) (new_inputs : List (List ℕ)) → new_values ≡ take room values → new_owners ≡ take room owners → new_inputs ≡ take room inputs
      → Keeps values new_values owners new_owners inputs new_inputs
  keeps-cut new_values new_owners new_inputs v o i = record {
    same_values = λ n. ap (λ l. value_at l n) v ∙ cut-same values None room no-value n;
    same_owners = λ n. ap (λ l. owner_at l n) o ∙ cut-same owners None room no-owner n;
    same_inputs = λ n. ap (λ l. inputs_at l n) i ∙ cut-same inputs [] room no-inputs n;
    owners_many = λ a b. let h = take-shorter values owners room a in omega (arith, h, ap (λ l. length l) v, ap (λ l. length l) o);
    inputs_many = λ a b. let h = take-shorter values inputs room b in omega (arith, h, ap (λ l. length l) v, ap (λ l. length l) i);
    counted = ap (λ l. count_by is_some l) v ∙ count-cut values room no-value;
  }

  -- where something is right below the room, the last place that is left has it
  module _ (last : (n : ℕ) → room ≡ suc n → IsSome (value_at values n)) where
    room-placed : room ≤ length values
    room-placed = by room refl
      where
        by : (r : ℕ) → room ≡ r → room ≤ length values
        by zero e = omega (arith, e)
        by (suc n) e = omega (arith, e, at-below values n (last n e))

    pub cut-last : (new_values : List (Option (Value V))) → new_values ≡ take room values → (n : ℕ) → length new_values ≡ suc n → IsSome (value_at new_values n)
    cut-last new_values v n e =
        let many : length new_values ≡ room = ap (λ l. length l) v ∙ length-take-le room values room-placed in
        ap is_some (ap (λ l. value_at l n) v ∙ cut-same values None room no-value n) ∙ last n (sym many ∙ e)

-- the map has each cell at its new number
module _ {V : Type 0} (new_of : List ℕ) (values0 values new_values : List (Option (Value V))) (owners0 owners new_owners : List (Option ℕ)) (inputs0 inputs new_inputs : List (List ℕ)) (count : ℕ)
    (agrees : Agrees values0 owners0 inputs0 count) (next : Agrees new_values new_owners new_inputs count) (v : FinMap nat_cmp (Filled V)) (v_is : cell_map values0 owners0 inputs0 ≡ v)
    (moves : Moves (renumbered_cell new_of) (filled_at values0 owners0 inputs0) (filled_at values owners inputs) new_of) (keeps : Keeps values new_values owners new_owners inputs new_inputs) where
  now-at : (n : ℕ) → get (cell_map new_values new_owners new_inputs) n ≡ filled_at values owners inputs n
  now-at n = get-cell new_values new_owners new_inputs count next n ∙ filled-keep values new_values owners new_owners inputs new_inputs keeps n

  pub map-renumber : Renumbers new_of v (cell_map new_values new_owners new_inputs)
  map-renumber = record {
    there = λ n f e. now-at (renumbered new_of n) ∙ moves.there n f (sym (cell-at values0 owners0 inputs0 count agrees v v_is n) ∙ e);
    back = λ q g e. let w = moves.back q g (sym (now-at q) ∙ e) in (w.0, w.1, cell-at values0 owners0 inputs0 count agrees v v_is w.0 ∙ w.2, w.3);
  }
