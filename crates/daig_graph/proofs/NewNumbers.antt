-- One cell after another gets its new number.
use Rattle.std.proofs.Common.{◌≡◌, ◌≢◌, ℕ, suc, ◌+◌, ◌<◌, ◌≤◌, List, [], length, map, Option, Some, None, IsSome, is_some, count_by, slice_get, refl, sym, ap, ◌∙◌, arith, inl, inr}
use Rattle.daig_graph.specs.declared.value.Value.{Value}
use Rattle.daig_graph.specs.Agrees.{cell_of, filled_at, value_at, Agrees}
use Rattle.daig_graph.specs.Cells.{Filled}
use Rattle.daig_graph.specs.Numbers.{renumbered, AreRising, AreBelow, EndsBy, Moves}
use Rattle.daig_graph.specs.Owners.{owner_at}
use Rattle.daig_graph.specs.Renumbered.{renumbered_cell, AreMoving}
use Rattle.daig_graph.specs.Threads.{inputs_at, AllBelow}
use Rattle.daig_graph.proofs.Agreeing.{some-is, at-below, cell-parts, cell-none, cell-some}
use Rattle.daig_graph.proofs.Cases.{none-some}
use Rattle.daig_graph.proofs.Moved.{moved_item, moved-here, moved-from, moved-other, moved-places, moving-none, moving-some, moving-start, low, vacant, moved, moved-ends, number-was}
use Rattle.std.proofs.lemmas.Bool.{cases_eq}
use Rattle.std.proofs.lemmas.Option.{same_Some}

-- a cell whose inputs get new numbers
cell-renumbered : {V : Type 0} (new_of : List ℕ) (v : Option (Value V)) (o : Option ℕ) (xs : List ℕ) (f : Filled V) → cell_of v o xs ≡ Some f → cell_of v o (map (renumbered new_of) xs) ≡ Some (renumbered_cell new_of f)
cell-renumbered new_of None o xs f e = none-some e
cell-renumbered new_of (Some v) None xs f e = none-some e
cell-renumbered new_of (Some v) (Some o) xs f e = ap (λ g. Some (renumbered_cell new_of g)) (same_Some _ _ e)

-- what is not there is nothing
pub is-none : {A B : Type 0} (o : Option A) (p : Option B) → is_some o ≡ is_some p → p ≡ None → o ≡ None
is-none None p e none = refl
is-none (Some a) p e none = let no = e ∙ ap is_some none in absurd (cc)

module _ {V : Type 0} (new_of : List ℕ) (values0 : List (Option (Value V))) (owners0 : List (Option ℕ)) (inputs0 : List (List ℕ)) (count : ℕ) (agrees : Agrees values0 owners0 inputs0 count) where
  pub are-moving-start : AreMoving new_of values0 values0 owners0 owners0 inputs0 inputs0 0 0
  are-moving-start = record {
    value_places = refl;
    owner_places = refl;
    input_places = refl;
    owned = agrees.owned;
    blank = agrees.blank;
    counted = refl;
    moving = moving-start (renumbered_cell new_of) (filled_at values0 owners0 inputs0) new_of 0;
    last = λ n e. absurd (omega (arith, e));
  }

  -- a value is that of a cell
  cell-there : (n : ℕ) → IsSome (value_at values0 n) → (f : Filled V) × (filled_at values0 owners0 inputs0 n ≡ Some f)
  cell-there n h = some-is (filled_at values0 owners0 inputs0 n) (cell-some (value_at values0 n) (owner_at owners0 n) (inputs_at inputs0 n) (agrees.owned n) ∙ h)

  module _ (rising : AreRising (filled_at values0 owners0 inputs0) new_of) (below : AreBelow (filled_at values0 owners0 inputs0) new_of)
      (values : List (Option (Value V))) (owners : List (Option ℕ)) (inputs : List (List ℕ)) (number room : ℕ)
      (m : AreMoving new_of values0 values owners0 owners inputs0 inputs number room) where
    -- nothing stands there
    pub are-moving-none : value_at values number ≡ None → AreMoving new_of values0 values owners0 owners inputs0 inputs (number + 1) room
    are-moving-none none = record {
      value_places = m.value_places;
      owner_places = m.owner_places;
      input_places = m.input_places;
      owned = m.owned;
      blank = m.blank;
      counted = m.counted;
      moving = moving-none (renumbered_cell new_of) (filled_at values0 owners0 inputs0) (filled_at values owners inputs) new_of number room m.moving (cell-none (value_at values number) (owner_at owners number) (inputs_at inputs number) none);
      last = m.last;
    }

    module _ (there : IsSome (value_at values number)) where
      cell : (f : Filled V) × (filled_at values owners inputs number ≡ Some f)
      cell = some-is (filled_at values owners inputs number) (cell-some (value_at values number) (owner_at owners number) (inputs_at inputs number) (m.owned number) ∙ there)

      abbrev to : ℕ
      to = renumbered new_of number

      -- it gets no greater number
      pub to-low : renumbered new_of number ≤ number
      to-low = low (renumbered_cell new_of) (filled_at values0 owners0 inputs0) (filled_at values owners inputs) new_of number room m.moving rising below cell.0 cell.1

      -- where nothing stands
      pub free : renumbered new_of number ≢ number → value_at values (renumbered new_of number) ≡ None
      free ne =
          let n = renumbered new_of number in
          is-none (value_at values n) (filled_at values owners inputs n) (sym (cell-some (value_at values n) (owner_at owners n) (inputs_at inputs n) (m.owned n)))
          (vacant (renumbered_cell new_of) (filled_at values0 owners0 inputs0) (filled_at values owners inputs) new_of number room m.moving rising below cell.0 cell.1 ne)

      pub free-owner : renumbered new_of number ≢ number → owner_at owners (renumbered new_of number) ≡ None
      free-owner ne = is-none (owner_at owners (renumbered new_of number)) (value_at values (renumbered new_of number)) (m.owned (renumbered new_of number)) (free ne)

      pub free-inputs : renumbered new_of number ≢ number → inputs_at inputs (renumbered new_of number) ≡ []
      free-inputs ne = m.blank (renumbered new_of number) (free ne)

      -- its inputs are those it had
      inputs-were : inputs_at inputs number ≡ inputs_at inputs0 number
      inputs-were =
          let mine = cell-parts (value_at values number) (owner_at owners number) (inputs_at inputs number) cell.0 cell.1 in
          let old = cell-parts (value_at values0 number) (owner_at owners0 number) (inputs_at inputs0 number) cell.0 (sym (m.moving.rest number (omega arith)) ∙ cell.1) in
          mine.2 ∙ sym old.2

      -- their new numbers have places
      pub inputs-below : AllBelow (map (renumbered new_of) (inputs_at inputs number)) (length inputs)
      inputs-below i x e =
          let y = number-was new_of (inputs_at inputs number) i x e in
          let value = agrees.closed number i y.0 (ap (λ l. slice_get l i) (sym inputs-were) ∙ y.1) in
          let f = cell-there y.0 value in
          omega (arith, below y.0 f.0 f.1, y.2, at-below values0 y.0 value, agrees.inputs_many, m.input_places)

      module _ (new_values : List (Option (Value V))) (new_owners : List (Option ℕ)) (new_inputs : List (List ℕ))
          (values_is : new_values ≡ moved_item values number (renumbered new_of number) (value_at values (renumbered new_of number)) (value_at values number) None)
          (count_is : count_by is_some new_values ≡ count_by is_some values)
          (owners_is : new_owners ≡ moved_item owners number (renumbered new_of number) None (owner_at owners number) None)
          (inputs_is : new_inputs ≡ moved_item inputs number (renumbered new_of number) [] (map (renumbered new_of) (inputs_at inputs number)) []) where
        placed : number < length values
        placed = at-below values number there

        value-to : value_at new_values to ≡ value_at values number
        value-to = ap (λ l. value_at l to) values_is ∙ moved-here values number to _ _ None (omega (arith, placed, to-low))

        value-from : number ≢ to → value_at new_values number ≡ None
        value-from ne = ap (λ l. value_at l number) values_is ∙ moved-from values number to _ _ None placed ne ∙ free (λ e. ne (sym e))

        value-other : (q : ℕ) → q ≢ to → q ≢ number → value_at new_values q ≡ value_at values q
        value-other q nt nn = ap (λ l. value_at l q) values_is ∙ moved-other values number to _ _ None q nt nn

        owner-to : owner_at new_owners to ≡ owner_at owners number
        owner-to = ap (λ l. owner_at l to) owners_is ∙ moved-here owners number to None _ None (omega (arith, placed, to-low, m.value_places, m.owner_places, agrees.owners_many))

        owner-from : number ≢ to → owner_at new_owners number ≡ None
        owner-from ne = ap (λ l. owner_at l number) owners_is ∙ moved-from owners number to None _ None (omega (arith, placed, m.value_places, m.owner_places, agrees.owners_many)) ne

        owner-other : (q : ℕ) → q ≢ to → q ≢ number → owner_at new_owners q ≡ owner_at owners q
        owner-other q nt nn = ap (λ l. owner_at l q) owners_is ∙ moved-other owners number to None _ None q nt nn

        inputs-to : inputs_at new_inputs to ≡ map (renumbered new_of) (inputs_at inputs number)
        inputs-to = ap (λ l. inputs_at l to) inputs_is ∙ moved-here inputs number to [] _ [] (omega (arith, placed, to-low, m.value_places, m.input_places, agrees.inputs_many))

        inputs-from : number ≢ to → inputs_at new_inputs number ≡ []
        inputs-from ne = ap (λ l. inputs_at l number) inputs_is ∙ moved-from inputs number to [] _ [] (omega (arith, placed, m.value_places, m.input_places, agrees.inputs_many)) ne

        inputs-other : (q : ℕ) → q ≢ to → q ≢ number → inputs_at new_inputs q ≡ inputs_at inputs q
        inputs-other q nt nn = ap (λ l. inputs_at l q) inputs_is ∙ moved-other inputs number to [] _ [] q nt nn

        filled-to : filled_at new_values new_owners new_inputs to ≡ Some (renumbered_cell new_of cell.0)
        filled-to = ap (λ v. cell_of v (owner_at new_owners to) (inputs_at new_inputs to)) value-to ∙ ap (λ o. cell_of (value_at values number) o (inputs_at new_inputs to)) owner-to
            ∙ ap (λ l. cell_of (value_at values number) (owner_at owners number) l) inputs-to
            ∙ cell-renumbered new_of (value_at values number) (owner_at owners number) (inputs_at inputs number) cell.0 cell.1

        filled-other : (q : ℕ) → q ≢ to → q ≢ number → filled_at new_values new_owners new_inputs q ≡ filled_at values owners inputs q
        filled-other q nt nn = ap (λ v. cell_of v (owner_at new_owners q) (inputs_at new_inputs q)) (value-other q nt nn) ∙ ap (λ o. cell_of (value_at values q) o (inputs_at new_inputs q)) (owner-other q nt nn)
            ∙ ap (λ l. cell_of (value_at values q) (owner_at owners q) l) (inputs-other q nt nn)

        owned : (n : ℕ) → is_some (owner_at new_owners n) ≡ is_some (value_at new_values n)
        owned n = elim (cases_eq n to) [
          | inl same ↦ ap (λ k. is_some (owner_at new_owners k)) same ∙ ap is_some owner-to ∙ m.owned number ∙ sym (ap (λ k. is_some (value_at new_values k)) same ∙ ap is_some value-to)
          | inr nt ↦ elim (cases_eq n number) [
            | inl same ↦
                let apart : number ≢ to = λ e. nt (same ∙ e) in
                ap (λ k. is_some (owner_at new_owners k)) same ∙ ap is_some (owner-from apart) ∙ sym (ap (λ k. is_some (value_at new_values k)) same ∙ ap is_some (value-from apart))
            | inr nn ↦ ap is_some (owner-other n nt nn) ∙ m.owned n ∙ sym (ap is_some (value-other n nt nn))
          ]
        ]

        blank : (n : ℕ) → value_at new_values n ≡ None → inputs_at new_inputs n ≡ []
        blank n e = elim (cases_eq n to) [
          | inl same ↦ let no = sym there ∙ ap is_some (sym value-to ∙ ap (value_at new_values) (sym same) ∙ e) in absurd (cc)
          | inr nt ↦ elim (cases_eq n number) [
            | inl same ↦ ap (inputs_at new_inputs) same ∙ inputs-from (λ e. nt (same ∙ e))
            | inr nn ↦ inputs-other n nt nn ∙ m.blank n (sym (value-other n nt nn) ∙ e)
          ]
        ]

        pub are-moving-some : AreMoving new_of values0 new_values owners0 new_owners inputs0 new_inputs (number + 1) (renumbered new_of number + 1)
        are-moving-some = record {
          value_places = ap (λ l. length l) values_is ∙ moved-places values number to _ _ None ∙ m.value_places;
          owner_places = ap (λ l. length l) owners_is ∙ moved-places owners number to None _ None ∙ m.owner_places;
          input_places = ap (λ l. length l) inputs_is ∙ moved-places inputs number to [] _ [] ∙ m.input_places;
          owned = owned;
          blank = blank;
          counted = count_is ∙ m.counted;
          moving = moving-some (renumbered_cell new_of) (filled_at values0 owners0 inputs0) (filled_at values owners inputs) new_of number room m.moving rising below cell.0 cell.1
              (filled_at new_values new_owners new_inputs) filled-to (λ ne. cell-none (value_at new_values number) (owner_at new_owners number) (inputs_at new_inputs number) (value-from ne)) filled-other;
          last = λ n e. ap (λ k. is_some (value_at new_values k)) (next-same n e) ∙ (ap is_some value-to ∙ there);
        }
          where
            next-same : (n : ℕ) → to + 1 ≡ suc n → n ≡ to
            next-same n e = omega (arith, e)

    -- all have moved
    module _ (all : length values ≤ number) where
      old-low : (n : ℕ) (f : Filled V) → filled_at values0 owners0 inputs0 n ≡ Some f → n < number
      old-low n f e = omega (arith, at-below values0 n (ap is_some (cell-parts (value_at values0 n) (owner_at owners0 n) (inputs_at inputs0 n) f e).0), m.value_places, all)

      mid-low : (n : ℕ) (f : Filled V) → filled_at values owners inputs n ≡ Some f → n < number
      mid-low n f e = omega (arith, at-below values n (ap is_some (cell-parts (value_at values n) (owner_at owners n) (inputs_at inputs n) f e).0), all)

      pub all-moved : Moves (renumbered_cell new_of) (filled_at values0 owners0 inputs0) (filled_at values owners inputs) new_of
      all-moved = moved (renumbered_cell new_of) (filled_at values0 owners0 inputs0) (filled_at values owners inputs) new_of number room m.moving old-low mid-low

      pub all-end : EndsBy (filled_at values owners inputs) room
      all-end = moved-ends (renumbered_cell new_of) (filled_at values0 owners0 inputs0) (filled_at values owners inputs) new_of number room m.moving old-low mid-low

      closed : (n i x : ℕ) → slice_get (inputs_at inputs n) i ≡ Some x → IsSome (value_at values x)
      closed n i x e = by (value_at values n) refl
        where
          by : (v : Option (Value V)) → value_at values n ≡ v → IsSome (value_at values x)
          by None none = none-some (ap (λ l. slice_get l i) (sym (m.blank n none)) ∙ e)
          by (Some v) is =
              let g = some-is (filled_at values owners inputs n) (cell-some (value_at values n) (owner_at owners n) (inputs_at inputs n) (m.owned n) ∙ ap is_some is) in
              let w = all-moved.back n g.0 g.1 in
              let same : g.0 ≡ renumbered_cell new_of w.1 = same_Some _ _ (sym g.1 ∙ ap (filled_at values owners inputs) (sym w.3) ∙ all-moved.there w.0 w.1 w.2) in
              let mine = cell-parts (value_at values n) (owner_at owners n) (inputs_at inputs n) g.0 g.1 in
              let old = cell-parts (value_at values0 w.0) (owner_at owners0 w.0) (inputs_at inputs0 w.0) w.1 w.2 in
              let y = number-was new_of w.1.inputs i x (ap (λ (h : Filled V). slice_get h.inputs i) (sym same) ∙ ap (λ l. slice_get l i) (sym mine.2) ∙ e) in
              let f = cell-there y.0 (agrees.closed w.0 i y.0 (ap (λ l. slice_get l i) old.2 ∙ y.1)) in
              let now = all-moved.there y.0 f.0 f.1 in
              ap (λ k. is_some (value_at values k)) (sym y.2)
              ∙ ap is_some (cell-parts (value_at values (renumbered new_of y.0)) (owner_at owners (renumbered new_of y.0)) (inputs_at inputs (renumbered new_of y.0)) (renumbered_cell new_of f.0) now).0

      pub all-agree : Agrees values owners inputs count
      all-agree = record {
        owners_many = omega (arith, m.value_places, m.owner_places, agrees.owners_many);
        inputs_many = omega (arith, m.value_places, m.input_places, agrees.inputs_many);
        owned = m.owned;
        blank = m.blank;
        closed = closed;
        counted = m.counted ∙ agrees.counted;
      }
