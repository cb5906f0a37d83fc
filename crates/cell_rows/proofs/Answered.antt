-- The answer of the cells is the batch interpreter's.
use Rattle.std.proofs.Common.{◌≡◌, ℕ, List, [], ◌∷◌, map, reverse, Option, Some, None, Bool, refl, sym, ap, ◌∙◌}
use Rattle.std.specs.Option.{option_map}
use Rattle.imp_syntax.specs.declared.edit.Location.{Location}
use Rattle.imp_slots.specs.Plain.{Routine}
use Rattle.imp_slots.specs.Fits.{IsChecked}
use Rattle.imp_chains.specs.Chains.{selected}
use Rattle.domain_laws.specs.Operations.{Operations}
use Rattle.batch_meaning.specs.Batch.{LoopOptions}
use Rattle.batch_meaning.specs.Places.{if_some, value_at, main_layout}
use Rattle.batch_meaning.specs.Answers.{In, all_values, sum_of, summed, answer_in}
use Rattle.cell_names.specs.Paths.{CellName}
use Rattle.daig_order.specs.Asking.{gather, value_of}
use Rattle.cell_rows.specs.Names.{Mark, mark_of, IsSame}
use Rattle.cell_rows.specs.Cells.{Cell, values, value_of_name}
use Rattle.cell_rows.specs.Claims.{HasName, rows_of}
use Rattle.cell_rows.specs.Targets.{Target, next_demanded, most_demanded, demanded_in, value_of_target, read_all, all_targets, targets, target}
use Rattle.cell_rows.proofs.Unique.{all_map}
use Rattle.cell_rows.proofs.Lookup.{then_some}
use Rattle.cell_rows.proofs.Bare.{bare_mark, mark_bare}
use Rattle.cell_rows.proofs.FlatOnce.{all_fine, flat_once, once_reversed}
use Rattle.cell_rows.proofs.TableProofs.{HasName as HasMark}
use Rattle.cell_rows.proofs.TotalRows.{total_values}
use Rattle.cell_rows.proofs.Arriving.{Has}
use Rattle.cell_rows.proofs.Chained.{all_once, is_at}
use Rattle.cell_rows.proofs.Demands.{demands_are, reads_are, same_target}
use Rattle.std.proofs.lemmas.Option.{same_Some}

module _ {S : Type 0} (dom : Operations S) (engine : LoopOptions) (program : List Routine) (checked : IsChecked program) where
  abbrev back : List Routine
  back = reverse program

  abbrev pub HasIt : CellName → Type 0
  HasIt = HasMark dom engine back (all_fine program checked)

  -- a name's mark, with a value or without
  pub valued : (x : CellName) → HasName engine program x → HasIt x
  valued x h = go (mark_of engine (values dom engine (main_layout back)) back x) (sym (mark_bare engine (values dom engine (main_layout back)) back x) ∙ h.1)
    where
      go : (o : Option (Mark (Cell S))) → option_map bare_mark o ≡ Some h.0 → (m : Mark (Cell S)) × (o ≡ Some m)
      go None e = absurd cc
      go (Some m) e = (m, refl)

  pub unvalued : (x : CellName) → HasIt x → HasName engine program x
  unvalued x h = (bare_mark h.0, mark_bare engine (values dom engine (main_layout back)) back x ∙ ap (option_map bare_mark) h.1)

  module _ (cell_of : CellName → Cell S) where
    abbrev f : CellName → Cell S
    f = value_of_name dom engine back

    -- Values of cells that are the batch interpreter's.
    abbrev pub AreBatch : Type 0
    AreBatch = (x : CellName) → HasIt x → cell_of x ≡ f x

    module _ (agree : AreBatch) where
      at_cells : (l : Location) (z : List ℕ) (t : Target) → target program l z ≡ Some t → value_at dom engine program l z ≡ Some (value_of_target cell_of t)
      at_cells l z t e =
          let r = is_at dom engine back (all_fine program checked) (all_once back (once_reversed program checked.numbers_once)) l z t e in
          let has = Has dom engine back (all_fine program checked) in
          let same = all_map has has (λ x. cell_of x ≡ f x) (λ x p q. agree x p) (demanded_in f t.steps t.last []) r.1 r.1 in
          r.0 ∙ ap (λ v. Some v) (sym (same_target cell_of f t.steps t.last [] same).1)

      all_at : (l : Location) (zs : List (List ℕ)) (ts : List Target) → all_targets (target program l) zs ≡ Some ts → all_values dom engine (value_at dom engine program l) zs ≡ Some (map (value_of_target cell_of) ts)
      all_at l [] ts e = ap (λ ts. Some (map (value_of_target cell_of) ts)) (same_Some _ _ e)
      all_at l (z ∷ zs) ts e =
          let x = then_some (target program l z) (λ t. if_some (all_targets (target program l) zs) (λ ts. Some (t ∷ ts))) ts e in
          let y = then_some (all_targets (target program l) zs) (λ ts. Some (x.0 ∷ ts)) ts x.2 in
          ap (λ o. if_some o (λ v. if_some (all_values dom engine (value_at dom engine program l) zs) (λ vs. Some (v ∷ vs)))) (at_cells l z x.0 x.1)
          ∙ ap (λ o. if_some o (λ vs. Some (value_of_target cell_of x.0 ∷ vs))) (all_at l zs y.0 y.1)
          ∙ ap (λ ts. Some (map (value_of_target cell_of) ts)) (same_Some _ _ y.2)

      -- The answer that is read from the demanded names' values, in the order in which they are asked for.
      pub answer_is : (l : Location) (string : List ℕ) (p : ℕ) (ts : List Target) → targets program p l string ≡ Some ts →
          answer_in dom engine program l string (In p) ≡ summed dom engine (read_all ts (map cell_of (gather cell_of (next_demanded ts) (most_demanded ts) [])))
      answer_is l string p ts e =
          ap (sum_of dom engine) (all_at l (selected program p string) ts e)
          ∙ ap (summed dom engine) (sym (ap (λ xs. read_all ts (map cell_of xs)) (demands_are cell_of ts) ∙ reads_are cell_of ts))

  -- The values of the rows by number are.
  pub total_batch : (same : CellName → CellName → Bool) → IsSame same → AreBatch (value_of (rows_of dom engine program same))
  total_batch same is x h = total_values dom engine back (all_fine program checked) (flat_once program checked) same is x h
