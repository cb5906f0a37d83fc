-- Over an edit: a name whose operation and inputs, and those of all names it depends on, are the same in both programs has the same value in both.
use Rattle.std.proofs.Common.{◌≡◌, ℕ, zero, suc, ◌<◌, List, [], ◌∷◌, length, map, None, Bool, true, refl, sym, ap, ◌∙◌, arith}
use Rattle.imp_slots.specs.Plain.{Routine}
use Rattle.domain_laws.specs.Operations.{Operations}
use Rattle.batch_meaning.specs.Batch.{LoopOptions}
use Rattle.cell_names.specs.Paths.{CellName}
use Rattle.daig_order.specs.Order.{member}
use Rattle.daig_order.specs.Asking.{SameRow, Rows, AreRows, value_of, inputs_of}
use Rattle.daig_order.proofs.AskingProofs.{value-is, system-acyclic}
use Rattle.std.proofs.lemmas.Bool.{or_left, or_right}
use Rattle.std.proofs.lemmas.List.{length-map}
use Rattle.daig_order.proofs.Stable.{stable}
use Rattle.cell_rows.specs.Names.{IsSame, AllFine}
use Rattle.cell_rows.specs.Cells.{Cell, table, row_of_name, by_row, operation_row, asks_row, most_row, nothing}
use Rattle.cell_rows.proofs.TableProofs.{is_table}

map_on : {T V : Type 0} (same : T → T → Bool) → ((x : T) → same x x ≡ true) → (v w : T → V) (xs : List T) → ((y : T) → member same xs y ≡ true → v y ≡ w y) → map v xs ≡ map w xs
map_on same re v w [] h = refl
map_on same re v w (x ∷ xs) h =
    let here : v x ≡ w x = h x (or_left (same x x) (member same xs x) (re x)) in
    let rest = map_on same re v w xs (λ y m. h y (or_right (same y x) (member same xs y) m)) in
    ap (λ a. a ∷ map v xs) here ∙ ap (λ bs. w x ∷ bs) rest

module _ {T V : Type 0} (t u : Rows T V) where
  -- The same operation, and the same inputs by the values of each.
  pub record SameIn (x : T) : Type 0 where
    pub inputs : inputs_of t x ≡ inputs_of u x
    pub operation : (vs : List V) → length vs ≡ length (inputs_of u x) → t.operation x vs ≡ u.operation x vs

  module _ (tl : AreRows t) (ul : AreRows u) (P : T → Type 0) (same : (x : T) → P x → SameIn x) (down : (x y : T) → P x → member t.same (inputs_of t x) y ≡ true → P y) where
    kept-at : (r : ℕ) (x : T) → t.rank x < r → P x → value_of t x ≡ value_of u x
    kept-at zero x h p = absurd (omega arith)
    kept-at (suc r) x h p =
        let s = same x p in
        let i = map_on t.same tl.same_refl (value_of t) (value_of u) (inputs_of t x) (λ y m. let b : t.rank y < t.rank x = (system-acyclic t tl).falls x y m in kept-at r y (omega arith) (down x y p m)) in
        value-is t tl x ∙ ap (t.operation x) (i ∙ ap (map (value_of u)) s.inputs) ∙ s.operation (map (value_of u) (inputs_of u x)) (length-map (inputs_of u x) (value_of u)) ∙ sym (value-is u ul x)

    pub kept : (x : T) → P x → value_of t x ≡ value_of u x
    kept x p = kept-at (suc (t.rank x)) x (omega arith) p

module _ {S : Type 0} (dom : Operations S) (engine : LoopOptions) (old new : List Routine) (old_fine : AllFine old) (new_fine : AllFine new) (same : CellName → CellName → Bool) (is : IsSame same) where
  abbrev TO : Rows CellName (Cell S)
  TO = table dom engine old same

  abbrev TN : Rows CellName (Cell S)
  TN = table dom engine new same

  -- By the rows in the text alone: then the inputs are the same too.
  row_same : (x : CellName) → row_of_name dom engine old x ≡ row_of_name dom engine new x → SameRow TO TN x
  row_same x e = record {
    asks = λ vs. ap (λ o. by_row dom engine o None (λ r. asks_row dom engine r vs)) e;
    operation = λ vs. ap (λ o. by_row dom engine o (nothing dom engine) (λ r. operation_row dom engine r vs)) e;
    most = ap (λ o. by_row dom engine o 0 (most_row dom engine)) e;
  }

  pub stable_rows : (P : CellName → Type 0) → ((x : CellName) → P x → row_of_name dom engine old x ≡ row_of_name dom engine new x) → ((x y : CellName) → P x → member same (inputs_of TO x) y ≡ true → P y) →
      (x : CellName) → P x → (inputs_of TO x ≡ inputs_of TN x) × (value_of TO x ≡ value_of TN x)
  stable_rows P rows down x p = stable TO TN (is_table dom engine old old_fine same is) (is_table dom engine new new_fine same is) P (λ x p. row_same x (rows x p)) down x p
