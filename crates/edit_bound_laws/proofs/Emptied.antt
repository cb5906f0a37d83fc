-- Cells that do not stay over edits of small programs.
use Rattle.std.proofs.Common.{◌≡◌, List, [], ◌∷◌, Option, Some, None, Bool, true, false, refl, sym, ap, ◌∙◌, subst}
use Rattle.std.proofs.lemmas.Bool.{or_left, or_right}
use Rattle.domain_laws.specs.Operations.{Operations}
use Rattle.cell_names.specs.declared.frame.NameFrame.TheVariants.{InCall}
use Rattle.cell_names.specs.declared.frame.Point.TheVariants.{Entry, Post, Iterate}
use Rattle.cell_names.specs.Paths.{CellName}
use Rattle.daig_order.specs.Order.{member}
use Rattle.daig_order.specs.Leading.{LeadsTo, itself, through}
use Rattle.daig_order.specs.Asking.{gather, inputs_of}
use Rattle.cell_rows.specs.Names.{name, IsSame}
use Rattle.cell_rows.specs.Rows.{Row, Op, op_of}
use Rattle.cell_kept_set.specs.Touched.{Edit, old_rows, old_system, IsTouched}
use Rattle.edit_bound_laws.specs.Examples.{two_calls, LoopBeforeIsEmptied, OtherProcedureIsEmptied}

abbrev op_if : Option Row → Option Op
op_if None = None
op_if (Some r) = Some (op_of r)

pub loop-before : {S : Type 0} (dom : Operations S) → LoopBeforeIsEmptied dom
loop-before dom same cells is k =
    k.free (itself (name [] (Iterate 1 1)) (λ p.
    let row = p.1 in
    let same_operation = ap op_if row.had ∙ ap (λ o. Some o) row.operation ∙ sym (ap op_if row.has) in
    absurd cc))

module _ {S : Type 0} (dom : Operations S) (same : CellName → CellName → Bool) (is : IsSame same) where
  abbrev e : Edit
  e = record { engine = record { budget = 1000; widening = record { delay = 0; thresholds = false } }; old = two_calls 1; new = two_calls 5 }

  first : (x : CellName) (xs : List CellName) → member same (x ∷ xs) x ≡ true
  first x xs = or_left (same x x) (member same xs x) (is.same_refl x)

  second : (y x : CellName) → member same (y ∷ x ∷ []) x ≡ true
  second y x = or_right (same x y) (member same (x ∷ []) x) (first x [])

  abbrev Leads : CellName → Type 0
  Leads = LeadsTo (old_system dom e same) (IsTouched dom e same)

  in_f : Leads (name (InCall 3 ∷ []) (Post 1))
  in_f = itself (name (InCall 3 ∷ []) (Post 1)) (λ p. let none : None ≡ Some p.1.other = p.1.has in absurd cc)

  behind_inputs : inputs_of (old_rows dom e same) (name [] (Post 3)) ≡ name [] Entry ∷ name (InCall 3 ∷ []) (Post 1) ∷ []
  unfolding inputs_of gather
  behind_inputs = refl

  entry_inputs : inputs_of (old_rows dom e same) (name (InCall 4 ∷ []) Entry) ≡ name [] (Post 3) ∷ []
  unfolding inputs_of gather
  entry_inputs = refl

  end_inputs : inputs_of (old_rows dom e same) (name (InCall 4 ∷ []) (Post 2)) ≡ name (InCall 4 ∷ []) Entry ∷ []
  unfolding inputs_of gather
  end_inputs = refl

  input : (x y : CellName) (xs : List CellName) → inputs_of (old_rows dom e same) y ≡ xs → member same xs x ≡ true → member same (inputs_of (old_rows dom e same) y) x ≡ true
  input x y xs h m = subst (λ xs. member same xs x ≡ true) (sym h) m

  in_g : Leads (name (InCall 4 ∷ []) (Post 2))
  in_g =
      let f = name (InCall 3 ∷ []) (Post 1) in
      let behind = name [] (Post 3) in
      let entry = name (InCall 4 ∷ []) Entry in
      let end = name (InCall 4 ∷ []) (Post 2) in
      through entry end
      (through behind entry
      (through f behind in_f (input f behind (name [] Entry ∷ f ∷ []) behind_inputs (second (name [] Entry) f)))
      (input behind entry (behind ∷ []) entry_inputs (first behind [])))
      (input entry end (entry ∷ []) end_inputs (first entry []))

pub other-procedure : {S : Type 0} (dom : Operations S) → OtherProcedureIsEmptied dom
other-procedure dom same cells is k = k.free (in_g dom same is)
