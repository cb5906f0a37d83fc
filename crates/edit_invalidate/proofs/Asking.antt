-- A cell keeps its row by the count of its inputs exactly where its name keeps it.
use Rattle.std.proofs.Common.{reverse, ◌≡◌, ℕ, ◌==◌, Bool, List, [], ◌∷◌, length, Some, refl, sym, subst, inl, inr}
use Rattle.std.specs.Bool.{Decides}
use Rattle.domain_laws.specs.Operations.{Operations}
use Rattle.cell_names.specs.declared.frame.NameFrame.{NameFrame}
use Rattle.cell_names.specs.declared.frame.Point.{Point}
use Rattle.cell_names.specs.Paths.{CellName}
use Rattle.daig_order.specs.Asking.{inputs_of}
use Rattle.cell_rows.specs.Rows.{Row, Joins}
use Rattle.cell_rows.specs.Flat.{flat_row}
use Rattle.cell_kept_set.specs.Touched.{Edit, old_rows, KeepsRow}
use Rattle.cell_kept_set.specs.RowTest.{SameAsked}
use Rattle.cell_kept_set.proofs.RowTests.{row_test, left_input}
use Rattle.imp_flow.specs.Plans.{Plan}
use Rattle.edit_invalidate.specs.Rows.{AskLeft, AskSame}
use Rattle.edit_invalidate.specs.Touched.{KeepsCell}
use Rattle.cell_graph.specs.Same.{same_name}
use Rattle.cell_graph.specs.Asked.{inputs}
use Rattle.edit_invalidate.specs.Claims.{edit_of}

-- the left input of a join is the only one
abbrev IsAlone : Row → Bool → List CellName → Type 0
IsAlone r alone xs = (s : Bool) (l : CellName) (n : ℕ) (w : List NameFrame) (p : Point) → r ≡ Joins s l n w p → Decides alone (xs ≡ l ∷ [])

left_there : (alone : Bool) (xs : List CellName) (r q : Row) → IsAlone r alone xs → AskLeft alone r q → SameAsked r q xs
left_there alone xs (Joins s l n w p) (Joins t k m v q) d a = inr (a.0, (d s l n w p refl).0 a.1)
left_there alone xs r q d a = absurd a

there : (alone : Bool) (xs : List CellName) (r q : Row) → IsAlone r alone xs → AskSame alone r q → SameAsked r q xs
there alone xs r q d (inl e) = inl e
there alone xs r q d (inr a) = left_there alone xs r q d a

back : (alone : Bool) (xs : List CellName) (r q : Row) → IsAlone r alone xs → SameAsked r q xs → AskSame alone r q
back alone xs r q d (inl e) = inl e
back alone xs (Joins s l n w p) (Joins t k m v q) d (inr a) = inr (a.0, (d s l n w p refl).1 a.1)
back alone xs r q d (inr a) = absurd a

module _ {S : Type 0} (dom : Operations S) (old new : Plan) (one : old.engine ≡ new.engine) (x : CellName) (count : ℕ) (counted : count ≡ length (inputs dom old x)) where
  abbrev e : Edit
  e = edit_of old new

  alone : (r q : Row) → flat_row e.engine (reverse e.old) x.path x.point ≡ Some r → flat_row e.engine (reverse e.new) x.path x.point ≡ Some q → IsAlone r (count == 1) (inputs_of (old_rows dom e same_name) x)
  unfolding inputs
  alone r q h k s l n w p i = subst (λ c. Decides (c == 1) (inputs_of (old_rows dom e same_name) x ≡ l ∷ [])) (sym counted) (left_input dom e same_name x r q h k s l n w p i)

  pub keeps : KeepsCell old new x count → KeepsRow dom e same_name x
  keeps c =
      let has : flat_row e.engine (reverse e.new) x.path x.point ≡ Some c.other = subst (λ g. flat_row g (reverse new.program) x.path x.point ≡ Some c.other) (sym one) c.has in
      (row_test dom e same_name x c.row c.other c.had has).1 (there (count == 1) (inputs_of (old_rows dom e same_name) x) c.row c.other (alone c.row c.other c.had has) c.asked)

  pub keeps_cell : KeepsRow dom e same_name x → KeepsCell old new x count
  keeps_cell k = record {
    row = k.row;
    other = k.other;
    had = k.had;
    has = subst (λ g. flat_row g (reverse new.program) x.path x.point ≡ Some k.other) one k.has;
    asked = back (count == 1) (inputs_of (old_rows dom e same_name) x) k.row k.other (alone k.row k.other k.had k.has) ((row_test dom e same_name x k.row k.other k.had k.has).0 k);
  }
