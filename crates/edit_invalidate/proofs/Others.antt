-- Names of statements that are not changed keep their rows.
use Rattle.std.proofs.Common.{reverse, ◌≡◌, List, [], ◌∷◌, Option, Some, None, refl, sym, ap, ◌∙◌, subst, inl, inr}
use Rattle.cell_names.specs.declared.frame.NameFrame.{NameFrame}
use Rattle.cell_names.specs.declared.frame.Point.{Point}
use Rattle.cell_names.specs.Owners.{owner}
use Rattle.cell_names.specs.Paths.{CellName}
use Rattle.cell_rows.specs.Names.{name}
use Rattle.cell_rows.specs.Rows.{Row, Init, One, Two, Fixed as FixedRow, Joins, op_of}
use Rattle.cell_rows.specs.Flat.{flat_row}
use Rattle.cell_rows.proofs.FlatShapes.{fix_number, Shape, Shaped, flat_shaped}
use Rattle.cell_kept_set.proofs.Decided.{Decided, AreSame, are_same}
use Rattle.cell_graph.specs.Same.{same_name}
use Rattle.cell_graph.proofs.Same.{same_is}
use Rattle.edit_invalidate.specs.Claims.{OthersKeepRows}
use Rattle.edit_invalidate.proofs.Leaving.{contained}

-- the names that stand in a row
abbrev names_of : Row → List CellName
names_of (Init layout) = []
names_of (One op a) = a ∷ []
names_of (Two op a b) = a ∷ b ∷ []
names_of (FixedRow n z w p) = name w p ∷ []
names_of (Joins s l n w p) = l ∷ name w p ∷ []

heads : (x y : CellName) (xs ys : List CellName) → x ∷ xs ≡ y ∷ ys → (x ≡ y) × (xs ≡ ys)
heads x y xs ys e = (cc, cc)

-- Two rows of one name with the same operation and the same names are the same.
same_row : (x : List NameFrame) (pt : Point) (r q : Row) → Shape x pt r → Shape x pt q → op_of r ≡ op_of q → names_of r ≡ names_of q → r ≡ q
same_row x pt (Init a) (Init b) h k o e = cc
same_row x pt (One op a) (One ot b) h k o e =
    let i : op ≡ ot = cc in
    ap (λ o. One o a) i ∙ ap (One ot) (heads a b [] [] e).0
same_row x pt (Two op a b) (Two ot c d) h k o e =
    let i : op ≡ ot = cc in
    let j = heads a c (b ∷ []) (d ∷ []) e in
    ap (λ o. Two o a b) i ∙ ap (λ a. Two ot a b) j.0 ∙ ap (Two ot c) (heads b d [] [] j.1).0
same_row x pt (FixedRow n z w p) (FixedRow m y u q) h k o e =
    let i = (heads (name w p) (name u q) [] [] e).0 in
    ap (λ n. FixedRow n z w p) (ap fix_number (sym h.0 ∙ k.0)) ∙ ap (λ z. FixedRow m z w p) (h.1 ∙ sym k.1) ∙ ap (λ w. FixedRow m y w p) (h.2 ∙ sym k.2) ∙ ap (λ (c : CellName). FixedRow m y u c.point) i
same_row x pt (Joins s l n w p) (Joins t j m u q) h k o e =
    let i = heads l j (name w p ∷ []) (name u q ∷ []) e in
    let c = (heads (name w p) (name u q) [] [] i.1).0 in
    ap (λ s. Joins s l n w p) (h.0 ∙ sym k.0)
    ∙ ap (λ l. Joins t l n w p) i.0
    ∙ ap (λ n. Joins t j n w p) (sym h.1 ∙ k.1)
    ∙ ap (λ w. Joins t j m w p) (h.2 ∙ sym k.2)
    ∙ ap (λ (d : CellName). Joins t j m u d.point) c
same_row x pt r q h k o e = absurd cc

-- Whether a name has this row is decided.
has_row : (x : List NameFrame) (pt : Point) (o : Option Row) (r : Row) → Shaped x pt o → Shape x pt r → Decided (o ≡ Some r)
has_row x pt None r h k = inr (λ e. absurd cc)
has_row x pt (Some q) r h k = go (are_same same_name same_is (Some q) (Some r) (names_of q) (names_of r))
  where
    go : Decided (AreSame same_name same_is (Some q) (Some r) (names_of q) (names_of r)) → Decided (Some q ≡ Some r)
    go (inl s) =
        let i : q ≡ s.row = cc in
        let j : r ≡ s.other = cc in
        inl (ap (λ o. Some o) (same_row x pt q r h k (ap op_of i ∙ s.operation ∙ sym (ap op_of j)) s.inputs))
    go (inr n) =
        inr (λ e.
        let i : q ≡ r = cc in
        n (record { row = q; other = r; had = refl; has = refl; operation = ap op_of i; inputs = ap names_of i }))

pub others_keep_rows : OthersKeepRows
others_keep_rows old new stmts x count are other has =
    let had = subst (Shaped x.path x.point) has.1 (flat_shaped old.engine (reverse old.program) x.path x.point) in
    elim (has_row x.path x.point (flat_row new.engine (reverse new.program) x.path x.point) has.0 (flat_shaped new.engine (reverse new.program) x.path x.point) had) [
      | inl e ↦ record { row = has.0; other = has.0; had = has.1; has = e; asked = inl refl }
      | inr lost ↦
          absurd (other (contained stmts (owner x.path x.point) (are.all (owner x.path x.point) (record { path = x.path; point = x.point; row = has.0; owned = refl; had = has.1; lost = lost }))))
    ]
