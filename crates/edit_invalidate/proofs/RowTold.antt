-- What the comparison of two rows of a name tells.
use Rattle.std.specs.Bool.{Decides}
use Rattle.std.specs.Cmp.Lexicographic.{pointwise}
use Rattle.std.specs.Ordering.{int_eq}
use Rattle.std.proofs.lemmas.Bool.Decides.{Decides-int_eq, Decides-eqb, Decides-and, Decides-or, Decides-like}
use Rattle.std.proofs.lemmas.Slice.Eq.{slice_eq-Decides}
use Rattle.std.proofs.Common.{◌≡◌, suc, ◌≤◌, ◌⊎◌, inl, inr, Bool, true, List, [], ◌∷◌, length, refl, sym, ap, ◌∙◌, subst, arith}
use Rattle.base_values.specs.Equal.{same_Decides}
use Rattle.imp_slots.specs.Codes.{guard_code}
use Rattle.imp_slots.specs.PartCodes.{layout_code, entering_code}
use Rattle.imp_slots.specs.EnumCodes.{stmt_coded}
use Rattle.imp_slots.specs.ActionViews.{act_of, stmt_of, stmt_of-act_of}
use Rattle.cell_names.specs.declared.frame.NameFrame.{NameFrame}
use Rattle.cell_names.specs.Paths.{CellName}
use Rattle.cell_names.proofs.Telling.{frame_decides, point_decides}
use Rattle.cell_rows.specs.Names.{name}
use Rattle.cell_rows.specs.Rows as plain
use Rattle.imp_flow_rows.specs.declared.input.Input.{Input}
use Rattle.imp_flow_rows.specs.declared.input.Way.{Way}
use Rattle.imp_flow_rows.specs.declared.input.Way.TheVariants.{Here, Out, Into}
use Rattle.imp_flow_rows.specs.declared.row.Unary.{Unary}
use Rattle.imp_flow_rows.specs.declared.row.Unary.TheVariants as one
use Rattle.imp_flow_rows.specs.declared.row.Binary.{Binary}
use Rattle.imp_flow_rows.specs.declared.row.Binary.TheVariants as two
use Rattle.imp_flow_rows.specs.declared.row.Row.{Row}
use Rattle.imp_flow_rows.specs.declared.row.Row.TheVariants.{Init, One, Two, Fixed, Joins}
use Rattle.imp_flow_rows.specs.Near.{outside, near, input_name, unary_of, binary_of, row_in}
use Rattle.cell_kept_set.proofs.Decided.{returning_code, truth_decides, never}
use Rattle.edit_invalidate.specs.RowCode.{same_ways, same_inputs, same_unary, same_binary, same_row, is_nil}
use Rattle.edit_invalidate.specs.Rows.{AskSame}

-- Paths of other lengths are others.
shorter : (w : List NameFrame) → length (outside w) ≤ length w
shorter [] = omega arith
shorter (f ∷ w) = omega arith

longer : (f : NameFrame) (v w : List NameFrame) → length v ≤ length w → f ∷ w ≡ v → ⊥
longer f v w h e = let l : suc (length w) ≡ length v = ap length e in omega arith

ways : (w : List NameFrame) (a b : Way) → Decides (same_ways (is_nil w) a b) (near w a ≡ near w b)
ways w Here Here = (λ e. refl, λ e. refl)
ways [] Here Out = (λ e. refl, λ e. refl)
ways (f ∷ w) Here Out = never (λ e. longer f w w (omega arith) e)
ways w Here (Into g) = never (λ e. longer g w w (omega arith) (sym e))
ways [] Out Here = (λ e. refl, λ e. refl)
ways (f ∷ w) Out Here = never (λ e. longer f w w (omega arith) (sym e))
ways w Out Out = (λ e. refl, λ e. refl)
ways w Out (Into g) = never (λ e. longer g (outside w) w (shorter w) (sym e))
ways w (Into f) Here = never (λ e. longer f w w (omega arith) e)
ways w (Into f) Out = never (λ e. longer f (outside w) w (shorter w) e)
ways w (Into f) (Into g) = Decides-like _ (λ e. ap (λ f. f ∷ w) e) (λ e. cc) (frame_decides f g)

inputs : (w : List NameFrame) (a b : Input) → Decides (same_inputs (is_nil w) a b) (input_name w a ≡ input_name w b)
inputs w a b =
    Decides-like (same_inputs (is_nil w) a b) (λ p. ap (name (near w a.way)) p.0 ∙ ap (λ v. name v b.point) p.1) (λ e. (ap (λ (c : CellName). c.point) e, ap (λ (c : CellName). c.path) e)) (Decides-and _ _ (point_decides a.point b.point) (ways w a.way b.way))

unaries : (a b : Unary) → Decides (same_unary a b) (unary_of a ≡ unary_of b)
unaries (one.Post s) (one.Post t) =
    Decides-like _ (λ e. ap (λ s. plain.Posts (act_of s)) e) (λ e. let i : act_of s.now ≡ act_of t.now = cc in sym (stmt_of-act_of s.now) ∙ ap stmt_of i ∙ stmt_of-act_of t.now) (same_Decides stmt_coded s.now t.now)
unaries (one.Assume c h) (one.Assume d i) =
    Decides-like _ (λ p. ap (λ g. plain.Assumes g h) p.0 ∙ ap (plain.Assumes d.now) p.1) (λ e. (cc, cc)) (Decides-and _ _ (same_Decides guard_code c.now d.now) (truth_decides h i))
unaries (one.Enter c) (one.Enter d) = Decides-like _ (λ e. ap plain.Enters e) (λ e. cc) (same_Decides entering_code c.now.entering d.now.entering)
unaries (one.Exit c) (one.Exit d) = Decides-like _ (λ e. ap plain.Exits e) (λ e. cc) (same_Decides guard_code c.now d.now)
unaries a b = (λ e. absurd cc, λ e. absurd cc)

binaries : (a b : Binary) → Decides (same_binary a b) (binary_of a ≡ binary_of b)
binaries two.Join two.Join = (λ e. refl, λ e. refl)
binaries (two.Leave c) (two.Leave d) = Decides-like _ (λ e. ap plain.Leaves e) (λ e. cc) (same_Decides returning_code c.now.returning d.now.returning)
binaries (two.Widen m) (two.Widen k) = Decides-like _ (λ e. ap plain.Widens e) (λ e. cc) (slice_eq-Decides Decides-int_eq m.now k.now (pointwise int_eq m.now k.now) refl)
binaries a b = (λ e. absurd cc, λ e. absurd cc)

only : {A : Type 0} {B : Type 0} → (A → B) → A ⊎ ⊥ → B
only f (inl a) = f a
only f (inr b) = absurd b

is_true : (b : Bool) → Decides b (b ≡ true)
is_true b = (λ e. e, λ e. e)

rows : (w : List NameFrame) (r q : Row) (alone : Bool) → Decides (same_row (is_nil w) alone r q) (AskSame alone (row_in w r) (row_in w q))
rows w (Init l) (Init m) alone = Decides-like _ (λ e. inl (ap plain.Init e)) (λ s. only (λ e. cc) s) (same_Decides layout_code l.now m.now)
rows w (One o a) (One q b) alone =
    Decides-like _ (λ p. inl (ap (λ o. plain.One o (input_name w a)) p.0 ∙ ap (plain.One (unary_of q)) p.1)) (λ s. only (λ e. (cc, cc)) s) (Decides-and _ _ (unaries o q) (inputs w a b))
rows w (Two o a b) (Two q c d) alone =
    Decides-like _ (λ p. inl (ap (λ o. plain.Two o (input_name w a) (input_name w b)) p.0 ∙ ap (λ a. plain.Two (binary_of q) a (input_name w b)) p.1.0 ∙ ap (plain.Two (binary_of q) (input_name w c)) p.1.1)) (λ s. only (λ e. (cc, (cc, cc))) s) (Decides-and _ _ (binaries o q) (Decides-and _ _ (inputs w a c) (inputs w b d)))
rows w (Fixed n p) (Fixed m q) alone =
    Decides-like _ (λ i. inl (ap (λ n. plain.Fixed n (plain.sites_of w) w p) i.0 ∙ ap (plain.Fixed m (plain.sites_of w) w) i.1)) (λ s. only (λ e. (cc, cc)) s) (Decides-and _ _ (Decides-eqb n m) (point_decides p q))
rows w (Joins s l n p) (Joins t k m q) alone =
    Decides-like _ (λ i. elim i.1 [
      | inl a ↦ inr (ap (name w) i.0, a)
      | inr b ↦ inl (ap (λ s. plain.Joins s (name w l) n w p) b.0 ∙ ap (λ l. plain.Joins t (name w l) n w p) i.0 ∙ ap (λ n. plain.Joins t (name w k) n w p) b.1.0 ∙ ap (plain.Joins t (name w k) m w) b.1.1)
    ]) back (Decides-and _ _ (point_decides l k) (Decides-or _ _ (is_true alone) (Decides-and _ _ (truth_decides s t) (Decides-and _ _ (Decides-eqb n m) (point_decides p q)))))
  where
    back : AskSame alone (row_in w (Joins s l n p)) (row_in w (Joins t k m q)) → (l ≡ k) × ((alone ≡ true) ⊎ ((s ≡ t) × ((n ≡ m) × (p ≡ q))))
    back (inl e) = let i : name w l ≡ name w k = cc in (ap (λ (c : CellName). c.point) i, inr (cc, (cc, cc)))
    back (inr o) = (ap (λ (c : CellName). c.point) o.0, inl o.1)
rows w r q alone = (λ e. absurd cc, λ s. only (λ e. absurd cc) s)

-- the code's comparison decides
pub rows_told : (in_main alone answer : Bool) (r q : Row) → answer ≡ same_row in_main alone r q → (w : List NameFrame) → is_nil w ≡ in_main → Decides answer (AskSame alone (row_in w r) (row_in w q))
rows_told in_main alone answer r q e w h =
    subst (λ b. Decides b (AskSame alone (row_in w r) (row_in w q))) (ap (λ m. same_row m alone r q) h ∙ sym e) (rows w r q alone)
