-- Whether a cell keeps its row, by the rows that code looks up.
use Rattle.std.proofs.Common.{reverse, ◌≡◌, ℕ, ◌==◌, Bool, true, false, List, [], ◌∷◌, Option, Some, None, length, slice_get, refl, sym, ap, ◌∙◌, subst, option_map, is_none, is_some, not}
use Rattle.std.specs.Bool.{Decides}
use Rattle.cell_names.specs.declared.frame.NameFrame.{NameFrame}
use Rattle.cell_names.specs.declared.frame.Point.{Point}
use Rattle.cell_names.specs.declared.path.Name.{Name}
use Rattle.cell_names.specs.Paths.{CellName, path_at, name_in}
use Rattle.cell_rows.specs.Flat.{flat_row}
use Rattle.daig_graph.specs.Cells.{Filled}
use Rattle.imp_flow.specs.Plans.{Plan}
use Rattle.imp_flow_rows.specs.Near.{last_frame, row_in}
use Rattle.imp_flow_rows.specs.declared.row.Row.{Row}
use Rattle.edit_invalidate.specs.RowCode.{is_nil}
use Rattle.edit_invalidate.specs.Rows.{AskSame}
use Rattle.edit_invalidate.specs.Touched.{KeepsCell, or_start, name_at, input_count}
use Rattle.std.proofs.lemmas.Option.{same_Some}

-- last frames
pub last_none : (w : List NameFrame) → w ≡ [] → None ≡ last_frame w
last_none w e = sym (ap last_frame e)

pub last_some : (w v : List NameFrame) (f : NameFrame) → w ≡ f ∷ v → Some f ≡ last_frame w
last_some w v f e = sym (ap last_frame e)

none_is_nil : (w : List NameFrame) (o : Option NameFrame) → o ≡ last_frame w → is_nil w ≡ is_none o
none_is_nil [] o e = sym (ap is_none e)
none_is_nil (f ∷ w) o e = sym (ap is_none e)

pub none_told : (o : Option NameFrame) (b : Bool) → is_some o ≡ not b → b ≡ is_none o
none_told None true e = refl
none_told None false e = absurd cc
none_told (Some f) true e = absurd cc
none_told (Some f) false e = refl

-- counts of inputs
pub none_counted : {V : Type 0} (o : Option (Filled V)) → None ≡ option_map (λ (f : Filled V). f.inputs) o → 0 ≡ input_count o
none_counted None e = refl
none_counted (Some f) e = absurd cc

pub some_counted : {V : Type 0} (o : Option (Filled V)) (xs : List ℕ) → Some xs ≡ option_map (λ (f : Filled V). f.inputs) o → length xs ≡ input_count o
some_counted None xs e = absurd cc
some_counted (Some f) xs e = ap length (same_Some xs f.inputs e)

-- the rows that the code finds in a flow, by a last frame
abbrev pub Finds : Plan → Option NameFrame → Point → Option Row → Type 0
Finds plan frame p found = (w : List NameFrame) → last_frame w ≡ frame → option_map (row_in w) found ≡ flat_row plan.engine (reverse plan.program) w p

module _ (old new : Plan) (paths : List (List NameFrame)) (x : Name) (count : ℕ) (frame : Option NameFrame) (last : frame ≡ last_frame (path_at paths x.path)) where
  abbrev w : List NameFrame
  w = path_at paths x.path

  pub old_lacks : Finds old frame x.point None → Decides false (KeepsCell old new (name_in paths x) count)
  old_lacks h = (λ e. absurd cc, λ k. absurd (let e = h w (sym last) ∙ k.had in cc))

  pub new_lacks : Finds new frame x.point None → Decides false (KeepsCell old new (name_in paths x) count)
  new_lacks h = (λ e. absurd cc, λ k. absurd (let e = h w (sym last) ∙ k.has in cc))

  pub both_have : (r q : Row) (answer in_main alone : Bool) → Finds old frame x.point (Some r) → Finds new frame x.point (Some q) → in_main ≡ is_none frame → alone ≡ (count == 1) →
      ((v : List NameFrame) → is_nil v ≡ in_main → Decides answer (AskSame alone (row_in v r) (row_in v q))) → Decides answer (KeepsCell old new (name_in paths x) count)
  both_have r q answer in_main alone h k m a d =
      let f = h w (sym last) in
      let g = k w (sym last) in
      let t = d w (none_is_nil w frame last ∙ sym m) in (
        λ e. record { row = row_in w r; other = row_in w q; had = sym f; has = sym g; asked = subst (λ b. AskSame b (row_in w r) (row_in w q)) a (t.0 e) },
        λ c. (let i : row_in w r ≡ c.row = same_Some (row_in w r) c.row (f ∙ c.had) in
            let j : row_in w q ≡ c.other = same_Some (row_in w q) c.other (g ∙ c.has) in
            t.1 (subst (λ b. AskSame b (row_in w r) (row_in w q)) (sym a) (subst (λ s. AskSame (count == 1) s (row_in w q)) (sym i) (subst (AskSame (count == 1) c.row) (sym j) c.asked)))),
      )

-- of the name under a number
pub of_name : (old new : Plan) (names : List CellName) (cell count : ℕ) (x : CellName) (answer : Bool) → slice_get names cell ≡ Some x → Decides answer (KeepsCell old new x count) → Decides answer (KeepsCell old new (name_at names cell) count)
of_name old new names cell count x answer e d = subst (λ y. Decides answer (KeepsCell old new y count)) (sym (ap or_start e)) d
