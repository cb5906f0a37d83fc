-- A statement's points keep their rows where its node does.
use Rattle.std.proofs.Common.{◌≡◌, ℕ, zero, suc, ◌&&◌, ℤ, cond, List, [], ◌∷◌, ◌++◌, reverse, Option, Some, None, true, false, refl, sym, ap, subst, ◌∙◌}
use Rattle.imp_slots.specs.Plain.{Code, Stop, Simple, If, While, Call, Break, Routine, Invoke, code_numbers}
use Rattle.imp_slots.specs.Fits.{Distinct, IsChecked, routine_numbers}
use Rattle.batch_meaning.specs.Batch.{LoopOptions}
use Rattle.batch_meaning.specs.Places.{if_some}
use Rattle.base_values.proofs.Cases.{by_test}
use Rattle.base_values.proofs.Members.{Member, here, there, Each, none_there, each_more, each_both}
use Rattle.cell_names.specs.declared.frame.NameFrame.{NameFrame}
use Rattle.cell_names.specs.declared.frame.NameFrame.TheVariants.{InCall, InLoop}
use Rattle.cell_names.specs.declared.frame.Point.{Point}
use Rattle.cell_names.specs.declared.frame.Point.TheVariants.{Entry, Then, Else, Body, Post, Iterate, Fix, Exit, Leap}
use Rattle.cell_names.specs.contracts.frame.PointPartialEq.TheImpl as points
use Rattle.cell_rows.specs.Names.{Nested}
use Rattle.cell_rows.specs.Rows.{Row}
use Rattle.cell_rows.specs.Flat.{flat_row}
use Rattle.cell_rows.proofs.Checked.{distinct_part, break_part, once_nested}
use Rattle.imp_slots.proofs.Distinct.{left_once, right_once}
use Rattle.cell_rows.proofs.FlatOnce.{once_reversed}
use Rattle.imp_flow_rows.specs.Shapes.{Node, Shape}
use Rattle.imp_flow_rows.specs.Shapes as shape
use Rattle.imp_flow_rows.specs.Shapes.{is_bare}
use Rattle.imp_flow.specs.Nodes.{shape_of, node_in, block_nodes, nodes_of, node_of}
use Rattle.imp_flow.specs.Plans.{Plan, thresholds_at, plan_nodes, node_row}
use Rattle.imp_flow.specs.Owners.{owner}
use Rattle.imp_flow.specs.Changed.{is_start, IsChanged, Stays, same_shapes}
use Rattle.imp_flow.proofs.Ties.{breaks_are, rows_tie}
use Rattle.imp_flow.proofs.ChangedRows.{part, Kept, Lost, Verdict, mapped, mapped_no}
use Rattle.imp_flow.proofs.ChangedShapes.{AreOnce, lone_lost, told_nodes}
use Rattle.std.proofs.lemmas.Option.{same_Some}

-- The breaks of each loop of a checked program stand once.
abbrev Fine : Node → Type 0
Fine x = AreOnce x.shape

block_fine : (earlier : List Routine) (loops : List ℕ) (p : Point) (c : Code) → Nested c → Each Fine (block_nodes earlier loops p c)
block_fine earlier loops p Stop h = none_there Fine
block_fine earlier loops p (Simple n e r) h = each_more Fine (node_in earlier loops p n (shape_of earlier (Simple n e r))) _ tt (block_fine earlier loops (Post n) r h)
block_fine earlier loops p (If n g t e r) h =
    each_more Fine (node_in earlier loops p n (shape_of earlier (If n g t e r))) _ tt
    (each_both Fine _ _ (block_fine earlier loops (Then n) t h.0) (each_both Fine _ _ (block_fine earlier loops (Else n) e h.1) (block_fine earlier loops (Post n) r h.2)))
block_fine earlier loops p (While n g b r) h =
    each_more Fine (node_in earlier loops p n (shape_of earlier (While n g b r))) _ (subst Distinct (sym (breaks_are b Body)) (distinct_part (break_part b) h.0))
    (each_both Fine _ _ (block_fine earlier (loops ++ n ∷ []) Body b h.1) (block_fine earlier loops (Post n) r h.2))
block_fine earlier loops p (Call n i q r) h = each_more Fine (node_in earlier loops p n (shape_of earlier (Call n i q r))) _ tt (block_fine earlier loops (Post n) r h)
block_fine earlier loops p (Break n r) h = each_more Fine (node_in earlier loops p n (shape_of earlier (Break n r))) _ tt (block_fine earlier loops (Post n) r h)

nodes_fine : (ps : List Routine) → Distinct (routine_numbers ps) → Each Fine (nodes_of ps)
nodes_fine [] d = none_there Fine
nodes_fine (r ∷ earlier) d =
    each_both Fine (block_nodes earlier [] Entry r.code) (nodes_of earlier)
    (block_fine earlier [] Entry r.code (once_nested r.code (left_once (code_numbers r.code) (routine_numbers earlier) d)))
    (nodes_fine earlier (right_once (code_numbers r.code) (routine_numbers earlier) d))

-- The statement of a number.
pub found_node : (xs : List Node) (n : ℕ) (x : Node) → node_of xs n ≡ Some x → Member x xs × (x.stmt ≡ n)
found_node [] n x e = absurd cc
found_node (y ∷ xs) n x e =
    (by_test y.stmt n (λ t. cond t (Some y) (node_of xs n) ≡ Some x → Member x (y ∷ xs) × (x.stmt ≡ n))
    (λ k f. let q : y ≡ x = same_Some y x f in (subst (λ (z : Node). Member z (y ∷ xs)) q here, ap (λ (z : Node). z.stmt) (sym q) ∙ k))
    (λ k f. let m = found_node xs n x f in (there m.0, m.1))) e

pub found_fine : (plan : Plan) (n : ℕ) (x : Node) → IsChecked plan.program → node_of (plan_nodes plan) n ≡ Some x → AreOnce x.shape
found_fine plan n x h e = (nodes_fine (reverse plan.program) (once_reversed plan.program h.numbers_once)).at x (found_node (plan_nodes plan) n x e).0

abbrev no_row : Option Row
no_row = None

nothing : (o : Option Node) → if_some o (λ (x : Node). no_row) ≡ no_row
nothing None = refl
nothing (Some x) = refl

-- The row of a point is that of its statement's node.
abbrev rows_by : LoopOptions → Plan → Option Node → List NameFrame → Point → Option Row
rows_by engine plan o w p = if_some o (λ x. part engine (thresholds_at plan x.place) x w p)

abbrev at_owner : Plan → List NameFrame → Point → Option Row
at_owner plan w p = rows_by plan.engine plan (node_of (plan_nodes plan) (owner w p)) w p

row_is : (plan : Plan) (w : List NameFrame) (p : Point) → is_start w p ≡ false → node_row plan w p ≡ at_owner plan w p
row_is plan [] Entry h = absurd cc
row_is plan (InCall n ∷ w) Entry h = refl
row_is plan (InLoop n k ∷ w) Entry h = sym (nothing (node_of (plan_nodes plan) 0))
row_is plan [] Body h = sym (nothing (node_of (plan_nodes plan) 0))
row_is plan (InCall n ∷ w) Body h = sym (nothing (node_of (plan_nodes plan) 0))
row_is plan (InLoop n k ∷ w) Body h = refl
row_is plan w (Then n) h = refl
row_is plan w (Else n) h = refl
row_is plan w (Post n) h = refl
row_is plan w (Iterate n zero) h = sym (nothing (node_of (plan_nodes plan) n))
row_is plan w (Iterate n (suc k)) h = refl
row_is plan w (Fix n) h = refl
row_is plan w (Exit n) h = refl
row_is plan w (Leap n k) h = refl

flat_is : (plan : Plan) (w : List NameFrame) (p : Point) (n : ℕ) → owner w p ≡ n → is_start w p ≡ false → flat_row plan.engine (reverse plan.program) w p ≡ rows_by plan.engine plan (node_of (plan_nodes plan) n) w p
flat_is plan w p n o h = sym (rows_tie plan w p) ∙ row_is plan w p h ∙ ap (λ n. rows_by plan.engine plan (node_of (plan_nodes plan) n) w p) o

-- no row of a call of nothing
bare_part : (engine : LoopOptions) (ms : List ℤ) (n a : ℕ) (us : List ℕ) (q : Point) (i : Invoke) (c : ℕ) (w : List NameFrame) (p : Point) →
    part engine ms (record { stmt = n; place = a; loops = us; front = q; shape = shape.Call i c None }) w p ≡ None
bare_part engine ms n a us q i c [] Entry = refl
bare_part engine ms n a us q i c (InCall m ∷ w) Entry = refl
bare_part engine ms n a us q i c (InLoop m k ∷ w) Entry = refl
bare_part engine ms n a us q i c [] Body = refl
bare_part engine ms n a us q i c (InCall m ∷ w) Body = refl
bare_part engine ms n a us q i c (InLoop m k ∷ w) Body = refl
bare_part engine ms n a us q i c w (Then m) = refl
bare_part engine ms n a us q i c w (Else m) = refl
bare_part engine ms n a us q i c w (Post m) = refl
bare_part engine ms n a us q i c w (Iterate m zero) = refl
bare_part engine ms n a us q i c w (Iterate m (suc k)) = refl
bare_part engine ms n a us q i c w (Fix m) = refl
bare_part engine ms n a us q i c w (Exit m) = refl
bare_part engine ms n a us q i c w (Leap m k) = refl

bare_shape : (engine : LoopOptions) (ms : List ℤ) (n a : ℕ) (us : List ℕ) (q : Point) (s : Shape) → is_bare s ≡ true → (w : List NameFrame) (p : Point) →
    part engine ms (record { stmt = n; place = a; loops = us; front = q; shape = s }) w p ≡ None
bare_shape engine ms n a us q (shape.Act s) h w p = absurd cc
bare_shape engine ms n a us q (shape.If g t e) h w p = absurd cc
bare_shape engine ms n a us q (shape.While g e ls) h w p = absurd cc
bare_shape engine ms n a us q (shape.Call i c None) h w p = bare_part engine ms n a us q i c w p
bare_shape engine ms n a us q (shape.Call i c (Some e)) h w p = absurd cc

module _ (old new : Plan) (one : old.engine ≡ new.engine) (n : ℕ) where
  abbrev here_old : Option Node
  here_old = node_of (plan_nodes old) n

  abbrev here_new : Option Node
  here_new = node_of (plan_nodes new) n

  abbrev olds : Option Node → List NameFrame → Point → Option Row
  olds = rows_by old.engine old

  abbrev news : Option Node → List NameFrame → Point → Option Row
  news = rows_by old.engine new

  old_is : (w : List NameFrame) (p : Point) → owner w p ≡ n → is_start w p ≡ false → flat_row old.engine (reverse old.program) w p ≡ olds here_old w p
  old_is w p o h = flat_is old w p n o h

  new_is : (w : List NameFrame) (p : Point) → owner w p ≡ n → is_start w p ≡ false → flat_row new.engine (reverse new.program) w p ≡ news here_new w p
  new_is w p o h = flat_is new w p n o h ∙ ap (λ e. rows_by e new here_new w p) (sym one)

  pub kept_stays : (o q : Option Node) → here_old ≡ o → here_new ≡ q → Kept (olds o) (news q) → Stays old new n
  kept_stays o q e f k w p r i h had =
      new_is w p i h ∙ ap (λ z. news z w p) f ∙ k.all w p r (sym (old_is w p i h ∙ ap (λ z. olds z w p) e) ∙ had)

  lost_changed : (o q : Option Node) → here_old ≡ o → here_new ≡ q → Lost n (olds o) (news q) → IsChanged old new n
  lost_changed o q e f l = record {
    path = l.path;
    point = l.point;
    row = l.row;
    owned = l.owned;
    had = old_is l.path l.point l.owned l.inside ∙ ap (λ z. olds z l.path l.point) e ∙ l.had;
    lost = λ r. l.gone (sym (new_is l.path l.point l.owned l.inside ∙ ap (λ z. news z l.path l.point) f) ∙ r);
  }

  -- no statement, or none with rows
  pub none_stays : here_old ≡ None → Stays old new n
  none_stays e = kept_stays None here_new e refl (record { all = λ w p r h. absurd cc })

  pub bare_stays : (x : Node) → here_old ≡ Some x → is_bare x.shape ≡ true → Stays old new n
  bare_stays x e h =
      kept_stays (Some x) here_new e refl
      (record { all = λ w p r had. let f : None ≡ Some r = sym (bare_shape old.engine (thresholds_at old x.place) x.stmt x.place x.loops x.front x.shape h w p) ∙ had in absurd cc })

  -- the statement is gone
  pub gone_changed : (x : Node) → here_old ≡ Some x → is_bare x.shape ≡ false → here_new ≡ None → IsChanged old new n
  gone_changed x e h f =
      let k : x.stmt ≡ n = (found_node (plan_nodes old) n x e).1 in
      lost_changed (Some x) None e f (subst (λ m. Lost m (olds (Some x)) (news None)) k (lone_lost old.engine (thresholds_at old x.place) [] x.stmt x.place 0 x.loops [] x.front x.shape h))

  -- it is there
  pub told_found : (x y : Node) → here_old ≡ Some x → here_new ≡ Some y → is_bare x.shape ≡ false → AreOnce x.shape → AreOnce y.shape →
      Verdict (Stays old new n) (IsChanged old new n) (points.ghosts.eq x.front y.front && same_shapes old.engine (thresholds_at old x.place) (thresholds_at new y.place) x.shape y.shape)
  told_found x y e f h c d =
      let k : x.stmt ≡ n = (found_node (plan_nodes old) n x e).1 in
      let j : y.stmt ≡ n = (found_node (plan_nodes new) n y f).1 in
      let v = told_nodes old.engine (thresholds_at old x.place) (thresholds_at new y.place) n x.place y.place x.loops y.loops x.front y.front x.shape y.shape h c d in
      let P : Node → Node → Type 0 =
      λ u z. Verdict (Kept (part old.engine (thresholds_at old x.place) u) (part old.engine (thresholds_at new y.place) z)) (Lost n (part old.engine (thresholds_at old x.place) u) (part old.engine (thresholds_at new y.place) z)) (points.ghosts.eq x.front y.front && same_shapes old.engine (thresholds_at old x.place) (thresholds_at new y.place) x.shape y.shape)
      in
      let number : Node → ℕ → Node = λ u m. record { stmt = m; place = u.place; loops = u.loops; front = u.front; shape = u.shape } in
      let w : P x (number y n) = subst (λ u. P u (number y n)) (ap (number x) (sym k)) v in
      let z : P x y = subst (P x) (ap (number y) (sym j)) w in
      mapped (mapped_no z (lost_changed (Some x) (Some y) e f)) (kept_stays (Some x) (Some y) e f)
