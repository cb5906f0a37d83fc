-- For each name that the program has, the table gives its row.
use Rattle.std.proofs.Common.{◌≡◌, ℕ, zero, suc, List, [], ◌∷◌, map, Option, Some, Bool, true, false, refl, sym, ap, ◌∙◌, subst, nat_lt}
use Rattle.imp_slots.specs.Plain.{DoBreak, Does, Code, Stop, Simple, If, While, Call, Break, Routine}
use Rattle.imp_slots.specs.Fits.{Distinct}
use Rattle.batch_meaning.specs.Batch.{LoopOptions}
use Rattle.batch_meaning.specs.Places.{find, if_some, from, main_layout}
use Rattle.cell_names.specs.declared.frame.NameFrame.{NameFrame}
use Rattle.cell_names.specs.declared.frame.NameFrame.TheVariants.{InCall, InLoop}
use Rattle.cell_names.specs.declared.frame.Point.{Point}
use Rattle.cell_names.specs.declared.frame.Point.TheVariants.{Entry, Then, Else, Body, Post, Iterate, Fix, Exit, Leap}
use Rattle.base_values.proofs.Cases.{given_item}
use Rattle.base_values.proofs.Members.{Member, in_left, in_right, keys, in_map}
use Rattle.batch_meaning.proofs.Places.{found}
use Rattle.cell_rows.specs.Names.{Scope, scope_of, name, Mark, mark, PathBlock, bare, number, entry, start_of, in_call, in_loop, iterate_point, round_place, statement, follow, when}
use Rattle.cell_rows.specs.Rows as R
use Rattle.cell_rows.specs.Rows.{Row, Init, One, Two, row_at, branch_row, post_row, next_row, fix_row, exit_row, leap_row, enter_row, turn_row, last_point}
use Rattle.cell_rows.specs.Targets.{Text, text, deeper, texts}
use Rattle.cell_rows.specs.Flat.{Flat, flat_of, flat, stand_in, by_text, flat_row}
use Rattle.cell_rows.proofs.Lookup.{Stands, unstated, then_some}
use Rattle.cell_rows.proofs.Shown.{Shows, shows}
use Rattle.cell_rows.proofs.Sites.{path_sites}
use Rattle.cell_rows.proofs.Ways.{flat_behind}
use Rattle.std.proofs.lemmas.Option.{same_Some}

module _ (engine : LoopOptions) (program : List Routine) (once : Distinct (keys (flat program))) where
  abbrev N : ℕ
  N = engine.budget

  abbrev Q : Type 0
  Q = PathBlock engine bare

  abbrev U : Type 0
  U = Mark (Unit {0})

  -- The statements of the block that a path leads to are in the table.
  record Entered (scope : Scope) (k : ℕ) (p : Point) (c : Code) : Type 0 where
    routine : Routine
    earlier : List Routine
    scoped : scope_of engine bare routine earlier ≡ scope
    text : Text
    listed : Member (k, record { routine = routine; earlier = earlier; text = text }) (flat program)
    front : text.front ≡ p
    code : text.code ≡ c

  record Covers (b : Q) : Type 0 where
    texts_in : (q : ℕ × Text) → Member q (texts b.code b.first.point) → Entered b.scope q.0 q.1.front q.1.code
    earlier_in : (x : ℕ × Flat) → Member x (flat b.scope.earlier) → Member x (flat program)

  covers_start : (ps : List Routine) (z : List ℕ) (x : U) (b : Q) → x.point ≡ Entry → ((y : ℕ × Flat) → Member y (flat ps) → Member y (flat program)) → start_of engine bare ps z x ≡ Some b → Covers b
  covers_start [] z x b i f e = absurd cc
  covers_start (c ∷ before) z x b i f e = subst Covers (same_Some _ _ e) (record {
    texts_in = λ q m.
        let l : Member q (texts c.code Entry) = subst (λ (p : Point). Member q (texts c.code p)) i m in
        record { routine = c; earlier = before; scoped = refl; text = q.1; listed = f _ (in_left (flat before) (in_map (flat_of c before) q (texts c.code Entry) l)); front = refl; code = refl };
    earlier_in = λ y m. f y (in_right (map (flat_of c before) (texts c.code Entry)) m);
  })

  covers_call : (b : Q) (n : ℕ) (y : U) (d : Code) (c : Q) → Covers b → in_call engine bare b n y d ≡ Some c → Covers c
  covers_call b n y Stop c v e = absurd cc
  covers_call b n y (Simple m effect r) c v e = absurd cc
  covers_call b n y (If m guard t x r) c v e = absurd cc
  covers_call b n y (While m guard t r) c v e = absurd cc
  covers_call b n y (Call m call q r) c v e = covers_start (from b.scope.earlier q) (n ∷ b.sites) _ c refl (λ x i. v.earlier_in x (flat_behind b.scope.earlier q x i)) e
  covers_call b n y (Break m r) c v e = absurd cc

  shown_at : (b : Q) (y : U) (d : Code) → Stands engine bare b y d → Shows (texts b.code b.first.point) (entry engine bare b.scope b.sites y d)
  shown_at b y d s = (shows engine b.scope b.sites b.code b.first).at _ s.there

  covers_loop : (b : Q) (n k : ℕ) (y : U) (d : Code) (c : Q) → Covers b → Stands engine bare b y d → in_loop engine bare b n k y d ≡ Some c → Covers c
  covers_loop b n k y Stop c v s e = absurd cc
  covers_loop b n k y (Simple m effect r) c v s e = absurd cc
  covers_loop b n k y (If m guard t x r) c v s e = absurd cc
  covers_loop b n k y (While m guard t r) c v s e =
      subst Covers (given_item (nat_lt k N) (round_place engine bare b n guard t k y) c e) (record {
        texts_in = λ q i. let u = v.texts_in (deeper m q) ((shown_at b y (While m guard t r) s).inner q i) in record { routine = u.routine; earlier = u.earlier; scoped = u.scoped; text = u.text; listed = u.listed; front = u.front; code = u.code };
        earlier_in = v.earlier_in;
      })
  covers_loop b n k y (Call m call q r) c v s e = absurd cc
  covers_loop b n k y (Break m r) c v s e = absurd cc

  covers : (w : List NameFrame) (b : Q) → follow engine bare program w ≡ Some b → Covers b
  covers [] b e = covers_start program [] _ b refl (λ y m. m) e
  covers (InCall n ∷ w) b e =
      let u = unstated engine bare (follow engine bare program w) n (λ b. in_call engine bare b n) b e in
      covers_call u.place n u.before u.code b (covers w u.place u.leads) u.gives
  covers (InLoop n k ∷ w) b e =
      let u = unstated engine bare (follow engine bare program w) n (λ b. in_loop engine bare b n k) b e in
      covers_loop u.place n k u.before u.code b (covers w u.place u.leads) u.stands u.gives

  -- The table's entry of a statement that a path leads to.
  in_table : (w : List NameFrame) (b : Q) (y : U) (d : Code) → follow engine bare program w ≡ Some b → Stands engine bare b y d → Entered b.scope (number d) y.point d
  in_table w b y d e s = (covers w b e).texts_in (number d, text [] y.point d) (shown_at b y d s).itself

  -- Rows look at the procedures, the call sites, the point before and the code alone.
  abbrev pub Reads : (Q → U → Code → Option Row) → Type 0
  Reads g = (b c : Q) (y x : U) (d : Code) → b.scope ≡ c.scope → b.sites ≡ c.sites → y.point ≡ x.point → g b y d ≡ g c x d

  row_found : (w : List NameFrame) (n : ℕ) (g : Q → U → Code → Option Row) (r : Row) → Reads g → statement engine bare (follow engine bare program w) n g ≡ Some r → by_text engine program w n g ≡ Some r
  row_found w n g r h e =
      let u = unstated engine bare (follow engine bare program w) n g r e in
      let t = in_table w u.place u.before u.code u.leads u.stands in
      let f : Flat = record { routine = t.routine; earlier = t.earlier; text = t.text } in
      let k : find (number u.code) (flat program) ≡ Some f = found (number u.code, f) (flat program) once t.listed in
      ap (λ n. by_text engine program w n g) u.numbered
      ∙ ap (λ o. if_some o (λ u. g (stand_in engine program w u) (mark u.text.front 0 tt) u.text.code)) k
      ∙ ap (λ (c : Code). g (stand_in engine program w f) (mark t.text.front 0 tt) c) t.code
      ∙ h (stand_in engine program w f) u.place (mark t.text.front 0 tt) u.before u.code t.scoped (sym (path_sites engine program w u.place u.leads)) t.front
      ∙ u.gives

  start_code : (ps : List Routine) (z v : List ℕ) (x y : U) (f : Code → Row) → if_some (start_of engine bare ps z x) (λ d. Some (f d.code)) ≡ if_some (start_of engine bare ps v y) (λ d. Some (f d.code))
  start_code [] z v x y f = refl
  start_code (body ∷ earlier) z v x y f = refl

  pub branch_reads : (w : List NameFrame) (h : Bool) → Reads (branch_row engine bare w h)
  branch_reads w h b c y x Stop i j k = refl
  branch_reads w h b c y x (Simple n effect r) i j k = refl
  branch_reads w h b c y x (If n guard t e r) i j k = ap (λ (p : Point). Some (One (R.Assumes guard h) (name w p))) k
  branch_reads w h b c y x (While n guard t r) i j k = refl
  branch_reads w h b c y x (Call n call q r) i j k = refl
  branch_reads w h b c y x (Break n r) i j k = refl

  pub post_reads : (w : List NameFrame) → Reads (post_row engine bare w)
  post_reads w b c y x Stop i j k = refl
  post_reads w b c y x (Simple n effect r) i j k = ap (λ (p : Point). Some (One (R.Posts (Does effect)) (name w p))) k
  post_reads w b c y x (If n guard t e r) i j k = refl
  post_reads w b c y x (While n guard t r) i j k = refl
  post_reads w b c y x (Call n call q r) i j k =
      ap (λ (p : Point). if_some (in_call engine bare b n y (Call n call q r)) (λ d. Some (Two (R.Leaves call.returning) (name w p) (name (InCall n ∷ w) (last_point d.code Entry))))) k
      ∙ ap (λ (e : Scope). if_some (start_of engine bare (from e.earlier q) (n ∷ b.sites) (mark Entry (suc y.rank) tt)) (λ d. Some (Two (R.Leaves call.returning) (name w x.point) (name (InCall n ∷ w) (last_point d.code Entry))))) i
      ∙ start_code (from c.scope.earlier q) (n ∷ b.sites) (n ∷ c.sites) (mark Entry (suc y.rank) tt) (mark Entry (suc x.rank) tt) (λ d. Two (R.Leaves call.returning) (name w x.point) (name (InCall n ∷ w) (last_point d Entry)))
  post_reads w b c y x (Break n r) i j k = ap (λ (p : Point). Some (One (R.Posts DoBreak) (name w p))) k

  pub enter_reads : (w : List NameFrame) (n : ℕ) → Reads (λ b. enter_row engine bare w b n)
  enter_reads w n b c y x Stop i j k = refl
  enter_reads w n b c y x (Simple m effect r) i j k = refl
  enter_reads w n b c y x (If m guard t e r) i j k = refl
  enter_reads w n b c y x (While m guard t r) i j k = refl
  enter_reads w n b c y x (Call m call q r) i j k =
      ap (λ (p : Point). if_some (in_call engine bare b n y (Call m call q r)) (λ d. Some (One (R.Enters call.entering) (name w p)))) k
      ∙ ap (λ (e : Scope). if_some (start_of engine bare (from e.earlier q) (n ∷ b.sites) (mark Entry (suc y.rank) tt)) (λ d. Some (One (R.Enters call.entering) (name w x.point)))) i
      ∙ start_code (from c.scope.earlier q) (n ∷ b.sites) (n ∷ c.sites) (mark Entry (suc y.rank) tt) (mark Entry (suc x.rank) tt) (λ d. One (R.Enters call.entering) (name w x.point))
  enter_reads w n b c y x (Break m r) i j k = refl

  pub turn_reads : (w : List NameFrame) (n l : ℕ) → Reads (λ b. turn_row engine bare w b n l)
  turn_reads w n l b c y x Stop i j k = refl
  turn_reads w n l b c y x (Simple m effect r) i j k = refl
  turn_reads w n l b c y x (If m guard t e r) i j k = refl
  turn_reads w n l b c y x (While m guard t r) i j k = ap (λ (p : Point). when engine bare (nat_lt l N) (One (R.Assumes guard true) (name w (iterate_point engine bare n p l)))) k
  turn_reads w n l b c y x (Call m call q r) i j k = refl
  turn_reads w n l b c y x (Break m r) i j k = refl

  pub next_reads : (w : List NameFrame) (l : ℕ) → Reads (next_row engine bare w l)
  next_reads w l b c y x Stop i j k = refl
  next_reads w l b c y x (Simple n effect r) i j k = refl
  next_reads w l b c y x (If n guard t e r) i j k = refl
  next_reads w l b c y x (While n guard t r) i j k =
      ap (λ (p : Point). when engine bare (nat_lt l N) (Two (R.next_operation engine b.scope.thresholds l) (name w (iterate_point engine bare n p l)) (name (InLoop n l ∷ w) (last_point t Body)))) k
      ∙ ap (λ (e : Scope). when engine bare (nat_lt l N) (Two (R.next_operation engine e.thresholds l) (name w (iterate_point engine bare n x.point l)) (name (InLoop n l ∷ w) (last_point t Body)))) i
  next_reads w l b c y x (Call n call q r) i j k = refl
  next_reads w l b c y x (Break n r) i j k = refl

  pub fix_reads : (w : List NameFrame) → Reads (fix_row engine bare w)
  fix_reads w b c y x Stop i j k = refl
  fix_reads w b c y x (Simple n effect r) i j k = refl
  fix_reads w b c y x (If n guard t e r) i j k = refl
  fix_reads w b c y x (While n guard t r) i j k = ap (λ (z : List ℕ). Some (R.Fixed n z w y.point)) j ∙ ap (λ (p : Point). Some (R.Fixed n c.sites w p)) k
  fix_reads w b c y x (Call n call q r) i j k = refl
  fix_reads w b c y x (Break n r) i j k = refl

  pub exit_reads : (w : List NameFrame) → Reads (exit_row engine bare w)
  exit_reads w b c y x Stop i j k = refl
  exit_reads w b c y x (Simple n effect r) i j k = refl
  exit_reads w b c y x (If n guard t e r) i j k = refl
  exit_reads w b c y x (While n guard t r) i j k = refl
  exit_reads w b c y x (Call n call q r) i j k = refl
  exit_reads w b c y x (Break n r) i j k = refl

  pub leap_reads : (w : List NameFrame) (l : ℕ) → Reads (leap_row engine bare w l)
  leap_reads w l b c y x Stop i j k = refl
  leap_reads w l b c y x (Simple n effect r) i j k = refl
  leap_reads w l b c y x (If n guard t e r) i j k = refl
  leap_reads w l b c y x (While n guard t r) i j k = refl
  leap_reads w l b c y x (Call n call q r) i j k = refl
  leap_reads w l b c y x (Break n r) i j k = refl

  -- The row of a name that the program has is the table's.
  pub flat_row_is : (w : List NameFrame) (p : Point) (r : Row) → row_at engine bare program w p ≡ Some r → flat_row engine program w p ≡ Some r
  flat_row_is [] Entry r e = let q = then_some (follow engine bare program []) (λ b. Some (Init (main_layout program))) r e in q.2
  flat_row_is (InCall n ∷ w) Entry r e = row_found w n (λ b. enter_row engine bare w b n) r (enter_reads w n) e
  flat_row_is (InLoop n k ∷ w) Entry r e = absurd cc
  flat_row_is [] Body r e = absurd cc
  flat_row_is (InCall n ∷ w) Body r e = absurd cc
  flat_row_is (InLoop n k ∷ w) Body r e = row_found w n (λ b. turn_row engine bare w b n k) r (turn_reads w n k) e
  flat_row_is w (Then n) r e = row_found w n (branch_row engine bare w true) r (branch_reads w true) e
  flat_row_is w (Else n) r e = row_found w n (branch_row engine bare w false) r (branch_reads w false) e
  flat_row_is w (Post n) r e = row_found w n (post_row engine bare w) r (post_reads w) e
  flat_row_is w (Iterate n zero) r e = absurd cc
  flat_row_is w (Iterate n (suc k)) r e = row_found w n (next_row engine bare w k) r (next_reads w k) e
  flat_row_is w (Fix n) r e = row_found w n (fix_row engine bare w) r (fix_reads w) e
  flat_row_is w (Exit n) r e = row_found w n (exit_row engine bare w) r (exit_reads w) e
  flat_row_is w (Leap n k) r e = row_found w n (leap_row engine bare w k) r (leap_reads w k) e
