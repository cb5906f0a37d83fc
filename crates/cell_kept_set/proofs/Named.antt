-- Where statements keep their places, the new program has each old name whose row by number, and those of the blocks on
-- the way, it has.
use Rattle.std.proofs.Common.{◌≡◌, ℕ, zero, suc, List, [], ◌∷◌, reverse, Option, Some, None, Bool, true, false, if◌then◌else◌, refl, sym, ap, ◌∙◌, subst, nat_lt}
use Rattle.imp_slots.specs.Plain.{Code, Stop, Simple, If, While, Call, Break, Routine}
use Rattle.imp_slots.specs.Fits.{Distinct, IsChecked}
use Rattle.batch_meaning.specs.Batch.{LoopOptions}
use Rattle.batch_meaning.specs.Places.{find, if_some, from}
use Rattle.cell_names.specs.declared.frame.NameFrame.{NameFrame}
use Rattle.cell_names.specs.declared.frame.NameFrame.TheVariants.{InCall, InLoop}
use Rattle.cell_names.specs.declared.frame.Point.{Point}
use Rattle.cell_names.specs.declared.frame.Point.TheVariants.{Entry, Then, Else, Body, Post, Iterate, Fix, Exit, Leap}
use Rattle.cell_names.specs.Paths.{CellName}
use Rattle.base_values.proofs.Members.{keys}
use Rattle.cell_rows.specs.Names.{name, start_point, mark, PathBlock, bare, number, breaks, break_numbers, place_of, level_of, iterate_point, start_of, in_call, in_loop, round_place, statement, follow, when, branch_mark, post_mark, next_mark, fix_mark, exit_mark, leap_of, leap_mark, mark_at, is_entry}
use Rattle.cell_rows.specs.Rows as R
use Rattle.cell_rows.specs.Rows.{Row, One, branch_row, post_row, next_row, fix_row, exit_row, leap_row, enter_row, turn_row, joins_row}
use Rattle.cell_rows.specs.Flat.{Flat, flat, stand_in, by_text, flat_row}
use Rattle.cell_rows.specs.Claims.{HasName}
use Rattle.cell_rows.proofs.FlatOnce.{flat_once, all_fine}
use Rattle.cell_rows.proofs.Levels.{keys_own}
use Rattle.cell_rows.proofs.Lookup.{Stands, unstated, stated, fine, then_some}
use Rattle.cell_kept_set.specs.Places.{first_name, KeepPlaces, FramesHaveRows}
use Rattle.cell_rows.proofs.Shown.{U}
use Rattle.cell_kept_set.proofs.Tails.{names_back}
use Rattle.cell_kept_set.proofs.Blocks.{Block, block, listed, flat_at, Seated, seated, same_home}

module _ (engine : LoopOptions) where
  abbrev Q : Type 0
  Q = PathBlock engine bare

  abbrev Is : {A : Type 0} → Option A → Type 0
  Is {A} o = (a : A) × (o ≡ Some a)

  started : (ps : List Routine) (z v : List ℕ) (x y : U) (c : Q) → start_of engine bare ps z x ≡ Some c → Is (start_of engine bare ps v y)
  started [] z v x y c e = absurd cc
  started (r ∷ earlier) z v x y c e = (_, refl)

  first_started : (ps : List Routine) (z : List ℕ) (x : U) (m : List ℕ) → first_name ps ≡ Some m → Is (start_of engine bare ps z x)
  first_started [] z x m e = absurd cc
  first_started (r ∷ earlier) z x m e = (_, refl)

  started_first : (ps : List Routine) (z : List ℕ) (x : U) (c : Q) → start_of engine bare ps z x ≡ Some c → Is (first_name ps)
  started_first [] z x c e = absurd cc
  started_first (r ∷ earlier) z x c e = (_, refl)

  when_some : {A B : Type 0} (t : Bool) (a : A) (b : B) (r : A) → when engine bare t a ≡ Some r → Is (when engine bare t b)
  when_some true a b r e = (b, refl)
  when_some false a b r e = absurd cc

  enter_in : (w : List NameFrame) (b c : Q) (n : ℕ) (y x : U) (d : Code) (r : Row) → c.scope.earlier ≡ b.scope.earlier → enter_row engine bare w b n y d ≡ Some r → Is (in_call engine bare c n x d)
  enter_in w b c n y x Stop r h e = absurd cc
  enter_in w b c n y x (Simple m effect k) r h e = absurd cc
  enter_in w b c n y x (If m guard t f k) r h e = absurd cc
  enter_in w b c n y x (While m guard t k) r h e = absurd cc
  enter_in w b c n y x (Call m call q k) r h e =
      let a = then_some (in_call engine bare b n y (Call m call q k)) (λ d. Some (One (R.Enters call.entering) (name w y.point))) r e in
      let s = started (from b.scope.earlier q) (n ∷ b.sites) (n ∷ c.sites) (mark Entry (suc y.rank) tt) (mark Entry (suc x.rank) tt) a.0 a.1 in
      (s.0, ap (λ es. start_of engine bare (from es q) (n ∷ c.sites) (mark Entry (suc x.rank) tt)) h ∙ s.1)
  enter_in w b c n y x (Break m k) r h e = absurd cc

  if_when : {A B : Type 0} (t : Bool) (a : A) (b : B) (r : A) → when engine bare t a ≡ Some r → Is (if t then Some b else None)
  if_when true a b r e = (b, refl)
  if_when false a b r e = absurd cc

  turn_in : (w : List NameFrame) (b c : Q) (n i : ℕ) (y x : U) (d : Code) (r : Row) → turn_row engine bare w b n i y d ≡ Some r → Is (in_loop engine bare c n i x d)
  turn_in w b c n i y x Stop r e = absurd cc
  turn_in w b c n i y x (Simple m effect k) r e = absurd cc
  turn_in w b c n i y x (If m guard t f k) r e = absurd cc
  turn_in w b c n i y x (While m guard t k) r e = if_when (nat_lt i engine.budget) (One (R.Assumes guard true) (name w (iterate_point engine bare n y.point i))) (round_place engine bare c n guard t i x) r e
  turn_in w b c n i y x (Call m call q k) r e = absurd cc
  turn_in w b c n i y x (Break m k) r e = absurd cc

  -- A row by number shows that the statement has the point.
  abbrev Shows : (Q → U → Code → Option Row) → (Q → U → Code → Option U) → Type 0
  Shows g f = (b c : Q) (y x : U) (d : Code) (r : Row) → g b y d ≡ Some r → Is (f c x d)

  shows_branch : (w : List NameFrame) (h : Bool) → Shows (branch_row engine bare w h) (branch_mark engine bare h)
  shows_branch w h b c y x Stop r e = absurd cc
  shows_branch w h b c y x (Simple m effect k) r e = absurd cc
  shows_branch w h b c y x (If m guard t f k) r e = (_, refl)
  shows_branch w h b c y x (While m guard t k) r e = absurd cc
  shows_branch w h b c y x (Call m call q k) r e = absurd cc
  shows_branch w h b c y x (Break m k) r e = absurd cc

  shows_post : (w : List NameFrame) → Shows (post_row engine bare w) (post_mark engine bare)
  shows_post w b c y x d r e = (_, refl)

  shows_next : (w : List NameFrame) (i : ℕ) → Shows (next_row engine bare w i) (next_mark engine bare i)
  shows_next w i b c y x Stop r e = absurd cc
  shows_next w i b c y x (Simple m effect k) r e = absurd cc
  shows_next w i b c y x (If m guard t f k) r e = absurd cc
  shows_next w i b c y x (While m guard t k) r e = when_some (nat_lt i engine.budget) _ _ r e
  shows_next w i b c y x (Call m call q k) r e = absurd cc
  shows_next w i b c y x (Break m k) r e = absurd cc

  shows_fix : (w : List NameFrame) → Shows (fix_row engine bare w) (fix_mark engine bare)
  shows_fix w b c y x Stop r e = absurd cc
  shows_fix w b c y x (Simple m effect k) r e = absurd cc
  shows_fix w b c y x (If m guard t f k) r e = absurd cc
  shows_fix w b c y x (While m guard t k) r e = (_, refl)
  shows_fix w b c y x (Call m call q k) r e = absurd cc
  shows_fix w b c y x (Break m k) r e = absurd cc

  shows_exit : (w : List NameFrame) → Shows (exit_row engine bare w) (exit_mark engine bare)
  shows_exit w b c y x Stop r e = absurd cc
  shows_exit w b c y x (Simple m effect k) r e = absurd cc
  shows_exit w b c y x (If m guard t f k) r e = absurd cc
  shows_exit w b c y x (While m guard t k) r e = when_some (nat_lt 0 (breaks t)) _ _ r e
  shows_exit w b c y x (Call m call q k) r e = absurd cc
  shows_exit w b c y x (Break m k) r e = absurd cc

  shows_leap : (w : List NameFrame) (i : ℕ) → Shows (leap_row engine bare w i) (leap_mark engine bare i)
  shows_leap w i b c y x Stop r e = absurd cc
  shows_leap w i b c y x (Simple m effect k) r e = absurd cc
  shows_leap w i b c y x (If m guard t f k) r e = absurd cc
  shows_leap w i b c y x (While m guard t k) r e =
      let p = then_some (place_of i (break_numbers t)) (λ j. if nat_lt (suc j) (breaks t) then joins_row engine bare w true m t j else None) r e in
      let q = go p.0 (nat_lt (suc p.0) (breaks t)) p.2 in
      (q.0, ap (λ o. if_some o (λ j. when engine bare (nat_lt (suc j) (breaks t)) (leap_of engine bare c m guard t i j x))) p.1 ∙ q.1)
    where
      go : (j : ℕ) (b : Bool) → (if b then joins_row engine bare w true m t j else None) ≡ Some r → Is (when engine bare b (leap_of engine bare c m guard t i j x))
      go j true e = (_, refl)
      go j false e = absurd cc
  shows_leap w i b c y x (Call m call q k) r e = absurd cc
  shows_leap w i b c y x (Break m k) r e = absurd cc

module _ (engine : LoopOptions) (old new : List Routine) (co : IsChecked old) (cn : IsChecked new) (keep : KeepPlaces old new) where
  abbrev OLD : List Routine
  OLD = reverse old

  abbrev NEW : List Routine
  NEW = reverse new

  abbrev P : Type 0
  P = PathBlock engine bare

  level_once : (program : List Routine) (c : IsChecked program) (w : List NameFrame) (b : P) → follow engine bare (reverse program) w ≡ Some b → Distinct (keys (level_of engine bare b))
  level_once program c w b e = subst Distinct (sym (keys_own engine bare b.scope b.sites b.code b.first)) (fine engine bare (reverse program) (all_fine program c) w b e).block.once

  abbrev OldBlock : List NameFrame → P → Type 0
  OldBlock = Block engine OLD (flat_once old co)

  abbrev NewBlock : List NameFrame → P → Type 0
  NewBlock = Block engine NEW (flat_once new cn)

  old_block : (w : List NameFrame) (b : P) → follow engine bare OLD w ≡ Some b → OldBlock w b
  old_block = block engine OLD (flat_once old co) (level_once old co)

  new_block : (w : List NameFrame) (b : P) → follow engine bare NEW w ≡ Some b → NewBlock w b
  new_block = block engine NEW (flat_once new cn) (level_once new cn)

  -- A statement of the old program's block that the new program has stands in the new program's block.
  meets : (w : List NameFrame) (b c : P) → follow engine bare OLD w ≡ Some b → follow engine bare NEW w ≡ Some c → (y : U) (d : Code) → Stands engine bare b y d → (n : ℕ) → n ≡ number d → (v : Flat) → find n (flat NEW) ≡ Some v → Seated engine NEW (flat_once new cn) c n v
  meets w b c e f y d s n h v g =
      let k = old_block w b e in
      let j = new_block w c f in
      let u = listed engine OLD (flat_once old co) w b k y d s in
      let p = keep.statements n (flat_at engine OLD (flat_once old co) k y d) v (ap (λ (n : ℕ). find n (flat OLD)) h ∙ u) g in
      let q = same_home OLD NEW keep.main keep.statements w k.routine.name j.routine.name k.loops j.loops k.home j.home in
      seated engine NEW (flat_once new cn) w c j n v (names_back new cn) g (sym p.procedure ∙ q.0) (sym p.loops ∙ q.1)

  there : {A : Type 0} (w : List NameFrame) (c : P) (n : ℕ) (v : Flat) → follow engine bare NEW w ≡ Some c → (s : Seated engine NEW (flat_once new cn) c n v) → (g : P → U → Code → Option A) → statement engine bare (Some c) n g ≡ g c s.before v.text.code
  there w c n v f s g = ap (λ (n : ℕ). statement engine bare (Some c) n g) s.numbered ∙ stated engine bare c s.before v.text.code (fine engine bare NEW (all_fine new cn) w c f) s.stands g

  -- The path leads to a block of the new program.
  pub path_there : (w : List NameFrame) (b : P) → follow engine bare OLD w ≡ Some b → FramesHaveRows engine new w → (c : P) × (follow engine bare NEW w ≡ Some c)
  path_there [] b e h =
      let m = started_first engine OLD [] (mark Entry 0 tt) b e in
      first_started engine NEW [] (mark Entry 0 tt) m.0 (sym keep.main ∙ m.1)
  path_there (InCall n ∷ w) b e h =
      let u = unstated engine bare (follow engine bare OLD w) n (λ b. in_call engine bare b n) b e in
      let c = path_there w u.place u.leads h.1 in
      let r = then_some (find n (flat NEW)) (λ v. enter_row engine bare w (stand_in engine NEW w v) n (mark v.text.front 0 tt) v.text.code) h.0.0 h.0.1 in
      let s = meets w u.place c.0 u.leads c.1 u.before u.code u.stands n u.numbered r.0 r.1 in
      let i = enter_in engine w (stand_in engine NEW w r.0) c.0 n (mark r.0.text.front 0 tt) s.before r.0.text.code h.0.0 s.earlier r.2 in
      (i.0, ap (λ o. statement engine bare o n (λ b. in_call engine bare b n)) c.1 ∙ there w c.0 n r.0 c.1 s (λ b. in_call engine bare b n) ∙ i.1)
  path_there (InLoop n k ∷ w) b e h =
      let u = unstated engine bare (follow engine bare OLD w) n (λ b. in_loop engine bare b n k) b e in
      let c = path_there w u.place u.leads h.1 in
      let r = then_some (find n (flat NEW)) (λ v. turn_row engine bare w (stand_in engine NEW w v) n k (mark v.text.front 0 tt) v.text.code) h.0.0 h.0.1 in
      let s = meets w u.place c.0 u.leads c.1 u.before u.code u.stands n u.numbered r.0 r.1 in
      let i = turn_in engine w (stand_in engine NEW w r.0) c.0 n k (mark r.0.text.front 0 tt) s.before r.0.text.code h.0.0 r.2 in
      (i.0, ap (λ o. statement engine bare o n (λ b. in_loop engine bare b n k)) c.1 ∙ there w c.0 n r.0 c.1 s (λ b. in_loop engine bare b n k) ∙ i.1)

  module _ (w : List NameFrame) (b c : P) (e : follow engine bare OLD w ≡ Some b) (f : follow engine bare NEW w ≡ Some c) where
    point_there : (n : ℕ) (g : P → U → Code → Option Row) (k : P → U → Code → Option U) → Shows engine g k → (m : U) (r : Row) → statement engine bare (Some b) n k ≡ Some m → by_text engine NEW w n g ≡ Some r → (m : U) × (statement engine bare (Some c) n k ≡ Some m)
    point_there n g k shows m r h i =
        let u = unstated engine bare (Some b) n k m h in
        let t = then_some (find n (flat NEW)) (λ v. g (stand_in engine NEW w v) (mark v.text.front 0 tt) v.text.code) r i in
        let l : b ≡ u.place = cc in
        let s = meets w b c e f u.before u.code (subst (λ (b : P). Stands engine bare b u.before u.code) (sym l) u.stands) n u.numbered t.0 t.1 in
        let q = shows (stand_in engine NEW w t.0) c (mark t.0.text.front 0 tt) s.before t.0.text.code r t.2 in
        (q.0, there w c n t.0 f s k ∙ q.1)

  start_is : (w : List NameFrame) (c : P) → follow engine bare NEW w ≡ Some c → c.first.point ≡ start_point w
  start_is w c f = (new_block w c f).start

  pub point_is_there : (w : List NameFrame) (p : Point) (b c : P) → follow engine bare OLD w ≡ Some b → follow engine bare NEW w ≡ Some c → (m : U) (r : Row) → mark_at engine bare b p ≡ Some m → flat_row engine NEW w p ≡ Some r → (m : U) × (mark_at engine bare c p ≡ Some m)
  point_is_there [] Entry b c e f m r h i = (c.first, ap (λ (p : Point). if is_entry engine bare p then Some c.first else None) (start_is [] c f))
  point_is_there (InCall n ∷ w) Entry b c e f m r h i = (c.first, ap (λ (p : Point). if is_entry engine bare p then Some c.first else None) (start_is (InCall n ∷ w) c f))
  point_is_there (InLoop n k ∷ w) Entry b c e f m r h i = absurd cc
  point_is_there [] Body b c e f m r h i = absurd cc
  point_is_there (InCall n ∷ w) Body b c e f m r h i = absurd cc
  point_is_there (InLoop n k ∷ w) Body b c e f m r h i = (c.first, ap (λ (p : Point). if is_entry engine bare p then None else Some c.first) (start_is (InLoop n k ∷ w) c f))
  point_is_there w (Then n) b c e f m r h i = point_there w b c e f n (branch_row engine bare w true) (branch_mark engine bare true) (shows_branch engine w true) m r h i
  point_is_there w (Else n) b c e f m r h i = point_there w b c e f n (branch_row engine bare w false) (branch_mark engine bare false) (shows_branch engine w false) m r h i
  point_is_there w (Post n) b c e f m r h i = point_there w b c e f n (post_row engine bare w) (post_mark engine bare) (shows_post engine w) m r h i
  point_is_there w (Iterate n zero) b c e f m r h i = absurd cc
  point_is_there w (Iterate n (suc k)) b c e f m r h i = point_there w b c e f n (next_row engine bare w k) (next_mark engine bare k) (shows_next engine w k) m r h i
  point_is_there w (Fix n) b c e f m r h i = point_there w b c e f n (fix_row engine bare w) (fix_mark engine bare) (shows_fix engine w) m r h i
  point_is_there w (Exit n) b c e f m r h i = point_there w b c e f n (exit_row engine bare w) (exit_mark engine bare) (shows_exit engine w) m r h i
  point_is_there w (Leap n k) b c e f m r h i = point_there w b c e f n (leap_row engine bare w k) (leap_mark engine bare k) (shows_leap engine w k) m r h i

  pub name_there : (x : CellName) (r : Row) → HasName engine old x → FramesHaveRows engine new x.path → flat_row engine NEW x.path x.point ≡ Some r → HasName engine new x
  name_there x r h frames i =
      let o = then_some (follow engine bare OLD x.path) (λ b. mark_at engine bare b x.point) h.0 h.1 in
      let c = path_there x.path o.0 o.1 frames in
      let p = point_is_there x.path x.point o.0 c.0 o.1 c.1 h.0 r o.2 i in
      (p.0, ap (λ o. if_some o (λ b. mark_at engine bare b x.point)) c.1 ∙ p.1)
