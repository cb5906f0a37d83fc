-- Rows are the same where one more procedure stands among those of a program.
use Rattle.std.proofs.Common.{◌≡◌, ℕ, zero, suc, ℤ, List, [], ◌∷◌, ◌++◌, length, map, Option, Some, None, Bool, true, false, if◌then◌else◌, refl, sym, ap, ◌∙◌, subst}
use Rattle.imp_slots.specs.Plain.{Layout, Code, Routine, code_numbers}
use Rattle.imp_slots.specs.Fits.{Absent}
use Rattle.imp_chains.specs.Thresholds.{literals, thresholds_of, thresholds}
use Rattle.batch_meaning.specs.Batch.{LoopOptions}
use Rattle.batch_meaning.specs.Places.{find, if_some, main_layout}
use Rattle.cell_names.specs.declared.frame.NameFrame.{NameFrame}
use Rattle.cell_names.specs.declared.frame.NameFrame.TheVariants.{InCall, InLoop}
use Rattle.cell_names.specs.declared.frame.Point.{Point}
use Rattle.cell_names.specs.declared.frame.Point.TheVariants.{Entry, Then, Else, Body, Post, Iterate, Fix, Exit, Leap}
use Rattle.base_values.proofs.Cases.{by_test}
use Rattle.base_values.proofs.Members.{keys}
use Rattle.batch_meaning.proofs.Places.{found_member}
use Rattle.cell_rows.specs.Names.{Mark, mark, PathBlock, bare, number}
use Rattle.cell_rows.specs.Rows.{Row, Init, enter_row, turn_row, branch_row, post_row, next_row, fix_row, exit_row, leap_row}
use Rattle.cell_rows.specs.Targets.{Text, texts}
use Rattle.cell_rows.specs.Flat.{Flat, flat_of, flat, stand_in, by_text, flat_row}
use Rattle.cell_rows.proofs.Arriving.{keys_texts}
use Rattle.imp_flow_rows.specs.Shapes.{Shape}
use Rattle.imp_flow_rows.specs.Shapes as shape
use Rattle.imp_flow.specs.Nodes.{shape_of, node_in}
use Rattle.imp_flow_rows.specs.NodeRows.{post_at, enter_at, branch_at, turn_at, next_at, fix_at, exit_at, leap_at}
use Rattle.imp_flow.specs.Owners.{owner}
use Rattle.imp_flow.specs.Shifts.{shift_routine}
use Rattle.imp_flow.proofs.Ties.{all_stand, post_is, enter_is, branch_is, turn_is, next_is, fix_is, exit_is, leap_is}
use Rattle.imp_flow.proofs.ShiftCode.{literals_shift, number_shift, shift_entry, texts_shift, moved, without_place, shape_shift}

-- Two statements of which rows read the same.
pub record Alike (v u : Flat) : Type 0 where
  pub front : v.text.front ≡ u.text.front
  pub number : number v.text.code ≡ number u.text.code
  pub shape : without_place (shape_of v.earlier v.text.code) ≡ without_place (shape_of u.earlier u.text.code)
  pub literals : literals v.routine.code ≡ literals u.routine.code

itself : (u : Flat) → Alike u u
itself u = record { front = refl; number = refl; shape = refl; literals = refl }

abbrev pub AreAlike : Option Flat → Option Flat → Type 0
AreAlike None None = Unit {0}
AreAlike None (Some u) = ⊥
AreAlike (Some v) None = ⊥
AreAlike (Some v) (Some u) = Alike v u

itself_if : (o : Option Flat) → AreAlike o o
itself_if None = tt
itself_if (Some u) = itself u

-- A number of no statement of these is looked up after them.
skipped : (r : Routine) (b : List Routine) (n : ℕ) (xs : List (ℕ × Text)) (rest : List (ℕ × Flat)) → Absent n (keys xs) → find n (map (flat_of r b) xs ++ rest) ≡ find n rest
skipped r b n [] rest h = refl
skipped r b n (x ∷ xs) rest h = by_test n x.0 (λ c. (if c then Some (flat_of r b x).1 else find n (map (flat_of r b) xs ++ rest)) ≡ find n rest) (λ e. absurd (h.0 e)) (λ e. skipped r b n xs rest h.1)

module _ (k : ℕ) (b : List Routine) (r : Routine) (at : length b ≡ k) where
  abbrev M : List Routine → List Routine
  M = moved k b r at

  abbrev Old : Routine → List Routine → ℕ × Text → ℕ × Flat
  Old c a = flat_of c (a ++ b)

  abbrev New : Routine → List Routine → ℕ × Text → ℕ × Flat
  New c a = flat_of (shift_routine k c) (M a)

  alike : (c : Routine) (a : List Routine) (x : ℕ × Text) → Alike (New c a (shift_entry k x)).1 (Old c a x).1
  alike c a x = record {
    front = refl;
    number = number_shift k x.1.code;
    shape = shape_shift k b r at a x.1.code;
    literals = literals_shift k c.code;
  }

  both : (c : Routine) (a : List Routine) (n : ℕ) (xs : List (ℕ × Text)) (new old : List (ℕ × Flat)) → AreAlike (find n new) (find n old) → AreAlike (find n (map (New c a) (map (shift_entry k) xs) ++ new)) (find n (map (Old c a) xs ++ old))
  both c a n [] new old h = h
  both c a n (x ∷ xs) new old h =
      by_test n x.0 (λ t. AreAlike (if t then Some (New c a (shift_entry k x)).1 else find n (map (New c a) (map (shift_entry k) xs) ++ new)) (if t then Some (Old c a x).1 else find n (map (Old c a) xs ++ old)))
      (λ e. alike c a x)
      (λ e. both c a n xs new old h)

  -- A statement of another procedure is found with the same number.
  pub found_alike : (n : ℕ) → Absent n (code_numbers r.code) → (a : List Routine) → AreAlike (find n (flat (M a))) (find n (flat (a ++ b)))
  found_alike n h [] =
      subst (λ (o : Option Flat). AreAlike o (find n (flat b))) (sym (skipped r b n (texts r.code Entry) (flat b) (subst (Absent n) (sym (keys_texts r.code Entry)) h))) (itself_if (find n (flat b)))
  found_alike n h (c ∷ a) =
      subst (λ (xs : List (ℕ × Text)). AreAlike (find n (map (New c a) xs ++ flat (M a))) (find n (map (Old c a) (texts c.code Entry) ++ flat (a ++ b)))) (sym (texts_shift k c.code Entry))
      (both c a n (texts c.code Entry) (flat (M a)) (flat (a ++ b)) (found_alike n h a))

-- A row by the thresholds of the procedure, the statement's number, the point before it and its shape; it does not read
-- the place of a callee.
abbrev pub Reading : Type 0
Reading = List ℤ → ℕ → Point → Shape → Option Row

abbrev Blind : Reading → Type 0
Blind f = (ms : List ℤ) (n : ℕ) (p : Point) (s : Shape) → f ms n p s ≡ f ms n p (without_place s)

-- No row reads the place of a callee.
module _ (w : List NameFrame) where
  abbrev posts : Reading
  posts ms n p s = post_at w (node_in [] [] p n s)

  blind_post : Blind posts
  blind_post ms n p (shape.Act s) = refl
  blind_post ms n p (shape.If g t e) = refl
  blind_post ms n p (shape.While g end ls) = refl
  blind_post ms n p (shape.Call i q end) = refl

  abbrev branches : (h : Bool) → Reading
  branches h ms n p s = branch_at w h (node_in [] [] p n s)

  blind_branch : (h : Bool) → Blind (branches h)
  blind_branch h ms n p (shape.Act s) = refl
  blind_branch h ms n p (shape.If g t e) = refl
  blind_branch h ms n p (shape.While g end ls) = refl
  blind_branch h ms n p (shape.Call i q end) = refl

  abbrev enters : Reading
  enters ms n p s = enter_at w (node_in [] [] p n s)

  blind_enter : Blind enters
  blind_enter ms n p (shape.Act s) = refl
  blind_enter ms n p (shape.If g t e) = refl
  blind_enter ms n p (shape.While g end ls) = refl
  blind_enter ms n p (shape.Call i q end) = refl

  abbrev fixes : Reading
  fixes ms n p s = fix_at w (node_in [] [] p n s)

  blind_fix : Blind fixes
  blind_fix ms n p (shape.Act s) = refl
  blind_fix ms n p (shape.If g t e) = refl
  blind_fix ms n p (shape.While g end ls) = refl
  blind_fix ms n p (shape.Call i q end) = refl

  abbrev exits : Reading
  exits ms n p s = exit_at w (node_in [] [] p n s)

  blind_exit : Blind exits
  blind_exit ms n p (shape.Act s) = refl
  blind_exit ms n p (shape.If g t e) = refl
  blind_exit ms n p (shape.While g end ls) = refl
  blind_exit ms n p (shape.Call i q end) = refl

  abbrev leaps : (k : ℕ) → Reading
  leaps k ms n p s = leap_at w k (node_in [] [] p n s)

  blind_leap : (k : ℕ) → Blind (leaps k)
  blind_leap k ms n p (shape.Act s) = refl
  blind_leap k ms n p (shape.If g t e) = refl
  blind_leap k ms n p (shape.While g end ls) = refl
  blind_leap k ms n p (shape.Call i q end) = refl

module _ (engine : LoopOptions) (w : List NameFrame) (k : ℕ) where
  abbrev turns : Reading
  turns ms n p s = turn_at w engine k (node_in [] [] p n s)

  blind_turn : Blind turns
  blind_turn ms n p (shape.Act s) = refl
  blind_turn ms n p (shape.If g t e) = refl
  blind_turn ms n p (shape.While g end ls) = refl
  blind_turn ms n p (shape.Call i q end) = refl

  abbrev nexts : Reading
  nexts ms n p s = next_at w engine ms k (node_in [] [] p n s)

  blind_next : Blind nexts
  blind_next ms n p (shape.Act s) = refl
  blind_next ms n p (shape.If g t e) = refl
  blind_next ms n p (shape.While g end ls) = refl
  blind_next ms n p (shape.Call i q end) = refl

module _ (engine : LoopOptions) (w : List NameFrame) where
  abbrev Look : Type 0
  Look = PathBlock engine bare → Mark (Unit {0}) → Code → Option Row

  abbrev read : Reading → Flat → Option Row
  read f u = f (thresholds engine.widening u.routine) (number u.text.code) u.text.front (shape_of u.earlier u.text.code)

  abbrev Reads : ℕ → Look → Reading → Type 0
  Reads n g f = (ps : List Routine) (u : Flat) → n ≡ number u.text.code → g (stand_in engine ps w u) (mark u.text.front 0 tt) u.text.code ≡ read f u

  reads_alike : (f : Reading) → Blind f → (v u : Flat) → Alike v u → read f v ≡ read f u
  reads_alike f blind v u a =
      blind (thresholds engine.widening v.routine) (number v.text.code) v.text.front (shape_of v.earlier v.text.code)
      ∙ ap (λ (ls : List ℕ). f (if engine.widening.thresholds then thresholds_of ls else []) (number v.text.code) v.text.front (without_place (shape_of v.earlier v.text.code))) a.literals
      ∙ ap (λ (n : ℕ). f (thresholds engine.widening u.routine) n v.text.front (without_place (shape_of v.earlier v.text.code))) a.number
      ∙ ap (λ (p : Point). f (thresholds engine.widening u.routine) (number u.text.code) p (without_place (shape_of v.earlier v.text.code))) a.front
      ∙ ap (λ (s : Shape). f (thresholds engine.widening u.routine) (number u.text.code) u.text.front s) a.shape
      ∙ sym (blind (thresholds engine.widening u.routine) (number u.text.code) u.text.front (shape_of u.earlier u.text.code))

  module _ (new old : List Routine) where
    same_text : (n : ℕ) (g : Look) (f : Reading) → Blind f → Reads n g f → AreAlike (find n (flat new)) (find n (flat old)) → by_text engine new w n g ≡ by_text engine old w n g
    same_text n g f blind reads = go (find n (flat new)) (find n (flat old)) refl
      where
        go : (x y : Option Flat) → find n (flat old) ≡ y → AreAlike x y → if_some x (λ u. g (stand_in engine new w u) (mark u.text.front 0 tt) u.text.code) ≡ if_some y (λ u. g (stand_in engine old w u) (mark u.text.front 0 tt) u.text.code)
        go None None e h = refl
        go None (Some u) e h = absurd h
        go (Some v) None e h = absurd h
        go (Some v) (Some u) e h =
            let own : n ≡ number u.text.code = ((all_stand old).at (n, u) (found_member n u (flat old) e)).number in
            reads new v (own ∙ sym h.number) ∙ reads_alike f blind v u h ∙ sym (reads old u own)

    abbrev AreFound : ℕ → Type 0
    AreFound n = AreAlike (find n (flat new)) (find n (flat old))

    same_post : (n : ℕ) → AreFound n → by_text engine new w n (post_row engine bare w) ≡ by_text engine old w n (post_row engine bare w)
    same_post n = same_text n (post_row engine bare w) (posts w) (blind_post w) (λ ps u e. post_is engine w (stand_in engine ps w u) u.text.front [] u.text.code)

    same_branch : (h : Bool) (n : ℕ) → AreFound n → by_text engine new w n (branch_row engine bare w h) ≡ by_text engine old w n (branch_row engine bare w h)
    same_branch h n = same_text n (branch_row engine bare w h) (branches w h) (blind_branch w h) (λ ps u e. branch_is engine w (stand_in engine ps w u) u.text.front h [] u.text.code)

    same_next : (k n : ℕ) → AreFound n → by_text engine new w n (next_row engine bare w k) ≡ by_text engine old w n (next_row engine bare w k)
    same_next k n = same_text n (next_row engine bare w k) (nexts engine w k) (blind_next engine w k) (λ ps u e. next_is engine w (stand_in engine ps w u) u.text.front k [] u.text.code)

    same_fix : (n : ℕ) → AreFound n → by_text engine new w n (fix_row engine bare w) ≡ by_text engine old w n (fix_row engine bare w)
    same_fix n = same_text n (fix_row engine bare w) (fixes w) (blind_fix w) (λ ps u e. fix_is engine w (stand_in engine ps w u) u.text.front refl [] u.text.code)

    same_exit : (n : ℕ) → AreFound n → by_text engine new w n (exit_row engine bare w) ≡ by_text engine old w n (exit_row engine bare w)
    same_exit n = same_text n (exit_row engine bare w) (exits w) (blind_exit w) (λ ps u e. exit_is engine w (stand_in engine ps w u) u.text.front [] u.text.code)

    same_leap : (k n : ℕ) → AreFound n → by_text engine new w n (leap_row engine bare w k) ≡ by_text engine old w n (leap_row engine bare w k)
    same_leap k n = same_text n (leap_row engine bare w k) (leaps w k) (blind_leap w k) (λ ps u e. leap_is engine w (stand_in engine ps w u) u.text.front k [] u.text.code)

    same_enter : (n : ℕ) → AreFound n → by_text engine new w n (λ b. enter_row engine bare w b n) ≡ by_text engine old w n (λ b. enter_row engine bare w b n)
    same_enter n =
        same_text n (λ b. enter_row engine bare w b n) (enters w) (blind_enter w)
        (λ ps u e. ap (λ (j : ℕ). enter_row engine bare w (stand_in engine ps w u) j (mark u.text.front 0 tt) u.text.code) e ∙ enter_is engine w (stand_in engine ps w u) u.text.front [] u.text.code)

    same_turn : (k n : ℕ) → AreFound n → by_text engine new w n (λ b. turn_row engine bare w b n k) ≡ by_text engine old w n (λ b. turn_row engine bare w b n k)
    same_turn k n =
        same_text n (λ b. turn_row engine bare w b n k) (turns engine w k) (blind_turn engine w k)
        (λ ps u e. ap (λ (j : ℕ). turn_row engine bare w (stand_in engine ps w u) j k (mark u.text.front 0 tt) u.text.code) e ∙ turn_is engine w (stand_in engine ps w u) u.text.front k [] u.text.code)

module _ (engine : LoopOptions) (new old : List Routine) (main : main_layout new ≡ main_layout old) where
  abbrev IsSame : List NameFrame → Point → Type 0
  IsSame w p = AreAlike (find (owner w p) (flat new)) (find (owner w p) (flat old)) → flat_row engine new w p ≡ flat_row engine old w p

  same_entry : (w : List NameFrame) → IsSame w Entry
  same_entry [] h = ap (λ (l : Layout). Some (Init l)) main
  same_entry (InCall n ∷ w) h = same_enter engine w new old n h
  same_entry (InLoop n k ∷ w) h = refl

  same_body : (w : List NameFrame) → IsSame w Body
  same_body [] h = refl
  same_body (InCall n ∷ w) h = refl
  same_body (InLoop n k ∷ w) h = same_turn engine w new old k n h

  same_iterate : (w : List NameFrame) (n k : ℕ) → IsSame w (Iterate n k)
  same_iterate w n zero h = refl
  same_iterate w n (suc k) h = same_next engine w new old k n h

  -- A point whose statement is found alike has the same row.
  pub same_row : (w : List NameFrame) (p : Point) → IsSame w p
  same_row w Entry = same_entry w
  same_row w Body = same_body w
  same_row w (Then n) = same_branch engine w new old true n
  same_row w (Else n) = same_branch engine w new old false n
  same_row w (Post n) = same_post engine w new old n
  same_row w (Iterate n k) = same_iterate w n k
  same_row w (Fix n) = same_fix engine w new old n
  same_row w (Exit n) = same_exit engine w new old n
  same_row w (Leap n k) = same_leap engine w new old k n
