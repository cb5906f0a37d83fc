-- Rows by number of one name that have the same operation compute the same.
use Rattle.std.proofs.Common.{◌≡◌, ℕ, zero, suc, List, [], ◌∷◌, Option, Some, None, Bool, true, false, if◌then◌else◌, refl, sym, ap, ◌∙◌, subst, nat_lt, slice_get}
use Rattle.imp_slots.specs.Plain.{Guard, Code, Stop, Simple, If, While, Call, Break, Routine}
use Rattle.domain_laws.specs.Operations.{Operations}
use Rattle.batch_meaning.specs.Values.{State}
use Rattle.batch_meaning.specs.Batch.{LoopOptions}
use Rattle.batch_meaning.specs.Places.{find, if_some}
use Rattle.cell_names.specs.declared.frame.NameFrame.{NameFrame}
use Rattle.cell_names.specs.declared.frame.NameFrame.TheVariants.{InCall, InLoop}
use Rattle.cell_names.specs.declared.frame.Point.{Point}
use Rattle.cell_names.specs.declared.frame.Point.TheVariants.{Entry, Then, Else, Body, Post, Iterate, Fix, Exit, Leap}
use Rattle.batch_meaning.proofs.Places.{found_member}
use Rattle.cell_rows.specs.Names.{name, Mark, mark, PathBlock, bare, number, breaks, break_numbers, place_of, in_call, when}
use Rattle.cell_rows.specs.Rows as R
use Rattle.cell_rows.specs.Rows.{Row, Init, One, Two, Fixed as FixedRow, Joins, op_of, sites_of, branch_row, post_row, next_row, fix_row, exit_row, leap_row, enter_row, turn_row, joins_row, loop_row, leave_points, joined_point, last_point}
use Rattle.cell_rows.specs.Cells.{Cell, plain, operation_row}
use Rattle.cell_rows.specs.Flat.{Flat, flat, stand_in, by_text, flat_row}
use Rattle.cell_rows.proofs.Listed.{numbered}

abbrev pub is_leap : Point → Bool
is_leap (Leap n b) = true
is_leap _ = false

abbrev pub is_exit : Point → Bool
is_exit (Exit n) = true
is_exit _ = false

-- whether the operation passes an index on
abbrev exits : R.Unary → Bool
exits (R.Exits guard) = true
exits _ = false

abbrev pub fix_number : Point → ℕ
fix_number (Fix n) = n
fix_number _ = 0

abbrev join_number : Point → ℕ
join_number (Post n) = n
join_number (Leap n k) = n
join_number _ = 0

-- The row of a fixed point has the number of its point, its path and the call sites there; that of a join after a loop
-- with breaks the number of its point and its path. Whether a row passes an index on hangs on its point.
abbrev pub Shape : List NameFrame → Point → Row → Type 0
Shape w p (Init layout) = Unit {0}
Shape w p (One op a) = exits op ≡ is_exit p
Shape w p (Two op a b) = Unit {0}
Shape w p (FixedRow n z v q) = (p ≡ Fix n) × (z ≡ sites_of w) × (v ≡ w)
Shape w p (Joins stays l n v q) = (stays ≡ is_leap p) × (join_number p ≡ n) × (v ≡ w)

abbrev pub Shaped : List NameFrame → Point → Option Row → Type 0
Shaped w p None = Unit {0}
Shaped w p (Some r) = Shape w p r

module _ (engine : LoopOptions) (program : List Routine) where
  abbrev Q : Type 0
  Q = PathBlock engine bare

  abbrev U : Type 0
  U = Mark (Unit {0})

  by_number : (v w : List NameFrame) (p : Point) (n : ℕ) (g : Q → U → Code → Option Row) → ((b : Q) (y : U) (d : Code) → b.sites ≡ sites_of w → n ≡ number d → Shaped v p (g b y d)) → Shaped v p (by_text engine program w n g)
  by_number v w p n g f = go (find n (flat program)) refl
    where
      go : (o : Option Flat) → find n (flat program) ≡ o → Shaped v p (if_some o (λ u. g (stand_in engine program w u) (mark u.text.front 0 tt) u.text.code))
      go None e = tt
      go (Some u) e = f (stand_in engine program w u) (mark u.text.front 0 tt) u.text.code refl ((numbered program).at (n, u) (found_member n u (flat program) e))

  then_shape : (w : List NameFrame) (p : Point) (o : Option Q) (f : Q → Row) → ((b : Q) → Shape w p (f b)) → Shaped w p (if_some o (λ b. Some (f b)))
  then_shape w p None f h = tt
  then_shape w p (Some b) f h = h b

  when_shape : (w : List NameFrame) (p : Point) (t : Bool) (r : Row) → Shape w p r → Shaped w p (when engine bare t r)
  when_shape w p true r h = h
  when_shape w p false r h = tt

  joins_shape : (w : List NameFrame) (p : Point) (stays : Bool) (n : ℕ) (body : Code) (i : ℕ) → stays ≡ is_leap p → join_number p ≡ n → Shaped w p (joins_row engine bare w stays n body i)
  joins_shape w p stays n body i h k = go (slice_get (leave_points body Body) i)
    where
      go : (o : Option Point) → Shaped w p (if_some o (λ q. Some (Joins stays (name w (joined_point n body i)) n w q)))
      go None = tt
      go (Some q) = (h, k, refl)

  enter_shape : (v w : List NameFrame) (n : ℕ) (b : Q) (y : U) (d : Code) → Shaped v Entry (enter_row engine bare w b n y d)
  enter_shape v w n b y Stop = tt
  enter_shape v w n b y (Simple m effect r) = tt
  enter_shape v w n b y (If m guard t e r) = tt
  enter_shape v w n b y (While m guard t r) = tt
  enter_shape v w n b y (Call m call q r) = then_shape v Entry (in_call engine bare b n y (Call m call q r)) (λ d. One (R.Enters call.entering) (name w y.point)) (λ d. refl)
  enter_shape v w n b y (Break m r) = tt

  turn_shape : (v w : List NameFrame) (n k : ℕ) (b : Q) (y : U) (d : Code) → Shaped v Body (turn_row engine bare w b n k y d)
  turn_shape v w n k b y Stop = tt
  turn_shape v w n k b y (Simple m effect r) = tt
  turn_shape v w n k b y (If m guard t e r) = tt
  turn_shape v w n k b y (While m guard t r) = when_shape v Body (nat_lt k engine.budget) _ refl
  turn_shape v w n k b y (Call m call q r) = tt
  turn_shape v w n k b y (Break m r) = tt

  branch_shape : (w : List NameFrame) (p : Point) → false ≡ is_exit p → (h : Bool) (b : Q) (y : U) (d : Code) → Shaped w p (branch_row engine bare w h b y d)
  branch_shape w p e h b y Stop = tt
  branch_shape w p e h b y (Simple m effect r) = tt
  branch_shape w p e h b y (If m guard t f r) = e
  branch_shape w p e h b y (While m guard t r) = tt
  branch_shape w p e h b y (Call m call q r) = tt
  branch_shape w p e h b y (Break m r) = tt

  loop_shape : (w : List NameFrame) (n m : ℕ) (guard : Guard) (body : Code) (k : ℕ) → n ≡ m → Shaped w (Post n) (loop_row engine bare w m guard body k)
  loop_shape w n m guard body zero e = refl
  loop_shape w n m guard body (suc i) e = joins_shape w (Post n) false m body i refl e

  post_shape : (w : List NameFrame) (n : ℕ) (b : Q) (y : U) (d : Code) → n ≡ number d → Shaped w (Post n) (post_row engine bare w b y d)
  post_shape w n b y Stop e = tt
  post_shape w n b y (Simple m effect r) e = refl
  post_shape w n b y (If m guard t x r) e = tt
  post_shape w n b y (While m guard t r) e = loop_shape w n m guard t (breaks t) e
  post_shape w n b y (Call m call q r) e = then_shape w (Post n) (in_call engine bare b m y (Call m call q r)) (λ d. Two (R.Leaves call.returning) (name w y.point) (name (InCall m ∷ w) (last_point d.code Entry))) (λ d. tt)
  post_shape w n b y (Break m r) e = refl

  next_shape : (w : List NameFrame) (p : Point) (k : ℕ) (b : Q) (y : U) (d : Code) → Shaped w p (next_row engine bare w k b y d)
  next_shape w p k b y Stop = tt
  next_shape w p k b y (Simple m effect r) = tt
  next_shape w p k b y (If m guard t e r) = tt
  next_shape w p k b y (While m guard t r) = when_shape w p (nat_lt k engine.budget) _ tt
  next_shape w p k b y (Call m call q r) = tt
  next_shape w p k b y (Break m r) = tt

  fix_shape : (w : List NameFrame) (n : ℕ) (b : Q) (y : U) (d : Code) → n ≡ number d → b.sites ≡ sites_of w → Shaped w (Fix n) (fix_row engine bare w b y d)
  fix_shape w n b y Stop e z = tt
  fix_shape w n b y (Simple m effect r) e z = tt
  fix_shape w n b y (If m guard t x r) e z = tt
  fix_shape w n b y (While m guard t r) e z = (ap Fix e, z, refl)
  fix_shape w n b y (Call m call q r) e z = tt
  fix_shape w n b y (Break m r) e z = tt

  exit_shape : (w : List NameFrame) (n : ℕ) (b : Q) (y : U) (d : Code) → Shaped w (Exit n) (exit_row engine bare w b y d)
  exit_shape w n b y Stop = tt
  exit_shape w n b y (Simple m effect r) = tt
  exit_shape w n b y (If m guard t e r) = tt
  exit_shape w n b y (While m guard t r) = when_shape w (Exit n) (nat_lt 0 (breaks t)) _ refl
  exit_shape w n b y (Call m call q r) = tt
  exit_shape w n b y (Break m r) = tt

  leap_shape : (w : List NameFrame) (n k : ℕ) (b : Q) (y : U) (d : Code) → n ≡ number d → Shaped w (Leap n k) (leap_row engine bare w k b y d)
  leap_shape w n k b y Stop e = tt
  leap_shape w n k b y (Simple m effect r) e = tt
  leap_shape w n k b y (If m guard t x r) e = tt
  leap_shape w n k b y (While m guard t r) e = go (place_of k (break_numbers t))
    where
      inner : (q : Bool) (i : ℕ) → Shaped w (Leap n k) (if q then joins_row engine bare w true m t i else None)
      inner true i = joins_shape w (Leap n k) true m t i refl e
      inner false i = tt

      go : (o : Option ℕ) → Shaped w (Leap n k) (if_some o (λ i. if nat_lt (suc i) (breaks t) then joins_row engine bare w true m t i else None))
      go None = tt
      go (Some i) = inner (nat_lt (suc i) (breaks t)) i
  leap_shape w n k b y (Call m call q r) e = tt
  leap_shape w n k b y (Break m r) e = tt

  pub flat_shaped : (w : List NameFrame) (p : Point) → Shaped w p (flat_row engine program w p)
  flat_shaped [] Entry = tt
  flat_shaped (InCall n ∷ w) Entry = by_number (InCall n ∷ w) w Entry n (λ b. enter_row engine bare w b n) (λ b y d z e. enter_shape (InCall n ∷ w) w n b y d)
  flat_shaped (InLoop n k ∷ w) Entry = tt
  flat_shaped [] Body = tt
  flat_shaped (InCall n ∷ w) Body = tt
  flat_shaped (InLoop n k ∷ w) Body = by_number (InLoop n k ∷ w) w Body n (λ b. turn_row engine bare w b n k) (λ b y d z e. turn_shape (InLoop n k ∷ w) w n k b y d)
  flat_shaped w (Then n) = by_number w w (Then n) n (branch_row engine bare w true) (λ b y d z e. branch_shape w (Then n) refl true b y d)
  flat_shaped w (Else n) = by_number w w (Else n) n (branch_row engine bare w false) (λ b y d z e. branch_shape w (Else n) refl false b y d)
  flat_shaped w (Post n) = by_number w w (Post n) n (post_row engine bare w) (λ b y d z e. post_shape w n b y d e)
  flat_shaped w (Iterate n zero) = tt
  flat_shaped w (Iterate n (suc k)) = by_number w w (Iterate n (suc k)) n (next_row engine bare w k) (λ b y d z e. next_shape w (Iterate n (suc k)) k b y d)
  flat_shaped w (Fix n) = by_number w w (Fix n) n (fix_row engine bare w) (λ b y d z e. fix_shape w n b y d e z)
  flat_shaped w (Exit n) = by_number w w (Exit n) n (exit_row engine bare w) (λ b y d z e. exit_shape w n b y d)
  flat_shaped w (Leap n k) = by_number w w (Leap n k) n (leap_row engine bare w k) (λ b y d z e. leap_shape w n k b y d e)

module _ {S : Type 0} (dom : Operations S) (engine : LoopOptions) where
  same_shape : (w : List NameFrame) (p : Point) (r q : Row) → Shape w p r → Shape w p q → op_of r ≡ op_of q → (vs : List (Cell S)) → operation_row dom engine r vs ≡ operation_row dom engine q vs
  same_shape w p (Init l) (Init m) h k e vs = let i : l ≡ m = cc in ap (λ l. plain (State (dom.init l))) i
  same_shape w p (One op a) (One o b) h k e vs = let i : op ≡ o = cc in subst (λ o. operation_row dom engine (One op a) vs ≡ operation_row dom engine (One o b) vs) i (one vs)
    where
      one : (vs : List (Cell S)) → operation_row dom engine (One op a) vs ≡ operation_row dom engine (One op b) vs
      one [] = refl
      one (v ∷ vs) = refl
  same_shape w p (Two op a b) (Two o c d) h k e vs = let i : op ≡ o = cc in subst (λ o. operation_row dom engine (Two op a b) vs ≡ operation_row dom engine (Two o c d) vs) i (two vs)
    where
      two : (vs : List (Cell S)) → operation_row dom engine (Two op a b) vs ≡ operation_row dom engine (Two op c d) vs
      two [] = refl
      two (v ∷ []) = refl
      two (v ∷ u ∷ vs) = refl
  same_shape w p (FixedRow n z v q) (FixedRow m y u t) h k e vs =
      let i : n ≡ m = ap fix_number (sym h.0 ∙ k.0) in
      let j : z ≡ y = h.1 ∙ sym k.1 in
      subst (λ (m : ℕ). operation_row dom engine (FixedRow n z v q) vs ≡ operation_row dom engine (FixedRow m y u t) vs) i
      (subst (λ (y : List ℕ). operation_row dom engine (FixedRow n z v q) vs ≡ operation_row dom engine (FixedRow n y u t) vs) j refl)
  same_shape w p (Joins a l n v q) (Joins b x m u t) h k e vs = subst (λ (b : Bool). operation_row dom engine (Joins a l n v q) vs ≡ operation_row dom engine (Joins b x m u t) vs) (h.0 ∙ sym k.0) (joins vs)
    where
      joins : (vs : List (Cell S)) → operation_row dom engine (Joins a l n v q) vs ≡ operation_row dom engine (Joins a x m u t) vs
      joins [] = refl
      joins (v ∷ []) = refl
      joins (v ∷ u ∷ vs) = refl
  same_shape w p r q h k e vs = absurd cc

  pub same_operation : (old new : List Routine) (w : List NameFrame) (p : Point) (r q : Row) → flat_row engine old w p ≡ Some r → flat_row engine new w p ≡ Some q → op_of r ≡ op_of q → (vs : List (Cell S)) → operation_row dom engine r vs ≡ operation_row dom engine q vs
  same_operation old new w p r q e i o vs =
      same_shape w p r q (subst (Shaped w p) e (flat_shaped engine old w p)) (subst (Shaped w p) i (flat_shaped engine new w p)) o vs
