-- The first input of a name stands in its own block, or, of a block's first point, in the block around.
use Rattle.std.proofs.Common.{◌≡◌, ℕ, zero, suc, List, [], ◌∷◌, Option, Some, None, Bool, true, false, if◌then◌else◌, refl, sym, ◌∙◌, subst, nat_lt, slice_get, arith}
use Rattle.imp_slots.specs.Plain.{Guard, Code, Stop, Simple, If, While, Call, Break, Routine}
use Rattle.domain_laws.specs.Operations.{Operations}
use Rattle.batch_meaning.specs.Batch.{LoopOptions}
use Rattle.batch_meaning.specs.Places.{find, if_some}
use Rattle.cell_names.specs.declared.frame.NameFrame.{NameFrame}
use Rattle.cell_names.specs.declared.frame.NameFrame.TheVariants.{InCall, InLoop}
use Rattle.cell_names.specs.declared.frame.Point.{Point}
use Rattle.cell_names.specs.declared.frame.Point.TheVariants.{Entry, Then, Else, Body, Post, Iterate, Fix, Exit, Leap}
use Rattle.cell_names.specs.Paths.{CellName}
use Rattle.daig_order.specs.Order.{member}
use Rattle.daig_order.specs.Asking.{Rows, AreRows, inputs_of}
use Rattle.std.proofs.lemmas.Bool.{or_left}
use Rattle.daig_order.proofs.AskingProofs.{asks-next}
use Rattle.cell_rows.specs.Names.{name, start_point, mark, PathBlock, bare, breaks, break_numbers, place_of, in_call, when}
use Rattle.cell_rows.specs.Rows as R
use Rattle.cell_rows.specs.Rows.{Row, Init, One, Two, Fixed as FixedRow, Joins, branch_row, post_row, next_row, fix_row, exit_row, leap_row, enter_row, turn_row, joins_row, loop_row, leave_points, joined_point, last_point}
use Rattle.cell_rows.specs.Cells.{asks_row}
use Rattle.cell_rows.specs.Flat.{Flat, flat, stand_in, by_text, flat_row}
use Rattle.cell_rows.proofs.Shown.{U}

-- the first input has this path
abbrev pub InPath : List NameFrame → Row → Type 0
InPath v (Init layout) = ⊥
InPath v (One op a) = a.path ≡ v
InPath v (Two op a b) = a.path ≡ v
InPath v (FixedRow n z u p) = u ≡ v
InPath v (Joins stays l n u p) = l.path ≡ v

abbrev InPaths : List NameFrame → Option Row → Type 0
InPaths v None = Unit {0}
InPaths v (Some r) = InPath v r

-- Where the first input of a name stands.
pub data Goes (w : List NameFrame) (p : Point) (r : Row) : Type 0 where
  main : w ≡ [] → Goes w p r
  own : InPath w r → Goes w p r
  out : (f : NameFrame) (v : List NameFrame) → w ≡ f ∷ v → p ≡ start_point w → InPath v r → Goes w p r

module _ (engine : LoopOptions) (program : List Routine) (w : List NameFrame) where
  abbrev Q : Type 0
  Q = PathBlock engine bare

  by_number : (n : ℕ) (g : Q → U → Code → Option Row) → ((b : Q) (y : U) (d : Code) → InPaths w (g b y d)) → InPaths w (by_text engine program w n g)
  by_number n g f = go (find n (flat program))
    where
      go : (o : Option Flat) → InPaths w (if_some o (λ u. g (stand_in engine program w u) (mark u.text.front 0 tt) u.text.code))
      go None = tt
      go (Some u) = f (stand_in engine program w u) (mark u.text.front 0 tt) u.text.code

  then_in : (o : Option Q) (f : Q → Row) → ((b : Q) → InPath w (f b)) → InPaths w (if_some o (λ b. Some (f b)))
  then_in None f h = tt
  then_in (Some b) f h = h b

  when_in : (t : Bool) (r : Row) → InPath w r → InPaths w (when engine bare t r)
  when_in true r h = h
  when_in false r h = tt

  joins_in : (stays : Bool) (n : ℕ) (body : Code) (i : ℕ) → InPaths w (joins_row engine bare w stays n body i)
  joins_in stays n body i = go (slice_get (leave_points body Body) i)
    where
      go : (o : Option Point) → InPaths w (if_some o (λ q. Some (Joins stays (name w (joined_point n body i)) n w q)))
      go None = tt
      go (Some q) = refl

  enter_in : (n : ℕ) (b : Q) (y : U) (d : Code) → InPaths w (enter_row engine bare w b n y d)
  enter_in n b y Stop = tt
  enter_in n b y (Simple m effect r) = tt
  enter_in n b y (If m guard t e r) = tt
  enter_in n b y (While m guard t r) = tt
  enter_in n b y (Call m call q r) = then_in (in_call engine bare b n y (Call m call q r)) (λ d. One (R.Enters call.entering) (name w y.point)) (λ d. refl)
  enter_in n b y (Break m r) = tt

  turn_in : (n k : ℕ) (b : Q) (y : U) (d : Code) → InPaths w (turn_row engine bare w b n k y d)
  turn_in n k b y Stop = tt
  turn_in n k b y (Simple m effect r) = tt
  turn_in n k b y (If m guard t e r) = tt
  turn_in n k b y (While m guard t r) = when_in (nat_lt k engine.budget) _ refl
  turn_in n k b y (Call m call q r) = tt
  turn_in n k b y (Break m r) = tt

  branch_in : (h : Bool) (b : Q) (y : U) (d : Code) → InPaths w (branch_row engine bare w h b y d)
  branch_in h b y Stop = tt
  branch_in h b y (Simple m effect r) = tt
  branch_in h b y (If m guard t e r) = refl
  branch_in h b y (While m guard t r) = tt
  branch_in h b y (Call m call q r) = tt
  branch_in h b y (Break m r) = tt

  loop_in : (m : ℕ) (guard : Guard) (body : Code) (k : ℕ) → InPaths w (loop_row engine bare w m guard body k)
  loop_in m guard body zero = refl
  loop_in m guard body (suc i) = joins_in false m body i

  post_in : (b : Q) (y : U) (d : Code) → InPaths w (post_row engine bare w b y d)
  post_in b y Stop = tt
  post_in b y (Simple m effect r) = refl
  post_in b y (If m guard t e r) = refl
  post_in b y (While m guard t r) = loop_in m guard t (breaks t)
  post_in b y (Call m call q r) = then_in (in_call engine bare b m y (Call m call q r)) (λ d. Two (R.Leaves call.returning) (name w y.point) (name (InCall m ∷ w) (last_point d.code Entry))) (λ d. refl)
  post_in b y (Break m r) = refl

  next_in : (k : ℕ) (b : Q) (y : U) (d : Code) → InPaths w (next_row engine bare w k b y d)
  next_in k b y Stop = tt
  next_in k b y (Simple m effect r) = tt
  next_in k b y (If m guard t e r) = tt
  next_in k b y (While m guard t r) = when_in (nat_lt k engine.budget) _ refl
  next_in k b y (Call m call q r) = tt
  next_in k b y (Break m r) = tt

  fix_in : (b : Q) (y : U) (d : Code) → InPaths w (fix_row engine bare w b y d)
  fix_in b y Stop = tt
  fix_in b y (Simple m effect r) = tt
  fix_in b y (If m guard t x r) = tt
  fix_in b y (While m guard t r) = refl
  fix_in b y (Call m call q r) = tt
  fix_in b y (Break m r) = tt

  exit_in : (b : Q) (y : U) (d : Code) → InPaths w (exit_row engine bare w b y d)
  exit_in b y Stop = tt
  exit_in b y (Simple m effect r) = tt
  exit_in b y (If m guard t e r) = tt
  exit_in b y (While m guard t r) = when_in (nat_lt 0 (breaks t)) _ refl
  exit_in b y (Call m call q r) = tt
  exit_in b y (Break m r) = tt

  leap_in : (k : ℕ) (b : Q) (y : U) (d : Code) → InPaths w (leap_row engine bare w k b y d)
  leap_in k b y Stop = tt
  leap_in k b y (Simple m effect r) = tt
  leap_in k b y (If m guard t e r) = tt
  leap_in k b y (While m guard t r) = go (place_of k (break_numbers t))
    where
      inner : (q : Bool) (i : ℕ) → InPaths w (if q then joins_row engine bare w true m t i else None)
      inner true i = joins_in true m t i
      inner false i = tt

      go : (o : Option ℕ) → InPaths w (if_some o (λ i. if nat_lt (suc i) (breaks t) then joins_row engine bare w true m t i else None))
      go None = tt
      go (Some i) = inner (nat_lt (suc i) (breaks t)) i
  leap_in k b y (Call m call q r) = tt
  leap_in k b y (Break m r) = tt

module _ (engine : LoopOptions) (program : List Routine) where
  given : (w : List NameFrame) (o : Option Row) (r : Row) → o ≡ Some r → InPaths w o → InPath w r
  given w o r e i = subst (InPaths w) e i

  pub goes : (w : List NameFrame) (p : Point) (r : Row) → flat_row engine program w p ≡ Some r → Goes w p r
  goes [] Entry r e = main refl
  goes (InCall n ∷ w) Entry r e = out (InCall n) w refl refl (given w (by_text engine program w n (λ b. enter_row engine bare w b n)) r e (by_number engine program w n (λ b. enter_row engine bare w b n) (enter_in engine program w n)))
  goes (InLoop n k ∷ w) Entry r e = absurd cc
  goes [] Body r e = main refl
  goes (InCall n ∷ w) Body r e = absurd cc
  goes (InLoop n k ∷ w) Body r e = out (InLoop n k) w refl refl (given w (by_text engine program w n (λ b. turn_row engine bare w b n k)) r e (by_number engine program w n (λ b. turn_row engine bare w b n k) (turn_in engine program w n k)))
  goes w (Then n) r e = own (given w (by_text engine program w n (branch_row engine bare w true)) r e (by_number engine program w n (branch_row engine bare w true) (branch_in engine program w true)))
  goes w (Else n) r e = own (given w (by_text engine program w n (branch_row engine bare w false)) r e (by_number engine program w n (branch_row engine bare w false) (branch_in engine program w false)))
  goes w (Post n) r e = own (given w (by_text engine program w n (post_row engine bare w)) r e (by_number engine program w n (post_row engine bare w) (post_in engine program w)))
  goes w (Iterate n zero) r e = absurd cc
  goes w (Iterate n (suc k)) r e = own (given w (by_text engine program w n (next_row engine bare w k)) r e (by_number engine program w n (next_row engine bare w k) (next_in engine program w k)))
  goes w (Fix n) r e = own (given w (by_text engine program w n (fix_row engine bare w)) r e (by_number engine program w n (fix_row engine bare w) (fix_in engine program w)))
  goes w (Exit n) r e = own (given w (by_text engine program w n (exit_row engine bare w)) r e (by_number engine program w n (exit_row engine bare w) (exit_in engine program w)))
  goes w (Leap n k) r e = own (given w (by_text engine program w n (leap_row engine bare w k)) r e (by_number engine program w n (leap_row engine bare w k) (leap_in engine program w k)))

-- The first input that a row asks for.
pub first_asked : {S : Type 0} (dom : Operations S) (engine : LoopOptions) (v : List NameFrame) (r : Row) → InPath v r → (y : CellName) × (asks_row dom engine r [] ≡ Some y) × (y.path ≡ v)
first_asked dom engine v (Init layout) h = absurd h
first_asked dom engine v (One op a) h = (a, refl, h)
first_asked dom engine v (Two op a b) h = (a, refl, h)
first_asked dom engine v (FixedRow n z u p) h = (name u p, refl, h)
first_asked dom engine v (Joins stays l n u p) h = (l, refl, h)

head_member : {T : Type 0} (same : T → T → Bool) → ((x : T) → same x x ≡ true) → (xs : List T) (y : T) → slice_get xs 0 ≡ Some y → member same xs y ≡ true
head_member same re [] y e = absurd cc
head_member {T} same re (x ∷ xs) y e = let i : x ≡ y = cc in or_left (same y x) (member same xs y) (subst (λ (z : T). same y z ≡ true) (sym i) (re y))

pub first_input : {T V : Type 0} (t : Rows T V) (law : AreRows t) (x y : T) → t.asks x [] ≡ Some y → member t.same (inputs_of t x) y ≡ true
first_input t law x y e = head_member t.same law.same_refl (inputs_of t x) y (sym (asks-next t law x 0 (omega arith)) ∙ e)
