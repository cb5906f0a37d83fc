-- The rows of one statement's points, in all paths, and what of them is kept by another statement.
use Rattle.std.proofs.Common.{◌≡◌, ◌≢◌, ℕ, zero, suc, ℤ, List, [], ◌∷◌, Option, Some, None, Bool, true, false, ◌&&◌, ◌||◌, MatchBool, refl}
use Rattle.std.specs.Bool.{Decides}
use Rattle.batch_meaning.specs.Batch.{LoopOptions}
use Rattle.cell_names.specs.declared.frame.NameFrame.{NameFrame}
use Rattle.cell_names.specs.declared.frame.NameFrame.TheVariants.{InCall, InLoop}
use Rattle.cell_names.specs.declared.frame.Point.{Point}
use Rattle.cell_names.specs.declared.frame.Point.TheVariants.{Entry, Then, Else, Body, Post, Iterate, Fix, Exit, Leap}
use Rattle.cell_rows.specs.Rows.{Row}
use Rattle.imp_flow_rows.specs.Shapes.{Node}
use Rattle.imp_flow_rows.specs.NodeRows.{post_at, enter_at, branch_at, turn_at, next_at, fix_at, exit_at, leap_at}
use Rattle.imp_flow.specs.Owners.{owner}
use Rattle.imp_flow.specs.Changed.{is_start}

-- The row of a point of a statement. None is of the start of main.
module _ (engine : LoopOptions) (ms : List ℤ) where
  abbrev pub part : Node → List NameFrame → Point → Option Row
  part x [] Entry = None
  part x (InCall n ∷ w) Entry = enter_at w x
  part x (InLoop n k ∷ w) Entry = None
  part x [] Body = None
  part x (InCall n ∷ w) Body = None
  part x (InLoop n k ∷ w) Body = turn_at w engine k x
  part x w (Then n) = branch_at w true x
  part x w (Else n) = branch_at w false x
  part x w (Post n) = post_at w x
  part x w (Iterate n zero) = None
  part x w (Iterate n (suc k)) = next_at w engine ms k x
  part x w (Fix n) = fix_at w x
  part x w (Exit n) = exit_at w x
  part x w (Leap n k) = leap_at w k x

-- All rows are kept.
pub record Kept (f g : List NameFrame → Point → Option Row) : Type 0 where
  pub all : (w : List NameFrame) (p : Point) (r : Row) → f w p ≡ Some r → g w p ≡ Some r

-- A row of a point of the statement n is not.
pub record Lost (n : ℕ) (f g : List NameFrame → Point → Option Row) : Type 0 where
  pub path : List NameFrame
  pub point : Point
  pub row : Row
  pub owned : owner path point ≡ n
  pub inside : is_start path point ≡ false
  pub had : f path point ≡ Some row
  pub gone : g path point ≡ Some row → ⊥

-- What a test tells: this where it is true, else that.
pub data Verdict (A C : Type 0) : Bool → Type 0 where
  yes : A → Verdict A C true
  no : C → Verdict A C false

pub verdict : (A C : Type 0) (b : Bool) → MatchBool b A C → Verdict A C b
verdict A C true h = yes h
verdict A C false h = no h

pub by_verdict : {A C : Type 0} {b : Bool} → Verdict A C b → MatchBool b A C
by_verdict (yes h) = h
by_verdict (no h) = h

pub and_then : {A B C : Type 0} {a b : Bool} → Verdict A C a → (A → Verdict B C b) → Verdict B C (a && b)
and_then (yes h) k = k h
and_then (no h) k = no h

pub or_else : {B C : Type 0} {b : Bool} (a : Bool) → (a ≡ true → B) → (a ≡ false → Verdict B C b) → Verdict B C (a || b)
or_else true h k = yes (h refl)
or_else false h k = k refl

pub told : {A C : Type 0} (x y : A) (b : Bool) → Decides b (x ≡ y) → (x ≢ y → C) → Verdict (x ≡ y) C b
told x y true d h = yes (d.0 refl)
told x y false d h = no (h (λ e. let f : false ≡ true = d.1 e in absurd cc))

pub mapped : {A B C : Type 0} {b : Bool} → Verdict A C b → (A → B) → Verdict B C b
mapped (yes h) k = yes (k h)
mapped (no h) k = no h

pub mapped_no : {A C D : Type 0} {b : Bool} → Verdict A C b → (C → D) → Verdict A D b
mapped_no (yes h) k = yes h
mapped_no (no h) k = no (k h)

-- Rows that are kept kind by kind.
abbrev pub Keeps : Option Row → Option Row → Type 0
Keeps a b = (r : Row) → a ≡ Some r → b ≡ Some r

module _ (engine : LoopOptions) (ms os : List ℤ) (x y : Node) where
  pub record Rows : Type 0 where
    pub enter : (w : List NameFrame) → Keeps (enter_at w x) (enter_at w y)
    pub branch : (w : List NameFrame) (h : Bool) → Keeps (branch_at w h x) (branch_at w h y)
    pub turn : (w : List NameFrame) (k : ℕ) → Keeps (turn_at w engine k x) (turn_at w engine k y)
    pub post : (w : List NameFrame) → Keeps (post_at w x) (post_at w y)
    pub next : (w : List NameFrame) (k : ℕ) → Keeps (next_at w engine ms k x) (next_at w engine os k y)
    pub fix : (w : List NameFrame) → Keeps (fix_at w x) (fix_at w y)
    pub exit : (w : List NameFrame) → Keeps (exit_at w x) (exit_at w y)
    pub leap : (w : List NameFrame) (b : ℕ) → Keeps (leap_at w b x) (leap_at w b y)

  pub kept_by : Rows → Kept (part engine ms x) (part engine os y)
  kept_by h = record { all = all }
    where
      all : (w : List NameFrame) (p : Point) → Keeps (part engine ms x w p) (part engine os y w p)
      all [] Entry = λ r e. e
      all (InCall n ∷ w) Entry = h.enter w
      all (InLoop n k ∷ w) Entry = λ r e. e
      all [] Body = λ r e. e
      all (InCall n ∷ w) Body = λ r e. e
      all (InLoop n k ∷ w) Body = h.turn w k
      all w (Then n) = h.branch w true
      all w (Else n) = h.branch w false
      all w (Post n) = h.post w
      all w (Iterate n zero) = λ r e. e
      all w (Iterate n (suc k)) = h.next w k
      all w (Fix n) = h.fix w
      all w (Exit n) = h.exit w
      all w (Leap n k) = h.leap w k
