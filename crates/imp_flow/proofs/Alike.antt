-- A statement whose node is the same in two programs, except the loops around it, keeps its rows.
use Rattle.std.proofs.lemmas.Bool.{ltb-true, lt-ltb}
use Rattle.std.proofs.Common.{◌≡◌, ◌⊎◌, inl, inr, ℕ, ℤ, ◌≤◌, nat_lt, List, [], ◌∷◌, Option, Some, None, Bool, true, false, refl, sym, ap, ◌∙◌, arith}
use Rattle.std.specs.Prelude.{if◌then◌else◌}
use Rattle.batch_meaning.specs.Batch.{LoopOptions}
use Rattle.batch_meaning.specs.Places.{if_some}
use Rattle.cell_names.specs.Paths.{CellName}
use Rattle.cell_names.specs.declared.frame.NameFrame.{NameFrame}
use Rattle.cell_names.specs.declared.frame.NameFrame.TheVariants.{InLoop}
use Rattle.cell_rows.specs.Names.{name}
use Rattle.cell_rows.specs.Rows.{Row, Two, JoinsBoth, Widens, next_operation}
use Rattle.imp_flow_rows.specs.Shapes.{Node, Shape}
use Rattle.imp_flow_rows.specs.Shapes as shape
use Rattle.imp_flow.specs.Nodes.{node_of}
use Rattle.imp_flow_rows.specs.NodeRows.{Looping, looping, where_so, iterate_at, enter_at, branch_at, turn_at, post_at, next_at, fix_at, exit_at, leap_at}
use Rattle.imp_flow.specs.Plans.{Plan, thresholds_at, plan_nodes}
use Rattle.imp_flow.specs.Changed.{Stays, is_looping}
use Rattle.imp_flow.proofs.ChangedRows.{part, Kept, Keeps, kept_by}
use Rattle.imp_flow.proofs.ChangedStays.{kept_stays}

abbrev pub unlooped : Node → Node
unlooped x = record { stmt = x.stmt; place = x.place; loops = []; front = x.front; shape = x.shape }

-- Thresholds count from the delay on.
same_next : (engine : LoopOptions) (ms os : List ℤ) (k : ℕ) (p q : CellName) → engine.budget ≤ engine.widening.delay → where_so (nat_lt k engine.budget) (Two (next_operation engine ms k) p q) ≡ where_so (nat_lt k engine.budget) (Two (next_operation engine os k) p q)
same_next engine ms os k p q h = go (nat_lt k engine.budget) refl
  where
    operations : nat_lt k engine.widening.delay ≡ true → next_operation engine ms k ≡ next_operation engine os k
    operations e = ap (λ b. if b then JoinsBoth else Widens ms) e ∙ sym (ap (λ b. if b then JoinsBoth else Widens os) e)

    go : (b : Bool) → nat_lt k engine.budget ≡ b → where_so b (Two (next_operation engine ms k) p q) ≡ where_so b (Two (next_operation engine os k) p q)
    go true e = let l = ltb-true k engine.budget e in ap (λ o. Some (Two o p q)) (operations (lt-ltb k engine.widening.delay (omega (arith, l, h))))
    go false e = refl

-- These thresholds are the same, or loops are not widened, or this is no loop.
abbrev pub AreThresholdsAlike : LoopOptions → (thresholds others : List ℤ) → Node → Type 0
AreThresholdsAlike engine ms os x = (ms ≡ os) ⊎ ((engine.budget ≤ engine.widening.delay) ⊎ (is_looping x.shape ≡ false))

module _ (engine : LoopOptions) (ms os : List ℤ) (x y : Node) (e : unlooped x ≡ unlooped y) where
  next_is : (w : List NameFrame) (k : ℕ) → next_at w engine ms k x ≡ next_at w engine ms k y
  next_is w k = ap (λ z. next_at w engine ms k z) e

  abbrev round : List NameFrame → ℕ → List ℤ → Looping → Option Row
  round w k ns l = where_so (nat_lt k engine.budget) (Two (next_operation engine ns k) (name w (iterate_at y.stmt y.front k)) (name (InLoop y.stmt k ∷ w) l.end))

  no_loop : is_looping y.shape ≡ false → (w : List NameFrame) (k : ℕ) → next_at w engine ms k y ≡ next_at w engine os k y
  no_loop h w k = go y.shape h
    where
      go : (s : Shape) → is_looping s ≡ false → if_some (looping s) (round w k ms) ≡ if_some (looping s) (round w k os)
      go (shape.Act a) h = refl
      go (shape.If g t e) h = refl
      go (shape.While g p ls) h = absurd cc
      go (shape.Call i q p) h = refl

  within : engine.budget ≤ engine.widening.delay → (w : List NameFrame) (k : ℕ) → next_at w engine ms k y ≡ next_at w engine os k y
  within h w k = go (looping y.shape)
    where
      go : (o : Option Looping) → if_some o (round w k ms) ≡ if_some o (round w k os)
      go None = refl
      go (Some l) = same_next engine ms os k (name w (iterate_at y.stmt y.front k)) (name (InLoop y.stmt k ∷ w) l.end) h

  next_alike : AreThresholdsAlike engine ms os y → (w : List NameFrame) (k : ℕ) → Keeps (next_at w engine ms k x) (next_at w engine os k y)
  next_alike (inl m) w k r h = sym (next_is w k ∙ ap (λ ns. next_at w engine ns k y) m) ∙ h
  next_alike (inr (inl l)) w k r h = sym (next_is w k ∙ within l w k) ∙ h
  next_alike (inr (inr s)) w k r h = sym (next_is w k ∙ no_loop s w k) ∙ h

  rows_alike : AreThresholdsAlike engine ms os y → Kept (part engine ms x) (part engine os y)
  rows_alike m = kept_by engine ms os x y (record {
    enter = λ w r h. sym (ap (λ z. enter_at w z) e) ∙ h;
    branch = λ w b r h. sym (ap (λ z. branch_at w b z) e) ∙ h;
    turn = λ w k r h. sym (ap (λ z. turn_at w engine k z) e) ∙ h;
    post = λ w r h. sym (ap (λ z. post_at w z) e) ∙ h;
    next = next_alike m;
    fix = λ w r h. sym (ap (λ z. fix_at w z) e) ∙ h;
    exit = λ w r h. sym (ap (λ z. exit_at w z) e) ∙ h;
    leap = λ w b r h. sym (ap (λ z. leap_at w b z) e) ∙ h;
  })

-- So no change touches it.
pub alike_stays : (old new : Plan) → old.engine ≡ new.engine → (n : ℕ) (x y : Node) → node_of (plan_nodes old) n ≡ Some x → node_of (plan_nodes new) n ≡ Some y → unlooped x ≡ unlooped y →
    AreThresholdsAlike old.engine (thresholds_at old x.place) (thresholds_at new y.place) y → Stays old new n
alike_stays old new one n x y f g e m = kept_stays old new one n (Some x) (Some y) f g (rows_alike old.engine (thresholds_at old x.place) (thresholds_at new y.place) x y e m)
