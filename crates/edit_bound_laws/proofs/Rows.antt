-- The row of a name, by the equation of its point.
use Rattle.std.proofs.Common.{◌≡◌, ℕ, zero, suc, ℤ, List, [], ◌∷◌, length, Option, Some, None, Bool, true, false, if◌then◌else◌, refl, sym, ap, ◌∙◌, nat_lt, slice_get}
use Rattle.imp_slots.specs.Plain.{Guard, Code, Stop, Simple, If, While, Call, Break, Routine}
use Rattle.imp_chains.specs.Thresholds.{thresholds}
use Rattle.batch_meaning.specs.Batch.{LoopOptions}
use Rattle.batch_meaning.specs.Places.{find, if_some, from}
use Rattle.batch_meaning.proofs.Places.{found_member}
use Rattle.cell_names.specs.declared.frame.NameFrame.{NameFrame}
use Rattle.cell_names.specs.declared.frame.NameFrame.TheVariants.{InCall, InLoop}
use Rattle.cell_names.specs.declared.frame.Point.{Point}
use Rattle.cell_names.specs.declared.frame.Point.TheVariants.{Entry, Then, Else, Body, Post, Iterate, Fix, Exit, Leap}
use Rattle.cell_rows.specs.Names.{name, mark, Mark, PathBlock, bare, number, breaks, break_numbers, place_of, item, iterate_point, when}
use Rattle.cell_rows.specs.Names as names
use Rattle.cell_rows.specs.Rows as R
use Rattle.cell_rows.specs.Rows.{Row, Init, One, Two, Fixed, Joins, sites_of, next_operation, leave_points, last_point, joined_point, joins_row, loop_row, branch_row, post_row, next_row, fix_row, exit_row, leap_row, enter_row, turn_row}
use Rattle.cell_rows.specs.Flat.{Flat, flat, stand_in, by_text, flat_row}
use Rattle.cell_rows.proofs.BatchTie.{breaks_points}
use Rattle.cell_rows.proofs.Listed.{numbered}
use Rattle.edit_bound_laws.specs.Flow.{Head, Called, in_block, start_of, Equation, Begins, Enters, Chooses, Rounds, Acts, Meets, Leaves, Returns, first_end, call_equation, branch_equation, head_equation, behind_equation, equation}

abbrev pub joined : ℕ → List ℕ → ℕ → Point
joined n numbers zero = Exit n
joined n numbers (suc i) = Leap n (item numbers i)

module _ (engine : LoopOptions) where
  abbrev pub main_by : Equation → Option Row
  main_by (Begins layout) = Some (Init layout)
  main_by _ = None

  module _ (w : List NameFrame) where
    abbrev pub enter_by : Equation → Option Row
    enter_by (Enters p entering) = Some (One (R.Enters entering) (name w p))
    enter_by _ = None

    abbrev pub turn_by : ℕ → ℕ → Equation → Option Row
    turn_by n k (Rounds p guard last ts) = when engine bare (nat_lt k engine.budget) (One (R.Assumes guard true) (name w (iterate_point engine bare n p k)))
    turn_by n k _ = None

    abbrev pub branch_by : Bool → Equation → Option Row
    branch_by h (Chooses p guard) = Some (One (R.Assumes guard h) (name w p))
    branch_by h _ = None

    abbrev pub next_by : ℕ → ℕ → Equation → Option Row
    next_by n k (Rounds p guard last ts) = when engine bare (nat_lt k engine.budget) (Two (next_operation engine ts k) (name w (iterate_point engine bare n p k)) (name (InLoop n k ∷ w) last))
    next_by n k _ = None

    abbrev pub fix_by : ℕ → Equation → Option Row
    fix_by n (Rounds p guard last ts) = Some (Fixed n (sites_of w) w p)
    fix_by n _ = None

    abbrev pub joins_by : Bool → ℕ → List Point → List ℕ → ℕ → Option Row
    joins_by stays n points numbers i = if_some (slice_get points i) (λ p. Some (Joins stays (name w (joined n numbers i)) n w p))

    abbrev pub loop_by : ℕ → Guard → List Point → List ℕ → ℕ → Option Row
    loop_by n guard points numbers zero = Some (One (R.Assumes guard false) (name w (Fix n)))
    loop_by n guard points numbers (suc i) = joins_by false n points numbers i

    abbrev pub post_by : ℕ → Equation → Option Row
    post_by n (Acts p act) = Some (One (R.Posts act) (name w p))
    post_by n (Meets p q) = Some (Two R.JoinsBoth (name w p) (name w q))
    post_by n (Leaves guard points numbers) = loop_by n guard points numbers (length points)
    post_by n (Returns p returning last) = Some (Two (R.Leaves returning) (name w p) (name (InCall n ∷ w) last))
    post_by n _ = None

    abbrev pub exit_by : ℕ → Equation → Option Row
    exit_by n (Leaves guard points numbers) = when engine bare (nat_lt 0 (length points)) (One (R.Exits guard) (name w (Fix n)))
    exit_by n _ = None

    abbrev pub leap_by : ℕ → ℕ → Equation → Option Row
    leap_by n k (Leaves guard points numbers) = if_some (place_of k numbers) (λ i. if nat_lt (suc i) (length points) then joins_by true n points numbers i else None)
    leap_by n k _ = None

  abbrev pub none_by : Equation → Option Row
  none_by e = None

  abbrev pub row_by : List NameFrame → Point → Equation → Option Row
  row_by [] Entry e = main_by e
  row_by (InCall n ∷ w) Entry e = enter_by w e
  row_by (InLoop n k ∷ w) Entry e = None
  row_by [] Body e = None
  row_by (InCall n ∷ w) Body e = None
  row_by (InLoop n k ∷ w) Body e = turn_by w n k e
  row_by w (Then n) e = branch_by w true e
  row_by w (Else n) e = branch_by w false e
  row_by w (Post n) e = post_by w n e
  row_by w (Iterate n zero) e = None
  row_by w (Iterate n (suc k)) e = next_by w n k e
  row_by w (Fix n) e = fix_by w n e
  row_by w (Exit n) e = exit_by w n e
  row_by w (Leap n k) e = leap_by w n k e

  none : (o : Option Equation) → None ≡ if_some o none_by
  none None = refl
  none (Some e) = refl

  module _ (ps : List Routine) where
    abbrev P : Type 0
    P = PathBlock engine bare

    abbrev U : Type 0
    U = Mark (Unit {0})

    -- rows of a statement are those of an equation of it
    abbrev Agrees : List NameFrame → ℕ → (P → U → Code → Option Row) → (Flat → Option Equation) → (Equation → Option Row) → Type 0
    Agrees w n g f h = (u : Flat) → n ≡ number u.text.code → g (stand_in engine ps w u) (mark u.text.front 0 tt) u.text.code ≡ if_some (f u) h

    by_statement : (w : List NameFrame) (n : ℕ) (g : P → U → Code → Option Row) (f : Flat → Option Equation) (h : Equation → Option Row) → Agrees w n g f h → by_text engine ps w n g ≡ if_some (if_some (find n (flat ps)) f) h
    by_statement w n g f h agree = go (find n (flat ps)) refl
      where
        go : (o : Option Flat) → find n (flat ps) ≡ o → if_some o (λ u. g (stand_in engine ps w u) (mark u.text.front 0 tt) u.text.code) ≡ if_some (if_some o f) h
        go None e = refl
        go (Some u) e = agree u ((numbered ps).at (n, u) (found_member n u (flat ps) e))

    starts : (qs : List Routine) (z : List ℕ) (y : U) (f : Point → Row) (h : Point → Equation) (k : Equation → Option Row) → ((p : Point) → k (h p) ≡ Some (f p)) →
        if_some (names.start_of engine bare qs z y) (λ d. Some (f (last_point d.code Entry))) ≡ if_some (if_some (first_end qs) (λ p. Some (h p))) k
    starts [] z y f h k e = refl
    starts (r ∷ qs) z y f h k e = sym (e (last_point r.code Entry))

    starts_none : (qs : List Routine) (h : Point → Equation) (k : Equation → Option Row) → ((p : Point) → k (h p) ≡ None) → None ≡ if_some (if_some (first_end qs) (λ p. Some (h p))) k
    starts_none [] h k e = refl
    starts_none (r ∷ qs) h k e = sym (e (last_point r.code Entry))

    -- each kind of row
    enter_is : (w : List NameFrame) (n : ℕ) (b : P) (p : Point) (c : Code) → enter_row engine bare w b n (mark p 0 tt) c ≡ if_some (call_equation b.scope.earlier p c) (enter_by w)
    enter_is w n b p Stop = refl
    enter_is w n b p (Simple m effect r) = refl
    enter_is w n b p (If m guard t e r) = refl
    enter_is w n b p (While m guard t r) = refl
    enter_is w n b p (Call m call q r) = starts (from b.scope.earlier q) (n ∷ b.sites) (mark Entry 1 tt) (λ l. One (R.Enters call.entering) (name w p)) (λ l. Enters p call.entering) (enter_by w) (λ l. refl)
    enter_is w n b p (Break m r) = refl

    turn_is : (w : List NameFrame) (n k : ℕ) (ts : List ℤ) (b : P) (p : Point) (c : Code) → turn_row engine bare w b n k (mark p 0 tt) c ≡ if_some (head_equation ts p c) (turn_by w n k)
    turn_is w n k ts b p Stop = refl
    turn_is w n k ts b p (Simple m effect r) = refl
    turn_is w n k ts b p (If m guard t e r) = refl
    turn_is w n k ts b p (While m guard t r) = refl
    turn_is w n k ts b p (Call m call q r) = refl
    turn_is w n k ts b p (Break m r) = refl

    branch_is : (w : List NameFrame) (h : Bool) (b : P) (p : Point) (c : Code) → branch_row engine bare w h b (mark p 0 tt) c ≡ if_some (branch_equation p c) (branch_by w h)
    branch_is w h b p Stop = refl
    branch_is w h b p (Simple m effect r) = refl
    branch_is w h b p (If m guard t e r) = refl
    branch_is w h b p (While m guard t r) = refl
    branch_is w h b p (Call m call q r) = refl
    branch_is w h b p (Break m r) = refl

    next_is : (w : List NameFrame) (n k : ℕ) (b : P) (p : Point) (c : Code) → n ≡ number c → next_row engine bare w k b (mark p 0 tt) c ≡ if_some (head_equation b.scope.thresholds p c) (next_by w n k)
    next_is w n k b p Stop e = refl
    next_is w n k b p (Simple m effect r) e = refl
    next_is w n k b p (If m guard t f r) e = refl
    next_is w n k b p (While m guard t r) e = ap (λ n. next_by w n k (Rounds p guard (last_point t Body) b.scope.thresholds)) (sym e)
    next_is w n k b p (Call m call q r) e = refl
    next_is w n k b p (Break m r) e = refl

    fix_is : (w : List NameFrame) (n : ℕ) (ts : List ℤ) (b : P) (p : Point) (c : Code) → n ≡ number c → b.sites ≡ sites_of w → fix_row engine bare w b (mark p 0 tt) c ≡ if_some (head_equation ts p c) (fix_by w n)
    fix_is w n ts b p Stop e z = refl
    fix_is w n ts b p (Simple m effect r) e z = refl
    fix_is w n ts b p (If m guard t f r) e z = refl
    fix_is w n ts b p (While m guard t r) e z = ap (λ z. Some (Fixed m z w p)) z ∙ ap (λ n. Some (Fixed n (sites_of w) w p)) (sym e)
    fix_is w n ts b p (Call m call q r) e z = refl
    fix_is w n ts b p (Break m r) e z = refl

    joined_is : (n : ℕ) (body : Code) (i : ℕ) → joined_point n body i ≡ joined n (break_numbers body) i
    joined_is n body zero = refl
    joined_is n body (suc i) = refl

    joins_is : (w : List NameFrame) (stays : Bool) (n : ℕ) (body : Code) (i : ℕ) → joins_row engine bare w stays n body i ≡ joins_by w stays n (leave_points body Body) (break_numbers body) i
    joins_is w stays n body i = ap (λ (j : Point). if_some (slice_get (leave_points body Body) i) (λ p. Some (Joins stays (name w j) n w p))) (joined_is n body i)

    loop_is : (w : List NameFrame) (n : ℕ) (guard : Guard) (body : Code) (i : ℕ) → loop_row engine bare w n guard body i ≡ loop_by w n guard (leave_points body Body) (break_numbers body) i
    loop_is w n guard body zero = refl
    loop_is w n guard body (suc i) = joins_is w false n body i

    post_is : (w : List NameFrame) (n : ℕ) (b : P) (p : Point) (c : Code) → n ≡ number c → post_row engine bare w b (mark p 0 tt) c ≡ if_some (behind_equation b.scope.earlier p c) (post_by w n)
    post_is w n b p Stop e = refl
    post_is w n b p (Simple m effect r) e = refl
    post_is w n b p (If m guard t f r) e = refl
    post_is w n b p (While m guard t r) e =
        ap (loop_row engine bare w m guard t) (sym (breaks_points t Body))
        ∙ loop_is w m guard t (length (leave_points t Body))
        ∙ ap (λ n. loop_by w n guard (leave_points t Body) (break_numbers t) (length (leave_points t Body))) (sym e)
    post_is w n b p (Call m call q r) e =
        starts (from b.scope.earlier q) (m ∷ b.sites) (mark Entry 1 tt) (λ l. Two (R.Leaves call.returning) (name w p) (name (InCall m ∷ w) l)) (λ l. Returns p call.returning l) (post_by w n)
        (λ l. ap (λ n. post_by w n (Returns p call.returning l)) e)
    post_is w n b p (Break m r) e = refl

    exit_is : (w : List NameFrame) (n : ℕ) (b : P) (p : Point) (c : Code) → n ≡ number c → exit_row engine bare w b (mark p 0 tt) c ≡ if_some (behind_equation b.scope.earlier p c) (exit_by w n)
    exit_is w n b p Stop e = refl
    exit_is w n b p (Simple m effect r) e = refl
    exit_is w n b p (If m guard t f r) e = refl
    exit_is w n b p (While m guard t r) e =
        ap (λ i. when engine bare (nat_lt 0 i) (One (R.Exits guard) (name w (Fix m)))) (sym (breaks_points t Body))
        ∙ ap (λ n. exit_by w n (Leaves guard (leave_points t Body) (break_numbers t))) (sym e)
    exit_is w n b p (Call m call q r) e = starts_none (from b.scope.earlier q) (λ l. Returns p call.returning l) (exit_by w n) (λ l. refl)
    exit_is w n b p (Break m r) e = refl

    leap_is : (w : List NameFrame) (n k : ℕ) (b : P) (p : Point) (c : Code) → n ≡ number c → leap_row engine bare w k b (mark p 0 tt) c ≡ if_some (behind_equation b.scope.earlier p c) (leap_by w n k)
    leap_is w n k b p Stop e = refl
    leap_is w n k b p (Simple m effect r) e = refl
    leap_is w n k b p (If m guard t f r) e = refl
    leap_is w n k b p (While m guard t r) e = each (place_of k (break_numbers t)) ∙ ap (λ n. leap_by w n k (Leaves guard (leave_points t Body) (break_numbers t))) (sym e)
      where
        each : (o : Option ℕ) → if_some o (λ i. if nat_lt (suc i) (breaks t) then joins_row engine bare w true m t i else None) ≡ if_some o (λ i. if nat_lt (suc i) (length (leave_points t Body)) then joins_by w true m (leave_points t Body) (break_numbers t) i else None)
        each None = refl
        each (Some i) =
            ap (λ j. if nat_lt (suc i) j then joins_row engine bare w true m t i else None) (sym (breaks_points t Body))
            ∙ ap (λ (o : Option Row). if nat_lt (suc i) (length (leave_points t Body)) then o else None) (joins_is w true m t i)
    leap_is w n k b p (Call m call q r) e = starts_none (from b.scope.earlier q) (λ l. Returns p call.returning l) (leap_by w n k) (λ l. refl)
    leap_is w n k b p (Break m r) e = refl

    -- The row of a name is told by the equation of its point.
    pub row_is : (w : List NameFrame) (p : Point) → flat_row engine ps w p ≡ if_some (equation engine ps (in_block (start_of w) p)) (row_by w p)
    row_is [] Entry = refl
    row_is (InCall n ∷ w) Entry = by_statement w n (λ b. enter_row engine bare w b n) (λ u. call_equation u.earlier u.text.front u.text.code) (enter_by w) (λ u e. enter_is w n (stand_in engine ps w u) u.text.front u.text.code)
    row_is (InLoop n k ∷ w) Entry = none (equation engine ps (Head n))
    row_is [] Body = refl
    row_is (InCall n ∷ w) Body = none (equation engine ps (Called n))
    row_is (InLoop n k ∷ w) Body = by_statement w n (λ b. turn_row engine bare w b n k) (λ u. head_equation (thresholds engine.widening u.routine) u.text.front u.text.code) (turn_by w n k) (λ u e. turn_is w n k (thresholds engine.widening u.routine) (stand_in engine ps w u) u.text.front u.text.code)
    row_is w (Then n) = by_statement w n (branch_row engine bare w true) (λ u. branch_equation u.text.front u.text.code) (branch_by w true) (λ u e. branch_is w true (stand_in engine ps w u) u.text.front u.text.code)
    row_is w (Else n) = by_statement w n (branch_row engine bare w false) (λ u. branch_equation u.text.front u.text.code) (branch_by w false) (λ u e. branch_is w false (stand_in engine ps w u) u.text.front u.text.code)
    row_is w (Post n) = by_statement w n (post_row engine bare w) (λ u. behind_equation u.earlier u.text.front u.text.code) (post_by w n) (λ u e. post_is w n (stand_in engine ps w u) u.text.front u.text.code e)
    row_is w (Iterate n zero) = none (equation engine ps (Head n))
    row_is w (Iterate n (suc k)) = by_statement w n (next_row engine bare w k) (λ u. head_equation (thresholds engine.widening u.routine) u.text.front u.text.code) (next_by w n k) (λ u e. next_is w n k (stand_in engine ps w u) u.text.front u.text.code e)
    row_is w (Fix n) = by_statement w n (fix_row engine bare w) (λ u. head_equation (thresholds engine.widening u.routine) u.text.front u.text.code) (fix_by w n) (λ u e. fix_is w n (thresholds engine.widening u.routine) (stand_in engine ps w u) u.text.front u.text.code e refl)
    row_is w (Exit n) = by_statement w n (exit_row engine bare w) (λ u. behind_equation u.earlier u.text.front u.text.code) (exit_by w n) (λ u e. exit_is w n (stand_in engine ps w u) u.text.front u.text.code e)
    row_is w (Leap n k) = by_statement w n (leap_row engine bare w k) (λ u. behind_equation u.earlier u.text.front u.text.code) (leap_by w n k) (λ u e. leap_is w n k (stand_in engine ps w u) u.text.front u.text.code e)
