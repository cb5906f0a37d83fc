-- Each input's rank is lower, for every name and whatever was found so far.
use Rattle.std.proofs.Common.{◌≡◌, ℕ, zero, suc, ◌+◌, ◌*◌, ◌<◌, ◌≤◌, List, [], ◌∷◌, length, Option, Some, None, Bool, true, false, if◌then◌else◌, refl, sym, ap, ◌∙◌, subst, arith, nat_lt, slice_get}
use Rattle.std.proofs.Math.Nat.{suc-mul, mul-le-mul_right}
use Rattle.imp_slots.specs.Plain.{Guard, Invoke, Code, Stop, Simple, If, While, Call, Break, Routine}
use Rattle.imp_slots.specs.Fits.{Distinct}
use Rattle.batch_meaning.specs.Batch.{LoopOptions}
use Rattle.batch_meaning.specs.Places.{if_some, from}
use Rattle.cell_names.specs.declared.frame.NameFrame.{NameFrame}
use Rattle.cell_names.specs.declared.frame.NameFrame.TheVariants.{InCall, InLoop}
use Rattle.cell_names.specs.declared.frame.Point.{Point}
use Rattle.cell_names.specs.declared.frame.Point.TheVariants.{Entry, Then, Else, Body, Post, Iterate, Fix, Exit, Leap}
use Rattle.base_values.proofs.Members.{keys}
use Rattle.base_values.proofs.Cases.{less_of}
use Rattle.cell_rows.specs.Names.{Scope, scope_of, name, mark, PathBlock, bare, number, breaks, break_numbers, place_of, item, branch_point, span, body_span, last, start_of, in_call, iterate_point, when}
use Rattle.cell_rows.specs.Rows as R
use Rattle.cell_rows.specs.Rows.{next_operation, Row, Init, One, Two, Fixed as FixedRow, Joins, last_point, leave_points, joined_point, branch_row, post_row, next_row, fix_row, exit_row, leap_row, enter_row, turn_row, joins_row, loop_row}
use Rattle.cell_rows.specs.Total.{spread, offset, base, total_rank, or_zero, front_of}
use Rattle.cell_rows.proofs.BatchTie.{breaks_numbers, place_is, span_from}
use Rattle.cell_rows.proofs.Levels.{known_rank, known_last, last_is}
use Rattle.cell_rows.proofs.Tied.{mul_less}
use Rattle.cell_rows.proofs.TotalRank.{U, Good, Whole, by_it, after_off, into_off, last_off, within_body, spread_from, iterate_off, round_base, end_off, leave_off, fix_off, exit_off, leap_off, behind_off}

module _ (engine : LoopOptions) (program : List Routine) (once : Distinct (keys (spread engine program))) where
  abbrev N : ℕ
  N = engine.budget

  abbrev pub Lower : Row → ℕ → Type 0
  Lower (Init layout) m = Unit {0}
  Lower (One op a) m = total_rank engine program a < m
  Lower (Two op a b) m = (total_rank engine program a < m) × (total_rank engine program b < m)
  Lower (FixedRow n z w p) m = (i : ℕ) → i ≤ N → total_rank engine program (name w (iterate_point engine bare n p i)) < m
  Lower (Joins s l n w p) m = (total_rank engine program l < m) × ((k : ℕ) → k < N → total_rank engine program (name (InLoop n k ∷ w) p) < m)

  abbrev pub LowerIn : Option Row → ℕ → Type 0
  LowerIn None m = Unit {0}
  LowerIn (Some r) m = Lower r m

  -- A statement with the place that its rows see.
  module _ (b : PathBlock engine bare) (y : U engine program once) (w : List NameFrame) (whole : Whole engine program once b.scope.earlier) where
    abbrev pub G : Code → Type 0
    G d = Good engine program once b.scope (number d, record { before = y; code = d })

    abbrev bw : ℕ
    bw = base engine program w

    pub low_branch : (h : Bool) (d : Code) → G d → LowerIn (branch_row engine bare w h b y d) (bw + offset engine program (branch_point engine bare b.scope [] h (number d)))
    low_branch h Stop g = tt
    low_branch h (Simple n effect r) g = tt
    low_branch h (If n guard t f r) g =
        let i = into_off engine program once b.scope h n guard t f r y g.among in
        let o = g.off in omega arith
    low_branch h (While n guard t r) g = tt
    low_branch h (Call n call q r) g = tt
    low_branch h (Break n r) g = tt

    module _ (n : ℕ) (guard : Guard) (body r : Code) (fine : Distinct (break_numbers body)) (g : G (While n guard body r)) where
      abbrev t : ℕ
      t = span engine (body_span engine b.scope) body + 2

      low_iterate : (i m : ℕ) → i ≤ N → bw + (y.rank + i * t) < m → total_rank engine program (name w (iterate_point engine bare n y.point i)) < m
      low_iterate i m h l = let o = iterate_off engine program once b.scope y n guard body r g i h in omega arith

      pub low_next : (k : ℕ) → LowerIn (next_row engine bare w k b y (While n guard body r)) (bw + offset engine program (Iterate n (suc k)))
      low_next k = go (nat_lt k N) refl
        where
          go : (q : Bool) → nat_lt k N ≡ q → LowerIn (when engine bare q (Two (next_operation engine b.scope.thresholds k) (name w (iterate_point engine bare n y.point k)) (name (InLoop n k ∷ w) (last_point body Body)))) (bw + offset engine program (Iterate n (suc k)))
          go false e = tt
          go true e =
              let h : k < N = less_of k N e in
              let o : offset engine program (Iterate n (suc k)) ≡ y.rank + suc k * t = iterate_off engine program once b.scope y n guard body r g (suc k) (omega arith) in
              let s = suc-mul k t in
              let c = round_base engine program once b.scope y n guard body r g w k in
              let d = end_off engine program once b.scope y n guard body r g in
              (low_iterate k _ (omega arith) (omega arith), omega arith)

      pub low_fix : LowerIn (fix_row engine bare w b y (While n guard body r)) (bw + offset engine program (Fix n))
      low_fix = λ i h.
          let o = fix_off engine program once b.scope y n guard body r g in
          let m = mul-le-mul_right t h in
          low_iterate i _ h (omega arith)

      pub low_exit : LowerIn (exit_row engine bare w b y (While n guard body r)) (bw + offset engine program (Exit n))
      low_exit = go (nat_lt 0 (breaks body)) refl
        where
          go : (q : Bool) → nat_lt 0 (breaks body) ≡ q → LowerIn (when engine bare q (One (R.Exits guard) (name w (Fix n)))) (bw + offset engine program (Exit n))
          go false e = tt
          go true e =
              let h : 0 < breaks body = less_of 0 (breaks body) e in
              let o = exit_off engine program once b.scope y n guard body r g h in
              let f = fix_off engine program once b.scope y n guard body r g in
              omega arith

      joined_off : (i : ℕ) → i < breaks body → offset engine program (joined_point n body i) ≡ suc (y.rank + N * t + 1 + i)
      joined_off zero h = let o = exit_off engine program once b.scope y n guard body r g h in omega arith
      joined_off (suc i) h =
          let l : i < length (break_numbers body) = omega (arith, breaks_numbers body) in
          let o = leap_off engine program once b.scope y n guard body r g (item (break_numbers body) i) i (place_is (break_numbers body) i fine l) h in
          omega arith

      low_joins : (stays : Bool) (i m : ℕ) → i < breaks body → bw + suc (y.rank + N * t + 1 + i) < m → LowerIn (joins_row engine bare w stays n body i) m
      low_joins stays i m h l = go (slice_get (leave_points body Body) i) refl
        where
          go : (o : Option Point) → slice_get (leave_points body Body) i ≡ o → LowerIn (if_some o (λ p. Some (Joins stays (name w (joined_point n body i)) n w p))) m
          go None e = tt
          go (Some p) e = (
            let o = joined_off i h in omega arith,
            λ k hk.
                let c = round_base engine program once b.scope y n guard body r g w k in
                let d = leave_off engine program once b.scope y n guard body r g i p e in
                let q = mul_less k N t hk in
                omega arith,
          )

      pub low_leap : (k : ℕ) → LowerIn (leap_row engine bare w k b y (While n guard body r)) (bw + offset engine program (Leap n k))
      low_leap k = go (place_of k (break_numbers body)) refl
        where
          inner : (i : ℕ) → place_of k (break_numbers body) ≡ Some i → (q : Bool) → nat_lt (suc i) (breaks body) ≡ q → LowerIn (if q then joins_row engine bare w true n body i else None) (bw + offset engine program (Leap n k))
          inner i o false e = tt
          inner i o true e =
              let h : suc i < breaks body = less_of (suc i) (breaks body) e in
              let f = leap_off engine program once b.scope y n guard body r g k i o h in
              low_joins true i _ (omega arith) (omega arith)

          go : (o : Option ℕ) → place_of k (break_numbers body) ≡ o → LowerIn (if_some o (λ i. if nat_lt (suc i) (breaks body) then joins_row engine bare w true n body i else None)) (bw + offset engine program (Leap n k))
          go None e = tt
          go (Some i) e = inner i e (nat_lt (suc i) (breaks body)) refl

      low_behind : LowerIn (loop_row engine bare w n guard body (breaks body)) (bw + offset engine program (Post n))
      low_behind = go (breaks body) refl
        where
          go : (k : ℕ) → breaks body ≡ k → LowerIn (loop_row engine bare w n guard body k) (bw + offset engine program (Post n))
          go zero e =
              let o = behind_off engine program once b.scope y n guard body r g in
              let f = fix_off engine program once b.scope y n guard body r g in
              omega arith
          go (suc i) e =
              let o = behind_off engine program once b.scope y n guard body r g in
              low_joins false i _ (omega arith) (omega arith)

      pub low_turn : (k : ℕ) → LowerIn (turn_row engine bare w b n k y (While n guard body r)) (base engine program (InLoop n k ∷ w) + 0)
      low_turn k = go (nat_lt k N) refl
        where
          go : (q : Bool) → nat_lt k N ≡ q → LowerIn (when engine bare q (One (R.Assumes guard true) (name w (iterate_point engine bare n y.point k)))) (base engine program (InLoop n k ∷ w) + 0)
          go false e = tt
          go true e =
              let h : k < N = less_of k N e in
              let c = round_base engine program once b.scope y n guard body r g w k in
              low_iterate k _ (omega arith) (omega arith)

    call_base : (n : ℕ) (call : Invoke) (q : ℕ) (r : Code) → G (Call n call q r) → base engine program (InCall n ∷ w) ≡ bw + suc y.rank
    call_base n call q r g = ap (λ j. bw + suc j) (ap (or_zero engine program) (by_it engine program once b.scope y (Call n call q r) g.among (front_of engine program)))

    pub low_post : (d : Code) → G d → ((n : ℕ) (guard : Guard) (body r : Code) → d ≡ While n guard body r → Distinct (break_numbers body)) → LowerIn (post_row engine bare w b y d) (bw + offset engine program (Post (number d)))
    low_post Stop g f = tt
    low_post (Simple n effect r) g f = let o = after_off engine program once b.scope y (Simple n effect r) g.among in let i = g.off in omega arith
    low_post (If n guard t e r) g f =
        let o = after_off engine program once b.scope y (If n guard t e r) g.among in
        let xt : U engine program once = mark (Then n) (suc y.rank) tt in
        let xe : U engine program once = mark (Else n) (suc y.rank) tt in
        let ut : U engine program once = last engine bare b.scope [] t xt in
        let ue : U engine program once = last engine bare b.scope [] e xe in
        let kt : ut.rank ≤ suc y.rank + span engine (body_span engine b.scope) t = known_rank engine bare b.scope [] t xt ut (known_last engine bare b.scope [] t xt) in
        let ke : ue.rank ≤ suc y.rank + span engine (body_span engine b.scope) e = known_rank engine bare b.scope [] e xe ue (known_last engine bare b.scope [] e xe) in
        let it : offset engine program (last_point t (Then n)) ≡ ut.rank = ap (offset engine program) (sym (last_is engine bare b.scope [] t xt)) ∙ g.parts.0.end in
        let ie : offset engine program (last_point e (Else n)) ≡ ue.rank = ap (offset engine program) (sym (last_is engine bare b.scope [] e xe)) ∙ g.parts.1.end in
        (omega arith, omega arith)
    low_post (While n guard body r) g f = low_behind n guard body r (f n guard body r refl) g
    low_post (Call n call q r) g f = go (from b.scope.earlier q) refl
      where
        x : U engine program once
        x = mark Entry (suc y.rank) tt

        go : (ps : List Routine) → from b.scope.earlier q ≡ ps → LowerIn (if_some (start_of engine bare ps (n ∷ b.sites) x) (λ d. Some (Two (R.Leaves call.returning) (name w y.point) (name (InCall n ∷ w) (last_point d.code Entry))))) (bw + offset engine program (Post n))
        go [] i = tt
        go (c ∷ before) i =
            let sc : Scope = scope_of engine bare c before in
            let o = after_off engine program once b.scope y (Call n call q r) g.among in
            let cb = call_base n call q r g in
            let h : Whole engine program once (c ∷ before) = subst (λ ps. Whole engine program once ps) i (spread_from engine program once b.scope.earlier q whole) in
            let u : U engine program once = last engine bare sc [] c.code (mark Entry 0 tt) in
            let k : u.rank ≤ 0 + span engine (body_span engine sc) c.code = known_rank engine bare sc [] c.code (mark Entry 0 tt) u (known_last engine bare sc [] c.code (mark Entry 0 tt)) in
            let s : body_span engine b.scope q ≡ span engine (body_span engine sc) c.code = span_from engine b.scope.earlier q c before i in
            let l : offset engine program (last_point c.code Entry) ≡ u.rank = ap (offset engine program) (sym (last_is engine bare sc [] c.code (mark Entry 0 tt))) ∙ last_off engine program once sc c.code (mark Entry 0 tt) refl (within_body engine program once c before h) in
            let j = g.off in
            (omega arith, omega arith)
    low_post (Break n r) g f = let o = after_off engine program once b.scope y (Break n r) g.among in let i = g.off in omega arith

    pub low_enter : (n : ℕ) (d : Code) → n ≡ number d → G d → LowerIn (enter_row engine bare w b n y d) (base engine program (InCall n ∷ w) + 0)
    low_enter n Stop e g = tt
    low_enter n (Simple m effect r) e g = tt
    low_enter n (If m guard t f r) e g = tt
    low_enter n (While m guard t r) e g = tt
    low_enter n (Call m call q r) e g = go (in_call engine bare b n y (Call m call q r))
      where
        go : (o : Option (PathBlock engine bare)) → LowerIn (if_some o (λ d. Some (One (R.Enters call.entering) (name w y.point)))) (base engine program (InCall n ∷ w) + 0)
        go None = tt
        go (Some c) =
            let k = call_base m call q r g in
            let s : base engine program (InCall n ∷ w) ≡ base engine program (InCall m ∷ w) = ap (λ (n : ℕ). base engine program (InCall n ∷ w)) e in
            let i = g.off in
            omega arith
    low_enter n (Break m r) e g = tt
