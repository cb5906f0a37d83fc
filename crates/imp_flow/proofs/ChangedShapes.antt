-- Two statements have the same rows where the test says so, and else one has a row that the other has not.
use Rattle.std.proofs.lemmas.Bool.Decides.{nat_tests, Decides-int_eq}
use Rattle.std.proofs.lemmas.Slice.Eq.{slice_eq-Decides}
use Rattle.std.proofs.Common.{◌≡◌, ◌≢◌, ℕ, zero, suc, ◌<◌, ◌==◌, ◌&&◌, if◌then◌else◌, nat_lt, nat_le, ℤ, List, [], ◌∷◌, length, Option, Some, None, Bool, true, false, slice_get, refl, sym, ap, ap₂, subst, ◌∙◌, arith}
use Rattle.std.specs.Cmp.Lexicographic.{pointwise}
use Rattle.std.specs.Ordering.{int_eq}
use Rattle.base_values.specs.Equal.{same, same_Decides}
use Rattle.imp_slots.specs.Plain.{Act as Does, Guard, Entering, Returning, Invoke}
use Rattle.imp_slots.specs.Fits.{Distinct}
use Rattle.imp_slots.specs.ActionViews.{act_of, stmt_of, stmt_of-act_of}
use Rattle.imp_slots.specs.Codes.{guard_code}
use Rattle.imp_slots.specs.PartCodes.{entering_code, invoke_code}
use Rattle.imp_slots.specs.EnumCodes.{stmt_coded}
use Rattle.imp_slots.specs.declared.actions.SlotStmt.{SlotStmt}
use Rattle.batch_meaning.specs.Batch.{LoopOptions}
use Rattle.batch_meaning.specs.Places.{if_some}
use Rattle.cell_names.specs.declared.frame.NameFrame.{NameFrame}
use Rattle.cell_names.specs.declared.frame.NameFrame.TheVariants.{InCall, InLoop}
use Rattle.cell_names.specs.declared.frame.Point.{Point}
use Rattle.cell_names.specs.declared.frame.Point.TheVariants.{Entry, Then, Post, Iterate, Fix, Exit, Leap}
use Rattle.cell_names.specs.contracts.frame.PointPartialEq.TheImpl as points
use Rattle.cell_names.specs.Paths.{CellName}
use Rattle.cell_names.proofs.Telling.{point_decides}
use Rattle.cell_rows.specs.Names.{name}
use Rattle.cell_rows.specs.Rows.{Row, One, Two, Fixed, Joins, Posts, Assumes, Enters, Exits, JoinsBoth, Leaves, Widens, Unary, Binary, next_operation}
use Rattle.imp_flow_rows.specs.declared.node.Leave.{Leave}
use Rattle.imp_flow_rows.specs.Shapes.{Node, Shape, Act, If, While, Call}
use Rattle.imp_flow_rows.specs.NodeRows.{breaks_of, fronts_of, joined_at, iterate_at, where_so, joins_at, behind_loop, post_by, enter_by, branch_by, fix_at}
use Rattle.imp_flow_rows.specs.Shapes.{is_bare}
use Rattle.imp_flow.specs.Changed.{same_leaves, same_rounds, same_shapes}
use Rattle.imp_flow.proofs.ChangedRows.{part, Kept, Lost, Keeps, kept_by, Verdict, no, verdict, and_then, or_else, told, mapped, mapped_no}
use Rattle.imp_flow.proofs.ChangedLeaves.{SameLeaves, behind_kept, leap_kept}
use Rattle.imp_flow.proofs.ChangedBreaks.{LostLeaves, post, exit, leap, told_leaves}
use Rattle.std.proofs.lemmas.Option.{same_Some}

-- The breaks of a loop stand once.
abbrev pub AreOnce : Shape → Type 0
AreOnce (Act s) = Unit {0}
AreOnce (If g t e) = Unit {0}
AreOnce (While g a ls) = Distinct (breaks_of ls)
AreOnce (Call i c e) = Unit {0}

-- What a row of this kind says of the shape that has it.
abbrev IsAct : Shape → Does → Type 0
IsAct (Act s) a = act_of s ≡ a
IsAct _ a = ⊥

abbrev IsIf : Shape → Guard → Type 0
IsIf (If h t e) g = h ≡ g
IsIf _ g = ⊥

abbrev IsWhile : Shape → Type 0
IsWhile (While g a ls) = Unit {0}
IsWhile _ = ⊥

abbrev IsCall : Shape → Entering → Type 0
IsCall (Call j c (Some e)) i = j.entering ≡ i
IsCall _ i = ⊥

point_of : (w : List NameFrame) (p q : Point) → name w q ≡ name w p → q ≡ p
point_of w p q e = ap (λ x. x.point) e

joins_other : (w : List NameFrame) (n : ℕ) (ks : List Leave) (i : ℕ) (op : Unary) (x : CellName) → joins_at w false n ks i ≡ Some (One op x) → ⊥
joins_other w n ks i op x e = go (slice_get (fronts_of ks) i) e
  where
    go : (o : Option Point) → if_some o (λ p. Some (Joins false (name w (joined_at n (breaks_of ks) i)) n w p)) ≡ Some (One op x) → ⊥
    go None e = cc
    go (Some p) e = cc

behind_other : (w : List NameFrame) (n : ℕ) (g : Guard) (ks : List Leave) (k : ℕ) (a : Does) (x : CellName) → behind_loop w n g ks k ≡ Some (One (Posts a) x) → ⊥
behind_other w n g ks zero a x e = cc
behind_other w n g ks (suc i) a x e = joins_other w n ks i (Posts a) x e

behind_guard : (w : List NameFrame) (n : ℕ) (g h : Guard) (ks : List Leave) (k : ℕ) (x : CellName) → behind_loop w n h ks k ≡ Some (One (Assumes g false) x) → h ≡ g
behind_guard w n g h ks zero x e = cc
behind_guard w n g h ks (suc i) x e = absurd (joins_other w n ks i (Assumes g false) x e)

module _ (n : ℕ) where
  act_only : (a : Does) (p q : Point) (t : Shape) → post_by [] n q t ≡ Some (One (Posts a) (name [] p)) → (q ≡ p) × IsAct t a
  act_only a p q (Act s) e = (point_of [] p q cc, cc)
  act_only a p q (If g t u) e = absurd cc
  act_only a p q (While g b ks) e = absurd (behind_other [] n g ks (length ks) a (name [] p) e)
  act_only a p q (Call i c None) e = absurd cc
  act_only a p q (Call i c (Some u)) e = absurd cc

  if_only : (g : Guard) (p q : Point) (t : Shape) → branch_by [] true q t ≡ Some (One (Assumes g true) (name [] p)) → (q ≡ p) × IsIf t g
  if_only g p q (Act s) e = absurd cc
  if_only g p q (If h t u) e = (point_of [] p q cc, cc)
  if_only g p q (While h b ks) e = absurd cc
  if_only g p q (Call i c o) e = absurd cc

  call_only : (i : Entering) (p q : Point) (t : Shape) → enter_by [] q t ≡ Some (One (Enters i) (name [] p)) → (q ≡ p) × IsCall t i
  call_only i p q (Act s) e = absurd cc
  call_only i p q (If h t u) e = absurd cc
  call_only i p q (While h b ks) e = absurd cc
  call_only i p q (Call j c None) e = absurd cc
  call_only i p q (Call j c (Some u)) e = (point_of [] p q cc, cc)

where_same : (t : Bool) (x y : Row) → where_so t x ≡ Some y → x ≡ y
where_same true x y e = same_Some x y e
where_same false x y e = absurd cc

module _ (engine : LoopOptions) (ms os : List ℤ) (n a b : ℕ) (us vs : List ℕ) where
  -- a statement of the old program, and one of the new
  abbrev X : Point → Shape → Node
  X p s = record { stmt = n; place = a; loops = us; front = p; shape = s }

  abbrev Y : Point → Shape → Node
  Y q t = record { stmt = n; place = b; loops = vs; front = q; shape = t }

  abbrev F : Point → Shape → List NameFrame → Point → Option Row
  F p s = part engine ms (X p s)

  abbrev G : Point → Shape → List NameFrame → Point → Option Row
  G q t = part engine os (Y q t)

  while_only : (p q : Point) (t : Shape) → fix_at [] (Y q t) ≡ Some (Fixed n [] [] p) → (q ≡ p) × IsWhile t
  while_only p q (Act s) e = absurd cc
  while_only p q (If h t u) e = absurd cc
  while_only p q (While h c ks) e = (cc, tt)
  while_only p q (Call j c o) e = absurd cc

  -- what the first row of a shape says of another that has it
  abbrev Near : Shape → Shape → Type 0
  Near (Act s) t = IsAct t (act_of s)
  Near (If g u e) t = IsIf t g
  Near (While g c ls) t = IsWhile t
  Near (Call i c e) t = IsCall t i.entering

  pub first_lost : (p q : Point) (s t : Shape) → is_bare s ≡ false → (q ≡ p → Near s t → ⊥) → Lost n (F p s) (G q t)
  first_lost p q (Act s) t h k = record {
    path = [];
    point = Post n;
    row = One (Posts (act_of s)) (name [] p);
    owned = refl;
    inside = refl;
    had = refl;
    gone = λ e. let f = act_only n (act_of s) p q t e in k f.0 f.1;
  }
  first_lost p q (If g u v) t h k = record {
    path = [];
    point = Then n;
    row = One (Assumes g true) (name [] p);
    owned = refl;
    inside = refl;
    had = refl;
    gone = λ e. let f = if_only n g p q t e in k f.0 f.1;
  }
  first_lost p q (While g c ls) t h k = record {
    path = [];
    point = Fix n;
    row = Fixed n [] [] p;
    owned = refl;
    inside = refl;
    had = refl;
    gone = λ e. let f = while_only p q t e in k f.0 f.1;
  }
  first_lost p q (Call i c None) t h k = absurd cc
  first_lost p q (Call i c (Some u)) t h k = record {
    path = InCall n ∷ [];
    point = Entry;
    row = One (Enters i.entering) (name [] p);
    owned = refl;
    inside = refl;
    had = refl;
    gone = λ e. let f = call_only n i.entering p q t e in k f.0 f.1;
  }

  -- no row is kept where there is no statement
  pub lone_lost : (p : Point) (s : Shape) → is_bare s ≡ false → Lost n (F p s) (λ w q. None)
  lone_lost p (Act s) h = record { path = []; point = Post n; row = One (Posts (act_of s)) (name [] p); owned = refl; inside = refl; had = refl; gone = λ e. cc }
  lone_lost p (If g u v) h = record { path = []; point = Then n; row = One (Assumes g true) (name [] p); owned = refl; inside = refl; had = refl; gone = λ e. cc }
  lone_lost p (While g c ls) h = record { path = []; point = Fix n; row = Fixed n [] [] p; owned = refl; inside = refl; had = refl; gone = λ e. cc }
  lone_lost p (Call i c None) h = absurd cc
  lone_lost p (Call i c (Some u)) h = record { path = InCall n ∷ []; point = Entry; row = One (Enters i.entering) (name [] p); owned = refl; inside = refl; had = refl; gone = λ e. cc }

  abbrev pub Told : Point → Shape → Shape → Type 0
  Told p s t = Verdict (Kept (F p s) (G p t)) (Lost n (F p s) (G p t)) (same_shapes engine ms os s t)

  module _ (p : Point) where
    -- simple statements
    kept_act : (s : SlotStmt) → Kept (F p (Act s)) (G p (Act s))
    kept_act s =
        kept_by engine ms os (X p (Act s)) (Y p (Act s))
        (record { enter = λ w r e. e; branch = λ w h r e. e; turn = λ w k r e. e; post = λ w r e. e; next = λ w k r e. e; fix = λ w r e. e; exit = λ w r e. e; leap = λ w b r e. e })

    same_act : (s t : SlotStmt) → act_of t ≡ act_of s → s ≡ t
    same_act s t e = sym (stmt_of-act_of s) ∙ ap stmt_of (sym e) ∙ stmt_of-act_of t

    told_act : (s t : SlotStmt) → Told p (Act s) (Act t)
    told_act s t =
        mapped (told s t (same stmt_coded s t) (same_Decides stmt_coded s t) (λ d. first_lost p p (Act s) (Act t) refl (λ q e. d (same_act s t e))))
        (λ e. subst (λ z. Kept (F p (Act s)) (G p (Act z))) e (kept_act s))

    -- ifs
    kept_if : (g : Guard) (u v : Point) → Kept (F p (If g u v)) (G p (If g u v))
    kept_if g u v =
        kept_by engine ms os (X p (If g u v)) (Y p (If g u v))
        (record { enter = λ w r e. e; branch = λ w h r e. e; turn = λ w k r e. e; post = λ w r e. e; next = λ w k r e. e; fix = λ w r e. e; exit = λ w r e. e; leap = λ w b r e. e })

    lost_if : (g h : Guard) (u v x y : Point) → (u ≡ x → v ≡ y → ⊥) → Lost n (F p (If g u v)) (G p (If h x y))
    lost_if g h u v x y k = record {
      path = [];
      point = Post n;
      row = Two JoinsBoth (name [] u) (name [] v);
      owned = refl;
      inside = refl;
      had = refl;
      gone = λ e. k (sym (point_of [] u x cc)) (sym (point_of [] v y cc));
    }

    told_if : (g h : Guard) (u v x y : Point) → Told p (If g u v) (If h x y)
    told_if g h u v x y =
        and_then
        (and_then
        (told g h (same guard_code g h) (same_Decides guard_code g h) (λ d. first_lost p p (If g u v) (If h x y) refl (λ q e. d (sym e))))
        (λ e. mapped (told u x (points.ghosts.eq u x) (point_decides u x) (λ d. lost_if g h u v x y (λ f k. d f))) (λ f. ap₂ (λ z q. If z q v) e f)))
        (λ e. mapped (told v y (points.ghosts.eq v y) (point_decides v y) (λ d. lost_if g h u v x y (λ f k. d k))) (λ f. subst (λ z. Kept (F p (If g u v)) (G p z)) (e ∙ ap (λ q. If h x q) f) (kept_if g u v)))

    -- calls
    kept_call : (i : Invoke) (c d : ℕ) (u : Point) → Kept (F p (Call i c (Some u))) (G p (Call i d (Some u)))
    kept_call i c d u =
        kept_by engine ms os (X p (Call i c (Some u))) (Y p (Call i d (Some u)))
        (record { enter = λ w r e. e; branch = λ w h r e. e; turn = λ w k r e. e; post = λ w r e. e; next = λ w k r e. e; fix = λ w r e. e; exit = λ w r e. e; leap = λ w b r e. e })

    lost_call : (i j : Invoke) (c d : ℕ) (u v : Point) → (i.returning ≡ j.returning → u ≡ v → ⊥) → Lost n (F p (Call i c (Some u))) (G p (Call j d (Some v)))
    lost_call i j c d u v k = record {
      path = [];
      point = Post n;
      row = Two (Leaves i.returning) (name [] p) (name (InCall n ∷ []) u);
      owned = refl;
      inside = refl;
      had = refl;
      gone = λ e. k (cc) (sym (point_of (InCall n ∷ []) u v cc));
    }

    lost_invoke : (i j : Invoke) (c d : ℕ) (u v : Point) → i ≢ j → Lost n (F p (Call i c (Some u))) (G p (Call j d (Some v)))
    lost_invoke i j c d u v h = go (same entering_code i.entering j.entering) refl
      where
        go : (t : Bool) → same entering_code i.entering j.entering ≡ t → Lost n (F p (Call i c (Some u))) (G p (Call j d (Some v)))
        go true e = lost_call i j c d u v (λ f k. h (ap₂ (λ (x : Entering) (y : Option Returning). let z : Invoke = record { entering = x; returning = y } in z) ((same_Decides entering_code i.entering j.entering).0 e) f))
        go false e =
            first_lost p p (Call i c (Some u)) (Call j d (Some v)) refl
            (λ q f. let k : same entering_code i.entering j.entering ≡ true = (same_Decides entering_code i.entering j.entering).1 (sym f) in cc)

    told_call : (i j : Invoke) (c d : ℕ) (u v : Point) → Told p (Call i c (Some u)) (Call j d (Some v))
    told_call i j c d u v =
        and_then (told i j (same invoke_code i j) (same_Decides invoke_code i j) (lost_invoke i j c d u v))
        (λ e. mapped (told u v (points.ghosts.eq u v) (point_decides u v) (λ h. lost_call i j c d u v (λ f k. h k)))
        (λ f. subst (λ z. Kept (F p (Call i c (Some u))) (G p z)) (ap₂ (λ z q. Call z d (Some q)) e f) (kept_call i c d u)))

    -- loops: what their rounds have of the ends of their bodies
    abbrev SameRounds : Point → Point → Type 0
    SameRounds x y = (k : ℕ) → nat_lt k engine.budget ≡ true → (x ≡ y) × (next_operation engine ms k ≡ next_operation engine os k)

    lost_round : (k : ℕ) (g h : Guard) (x y : Point) (ls ks : List Leave) → nat_lt k engine.budget ≡ true → (x ≡ y → next_operation engine ms k ≡ next_operation engine os k → ⊥) → Lost n (F p (While g x ls)) (G p (While h y ks))
    lost_round k g h x y ls ks t d = record {
      path = [];
      point = Iterate n (suc k);
      row = Two (next_operation engine ms k) (name [] (iterate_at n p k)) (name (InLoop n k ∷ []) x);
      owned = refl;
      inside = refl;
      had = ap (λ t. where_so t (Two (next_operation engine ms k) (name [] (iterate_at n p k)) (name (InLoop n k ∷ []) x))) t;
      gone = λ e. both (where_same (nat_lt k engine.budget) (Two (next_operation engine os k) (name [] (iterate_at n p k)) (name (InLoop n k ∷ []) y)) (Two (next_operation engine ms k) (name [] (iterate_at n p k)) (name (InLoop n k ∷ []) x)) e);
    }
      where
        both : Two (next_operation engine os k) (name [] (iterate_at n p k)) (name (InLoop n k ∷ []) y) ≡ Two (next_operation engine ms k) (name [] (iterate_at n p k)) (name (InLoop n k ∷ []) x) → ⊥
        both e = d (sym (point_of (InLoop n k ∷ []) x y cc)) cc

    joined_below : (ms : List ℤ) (k : ℕ) → k < engine.widening.delay → next_operation engine ms k ≡ JoinsBoth
    joined_below ms k h = let t : nat_lt k engine.widening.delay ≡ true = grind (arith, nat_tests) in ap (λ t. if t then JoinsBoth else Widens ms) t

    widened : (ms : List ℤ) → next_operation engine ms engine.widening.delay ≡ Widens ms
    widened ms = let t : nat_lt engine.widening.delay engine.widening.delay ≡ false = grind (arith, nat_tests) in ap (λ t. if t then JoinsBoth else Widens ms) t

    told_rounds : (g h : Guard) (x y : Point) (ls ks : List Leave) → Verdict (SameRounds x y) (Lost n (F p (While g x ls)) (G p (While h y ks))) (same_rounds engine (pointwise int_eq ms os) x y)
    told_rounds g h x y ls ks =
        or_else (engine.budget == 0) (λ z k t. absurd (none z k t))
        (λ z. and_then (told x y (points.ghosts.eq x y) (point_decides x y) (λ d. lost_round 0 g h x y ls ks (first z) (λ f k. d f)))
        (λ e. or_else (nat_le engine.budget engine.widening.delay)
        (λ l k t. (e, joined_below ms k (early l k t) ∙ sym (joined_below os k (early l k t))))
        (λ l. mapped
        (told ms os (pointwise int_eq ms os) (slice_eq-Decides Decides-int_eq ms os (pointwise int_eq ms os) refl)
        (λ d. lost_round engine.widening.delay g h x y ls ks (late l) (λ f k. d (thresholds (sym (widened ms) ∙ k ∙ widened os)))))
        (λ f k t. (e, ap (λ m. next_operation engine m k) f)))))
      where
        none : (engine.budget == 0) ≡ true → (k : ℕ) → nat_lt k engine.budget ≡ true → ⊥
        none z k t = absurd (grind (arith, nat_tests))

        first : (engine.budget == 0) ≡ false → nat_lt 0 engine.budget ≡ true
        first z = grind (arith, nat_tests)

        early : nat_le engine.budget engine.widening.delay ≡ true → (k : ℕ) → nat_lt k engine.budget ≡ true → k < engine.widening.delay
        early l k t = grind (arith, nat_tests)

        late : nat_le engine.budget engine.widening.delay ≡ false → nat_lt engine.widening.delay engine.budget ≡ true
        late l = grind (arith, nat_tests)

        thresholds : Widens ms ≡ Widens os → ms ≡ os
        thresholds e = cc

    -- loops: all their rows
    kept_next : (w : List NameFrame) (k : ℕ) (x y : Point) (t : Bool) → nat_lt k engine.budget ≡ t → SameRounds x y →
        Keeps (where_so t (Two (next_operation engine ms k) (name w (iterate_at n p k)) (name (InLoop n k ∷ w) x))) (where_so t (Two (next_operation engine os k) (name w (iterate_at n p k)) (name (InLoop n k ∷ w) y)))
    kept_next w k x y true h s r e =
        let f = s k h in
        ap Some (ap₂ (λ (o : Binary) (z : Point). Two o (name w (iterate_at n p k)) (name (InLoop n k ∷ w) z)) (sym f.1) (sym f.0)) ∙ e
    kept_next w k x y false h s r e = e

    kept_while : (g : Guard) (x y : Point) (ls ks : List Leave) → SameLeaves ls ks → SameRounds x y → Kept (F p (While g x ls)) (G p (While g y ks))
    kept_while g x y ls ks s t =
        kept_by engine ms os (X p (While g x ls)) (Y p (While g y ks))
        (record {
          enter = λ w r e. e;
          branch = λ w h r e. e;
          turn = λ w k r e. e;
          post = λ w r e. sym (behind_kept w n g ls ks s) ∙ e;
          next = λ w k. kept_next w k x y (nat_lt k engine.budget) refl t;
          fix = λ w r e. e;
          exit = λ w r e. ap (λ c. where_so (nat_lt 0 c) (One (Exits g) (name w (Fix n)))) (sym s.count) ∙ e;
          leap = λ w b r e. leap_kept w n ls ks s b r e;
        })

    lost_leaves : (g : Guard) (x y : Point) (ls ks : List Leave) → LostLeaves n g ls ks → Lost n (F p (While g x ls)) (G p (While g y ks))
    lost_leaves g x y ls ks (post r h k) = record { path = []; point = Post n; row = r; owned = refl; inside = refl; had = h; gone = k }
    lost_leaves g x y ls ks (leap b r h k) = record { path = []; point = Leap n b; row = r; owned = refl; inside = refl; had = h; gone = k }
    lost_leaves g x y ls ks (exit h k) = record {
      path = [];
      point = Exit n;
      row = One (Exits g) (name [] (Fix n));
      owned = refl;
      inside = refl;
      had = let t : nat_lt 0 (length ls) ≡ true = grind (arith, nat_tests) in ap (λ t. where_so t (One (Exits g) (name [] (Fix n)))) t;
      gone = λ e. let t : nat_lt 0 (length ks) ≡ false = grind (arith, nat_tests) in let f = ap (λ t. where_so t (One (Exits g) (name [] (Fix n)))) (sym t) ∙ e in cc;
    }

    lost_guard : (g h : Guard) (x y : Point) (ls ks : List Leave) → g ≢ h → Lost n (F p (While g x ls)) (G p (While h y ks))
    lost_guard g h x y [] ks d = record {
      path = [];
      point = Post n;
      row = One (Assumes g false) (name [] (Fix n));
      owned = refl;
      inside = refl;
      had = refl;
      gone = λ e. d (sym (behind_guard [] n g h ks (length ks) (name [] (Fix n)) e));
    }
    lost_guard g h x y (l ∷ ls) ks d = record {
      path = [];
      point = Exit n;
      row = One (Exits g) (name [] (Fix n));
      owned = refl;
      inside = refl;
      had = let t : nat_lt 0 (length (l ∷ ls)) ≡ true = grind (arith, nat_tests) in ap (λ t. where_so t (One (Exits g) (name [] (Fix n)))) t;
      gone = λ e. let f = where_same (nat_lt 0 (length ks)) (One (Exits h) (name [] (Fix n))) (One (Exits g) (name [] (Fix n))) e in d cc;
    }

    told_while : (g h : Guard) (x y : Point) (ls ks : List Leave) → Distinct (breaks_of ls) → Distinct (breaks_of ks) → Told p (While g x ls) (While h y ks)
    told_while g h x y ls ks c d =
        and_then
        (and_then (told g h (same guard_code g h) (same_Decides guard_code g h) (lost_guard g h x y ls ks))
        (λ e. mapped
        (mapped_no (verdict (SameLeaves ls ks) (LostLeaves n g ls ks) (same_leaves ls ks) (told_leaves n g ls ks c d)) (λ l. subst (λ z. Lost n (F p (While g x ls)) (G p (While z y ks))) e (lost_leaves g x y ls ks l)))
        (λ s. pair e s)))
        (λ f. mapped (told_rounds g h x y ls ks) (λ r. subst (λ z. Kept (F p (While g x ls)) (G p (While z y ks))) f.0 (kept_while g x y ls ks f.1 r)))
      where
        pair : g ≡ h → SameLeaves ls ks → (g ≡ h) × SameLeaves ls ks
        pair e s = (e, s)

    -- after the same point
    pub told_shapes : (s t : Shape) → is_bare s ≡ false → AreOnce s → AreOnce t → Told p s t
    told_shapes (Act s) (Act t) b c d = told_act s t
    told_shapes (Act s) (If h x y) b c d = no (first_lost p p (Act s) (If h x y) refl (λ q e. e))
    told_shapes (Act s) (While h x ks) b c d = no (first_lost p p (Act s) (While h x ks) refl (λ q e. e))
    told_shapes (Act s) (Call j k o) b c d = no (first_lost p p (Act s) (Call j k o) refl (λ q e. e))
    told_shapes (If g u v) (Act t) b c d = no (first_lost p p (If g u v) (Act t) refl (λ q e. e))
    told_shapes (If g u v) (If h x y) b c d = told_if g h u v x y
    told_shapes (If g u v) (While h x ks) b c d = no (first_lost p p (If g u v) (While h x ks) refl (λ q e. e))
    told_shapes (If g u v) (Call j k o) b c d = no (first_lost p p (If g u v) (Call j k o) refl (λ q e. e))
    told_shapes (While g u ls) (Act t) b c d = no (first_lost p p (While g u ls) (Act t) refl (λ q e. e))
    told_shapes (While g u ls) (If h x y) b c d = no (first_lost p p (While g u ls) (If h x y) refl (λ q e. e))
    told_shapes (While g u ls) (While h x ks) b c d = told_while g h u x ls ks c d
    told_shapes (While g u ls) (Call j k o) b c d = no (first_lost p p (While g u ls) (Call j k o) refl (λ q e. e))
    told_shapes (Call i m None) t b c d = absurd cc
    told_shapes (Call i m (Some u)) (Act t) b c d = no (first_lost p p (Call i m (Some u)) (Act t) refl (λ q e. e))
    told_shapes (Call i m (Some u)) (If h x y) b c d = no (first_lost p p (Call i m (Some u)) (If h x y) refl (λ q e. e))
    told_shapes (Call i m (Some u)) (While h x ks) b c d = no (first_lost p p (Call i m (Some u)) (While h x ks) refl (λ q e. e))
    told_shapes (Call i m (Some u)) (Call j k None) b c d = no (first_lost p p (Call i m (Some u)) (Call j k None) refl (λ q e. e))
    told_shapes (Call i m (Some u)) (Call j k (Some v)) b c d = told_call i j m k u v

  -- of the same number
  pub told_nodes : (p q : Point) (s t : Shape) → is_bare s ≡ false → AreOnce s → AreOnce t →
      Verdict (Kept (F p s) (G q t)) (Lost n (F p s) (G q t)) (points.ghosts.eq p q && same_shapes engine ms os s t)
  told_nodes p q s t b c d =
      and_then (told p q (points.ghosts.eq p q) (point_decides p q) (λ h. first_lost p q s t b (λ e k. h (sym e))))
      (λ e. subst (λ z. Verdict (Kept (F p s) (G z t)) (Lost n (F p s) (G z t)) (same_shapes engine ms os s t)) e (told_shapes p s t b c d))
