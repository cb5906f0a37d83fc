-- Points to which control does not come from an edited statement keep their equations.
use Rattle.std.proofs.Common.{◌≡◌, ◌==◌, ℕ, ℤ, List, [], ◌∷◌, ◌++◌, map, reverse, length, Option, Some, None, if◌then◌else◌, suc, refl, sym, ap, ◌∙◌, subst, ◌⊎◌, inl, inr, append_assoc, append-nil}
use Rattle.std.proofs.lemmas.Option.{same_Some}
use Rattle.std.specs.List.{Contains}
use Rattle.base_values.proofs.Cases.{by_test}
use Rattle.base_values.proofs.Members.{Member, in_left, in_right, Each, each_both, each_as, none_there, in_map, contains_of}
use Rattle.imp_syntax.specs.Plain.{Statement, Statements, Procedure}
use Rattle.imp_slots.specs.Plain.{Guard, Code, Does, DoBreak, Routine, code_numbers}
use Rattle.imp_check.specs.Fine.{IsFine}
use Rattle.imp_check.specs.Slots.{layout_in, routine_of, routines_of}
use Rattle.imp_check.proofs.SlotLemmas.{routines_push}
use Rattle.edit_entries.specs.Holes.{with_body}
use Rattle.imp_edit.specs.Changes.{in_block, in_program}
use Rattle.imp_chains.specs.declared.widening.Widening.{Widening}
use Rattle.imp_chains.specs.Thresholds.{thresholds, thresholds_of, literals}
use Rattle.batch_meaning.specs.Batch.{LoopOptions}
use Rattle.batch_meaning.specs.Places.{find, if_some, from, main_layout}
use Rattle.batch_meaning.proofs.Places.{found, found_member}
use Rattle.cell_names.specs.declared.frame.Point.{Point}
use Rattle.cell_names.specs.declared.frame.Point.TheVariants.{Entry, Then, Else, Body}
use Rattle.cell_rows.specs.Names.{break_numbers}
use Rattle.cell_rows.specs.Rows.{last_point, leave_points}
use Rattle.cell_rows.specs.Targets.{Text, texts}
use Rattle.cell_rows.specs.Flat.{Flat, flat_of, flat}
use Rattle.cell_rows.proofs.FlatOnce.{flat_once}
use Rattle.cell_rows.proofs.Listed.{each_map}
use Rattle.cell_rows.proofs.Lookup.{then_some}
use Rattle.edit_bound_laws.specs.Flow.{FlowPoint, Start, Called, InThen, InElse, Head, Behind, statement_of, Equation, Begins, Enters, Chooses, Rounds, Acts, Meets, Leaves, Returns, first_end, call_equation, branch_equation, head_equation, behind_equation, equation}
use Rattle.edit_bound_laws.specs.Neighbours.{inside, inside_program, IsAt, Names, loop_body, IsInProcedureOf, IsInLoop, IsLoopChange, OthersKeepEquations}
use Rattle.edit_bound_laws.proofs.Alike.{Or, SameOr, AlikeCode, stop, simple, branch, loop, call, break, FoundOr, found_more}
use Rattle.edit_bound_laws.proofs.AlikeBlocks.{last_block, block_found, same_block}

module _ (n : ℕ) (is : List ℕ) where
  pub record AlikeRoutine (r s : Routine) : Type 0 where
    pub layout : r.layout ≡ s.layout
    pub ends : Or n (last_point r.code Entry) (last_point s.code Entry)
    pub texts : Each (FoundOr n is (texts s.code Entry)) (texts r.code Entry)
    pub same : SameOr n r.code s.code

  abbrev pub AlikeAll : List Routine → List Routine → Type 0
  AlikeAll [] [] = Unit {0}
  AlikeAll [] (s ∷ ss) = ⊥
  AlikeAll (r ∷ rs) [] = ⊥
  AlikeAll (r ∷ rs) (s ∷ ss) = AlikeRoutine r s × AlikeAll rs ss

  lengths : (rs ss : List Routine) → AlikeAll rs ss → length rs ≡ length ss
  lengths [] [] h = refl
  lengths [] (s ∷ ss) h = absurd h
  lengths (r ∷ rs) [] h = absurd h
  lengths (r ∷ rs) (s ∷ ss) h = ap suc (lengths rs ss h.1)

  from_alike : (rs ss : List Routine) (q : ℕ) → AlikeAll rs ss → AlikeAll (from rs q) (from ss q)
  from_alike [] [] q h = tt
  from_alike [] (s ∷ ss) q h = absurd h
  from_alike (r ∷ rs) [] q h = absurd h
  from_alike (r ∷ rs) (s ∷ ss) q h =
      subst (λ k. AlikeAll (if q == length rs then r ∷ rs else from rs q) (if q == k then s ∷ ss else from ss q)) (lengths rs ss h.1)
      (by_test q (length rs) (λ b. AlikeAll (if b then r ∷ rs else from rs q) (if b then s ∷ ss else from ss q)) (λ _. h) (λ _. from_alike rs ss q h.1))

  -- both are there, and end alike
  abbrev EndAlike : Option Point → Option Point → Type 0
  EndAlike None None = Unit {0}
  EndAlike None (Some q) = ⊥
  EndAlike (Some p) None = ⊥
  EndAlike (Some p) (Some q) = Or n p q

  ends_alike : (rs ss : List Routine) → AlikeAll rs ss → EndAlike (first_end rs) (first_end ss)
  ends_alike [] [] h = tt
  ends_alike [] (s ∷ ss) h = absurd h
  ends_alike (r ∷ rs) [] h = absurd h
  ends_alike (r ∷ rs) (s ∷ ss) h = h.0.ends

  layouts : (rs ss : List Routine) → AlikeAll rs ss → main_layout rs ≡ main_layout ss
  layouts [] [] h = refl
  layouts [] (s ∷ ss) h = absurd h
  layouts (r ∷ rs) [] h = absurd h
  layouts (r ∷ rs) (s ∷ ss) h = h.0.layout

  -- The other program has a statement of the number, alike.
  record AlikeFlat (u v : Flat) : Type 0 where
    front : Or n u.text.front v.text.front
    code : AlikeCode n u.text.code v.text.code
    earlier : AlikeAll u.earlier v.earlier
    same : SameOr n u.routine.code v.routine.code

  record FoundFlat (ss : List Routine) (x : ℕ × Flat) : Type 0 where
    other : Flat
    there_is : Member (x.0, other) (flat ss)
    alike : AlikeFlat x.1 other

  abbrev FlatOr : List Routine → ℕ × Flat → Type 0
  FlatOr ss x = FoundFlat ss x ⊎ Member x.0 is

  flat_alike : (rs ss : List Routine) → AlikeAll rs ss → Each (FlatOr ss) (flat rs)
  flat_alike [] [] h = none_there _
  flat_alike [] (s ∷ ss) h = absurd h
  flat_alike (r ∷ rs) [] h = absurd h
  flat_alike (r ∷ rs) (s ∷ ss) h =
      each_both (FlatOr (s ∷ ss)) _ _ (each_map (flat_of r rs) (FoundOr n is (texts s.code Entry)) (FlatOr (s ∷ ss)) own (texts r.code Entry) h.0.texts)
      (each_as (FlatOr ss) (FlatOr (s ∷ ss)) _ more (flat_alike rs ss h.1))
    where
      own : (x : ℕ × Text) → FoundOr n is (texts s.code Entry) x → FlatOr (s ∷ ss) (flat_of r rs x)
      own x (inl f) =
          inl (record {
            other = (flat_of s ss (x.0, f.other)).1;
            there_is = in_left (flat ss) (in_map (flat_of s ss) (x.0, f.other) (texts s.code Entry) f.there_is);
            alike = record { front = f.front; code = f.code; earlier = h.1; same = h.0.same };
          })
      own x (inr i) = inr i

      more : (x : ℕ × Flat) → FlatOr ss x → FlatOr (s ∷ ss) x
      more x (inl f) = inl (record { other = f.other; there_is = in_right (map (flat_of s ss) (texts s.code Entry)) f.there_is; alike = f.alike })
      more x (inr i) = inr i

  -- the equation is there, the same but for a loop
  abbrev Keeps : (L : Equation → Equation → Type 0) → Equation → Option Equation → Type 0
  Keeps L q o = (r : Equation) × (o ≡ Some r) × ((q ≡ r) ⊎ L q r)

  sure : {p q : Point} → Or n p q → (IsAt n p → ⊥) → p ≡ q
  sure (inl e) un = e
  sure (inr a) un = absurd (un a)

  given : (L : Equation → Equation → Type 0) (x q : Equation) (o : Option Equation) → Some x ≡ Some q → ((Names n x → ⊥) → Keeps L x o) → (Names n q → ⊥) → Keeps L q o
  given L x q o e f un = subst (λ z. (Names n z → ⊥) → Keeps L z o) (same_Some x q e) f un

  module _ (table : List Routine) (of : ℕ) (e d : List Routine) (all : AlikeAll e d) (p t : Point) (front : Or n p t) where
    abbrev L : Equation → Equation → Type 0
    L = IsLoopChange table of n

    calls_keep : (c k : Code) (q : Equation) → AlikeCode n c k → call_equation e p c ≡ Some q → (Names n q → ⊥) → Keeps L q (call_equation d t k)
    calls_keep c k q stop h un = absurd cc
    calls_keep c k q (simple m x r s) h un = absurd cc
    calls_keep c k q (branch m x y u w v r s b f) h un = absurd cc
    calls_keep c k q (loop m x y u r s b a) h un = absurd cc
    calls_keep c k q (call m i j r s) h un = go (first_end (from e j)) (first_end (from d j)) (ends_alike (from e j) (from d j) (from_alike e d j all)) h
      where
        go : (x y : Option Point) → EndAlike x y → if_some x (λ l. Some (Enters p i.entering)) ≡ Some q → Keeps L q (if_some y (λ l. Some (Enters t i.entering)))
        go None y a h = absurd cc
        go (Some x) None a h = absurd a
        go (Some x) (Some y) a h = given L (Enters p i.entering) q (Some (Enters t i.entering)) h (λ un. (Enters t i.entering, refl, inl (ap (λ p. Enters p i.entering) (sure front un)))) un
    calls_keep c k q (break m r s) h un = absurd cc

    branches_keep : (c k : Code) (q : Equation) → AlikeCode n c k → branch_equation p c ≡ Some q → (Names n q → ⊥) → Keeps L q (branch_equation t k)
    branches_keep c k q stop h un = absurd cc
    branches_keep c k q (simple m x r s) h un = absurd cc
    branches_keep c k q (branch m x y u w v r s b f) h un = given L (Chooses p x) q (Some (Chooses t x)) h (λ un. (Chooses t x, refl, inl (ap (λ p. Chooses p x) (sure front un)))) un
    branches_keep c k q (loop m x y u r s b a) h un = absurd cc
    branches_keep c k q (call m i j r s) h un = absurd cc
    branches_keep c k q (break m r s) h un = absurd cc

    head_change : (x : Guard) (p t y u : Point) (ts us : List ℤ) → p ≡ t → y ≡ u → (ts ≡ us) ⊎ IsInProcedureOf table of n → (Rounds p x y ts ≡ Rounds t x u us) ⊎ L (Rounds p x y ts) (Rounds t x u us)
    head_change x p t y u ts us i j (inl k) = inl (ap (λ p. Rounds p x y ts) i ∙ ap (λ y. Rounds t x y ts) j ∙ ap (Rounds t x u) k)
    head_change x p t y u ts us i j (inr k) = inr (i, refl, j, k)

    heads_keep : (ts us : List ℤ) → (ts ≡ us) ⊎ IsInProcedureOf table of n → (c k : Code) (q : Equation) → AlikeCode n c k → head_equation ts p c ≡ Some q → (Names n q → ⊥) → Keeps L q (head_equation us t k)
    heads_keep ts us w c k q stop h un = absurd cc
    heads_keep ts us w c k q (simple m x r s) h un = absurd cc
    heads_keep ts us w c k q (branch m x y u z v r s b f) h un = absurd cc
    heads_keep ts us w c k q (loop m x y u r s b a) h un =
        given L (Rounds p x (last_point y Body) ts) q (Some (Rounds t x (last_point u Body) us)) h
        (λ un. let i = sure front (λ a. un (inl a)) in let j = sure b (λ a. un (inr a)) in (Rounds t x (last_point u Body) us, refl, head_change x p t (last_point y Body) (last_point u Body) ts us i j w)) un
    heads_keep ts us w c k q (call m i j r s) h un = absurd cc
    heads_keep ts us w c k q (break m r s) h un = absurd cc

    behind_change : (x : Guard) (y u : Code) → (Member n (code_numbers y) → IsInLoop table of n) → SameOr n y u →
        (Leaves x (leave_points y Body) (break_numbers y) ≡ Leaves x (leave_points u Body) (break_numbers u)) ⊎ L (Leaves x (leave_points y Body) (break_numbers y)) (Leaves x (leave_points u Body) (break_numbers u))
    behind_change x y u within (inl e) = inl (ap (λ y. Leaves x (leave_points y Body) (break_numbers y)) e)
    behind_change x y u within (inr m) = inr (refl, within m)

    behinds_keep : (c k : Code) (q : Equation) → (Member n (code_numbers (loop_body c)) → IsInLoop table of n) → AlikeCode n c k → behind_equation e p c ≡ Some q → (Names n q → ⊥) → Keeps L q (behind_equation d t k)
    behinds_keep c k q within stop h un = absurd cc
    behinds_keep c k q within (simple m x r s) h un = given L (Acts p (Does x)) q (Some (Acts t (Does x))) h (λ un. (Acts t (Does x), refl, inl (ap (λ p. Acts p (Does x)) (sure front un)))) un
    behinds_keep c k q within (branch m x y u w v r s b f) h un =
        given L (Meets (last_point y (Then m)) (last_point u (Else m))) q (Some (Meets (last_point w (Then m)) (last_point v (Else m)))) h
        (λ un. (Meets (last_point w (Then m)) (last_point v (Else m)), refl, inl (ap (λ l. Meets l (last_point u (Else m))) (sure b (λ a. un (inl a))) ∙ ap (Meets (last_point w (Then m))) (sure f (λ a. un (inr a)))))) un
    behinds_keep c k q within (loop m x y u r s b a) h un =
        given L (Leaves x (leave_points y Body) (break_numbers y)) q (Some (Leaves x (leave_points u Body) (break_numbers u))) h
        (λ un. (Leaves x (leave_points u Body) (break_numbers u), refl, behind_change x y u (λ i. within i) a)) un
    behinds_keep c k q within (call m i j r s) h un = go (first_end (from e j)) (first_end (from d j)) (ends_alike (from e j) (from d j) (from_alike e d j all)) h
      where
        go : (x y : Option Point) → EndAlike x y → if_some x (λ l. Some (Returns p i.returning l)) ≡ Some q → Keeps L q (if_some y (λ l. Some (Returns t i.returning l)))
        go None y a h = absurd cc
        go (Some x) None a h = absurd a
        go (Some x) (Some y) a h =
            given L (Returns p i.returning x) q (Some (Returns t i.returning y)) h
            (λ un. (Returns t i.returning y, refl, inl (ap (λ p. Returns p i.returning x) (sure front (λ b. un (inl b))) ∙ ap (Returns t i.returning) (sure a (λ b. un (inr b)))))) un
    behinds_keep c k q within (break m r s) h un = given L (Acts p DoBreak) q (Some (Acts t DoBreak)) h (λ un. (Acts t DoBreak, refl, inl (ap (λ p. Acts p DoBreak) (sure front un)))) un

-- The procedures of the two programs.
module _ (n : ℕ) (made : Statement → Statements) (is : List ℕ) where
  abbrev changed : List Procedure → List Procedure
  changed = in_program n made

  changed_push : (es : List Procedure) (p : Procedure) → changed (es ++ p ∷ []) ≡ changed es ++ with_body p (in_block n made p.body) ∷ []
  changed_push [] p = refl
  changed_push (q ∷ es) p = ap (λ k. with_body q (in_block n made q.body) ∷ k) (changed_push es p)

  abbrev Both : List Procedure → Type 0
  Both es = AlikeAll n is (reverse (routines_of es)) (reverse (routines_of (changed es)))

  one_routine : (es : List Procedure) (p : Procedure) → ((k : ℕ) → Member k (inside n p.body) → Member k is) → AlikeRoutine n is (routine_of es p) (routine_of (changed es) (with_body p (in_block n made p.body)))
  one_routine es p i = record {
    layout = refl;
    ends = last_block n made (layout_in p) es p.body Entry Entry (inl refl);
    texts = found_more n (inside n p.body) is _ _ i (λ x m. m) _ (block_found n made (layout_in p) es p.body Entry Entry (inl refl));
    same = same_block n made (layout_in p) es p.body;
  }

  push : (es : List Procedure) (p : Procedure) → ((k : ℕ) → Member k (inside n p.body) → Member k is) → Both es → Both (es ++ p ∷ [])
  push es p i h =
      subst (λ rs. AlikeAll n is rs (reverse (routines_of (changed (es ++ p ∷ []))))) (sym (routines_push es p))
      (subst (λ ps. AlikeAll n is (routine_of es p ∷ reverse (routines_of es)) (reverse (routines_of ps))) (sym (changed_push es p))
      (subst (AlikeAll n is (routine_of es p ∷ reverse (routines_of es))) (sym (routines_push (changed es) (with_body p (in_block n made p.body))))
      (one_routine es p i, h)))

  all_from : (es ps : List Procedure) → ((k : ℕ) → Member k (inside_program n ps) → Member k is) → Both es → Both (es ++ ps)
  all_from es [] i h = subst Both (sym (append-nil es)) h
  all_from es (p ∷ ps) i h =
      subst Both (append_assoc es (p ∷ []) ps)
      (all_from (es ++ p ∷ []) ps (λ k m. i k (in_right (inside n p.body) m)) (push es p (λ k m. i k (in_left (inside_program n ps) m)) h))

module _ (n : ℕ) (made : Statement → Statements) (old : List Procedure) (fo : IsFine old) (fn : IsFine (in_program n made old)) where
  abbrev is : List ℕ
  is = inside_program n old

  abbrev rs : List Routine
  rs = reverse (routines_of old)

  abbrev ss : List Routine
  ss = reverse (routines_of (in_program n made old))

  alike : AlikeAll n is rs ss
  alike = all_from n made is [] old (λ k m. m) tt

  -- the equations of a statement
  at_statement : (kind : Flat → Option Equation) (m : ℕ) →
      ((u v : Flat) (q : Equation) → find m (flat rs) ≡ Some u → AlikeFlat n is u v → kind u ≡ Some q → (Names n q → ⊥) → Keeps n is (IsLoopChange rs m n) q (kind v)) →
      (q : Equation) → if_some (find m (flat rs)) kind ≡ Some q → (Contains is m → ⊥) → (Names n q → ⊥) → Keeps n is (IsLoopChange rs m n) q (if_some (find m (flat ss)) kind)
  at_statement kind m keep q h outside un =
      let u = then_some (find m (flat rs)) kind q h in
      go u.0 u.1 u.2 ((flat_alike n is rs ss alike).at (m, u.0) (found_member m u.0 (flat rs) u.1))
    where
      go : (u : Flat) → find m (flat rs) ≡ Some u → kind u ≡ Some q → FlatOr n is ss (m, u) → Keeps n is (IsLoopChange rs m n) q (if_some (find m (flat ss)) kind)
      go u is_there k (inl f) =
          let there = found (m, f.other) (flat ss) (flat_once (routines_of (in_program n made old)) fn.fit) f.there_is in
          subst (Keeps n is (IsLoopChange rs m n) q) (ap (λ o. if_some o kind) (sym there)) (keep u f.other q is_there f.alike k un)
      go u is_there k (inr i) = absurd (outside (contains_of m is i))

  same_thresholds : (w : Widening) (m : ℕ) (u v : Flat) → find m (flat rs) ≡ Some u → SameOr n u.routine.code v.routine.code → (thresholds w u.routine ≡ thresholds w v.routine) ⊎ IsInProcedureOf rs m n
  same_thresholds w m u v h (inl e) = inl (ap (λ c. if w.thresholds then thresholds_of (literals c) else []) e)
  same_thresholds w m u v h (inr i) = inr (u, h, contains_of n (code_numbers u.routine.code) i)

  keep_at : (engine : LoopOptions) (a : FlowPoint) (q : Equation) → equation engine rs a ≡ Some q → (Contains is (statement_of a) → ⊥) → (Names n q → ⊥) → Keeps n is (IsLoopChange rs (statement_of a) n) q (equation engine ss a)
  keep_at engine Start q h outside un =
      given n is (IsLoopChange rs 0 n) (Begins (main_layout rs)) q (Some (Begins (main_layout ss))) h (λ _. (Begins (main_layout ss), refl, inl (ap Begins (layouts n is rs ss alike)))) un
  keep_at engine (Called m) q h outside un =
      at_statement (λ u. call_equation u.earlier u.text.front u.text.code) m
      (λ u v q there f k. calls_keep n is rs m u.earlier v.earlier f.earlier u.text.front v.text.front f.front u.text.code v.text.code q f.code k) q h outside un
  keep_at engine (InThen m) q h outside un =
      at_statement (λ u. branch_equation u.text.front u.text.code) m
      (λ u v q there f k. branches_keep n is rs m u.earlier v.earlier f.earlier u.text.front v.text.front f.front u.text.code v.text.code q f.code k) q h outside un
  keep_at engine (InElse m) q h outside un =
      at_statement (λ u. branch_equation u.text.front u.text.code) m
      (λ u v q there f k. branches_keep n is rs m u.earlier v.earlier f.earlier u.text.front v.text.front f.front u.text.code v.text.code q f.code k) q h outside un
  keep_at engine (Head m) q h outside un =
      at_statement (λ u. head_equation (thresholds engine.widening u.routine) u.text.front u.text.code) m
      (λ u v q there f k. heads_keep n is rs m u.earlier v.earlier f.earlier u.text.front v.text.front f.front (thresholds engine.widening u.routine) (thresholds engine.widening v.routine) (same_thresholds engine.widening m u v there f.same) u.text.code v.text.code q f.code k) q h outside un
  keep_at engine (Behind m) q h outside un =
      at_statement (λ u. behind_equation u.earlier u.text.front u.text.code) m
      (λ u v q there f k. behinds_keep n is rs m u.earlier v.earlier f.earlier u.text.front v.text.front f.front u.text.code v.text.code q (λ i. (u, there, contains_of n (code_numbers (loop_body u.text.code)) i)) f.code k) q h outside un

pub others-keep : OthersKeepEquations
others-keep engine n made old a q fo fn h outside un = keep_at n made old fo fn engine a q h outside un
