-- The names with their rows are a table, and the batch interpreter's values solve it.
use Rattle.std.proofs.Common.{◌≡◌, ℕ, zero, suc, ◌+◌, ◌<◌, ◌≤◌, List, [], ◌∷◌, ◌++◌, length, map, Option, Some, None, Bool, true, false, if◌then◌else◌, refl, sym, ap, ◌∙◌, subst, arith, nat_lt, length-append, append_assoc, append-nil}
use Rattle.imp_slots.specs.Plain.{Routine}
use Rattle.domain_laws.specs.Operations.{Operations}
use Rattle.batch_meaning.specs.Values.{Value, State, Over, lift, lift2}
use Rattle.batch_meaning.specs.Batch.{LoopOptions, next_of, settle, iterate, fix}
use Rattle.batch_meaning.specs.Places.{main_layout}
use Rattle.cell_names.specs.declared.frame.NameFrame.{NameFrame}
use Rattle.cell_names.specs.declared.frame.NameFrame.TheVariants.{InLoop}
use Rattle.cell_names.specs.declared.frame.Point.{Point}
use Rattle.cell_names.specs.Paths.{CellName}
use Rattle.daig_order.specs.Asking.{Rows, AreRows, gather, value_of, inputs_of}
use Rattle.daig_order.proofs.AskingProofs.{gather-none, gather-some}
use Rattle.cell_rows.specs.Blocks.{iterate_at}
use Rattle.cell_rows.specs.Names.{IsSame, name, Mark, AllFine, bare, iterate_point}
use Rattle.cell_rows.specs.Rows.{Unary, Binary, Row, Init, One, Two, Fixed as FixedRow, Joins}
use Rattle.cell_rows.specs.Cells.{Cell, cell, plain, values, unary, binary, again, wants, wants_at, wants_first, ends, ends_at, ends_first, right_of, asks_row, index_if, operation_row, most_row, by_row, rank_of, value_of_mark, value_of_name, rank_of_name, row_of_name, table, nothing}
use Rattle.std.specs.Option.{option_map}
use Rattle.cell_rows.proofs.Bare.{row_bare, mark_bare, bare_mark}
use Rattle.cell_rows.proofs.Unique.{All, Solves, unique}
use Rattle.cell_rows.proofs.BatchTie.{next_iterate}
use Rattle.cell_rows.proofs.Tied.{at, Below, Ones, Twos, Fixes, Joined, Holds, Tied, neither, both, tied}
use Rattle.std.proofs.lemmas.Option.{same_Some, cond_some}
use Rattle.base_values.proofs.Cases.{less_test, less_of}

module _ {S : Type 0} (dom : Operations S) (engine : LoopOptions) (program : List Routine) (all : AllFine program) where
  abbrev pub M : Type 0
  M = Mark (Cell S)

  abbrev N : ℕ
  N = engine.budget

  abbrev pub mark_at_name : CellName → Option M
  mark_at_name = at dom engine program all

  abbrev f : CellName → Cell S
  f = value_of_name dom engine program

  abbrev rank : CellName → ℕ
  rank = rank_of_name dom engine program

  -- The names that the program has.
  abbrev pub HasName : CellName → Type 0
  HasName x = (m : M) × (mark_at_name x ≡ Some m)

  -- Another iterate is wanted only while the budget lasts.
  wants_few : (left : ℕ) (s : S) (vs : List (Cell S)) → wants dom engine left s vs ≡ true → length vs < left
  wants_few zero s vs h = absurd cc
  wants_few (suc left) s [] h = omega arith
  wants_few (suc left) s (v ∷ vs) h = go v.value (λ t. wants_few left t vs) h
    where
      chosen : (b : Bool) (t : S) → (wants dom engine left t vs ≡ true → length vs < left) → (if b then false else wants dom engine left t vs) ≡ true → length (v ∷ vs) < suc left
      chosen true t f h = absurd cc
      chosen false t f h = let l = f h in omega arith

      go : (u : Value S) → ((t : S) → wants dom engine left t vs ≡ true → length vs < left) → again dom engine s u (λ t. wants dom engine left t vs) ≡ true → length (v ∷ vs) < suc left
      go (Over n z) f h = absurd cc
      go (State t) f h = chosen (dom.same t s) t (f t) h

  pub wants_within : (vs : List (Cell S)) → wants_first dom engine vs ≡ true → length vs ≤ N
  wants_within [] h = omega arith
  wants_within (v ∷ vs) h = go v.value h
    where
      go : (u : Value S) → wants_at dom engine u vs ≡ true → length (v ∷ vs) ≤ N
      go (Over n z) h = absurd cc
      go (State s) h = let l = wants_few N s vs h in omega arith

  abbrev asks_of : List (Cell S) → Option Row → Option CellName
  asks_of vs o = by_row dom engine o None (λ r. asks_row dom engine r vs)

  rank_same : (x : CellName) → rank x ≡ rank_of dom engine (mark_at_name x)
  rank_same x = ap (rank_of dom engine) (mark_bare engine (values dom engine (main_layout program)) program x) ∙ go (mark_at_name x)
    where
      go : (o : Option M) → rank_of dom engine (option_map bare_mark o) ≡ rank_of dom engine o
      go None = refl
      go (Some m) = refl

  pub tie : (x : CellName) → Tied dom engine program all (row_of_name dom engine program x) (mark_at_name x)
  tie x = subst (λ (o : Option Row). Tied dom engine program all o (mark_at_name x)) (sym (row_bare engine (values dom engine (main_layout program)) program x.path x.point)) (tied dom engine program all x.path x.point)

  below_rank : (a y : CellName) (x m : M) → Below dom engine program all a x m → a ≡ y → rank y < m.rank
  below_rank a y x m b e = subst (λ q. rank q < m.rank) e (subst (λ k. k < m.rank) (sym (rank_same a)) (subst (λ (o : Option M). rank_of dom engine o < m.rank) (sym b.is) b.lower))

  lower : (r : Row) (m : M) (vs : List (Cell S)) (y : CellName) → Holds dom engine program all r m → asks_row dom engine r vs ≡ Some y → rank y < m.rank
  lower (Init layout) m vs y h e = absurd cc
  lower (One op a) m [] y h e = below_rank a y h.x m h.below (same_Some _ _ e)
  lower (One op a) m (v ∷ vs) y h e = absurd cc
  lower (Two op a b) m [] y h e = below_rank a y h.x m h.below (same_Some _ _ e)
  lower (Two op a b) m (v ∷ []) y h e = below_rank b y h.y m h.below_too (same_Some _ _ e)
  lower (Two op a b) m (v ∷ u ∷ vs) y h e = absurd cc
  lower (FixedRow n z w p) m vs y h e =
      let i = cond_some (wants_first dom engine vs) (name w (iterate_point engine bare n p (length vs))) y e in
      let x = h.iterates (length vs) (wants_within vs i.0) in
      below_rank _ y x.0 m x.1 i.1
  lower (Joins stays l n w p) m [] y h e = below_rank l y h.left m h.below (same_Some _ _ e)
  lower (Joins stays l n w p) m (v ∷ []) y h e = go v.value e
    where
      go : (u : Value S) → right_of dom engine n w p u v.index ≡ Some y → rank y < m.rank
      go (Over j z) e = absurd cc
      go (State s) e =
          let i = cond_some (nat_lt v.index N) (name (InLoop n v.index ∷ w) p) y e in
          let x = h.rounds v.index (less_of v.index N i.0) in
          below_rank _ y x.0 m x.1 i.1
  lower (Joins stays l n w p) m (v ∷ u ∷ vs) y h e = absurd cc

  pub enough : (r : Row) (vs : List (Cell S)) → most_row dom engine r ≤ length vs → asks_row dom engine r vs ≡ None
  enough (Init layout) vs h = refl
  enough (One op a) [] h = absurd (omega arith)
  enough (One op a) (v ∷ vs) h = refl
  enough (Two op a b) [] h = absurd (omega arith)
  enough (Two op a b) (v ∷ []) h = absurd (omega arith)
  enough (Two op a b) (v ∷ u ∷ vs) h = refl
  enough (FixedRow n z w p) vs h = go (wants_first dom engine vs) refl
    where
      go : (b : Bool) → wants_first dom engine vs ≡ b → (if b then Some (name w (iterate_point engine bare n p (length vs))) else None) ≡ None
      go true e = let l = wants_within vs e in absurd (omega arith)
      go false e = refl
  enough (Joins stays l n w p) [] h = absurd (omega arith)
  enough (Joins stays l n w p) (v ∷ []) h = absurd (omega arith)
  enough (Joins stays l n w p) (v ∷ u ∷ vs) h = refl

  pub by_tie : {X : Type 0} (o : Option Row) (q : Option M) → Tied dom engine program all o q → (o ≡ None → q ≡ None → X) → ((r : Row) (m : M) → o ≡ Some r → q ≡ Some m → Holds dom engine program all r m → X) → X
  by_tie o q neither g h = g refl refl
  by_tie o q (both r m k) g h = h r m refl refl k

  module _ (same : CellName → CellName → Bool) (is : IsSame same) where
    abbrev pub T : Rows CellName (Cell S)
    T = table dom engine program same

    falls : (x y : CellName) (vs : List (Cell S)) → T.asks x vs ≡ Some y → T.rank y < T.rank x
    falls x y vs e =
        by_tie (row_of_name dom engine program x) (mark_at_name x) (tie x)
        (λ a b. let k : asks_of vs None ≡ Some y = subst (λ (o : Option Row). asks_of vs o ≡ Some y) a e in absurd cc)
        (λ r m a b h.
        let k = subst (λ (o : Option Row). asks_of vs o ≡ Some y) a e in
        subst (λ j. rank y < j) (sym (rank_same x)) (subst (λ (o : Option M). rank y < rank_of dom engine o) (sym b) (lower r m vs y h k)))

    ends_there : (x : CellName) (vs : List (Cell S)) → T.most x ≤ length vs → T.asks x vs ≡ None
    ends_there x vs h = go (row_of_name dom engine program x) h
      where
        go : (o : Option Row) → by_row dom engine o 0 (most_row dom engine) ≤ length vs → asks_of vs o ≡ None
        go None h = refl
        go (Some r) h = enough r vs h

    pub is_table : AreRows T
    is_table = record { same_true = is.same_true; same_refl = is.same_refl; falls = falls; ends = ends_there }

  has_mark : (a : CellName) (x m : M) → Below dom engine program all a x m → HasName a
  has_mark a x m b = (x, b.is)

  value_at_mark : (a : CellName) (x : M) → mark_at_name a ≡ Some x → f a ≡ x.value
  value_at_mark a x e = ap (value_of_mark dom engine) e

  -- What a row's inputs are, and that they give its value.
  pub record Solved (r : Row) (v : Cell S) (xs : List CellName) : Type 0 where
    pub value : v ≡ operation_row dom engine r (map f xs)
    pub names : All HasName xs

  abbrev inputs : Row → ℕ → List (Cell S) → List CellName
  inputs r k vs = gather f (asks_row dom engine r) k vs

  none_more : (r : Row) (k : ℕ) (vs : List (Cell S)) → asks_row dom engine r vs ≡ None → inputs r k vs ≡ []
  none_more r k vs e = gather-none f (asks_row dom engine r) k vs e

  one_more : (r : Row) (k : ℕ) (vs : List (Cell S)) (y : CellName) → asks_row dom engine r vs ≡ Some y → inputs r (suc k) vs ≡ y ∷ inputs r k (vs ++ f y ∷ [])
  one_more r k vs y e = gather-some f (asks_row dom engine r) k vs y e

  solve_one : (op : Unary) (a : CellName) (m : M) → Ones dom engine program all op a m → Solved (One op a) m.value (inputs (One op a) 1 [])
  solve_one op a m h =
      let e = one_more (One op a) 0 [] a refl ∙ ap (λ xs. a ∷ xs) (none_more (One op a) 0 (f a ∷ []) refl) in
      subst (Solved (One op a) m.value) (sym e) (record { value = h.value ∙ ap (unary dom engine op) (sym (value_at_mark a h.x h.below.is)); names = (has_mark a h.x m h.below, tt) })

  solve_two : (op : Binary) (a b : CellName) (m : M) → Twos dom engine program all op a b m → Solved (Two op a b) m.value (inputs (Two op a b) 2 [])
  solve_two op a b m h =
      let r = Two op a b in
      let e = one_more r 1 [] a refl ∙ ap (λ xs. a ∷ xs) (one_more r 0 (f a ∷ []) b refl ∙ ap (λ xs. b ∷ xs) (none_more r 0 (f a ∷ f b ∷ []) refl)) in
      subst (Solved r m.value) (sym e) (record {
        value = h.value ∙ ap (λ v. binary dom engine op v h.y.value) (sym (value_at_mark a h.x h.below.is)) ∙ ap (binary dom engine op (f a)) (sym (value_at_mark b h.y h.below_too.is));
        names = (has_mark a h.x m h.below, (has_mark b h.y m h.below_too, tt));
      })

  solve_joins : (stays : Bool) (l : CellName) (n : ℕ) (w : List NameFrame) (p : Point) (m : M) → Joined dom engine program all stays l n w p m → Solved (Joins stays l n w p) m.value (inputs (Joins stays l n w p) 2 [])
  solve_joins stays l n w p m h = go h.left.value.value refl
    where
      r : Row
      r = Joins stays l n w p

      el : f l ≡ h.left.value
      el = value_at_mark l h.left h.below.is

      go : (v : Value S) → h.left.value.value ≡ v → Solved r m.value (inputs r 2 [])
      go (Over j z) i =
          let none : asks_row dom engine r (f l ∷ []) ≡ None = ap (λ (c : Cell S). right_of dom engine n w p c.value c.index) el ∙ ap (λ v. right_of dom engine n w p v h.left.value.index) i in
          let e = one_more r 1 [] l refl ∙ ap (λ xs. l ∷ xs) (none_more r 1 (f l ∷ []) none) in
          subst (Solved r m.value) (sym e) (record {
            value = h.over j z i ∙ ap (λ (c : Cell S). cell c.value (index_if dom engine stays c.index)) (sym el);
            names = (has_mark l h.left m h.below, tt);
          })
      go (State s) i =
          let k = h.left.value.index in
          let low = h.index s i in
          let x = h.rounds k low in
          let y = name (InLoop n k ∷ w) p in
          let some : asks_row dom engine r (f l ∷ []) ≡ Some y =
          ap (λ (c : Cell S). right_of dom engine n w p c.value c.index) el ∙ ap (λ v. right_of dom engine n w p v k) i ∙ ap (λ (t : Bool). if t then Some y else None) (less_test k N low) in
          let e = one_more r 1 [] l refl ∙ ap (λ xs. l ∷ xs) (one_more r 0 (f l ∷ []) y some ∙ ap (λ xs. y ∷ xs) (none_more r 0 (f l ∷ f y ∷ []) refl)) in
          let ey = value_at_mark y x.0 x.1.is in
          subst (Solved r m.value) (sym e) (record {
            value = x.2 s i refl
                ∙ ap (λ (c : Cell S). cell (lift2 dom.join c.value x.0.value.value) (index_if dom engine stays c.index)) (sym el)
                ∙ ap (λ (c : Cell S). cell (lift2 dom.join (f l).value c.value) (index_if dom engine stays (f l).index)) (sym ey);
            names = (has_mark l h.left m h.below, (has_mark y x.0 m x.1, tt));
          })

  -- A loop's fixed point, by its iterates.
  module _ (n : ℕ) (z : List ℕ) (w : List NameFrame) (p : Point) (m : M) (h : Fixes dom engine program all n z w p m) where
    abbrev r : Row
    r = FixedRow n z w p

    abbrev over : Value S
    over = Over n z

    abbrev iterate_name : ℕ → CellName
    iterate_name k = name w (iterate_point engine bare n p k)

    record Read (before : List (Cell S)) (c : Cell S) (xs : List CellName) : Type 0 where
      value : ends_first dom engine over (before ++ map f xs) ≡ c
      names : All HasName xs

    asked : (vs : List (Cell S)) (b : Bool) → wants_first dom engine vs ≡ b → asks_row dom engine r vs ≡ (if b then Some (iterate_name (length vs)) else None)
    asked vs b e = ap (λ (t : Bool). if t then Some (iterate_name (length vs)) else None) e

    stop : (fuel : ℕ) (before : List (Cell S)) (c : Cell S) → wants_first dom engine before ≡ false → ends_first dom engine over before ≡ c → Read before c (inputs r fuel before)
    stop fuel before c e v =
        subst (Read before c) (sym (none_more r fuel before (asked before false e)))
        (record { value = ap (ends_first dom engine over) (append-nil before) ∙ v; names = tt })

    -- one more iterate was read
    read_more : (before : List (Cell S)) (y : CellName) (d : Cell S) (xs : List CellName) → HasName y → Read (before ++ f y ∷ []) d xs → Read before d (y ∷ xs)
    read_more before y d xs g q = record { value = ap (ends_first dom engine over) (sym (append_assoc before (f y ∷ []) (map f xs))) ∙ q.value; names = (g, q.names) }

    step : (left k fuel : ℕ) (before : List (Cell S)) (s : S) (c : Cell S) →
        ((us : List (Cell S)) → wants_first dom engine (before ++ us) ≡ wants dom engine (suc left) s us) →
        ((us : List (Cell S)) → ends_first dom engine over (before ++ us) ≡ ends dom engine over (suc left) k s us) →
        ((t : S) → c.value ≡ State t → dom.same t s ≡ false → Read (before ++ c ∷ []) (iterate dom engine h.thresholds_of h.body over left (suc k) t) (inputs r fuel (before ++ c ∷ []))) →
        (u : Value S) → c.value ≡ u → Read (before ++ c ∷ []) (settle dom engine k s u (iterate dom engine h.thresholds_of h.body over left (suc k))) (inputs r fuel (before ++ c ∷ []))
    step left k fuel before s c wf ef rec (Over j q) i =
        stop fuel (before ++ c ∷ []) (plain (Over j q))
        (wf (c ∷ []) ∙ ap (λ v. again dom engine s v (λ t. wants dom engine left t [])) i)
        (ef (c ∷ []) ∙ ap (λ v. settle dom engine k s v (λ t. ends dom engine over left (suc k) t [])) i)
    step left k fuel before s c wf ef rec (State t) i = go (dom.same t s) refl
      where
        go : (b : Bool) → dom.same t s ≡ b → Read (before ++ c ∷ []) (if b then cell (State s) k else iterate dom engine h.thresholds_of h.body over left (suc k) t) (inputs r fuel (before ++ c ∷ []))
        go true b =
            stop fuel (before ++ c ∷ []) (cell (State s) k)
            (wf (c ∷ []) ∙ ap (λ v. again dom engine s v (λ t. wants dom engine left t [])) i ∙ ap (λ (q : Bool). if q then false else wants dom engine left t []) b)
            (ef (c ∷ []) ∙ ap (λ v. settle dom engine k s v (λ t. ends dom engine over left (suc k) t [])) i ∙ ap (λ (q : Bool). if q then cell (State s) k else ends dom engine over left (suc k) t []) b)
        go false b = rec t i b

    reading : (left k : ℕ) (before : List (Cell S)) (s : S) (fuel : ℕ) → left ≤ fuel → length before ≡ suc k → k + left ≡ N → iterate_at dom engine h.thresholds_of h.body h.start k ≡ State s →
        ((us : List (Cell S)) → wants_first dom engine (before ++ us) ≡ wants dom engine left s us) →
        ((us : List (Cell S)) → ends_first dom engine over (before ++ us) ≡ ends dom engine over left k s us) →
        Read before (iterate dom engine h.thresholds_of h.body over left k s) (inputs r fuel before)
    reading zero k before s fuel le len sum at wf ef =
        stop fuel before (plain over) (ap (wants_first dom engine) (sym (append-nil before)) ∙ wf []) (ap (ends_first dom engine over) (sym (append-nil before)) ∙ ef [])
    reading (suc left) k before s zero le len sum at wf ef = absurd (omega arith)
    reading (suc left) k before s (suc fuel) le len sum at wf ef =
        let wanted : wants_first dom engine before ≡ true = ap (wants_first dom engine) (sym (append-nil before)) ∙ wf [] in
        let y = iterate_name (length before) in
        let x = h.iterates (length before) (omega arith) in
        let c = f y in
        let v : c.value ≡ lift (next_of dom engine h.thresholds_of k s) (h.body (State s)) =
        ap (λ (q : Cell S). q.value) (value_at_mark y x.0 x.1.is) ∙ x.2 ∙ ap (iterate_at dom engine h.thresholds_of h.body h.start) len ∙ next_iterate dom engine h.thresholds_of h.body h.start k s at in
        let more : length (before ++ c ∷ []) ≡ suc (suc k) = omega (arith, length-append before (c ∷ [])) in
        let rec = λ (t : S) (i : c.value ≡ State t) (b : dom.same t s ≡ false).
        reading left (suc k) (before ++ c ∷ []) t fuel (omega arith) more (omega arith) (next_iterate dom engine h.thresholds_of h.body h.start k s at ∙ sym v ∙ i)
        (λ us. ap (wants_first dom engine) (append_assoc before (c ∷ []) us) ∙ wf (c ∷ us) ∙ ap (λ v. again dom engine s v (λ t. wants dom engine left t us)) i ∙ ap (λ (q : Bool). if q then false else wants dom engine left t us) b)
        (λ us. ap (ends_first dom engine over) (append_assoc before (c ∷ []) us) ∙ ef (c ∷ us) ∙ ap (λ v. settle dom engine k s v (λ t. ends dom engine over left (suc k) t us)) i ∙ ap (λ (q : Bool). if q then cell (State s) k else ends dom engine over left (suc k) t us) b) in
        subst (Read before (iterate dom engine h.thresholds_of h.body over (suc left) k s)) (sym (one_more r fuel before y (asked before true wanted)))
        (read_more before y _ _ (has_mark y x.0 m x.1) (step left k fuel before s c wf ef rec (lift (next_of dom engine h.thresholds_of k s) (h.body (State s))) v))

    solve_fixed : Solved r m.value (inputs r (suc N) [])
    solve_fixed =
        let y = iterate_name 0 in
        let x = h.iterates 0 (omega arith) in
        let c = f y in
        let v : c.value ≡ h.start = ap (λ (q : Cell S). q.value) (value_at_mark y x.0 x.1.is) ∙ x.2 in
        let q = go c h.start refl v in
        let t = read_more [] y _ _ (has_mark y x.0 m x.1) q in
        subst (Solved r m.value) (sym (one_more r N [] y refl)) (record { value = h.value ∙ sym t.value; names = t.names })
      where
        go : (c : Cell S) (u : Value S) → h.start ≡ u → c.value ≡ u → Read (c ∷ []) (fix dom engine h.thresholds_of h.body over u) (inputs r N (c ∷ []))
        go c (Over a b) e i =
            stop N (c ∷ []) (plain (Over a b)) (ap (λ v. wants_at dom engine v []) i) (ap (λ v. ends_at dom engine over v []) i)
        go c (State s) e i =
            reading N 0 (c ∷ []) s N (omega arith) refl (omega arith) e (λ us. ap (λ v. wants_at dom engine v us) i) (λ us. ap (λ v. ends_at dom engine over v us) i)

  solved : (r : Row) (m : M) → Holds dom engine program all r m → Solved r m.value (inputs r (most_row dom engine r) [])
  solved (Init layout) m h = subst (Solved (Init layout) m.value) (sym (none_more (Init layout) 0 [] refl)) (record { value = h; names = tt })
  solved (One op a) m h = solve_one op a m h
  solved (Two op a b) m h = solve_two op a b m h
  solved (FixedRow n z w p) m h = solve_fixed n z w p m h
  solved (Joins stays l n w p) m h = solve_joins stays l n w p m h

  module _ (same : CellName → CellName → Bool) (is : IsSame same) where
    abbrev row_value : Option Row → List (Cell S) → Cell S
    row_value o vs = by_row dom engine o (nothing dom engine) (λ r. operation_row dom engine r vs)

    abbrev row_inputs : Option Row → List CellName
    row_inputs o = gather f (λ vs. asks_of vs o) (by_row dom engine o 0 (most_row dom engine)) []

    record Answers (o : Option Row) (v : Cell S) : Type 0 where
      value : v ≡ row_value o (map f (row_inputs o))
      names : All HasName (row_inputs o)

    answers : (x : CellName) → HasName x → Answers (row_of_name dom engine program x) (f x)
    answers x p =
        by_tie (row_of_name dom engine program x) (mark_at_name x) (tie x)
        (λ a b. let e = sym b ∙ p.1 in absurd cc)
        (λ r m a b h.
        let s = solved r m h in
        subst (λ o. Answers o (f x)) (sym a) (record { value = value_at_mark x m b ∙ s.value; names = s.names }))

    -- The batch interpreter's values solve the table, and a name's inputs are names of the program.
    pub solves : Solves (table dom engine program same) f HasName
    solves = record { value = λ x p. (answers x p).value; down = λ x p. (answers x p).names }

    -- The value that a demand computes at each name is the batch interpreter's.
    pub values_agree : (x : CellName) → HasName x → value_of (table dom engine program same) x ≡ value_of_name dom engine program x
    values_agree x p = (unique (table dom engine program same) f HasName (is_table same is) solves x p).1

    -- and its inputs are names of the program
    pub inputs_agree : (x : CellName) → HasName x → inputs_of (table dom engine program same) x ≡ row_inputs (row_of_name dom engine program x)
    inputs_agree x p = (unique (table dom engine program same) f HasName (is_table same is) solves x p).0
