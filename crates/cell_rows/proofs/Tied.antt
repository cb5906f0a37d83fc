-- Each name's value is its row's operation over its inputs' values, and its inputs have lower ranks.
use Rattle.std.proofs.Common.{ℤ, ◌≡◌, ℕ, zero, suc, ◌+◌, ◌*◌, ◌<◌, ◌≤◌, List, [], ◌∷◌, length, Option, Some, None, Bool, true, false, if◌then◌else◌, refl, sym, ap, ◌∙◌, subst, inr, arith, nat_lt, slice_get}
use Rattle.std.proofs.Math.Nat.{suc-mul, mul-le-mul_right}
use Rattle.std.specs.Option.{option_map}
use Rattle.std.proofs.lemmas.Option.{slice_get-map}
use Rattle.imp_slots.specs.Plain.{Guard, Invoke, Code, Stop, Simple, If, While, Call, Break, Routine}
use Rattle.domain_laws.specs.Operations.{Operations}
use Rattle.batch_meaning.specs.Values.{Value, State, Over, lift, lift2}
use Rattle.batch_meaning.specs.Batch.{LoopOptions, next_of, fix, joined, head_of, behind, procedure}
use Rattle.batch_meaning.specs.Places.{find, if_some, from, main_layout}
use Rattle.cell_names.specs.declared.frame.NameFrame.{NameFrame}
use Rattle.cell_names.specs.declared.frame.NameFrame.TheVariants.{InCall, InLoop}
use Rattle.cell_names.specs.declared.frame.Point.{Point}
use Rattle.cell_names.specs.declared.frame.Point.TheVariants.{Entry, Then, Else, Body, Post, Iterate, Fix, Exit, Leap}
use Rattle.cell_names.specs.Paths.{CellName}
use Rattle.batch_meaning.proofs.Procedures.{procedure_from}
use Rattle.base_values.proofs.Members.{Member}
use Rattle.batch_meaning.proofs.Places.{found_member}
use Rattle.cell_rows.specs.Blocks.{iterate_at}
use Rattle.cell_rows.specs.Names.{Scope, scope_of, name, Mark, mark, At, Algebra, PathBlock, number, breaks, break_numbers, place_of, item, span, body_span, behind_it, inside, level_of, last, leaves, AllFine, start_of, in_call, in_loop, iterate_point, iterate_mark, round_place, statement, follow, when, branch_mark, post_mark, next_mark, fix_of, fix_mark, exit_of, exit_mark, leap_of, leap_mark, mark_at, mark_of, is_entry}
use Rattle.cell_rows.specs.Rows as R
use Rattle.cell_rows.specs.Rows.{next_operation, Unary, Assumes, Enters, Exits, Binary, JoinsBoth, Leaves, Widens, Row, Init, One, Two, Fixed as FixedRow, Joins, last_point, leave_points, joined_point, branch_row, post_row, next_row, fix_row, exit_row, leap_row, joins_row, loop_row, row_at, row}
use Rattle.cell_rows.specs.Cells.{Cell, cell, plain, with_one, joined_to, block, values, unary, binary, index_if, one_round, fix_value, leap_value}
use Rattle.cell_rows.proofs.Levels.{Known, branch, known_before, known_last, known_leaves, known_more, known_rank, keyed, last_is, leaves_are, point_of}
use Rattle.cell_rows.proofs.Lookup.{Fine, Stands, part_of, stated, fine, at_known, from_some}
use Rattle.cell_rows.proofs.Checked.{distinct_part, break_part}
use Rattle.cell_rows.proofs.BatchTie.{breaks_points, breaks_numbers, place_is, span_from, subs, fix_index, joined_all, last_value, leaves_value, value_of, got, leaving_count, with_over, state_of}
use Rattle.base_values.proofs.Lists.{get_some}
use Rattle.base_values.proofs.Cases.{less_test, less_of}

pub mul_less : (k n t : ℕ) → k < n → k * t + t ≤ n * t
mul_less k zero t h = absurd (omega arith)
mul_less zero (suc n) t h = omega (arith, suc-mul n t)
mul_less (suc k) (suc n) t h = omega (arith, suc-mul k t, suc-mul n t, mul_less k n t (omega arith))

module _ {S : Type 0} (dom : Operations S) (engine : LoopOptions) (program : List Routine) (all : AllFine program) where
  abbrev N : ℕ
  N = engine.budget

  abbrev A : Algebra (Cell S)
  A = values dom engine (main_layout program)

  abbrev M : Type 0
  M = Mark (Cell S)

  abbrev P : Type 0
  P = PathBlock engine A

  abbrev pub at : CellName → Option M
  at = mark_of engine A program

  abbrev pub to : List NameFrame → Option P
  to = follow engine A program

  -- A name has this mark, below another one.
  pub record Below (a : CellName) (x m : M) : Type 0 where
    pub is : at a ≡ Some x
    pub lower : x.rank < m.rank

  pub record Ones (op : Unary) (a : CellName) (m : M) : Type 0 where
    pub x : M
    pub below : Below a x m
    pub value : m.value ≡ unary dom engine op x.value

  pub record Twos (op : Binary) (a b : CellName) (m : M) : Type 0 where
    pub x : M
    pub y : M
    pub below : Below a x m
    pub below_too : Below b y m
    pub value : m.value ≡ binary dom engine op x.value y.value

  pub record Fixes (n : ℕ) (z : List ℕ) (w : List NameFrame) (p : Point) (m : M) : Type 0 where
    pub thresholds_of : List ℤ
    pub body : Value S → Value S
    pub start : Value S
    pub iterates : (i : ℕ) → i ≤ N → (x : M) × Below (name w (iterate_point engine A n p i)) x m × (x.value.value ≡ iterate_at dom engine thresholds_of body start i)
    pub value : m.value ≡ fix dom engine thresholds_of body (Over n z) start

  pub record Joined (stays : Bool) (l : CellName) (n : ℕ) (w : List NameFrame) (p : Point) (m : M) : Type 0 where
    pub left : M
    pub below : Below l left m
    pub rounds : (k : ℕ) → k < N → (x : M) × Below (name (InLoop n k ∷ w) p) x m × ((s : S) → left.value.value ≡ State s → left.value.index ≡ k → m.value ≡ cell (lift2 dom.join left.value.value x.value.value) (index_if dom engine stays left.value.index))
    pub index : (s : S) → left.value.value ≡ State s → left.value.index < N
    pub over : (j : ℕ) (y : List ℕ) → left.value.value ≡ Over j y → m.value ≡ cell left.value.value (index_if dom engine stays left.value.index)

  abbrev pub Holds : Row → M → Type 0
  Holds (Init layout) m = m.value ≡ plain (State (dom.init layout))
  Holds (One op a) m = Ones op a m
  Holds (Two op a b) m = Twos op a b m
  Holds (FixedRow n z w p) m = Fixes n z w p m
  Holds (Joins stays l n w p) m = Joined stays l n w p m

  pub data Tied : Option Row → Option M → Type 0 where
    neither : Tied None None
    both : (r : Row) (m : M) → Holds r m → Tied (Some r) (Some m)

  -- A statement that a path leads to.
  pub record Led (w : List NameFrame) (b : P) (y : M) (d : Code) : Type 0 where
    pub leads : to w ≡ Some b
    pub fine : Fine engine A b
    pub stands : Stands engine A b y d

  tied_statement : (w : List NameFrame) (n : ℕ) (g : P → M → Code → Option Row) (h : P → M → Code → Option M) → ((b : P) (y : M) (d : Code) → Led w b y d → n ≡ number d → Tied (g b y d) (h b y d)) → Tied (statement engine A (to w) n g) (statement engine A (to w) n h)
  tied_statement w n g h f = go (to w) refl
    where
      inner : (b : P) → to w ≡ Some b → (q : Option (At (Cell S))) → find n (level_of engine A b) ≡ q → Tied (if_some q (λ x. g b x.before x.code)) (if_some q (λ x. h b x.before x.code))
      inner b e None i = neither
      inner b e (Some x) i =
          let m = found_member n x (level_of engine A b) i in
          let k : n ≡ number x.code = (keyed engine A b.scope b.sites b.code b.first).at (n, x) m in
          f b x.before x.code (record { leads = e; fine = fine engine A program all w b e; stands = record { there = subst (λ (j : ℕ). Member (j, x) (level_of engine A b)) k m } }) k

      go : (o : Option P) → to w ≡ o → Tied (statement engine A o n g) (statement engine A o n h)
      go None e = neither
      go (Some b) e = inner b e (find n (level_of engine A b)) refl

  known_input : (w : List NameFrame) (b : P) (y m : M) → to w ≡ Some b → Fine engine A b → Known engine A b.scope b.sites b.code b.first y → y.rank < m.rank → Below (name w y.point) y m
  known_input w b y m e f k l = record { is = ap (λ o. if_some o (λ b. mark_at engine A b y.point)) e ∙ at_known engine A b f y k; lower = l }

  stands_known : (w : List NameFrame) (b : P) (y : M) (d : Code) → Led w b y d → Known engine A b.scope b.sites b.code b.first y
  stands_known w b y d l = (known_before engine A b.scope b.sites b.code b.first).at _ l.stands.there

  front : (w : List NameFrame) (b : P) (y m : M) (d : Code) → Led w b y d → y.rank < m.rank → Below (name w y.point) y m
  front w b y m d l h = known_input w b y m l.leads l.fine (stands_known w b y d l) h

  pub led_to : {X : Type 0} (w : List NameFrame) (b : P) (y : M) (d : Code) → Led w b y d → (g : P → M → Code → Option X) → statement engine A (to w) (number d) g ≡ g b y d
  led_to w b y d l g = ap (λ o. statement engine A o (number d) g) l.leads ∙ stated engine A b y d l.fine l.stands g

  pub front_found : (w : List NameFrame) (b : P) (y : M) (d : Code) → Led w b y d → at (name w y.point) ≡ Some y
  front_found w b y d l = (front w b y (mark Entry (suc y.rank) y.value) d l (omega arith)).is

  pub first_end : (w : List NameFrame) (b : P) → to w ≡ Some b → b.first.point ≡ Entry → at (name w (last_point b.code Entry)) ≡ Some (last engine A b.scope b.sites b.code b.first)
  first_end w b e s =
      let u : M = last engine A b.scope b.sites b.code b.first in
      let k = known_input w b u (mark Entry (suc u.rank) u.value) e (fine engine A program all w b e) (known_last engine A b.scope b.sites b.code b.first) (omega arith) in
      subst (λ (p : Point). at (name w p) ≡ Some u) (last_is engine A b.scope b.sites b.code b.first ∙ ap (last_point b.code) s) k.is

  tied_branch : (h : Bool) (w : List NameFrame) (b : P) (y : M) (d : Code) → Led w b y d → Tied (branch_row engine A w h b y d) (branch_mark engine A h b y d)
  tied_branch h w b y Stop l = neither
  tied_branch h w b y (Simple n effect r) l = neither
  tied_branch h w b y (If n guard t e r) l = both _ _ (record { x = y; below = front w b y _ (If n guard t e r) l (omega arith); value = refl })
  tied_branch h w b y (While n guard body r) l = neither
  tied_branch h w b y (Call n call q r) l = neither
  tied_branch h w b y (Break n r) l = neither

  next_is : (ms : List ℤ) (k : ℕ) (x y : M) → plain (lift2 (next_of dom engine ms k) x.value.value y.value.value) ≡ binary dom engine (next_operation engine ms k) x.value y.value
  next_is ms k x y = go (nat_lt k engine.widening.delay)
    where
      go : (q : Bool) → plain (lift2 (λ s t. if q then dom.join s t else dom.widen ms s t) x.value.value y.value.value) ≡ binary dom engine (if q then JoinsBoth else Widens ms) x.value y.value
      go true = refl
      go false = refl

  -- The names of a loop.
  module _ (w : List NameFrame) (b : P) (n : ℕ) (guard : Guard) (body r : Code) (y : M) (l : Led w b y (While n guard body r)) where
    abbrev pub t : ℕ
    t = span engine (body_span engine b.scope) body + 2

    abbrev pub it : ℕ → M
    it k = iterate_mark engine A b n guard body k y

    abbrev pub turn : ℕ → P
    turn k = round_place engine A b n guard body k y

    pub iterate_found : (i : ℕ) → i ≤ N → at (name w (iterate_point engine A n y.point i)) ≡ Some (it i)
    iterate_found zero h =
        let e : y.rank ≡ y.rank + 0 * t = omega arith in
        (front w b y (mark Entry (suc y.rank) y.value) (While n guard body r) l (omega arith)).is ∙ ap (λ q. Some (mark y.point q y.value)) e
    iterate_found (suc k) h = led_to w b y (While n guard body r) l (next_mark engine A k) ∙ ap (λ q. when engine A q (it (suc k))) (less_test k N (omega arith))

    pub iterate_below : (i : ℕ) (m : M) → i ≤ N → y.rank + i * t < m.rank → Below (name w (iterate_point engine A n y.point i)) (it i) m
    iterate_below i m h k = record { is = iterate_found i h; lower = k }

    pub round_found : (k : ℕ) → k < N → to (InLoop n k ∷ w) ≡ Some (turn k)
    round_found k h = led_to w b y (While n guard body r) l (λ b. in_loop engine A b n k) ∙ ap (λ q. if q then Some (turn k) else None) (less_test k N h)

    round_fine : (k : ℕ) → Fine engine A (turn k)
    round_fine k = record { block = part_of engine A b y (While n guard body r) l.fine l.stands; procs = l.fine.procs; starts = inr refl }

    -- a mark of a round
    pub round_below : (k : ℕ) → k < N → (u m : M) → Known engine A b.scope b.sites body (turn k).first u → y.rank + k * t + t ≤ m.rank → Below (name (InLoop n k ∷ w) u.point) u m
    round_below k h u m q o =
        let i : u.rank ≤ suc (y.rank + k * t) + span engine (body_span engine b.scope) body = known_rank engine A b.scope b.sites body (turn k).first u q in
        known_input (InLoop n k ∷ w) (turn k) u m (round_found k h) (round_fine k) q (omega arith)

    abbrev pub end : ℕ → M
    end k = last engine A b.scope b.sites body (turn k).first

    pub end_below : (k : ℕ) → k < N → (m : M) → y.rank + k * t + t ≤ m.rank → Below (name (InLoop n k ∷ w) (last_point body Body)) (end k) m
    end_below k h m o = subst (λ (p : Point). Below (name (InLoop n k ∷ w) p) (end k) m) (last_is engine A b.scope b.sites body (turn k).first) (round_below k h (end k) m (known_last engine A b.scope b.sites body (turn k).first) o)

    pub iterate_is : (k : ℕ) → (it k).value.value ≡ iterate_at dom engine b.scope.thresholds (one_round dom engine b.scope b.sites guard body) y.value.value k
    iterate_is zero = refl
    iterate_is (suc k) = refl

    tied_next : (k : ℕ) → Tied (next_row engine A w k b y (While n guard body r)) (next_mark engine A k b y (While n guard body r))
    tied_next k = go (nat_lt k N) refl
      where
        go : (q : Bool) → nat_lt k N ≡ q → Tied (when engine A q (Two (next_operation engine b.scope.thresholds k) (name w (iterate_point engine A n y.point k)) (name (InLoop n k ∷ w) (last_point body Body)))) (when engine A q (it (suc k)))
        go false e = neither
        go true e =
            let h = less_of k N e in
            both _ _ (record {
              x = it k;
              y = end k;
              below = iterate_below k (it (suc k)) (omega arith) (omega (arith, suc-mul k t));
              below_too = end_below k h (it (suc k)) (omega (arith, suc-mul k t));
              value = ap plain (ap (λ v. lift2 (next_of dom engine b.scope.thresholds k) (iterate_at dom engine b.scope.thresholds (one_round dom engine b.scope b.sites guard body) y.value.value k) v)
                  (ap (λ v. (block dom engine b.scope b.sites body (lift (dom.assume guard true) v)).value) (sym (iterate_is k)) ∙ sym (last_value dom engine (main_layout program) b.scope b.sites body (turn k).first))
                  ∙ ap (λ v. lift2 (next_of dom engine b.scope.thresholds k) v (end k).value.value) (sym (iterate_is k))) ∙ next_is b.scope.thresholds k (it k) (end k);
            })

    abbrev pub fixed : M
    fixed = fix_of engine A b n guard body y

    tied_fix : Tied (fix_row engine A w b y (While n guard body r)) (fix_mark engine A b y (While n guard body r))
    tied_fix = both (FixedRow n b.sites w y.point) fixed (record {
      thresholds_of = b.scope.thresholds;
      body = one_round dom engine b.scope b.sites guard body;
      start = y.value.value;
      iterates = λ i h. (it i, iterate_below i fixed h (omega (arith, mul-le-mul_right t h)), iterate_is i);
      value = refl;
    })

    pub fix_found : at (name w (Fix n)) ≡ Some fixed
    fix_found = led_to w b y (While n guard body r) l (fix_mark engine A)

    fix_below : (m : M) → fixed.rank < m.rank → Below (name w (Fix n)) fixed m
    fix_below m h = record { is = led_to w b y (While n guard body r) l (fix_mark engine A); lower = h }

    tied_exit : Tied (exit_row engine A w b y (While n guard body r)) (exit_mark engine A b y (While n guard body r))
    tied_exit = go (nat_lt 0 (breaks body))
      where
        go : (q : Bool) → Tied (when engine A q (One (Exits guard) (name w (Fix n)))) (when engine A q (exit_of engine A b n guard body y))
        go false = neither
        go true = both _ _ (record { x = fixed; below = fix_below (exit_of engine A b n guard body y) (omega arith); value = refl })

    abbrev f : Cell S
    f = fix_value dom engine b.scope b.sites n guard body y.value

    abbrev without : Value S
    without = lift (dom.assume guard false) f.value

    abbrev leaving : List (Value S)
    leaving = (block dom engine b.scope b.sites body (lift (dom.assume guard true) f.value)).leaving

    -- the mark after the loop with its first i breaks
    abbrev pub joined_mark : ℕ → M
    joined_mark i = mark (joined_point n body i) (suc (fixed.rank + i)) (leap_value dom engine b.scope b.sites n guard body i y.value)

    joined_found : (i : ℕ) → i < breaks body → at (name w (joined_point n body i)) ≡ Some (joined_mark i)
    joined_found zero h =
        let e : suc fixed.rank ≡ suc (fixed.rank + 0) = omega arith in
        led_to w b y (While n guard body r) l (exit_mark engine A) ∙ ap (λ q. when engine A q (exit_of engine A b n guard body y)) (less_test 0 (breaks body) h)
        ∙ ap (λ q. Some (mark (Exit n) q (leap_value dom engine b.scope b.sites n guard body 0 y.value))) e
    joined_found (suc i) h =
        let k = item (break_numbers body) i in
        let e : suc (suc (fixed.rank + i)) ≡ suc (fixed.rank + suc i) = omega arith in
        let once = distinct_part (break_part body) (part_of engine A b y (While n guard body r) l.fine l.stands).once in
        let here : i < length (break_numbers body) = omega (arith, breaks_numbers body) in
        led_to w b y (While n guard body r) l (leap_mark engine A k)
        ∙ ap (λ o. if_some o (λ i. when engine A (nat_lt (suc i) (breaks body)) (leap_of engine A b n guard body k i y))) (place_is (break_numbers body) i once here)
        ∙ ap (λ q. when engine A q (leap_of engine A b n guard body k i y)) (less_test (suc i) (breaks body) h)
        ∙ ap (λ q. Some (mark (Leap n k) q (leap_value dom engine b.scope b.sites n guard body (suc i) y.value))) e

    abbrev outs : ℕ → List M
    outs k = leaves engine A b.scope b.sites body (turn k).first

    out_of : (k i : ℕ) (p : Point) → slice_get (leave_points body Body) i ≡ Some p → (u : M) × (slice_get (outs k) i ≡ Some u) × (u.point ≡ p) × Member u (outs k)
    out_of k i p e = got (point_of engine A b.scope b.sites) (outs k) i p (ap (λ xs. slice_get xs i) (leaves_are engine A b.scope b.sites body (turn k).first) ∙ e)

    out_value : (k i : ℕ) (u : M) (s : S) → slice_get (outs k) i ≡ Some u → f.value ≡ State s → f.index ≡ k → slice_get leaving i ≡ Some u.value.value
    out_value k i u s e g j =
        let x = fix_index dom engine b.scope.thresholds (one_round dom engine b.scope b.sites guard body) n b.sites y.value.value s g in
        let same : (it k).value.value ≡ f.value = iterate_is k ∙ ap (λ q. iterate_at dom engine b.scope.thresholds (one_round dom engine b.scope b.sites guard body) y.value.value q) (sym j) ∙ x.1 ∙ sym g in
        ap (λ v. slice_get (block dom engine b.scope b.sites body (lift (dom.assume guard true) v)).leaving i) (sym same)
        ∙ ap (λ xs. slice_get xs i) (sym (leaves_value dom engine (main_layout program) b.scope b.sites body (turn k).first))
        ∙ slice_get-map (value_of dom engine (main_layout program) b.scope b.sites) (outs k) i
        ∙ ap (option_map (value_of dom engine (main_layout program) b.scope b.sites)) e

    joins : (stays : Bool) (i : ℕ) (p : Point) (m : M) → i < breaks body → slice_get (leave_points body Body) i ≡ Some p → suc (fixed.rank + i) < m.rank → m.value ≡ cell (joined_to dom engine (suc i) without leaving) (index_if dom engine stays f.index) → Joined stays (name w (joined_point n body i)) n w p m
    joins stays i p m h e lower v = record {
      left = joined_mark i;
      below = record { is = joined_found i h; lower = lower };
      rounds = λ k hk.
          let u = out_of k i p e in
          let low : y.rank + k * t + t ≤ m.rank = omega (arith, mul_less k N t hk) in (
            u.0,
            subst (λ (q : Point). Below (name (InLoop n k ∷ w) q) u.0 m) u.2 (round_below k hk u.0 m ((known_leaves engine A b.scope b.sites body (turn k).first).at u.0 u.3) low),
            (λ s g j. let a = state_of dom engine (dom.assume guard false) i f.value leaving s g in v ∙ ap (λ o. cell (with_one dom engine (joined_to dom engine i without leaving) o) (index_if dom engine stays f.index)) (out_value k i u.0 a.0 u.1 a.1 j)),
          );
      index = λ s g. let a = state_of dom engine (dom.assume guard false) i f.value leaving s g in (fix_index dom engine b.scope.thresholds (one_round dom engine b.scope b.sites guard body) n b.sites y.value.value a.0 a.1).0;
      over = λ j x g. v ∙ ap (λ q. cell q (index_if dom engine stays f.index)) (ap (λ q. with_one dom engine q (slice_get leaving i)) g ∙ with_over dom engine j x (slice_get leaving i) ∙ sym g);
    }

    tied_joins : (stays : Bool) (i : ℕ) (m : M) → i < breaks body → suc (fixed.rank + i) < m.rank → m.value ≡ cell (joined_to dom engine (suc i) without leaving) (index_if dom engine stays f.index) → Tied (joins_row engine A w stays n body i) (Some m)
    tied_joins stays i m h lower v =
        let len : i < length (leave_points body Body) = rw (breaks_points body Body) h in
        let p = get_some (leave_points body Body) i len in
        subst (λ (o : Option Point). Tied (if_some o (λ p. Some (Joins stays (name w (joined_point n body i)) n w p))) (Some m)) (sym p.1) (both _ m (joins stays i p.0 m h p.1 lower v))

    tied_leap : (k : ℕ) → Tied (leap_row engine A w k b y (While n guard body r)) (leap_mark engine A k b y (While n guard body r))
    tied_leap k = placed (place_of k (break_numbers body))
      where
        go : (i : ℕ) (q : Bool) → nat_lt (suc i) (breaks body) ≡ q → Tied (if q then joins_row engine A w true n body i else None) (when engine A q (leap_of engine A b n guard body k i y))
        go i false e = neither
        go i true e =
            let h : suc i < breaks body = less_of (suc i) (breaks body) e in
            tied_joins true i (leap_of engine A b n guard body k i y) (omega arith) (omega arith) refl

        placed : (o : Option ℕ) → Tied (if_some o (λ i. if nat_lt (suc i) (breaks body) then joins_row engine A w true n body i else None)) (if_some o (λ i. when engine A (nat_lt (suc i) (breaks body)) (leap_of engine A b n guard body k i y)))
        placed None = neither
        placed (Some i) = go i (nat_lt (suc i) (breaks body)) refl

    behind_is : (after_it : M) → after_it.value ≡ plain (behind dom engine guard (block dom engine b.scope b.sites body) (head_of dom engine b.scope.thresholds b.sites n guard (block dom engine b.scope b.sites body) y.value.value).value) → after_it.value ≡ plain (joined dom engine without leaving)
    behind_is m e = e

    tied_behind : Tied (loop_row engine A w n guard body (breaks body)) (Some (behind_it engine A b.scope b.sites (While n guard body r) y))
    tied_behind = go (breaks body) refl
      where
        m : M
        m = behind_it engine A b.scope b.sites (While n guard body r) y

        count : length leaving ≡ breaks body
        count = leaving_count dom engine (main_layout program) b.scope b.sites body (lift (dom.assume guard true) f.value)

        value : m.value ≡ plain (joined_to dom engine (length leaving) without leaving)
        value = behind_is m refl ∙ ap plain (joined_all dom engine without leaving)

        go : (k : ℕ) → breaks body ≡ k → Tied (loop_row engine A w n guard body k) (Some m)
        go zero e = both _ m (record { x = fixed; below = fix_below m (omega arith); value = value ∙ ap (λ k. plain (joined_to dom engine k without leaving)) (count ∙ e) })
        go (suc i) e = tied_joins false i m (omega arith) (omega arith) (value ∙ ap (λ k. plain (joined_to dom engine k without leaving)) (count ∙ e))

  -- The statements of a block.
  tied_next_at : (k : ℕ) (w : List NameFrame) (b : P) (y : M) (d : Code) → Led w b y d → Tied (next_row engine A w k b y d) (next_mark engine A k b y d)
  tied_next_at k w b y Stop l = neither
  tied_next_at k w b y (Simple n effect r) l = neither
  tied_next_at k w b y (If n guard t e r) l = neither
  tied_next_at k w b y (While n guard body r) l = tied_next w b n guard body r y l k
  tied_next_at k w b y (Call n call q r) l = neither
  tied_next_at k w b y (Break n r) l = neither

  tied_fix_at : (w : List NameFrame) (b : P) (y : M) (d : Code) → Led w b y d → Tied (fix_row engine A w b y d) (fix_mark engine A b y d)
  tied_fix_at w b y Stop l = neither
  tied_fix_at w b y (Simple n effect r) l = neither
  tied_fix_at w b y (If n guard t e r) l = neither
  tied_fix_at w b y (While n guard body r) l = tied_fix w b n guard body r y l
  tied_fix_at w b y (Call n call q r) l = neither
  tied_fix_at w b y (Break n r) l = neither

  tied_exit_at : (w : List NameFrame) (b : P) (y : M) (d : Code) → Led w b y d → Tied (exit_row engine A w b y d) (exit_mark engine A b y d)
  tied_exit_at w b y Stop l = neither
  tied_exit_at w b y (Simple n effect r) l = neither
  tied_exit_at w b y (If n guard t e r) l = neither
  tied_exit_at w b y (While n guard body r) l = tied_exit w b n guard body r y l
  tied_exit_at w b y (Call n call q r) l = neither
  tied_exit_at w b y (Break n r) l = neither

  tied_leap_at : (i : ℕ) (w : List NameFrame) (b : P) (y : M) (d : Code) → Led w b y d → Tied (leap_row engine A w i b y d) (leap_mark engine A i b y d)
  tied_leap_at i w b y Stop l = neither
  tied_leap_at i w b y (Simple n effect r) l = neither
  tied_leap_at i w b y (If n guard t e r) l = neither
  tied_leap_at i w b y (While n guard body r) l = tied_leap w b n guard body r y l i
  tied_leap_at i w b y (Call n call q r) l = neither
  tied_leap_at i w b y (Break n r) l = neither

  tied_call : (w : List NameFrame) (b : P) (n : ℕ) (call : Invoke) (q : ℕ) (r : Code) (y : M) → Led w b y (Call n call q r) → Tied (post_row engine A w b y (Call n call q r)) (post_mark engine A b y (Call n call q r))
  tied_call w b n call q r y l =
      let h : q < length b.scope.earlier = part_of engine A b y (Call n call q r) l.fine l.stands in
      let p = from_some b.scope.earlier q h in
      let x : M = mark Entry (suc y.rank) (plain (lift (dom.enter call.entering) y.value.value)) in
      let z = n ∷ b.sites in
      let sc : Scope = scope_of engine A p.0 p.1 in
      let c : P = record { scope = sc; sites = z; code = p.0.code; first = x } in
      let m : M = behind_it engine A b.scope b.sites (Call n call q r) y in
      let e : M = last engine A sc z p.0.code x in
      let leads : to (InCall n ∷ w) ≡ Some c = led_to w b y (Call n call q r) l (λ b. in_call engine A b n) ∙ ap (λ ps. start_of engine A ps z x) p.2 in
      let known = known_last engine A sc z p.0.code x in
      let top : e.rank ≤ suc y.rank + span engine (body_span engine sc) p.0.code = known_rank engine A sc z p.0.code x e known in
      let size : body_span engine b.scope q ≡ span engine (body_span engine sc) p.0.code = span_from engine b.scope.earlier q p.0 p.1 p.2 in
      let low : e.rank < m.rank = omega arith in
      let ended : Below (name (InCall n ∷ w) e.point) e m = known_input (InCall n ∷ w) c e m leads (fine engine A program all (InCall n ∷ w) c leads) known low in
      let value : procedure dom engine b.scope.earlier z q (lift (dom.enter call.entering) y.value.value) ≡ e.value.value = procedure_from dom engine b.scope.earlier z q (lift (dom.enter call.entering) y.value.value) p.0 p.1 p.2 ∙ sym (last_value dom engine (main_layout program) sc z p.0.code x) in
      subst (λ ps. Tied (if_some (start_of engine A ps z x) (λ d. Some (Two (Leaves call.returning) (name w y.point) (name (InCall n ∷ w) (last_point d.code Entry))))) (Some m)) (sym p.2)
      (both _ m (record {
        x = y;
        y = e;
        below = front w b y m (Call n call q r) l (omega arith);
        below_too = subst (λ (p : Point). Below (name (InCall n ∷ w) p) e m) (last_is engine A sc z p.0.code x) ended;
        value = ap (λ v. plain (lift2 (dom.leave call.returning) y.value.value v)) value;
      }))

  tied_if : (w : List NameFrame) (b : P) (n : ℕ) (guard : Guard) (t e r : Code) (y : M) → Led w b y (If n guard t e r) → Tied (post_row engine A w b y (If n guard t e r)) (post_mark engine A b y (If n guard t e r))
  tied_if w b n guard t e r y l =
      let m : M = behind_it engine A b.scope b.sites (If n guard t e r) y in
      let s = (subs engine A b.scope b.sites b.code b.first).at _ l.stands.there in
      let xt : M = inside engine A b.scope b.sites true n guard y in
      let xe : M = inside engine A b.scope b.sites false n guard y in
      let ut : M = last engine A b.scope b.sites t xt in
      let ue : M = last engine A b.scope b.sites e xe in
      let kt = known_last engine A b.scope b.sites t xt in
      let ke = known_last engine A b.scope b.sites e xe in
      let lt : ut.rank ≤ suc y.rank + span engine (body_span engine b.scope) t = known_rank engine A b.scope b.sites t xt ut kt in
      let le : ue.rank ≤ suc y.rank + span engine (body_span engine b.scope) e = known_rank engine A b.scope b.sites e xe ue ke in
      let bt : Below (name w ut.point) ut m = known_input w b ut m l.leads l.fine (known_more engine A b.scope b.sites t b.code xt b.first (branch true n guard t e r y l.stands.there) s.then_in ut kt) (omega arith) in
      let be : Below (name w ue.point) ue m = known_input w b ue m l.leads l.fine (known_more engine A b.scope b.sites e b.code xe b.first (branch false n guard t e r y l.stands.there) s.else_in ue ke) (omega arith) in
      both _ m (record {
        x = ut;
        y = ue;
        below = subst (λ (p : Point). Below (name w p) ut m) (last_is engine A b.scope b.sites t xt) bt;
        below_too = subst (λ (p : Point). Below (name w p) ue m) (last_is engine A b.scope b.sites e xe) be;
        value = ap (λ v. plain (lift2 dom.join v (block dom engine b.scope b.sites e xe.value.value).value)) (sym (last_value dom engine (main_layout program) b.scope b.sites t xt))
            ∙ ap (λ v. plain (lift2 dom.join ut.value.value v)) (sym (last_value dom engine (main_layout program) b.scope b.sites e xe));
      })

  tied_post : (w : List NameFrame) (b : P) (y : M) (d : Code) → Led w b y d → Tied (post_row engine A w b y d) (post_mark engine A b y d)
  tied_post w b y Stop l = absurd (part_of engine A b y Stop l.fine l.stands)
  tied_post w b y (Simple n effect r) l = both _ _ (record { x = y; below = front w b y _ (Simple n effect r) l (omega arith); value = refl })
  tied_post w b y (If n guard t e r) l = tied_if w b n guard t e r y l
  tied_post w b y (While n guard body r) l = tied_behind w b n guard body r y l
  tied_post w b y (Call n call q r) l = tied_call w b n call q r y l
  tied_post w b y (Break n r) l = both _ _ (record { x = y; below = front w b y _ (Break n r) l (omega arith); value = refl })

  -- The first points of blocks.
  then_statement : {X Y : Type 0} (o : Option P) (n : ℕ) (g : P → M → Code → Option X) (h : X → Option Y) → statement engine A o n (λ b y d. if_some (g b y d) h) ≡ if_some (statement engine A o n g) h
  then_statement None n g h = refl
  then_statement (Some b) n g h = go (find n (level_of engine A b))
    where
      go : (q : Option (At (Cell S))) → if_some q (λ x. if_some (g b x.before x.code) h) ≡ if_some (if_some q (λ x. g b x.before x.code)) h
      go None = refl
      go (Some x) = refl

  abbrev no_row : P → M → Code → Option Row
  no_row b y d = None

  none_statement : (o : Option P) (n : ℕ) → statement engine A o n no_row ≡ None
  none_statement None n = refl
  none_statement (Some b) n = go (find n (level_of engine A b))
    where
      go : (q : Option (At (Cell S))) → if_some q (λ x. no_row b x.before x.code) ≡ None
      go None = refl
      go (Some x) = refl

  tied_within : (p : Point) (row : Option Row) (w : List NameFrame) (n : ℕ) (g : P → M → Code → Option Row) (h : P → M → Code → Option P) → statement engine A (to w) n g ≡ row → ((b : P) (y : M) (d : Code) → Led w b y d → n ≡ number d → Tied (g b y d) (if_some (h b y d) (λ c. mark_at engine A c p))) → Tied row (if_some (statement engine A (to w) n h) (λ c. mark_at engine A c p))
  tied_within p row w n g h e f =
      subst (λ o. Tied row o) (then_statement (to w) n h (λ c. mark_at engine A c p))
      (subst (λ (o : Option Row). Tied o (statement engine A (to w) n (λ b y d. if_some (h b y d) (λ c. mark_at engine A c p)))) e
      (tied_statement w n g (λ b y d. if_some (h b y d) (λ c. mark_at engine A c p)) f))

  entry_start : (ps : List Routine) (z : List ℕ) (x : M) (r : Row) → x.point ≡ Entry → Holds r x → Tied (if_some (start_of engine A ps z x) (λ d. Some r)) (if_some (start_of engine A ps z x) (λ c. mark_at engine A c Entry))
  entry_start [] z x r e h = neither
  entry_start (c ∷ earlier) z x r e h = subst (λ (p : Point). Tied (Some r) (if is_entry engine A p then Some x else None)) (sym e) (both r x h)

  body_start : (ps : List Routine) (z : List ℕ) (x : M) → x.point ≡ Entry → Tied None (if_some (start_of engine A ps z x) (λ c. mark_at engine A c Body))
  body_start [] z x e = neither
  body_start (c ∷ earlier) z x e = subst (λ (p : Point). Tied None (if is_entry engine A p then None else Some x)) (sym e) neither

  tied_enter : (n : ℕ) (w : List NameFrame) (b : P) (y : M) (d : Code) → Led w b y d → Tied (R.enter_row engine A w b n y d) (if_some (in_call engine A b n y d) (λ c. mark_at engine A c Entry))
  tied_enter n w b y Stop l = neither
  tied_enter n w b y (Simple m effect r) l = neither
  tied_enter n w b y (If m guard t e r) l = neither
  tied_enter n w b y (While m guard body r) l = neither
  tied_enter n w b y (Call m call q r) l =
      let x : M = mark Entry (suc y.rank) (plain (lift (dom.enter call.entering) y.value.value)) in
      entry_start (from b.scope.earlier q) (n ∷ b.sites) x (One (Enters call.entering) (name w y.point)) refl (record { x = y; below = front w b y x (Call m call q r) l (omega arith); value = refl })
  tied_enter n w b y (Break m r) l = neither

  no_body : (n : ℕ) (b : P) (y : M) (d : Code) → Tied None (if_some (in_call engine A b n y d) (λ c. mark_at engine A c Body))
  no_body n b y Stop = neither
  no_body n b y (Simple m effect r) = neither
  no_body n b y (If m guard t e r) = neither
  no_body n b y (While m guard body r) = neither
  no_body n b y (Call m call q r) = body_start (from b.scope.earlier q) (n ∷ b.sites) _ refl
  no_body n b y (Break m r) = neither

  no_entry : (n k : ℕ) (b : P) (y : M) (d : Code) → Tied None (if_some (in_loop engine A b n k y d) (λ c. mark_at engine A c Entry))
  no_entry n k b y Stop = neither
  no_entry n k b y (Simple m effect r) = neither
  no_entry n k b y (If m guard t e r) = neither
  no_entry n k b y (While m guard body r) = go (nat_lt k N)
    where
      go : (q : Bool) → Tied None (if_some (if q then Some (round_place engine A b n guard body k y) else None) (λ c. mark_at engine A c Entry))
      go true = neither
      go false = neither
  no_entry n k b y (Call m call q r) = neither
  no_entry n k b y (Break m r) = neither

  tied_turn : (n k : ℕ) (w : List NameFrame) (b : P) (y : M) (d : Code) → Led w b y d → n ≡ number d → Tied (R.turn_row engine A w b n k y d) (if_some (in_loop engine A b n k y d) (λ c. mark_at engine A c Body))
  tied_turn n k w b y Stop l e = neither
  tied_turn n k w b y (Simple m effect r) l e = neither
  tied_turn n k w b y (If m guard t x r) l e = neither
  tied_turn n k w b y (While m guard body r) l e =
      subst (λ (n : ℕ). Tied (R.turn_row engine A w b n k y (While m guard body r)) (if_some (in_loop engine A b n k y (While m guard body r)) (λ c. mark_at engine A c Body))) (sym e) (go (nat_lt k N) refl)
    where
      go : (q : Bool) → nat_lt k N ≡ q → Tied (when engine A q (One (Assumes guard true) (name w (iterate_point engine A m y.point k)))) (if_some (if q then Some (round_place engine A b m guard body k y) else None) (λ c. mark_at engine A c Body))
      go false i = neither
      go true i =
          let h : k < N = less_of k N i in
          both _ _ (record { x = it w b m guard body r y l k; below = iterate_below w b m guard body r y l k _ (omega arith) (omega arith); value = refl })
  tied_turn n k w b y (Call m call q r) l e = neither
  tied_turn n k w b y (Break m r) l e = neither

  tied_none : (w : List NameFrame) → Tied None (if_some (to w) (λ b. None))
  tied_none w = go (to w)
    where
      go : (o : Option P) → Tied None (if_some o (λ b. None))
      go None = neither
      go (Some b) = neither

  -- Every name.
  pub tied : (w : List NameFrame) (p : Point) → Tied (row_at engine A program w p) (at (name w p))
  tied [] Entry = entry_start program [] (mark Entry 0 (plain (State (dom.init (main_layout program))))) (Init (main_layout program)) refl refl
  tied (InCall n ∷ w) Entry = tied_within Entry _ w n (λ b. R.enter_row engine A w b n) (λ b. in_call engine A b n) refl (λ b y d l e. tied_enter n w b y d l)
  tied (InLoop n k ∷ w) Entry = tied_within Entry None w n no_row (λ b. in_loop engine A b n k) (none_statement (to w) n) (λ b y d l e. no_entry n k b y d)
  tied [] Body = body_start program [] (mark Entry 0 (plain (State (dom.init (main_layout program))))) refl
  tied (InCall n ∷ w) Body = tied_within Body None w n no_row (λ b. in_call engine A b n) (none_statement (to w) n) (λ b y d l e. no_body n b y d)
  tied (InLoop n k ∷ w) Body = tied_within Body _ w n (λ b. R.turn_row engine A w b n k) (λ b. in_loop engine A b n k) refl (λ b y d l e. tied_turn n k w b y d l e)
  tied w (Then n) = tied_statement w n _ _ (λ b y d l e. tied_branch true w b y d l)
  tied w (Else n) = tied_statement w n _ _ (λ b y d l e. tied_branch false w b y d l)
  tied w (Post n) = tied_statement w n _ _ (λ b y d l e. tied_post w b y d l)
  tied w (Iterate n zero) = tied_none w
  tied w (Iterate n (suc k)) = tied_statement w n _ _ (λ b y d l e. tied_next_at k w b y d l)
  tied w (Fix n) = tied_statement w n _ _ (λ b y d l e. tied_fix_at w b y d l)
  tied w (Exit n) = tied_statement w n _ _ (λ b y d l e. tied_exit_at w b y d l)
  tied w (Leap n i) = tied_statement w n _ _ (λ b y d l e. tied_leap_at i w b y d l)
