-- The names of cells, and the marks that the program has at them: point, rank, and what is computed there.
use Rattle.std.specs.Prelude.{◌≡◌, ℕ, zero, suc, ◌+◌, ◌*◌, ℤ, List, [], ◌∷◌, ◌++◌, length, Option, Some, None, Bool, true, false, if◌then◌else◌, ◌==◌, ◌<◌, nat_lt}
use Rattle.imp_slots.specs.Plain.{Guard, Entering, Code, Stop, Simple, If, While, Call, Break, Routine}
use Rattle.imp_slots.specs.Fits.{Distinct}
use Rattle.imp_chains.specs.Thresholds.{thresholds}
use Rattle.batch_meaning.specs.Batch.{LoopOptions}
use Rattle.batch_meaning.specs.Places.{find, if_some, from}
use Rattle.cell_names.specs.declared.frame.NameFrame.{NameFrame}
use Rattle.cell_names.specs.declared.frame.NameFrame.TheVariants.{InCall, InLoop}
use Rattle.cell_names.specs.declared.frame.Point.{Point}
use Rattle.cell_names.specs.declared.frame.Point.TheVariants.{Entry, Then, Else, Body, Post, Iterate, Fix, Exit, Leap}
use Rattle.cell_names.specs.Paths.{CellName}

-- A path has its last frame first.
abbrev pub name : List NameFrame → Point → CellName
name w p = record { path = w; point = p }

-- the first point of the block that a path leads to
abbrev pub start_point : List NameFrame → Point
start_point [] = Entry
start_point (InCall n ∷ w) = Entry
start_point (InLoop n k ∷ w) = Body

-- What a block's procedure is to it: the thresholds of its widening, and the procedures before it, the last first.
pub record Scope : Type 0 where
  pub thresholds : List ℤ
  pub earlier : List Routine

-- A point of a block, its place in the order of filling, and what is computed there.
pub record Mark (V : Type 0) : Type 0 where
  pub point : Point
  pub rank : ℕ
  pub value : V

abbrev pub mark : {V : Type 0} → Point → ℕ → V → Mark V
mark p r v = record { point = p; rank = r; value = v }

-- A statement: the mark before it, and its code with what is after it.
pub record At (V : Type 0) : Type 0 where
  pub before : Mark V
  pub code : Code

-- What is computed at the marks, by the procedures before the own one, and the call sites.
pub record Algebra (V : Type 0) : Type 0 where
  pub start : V
  pub after : Scope → List ℕ → Code → V → V
  pub into : Bool → Guard → V → V
  pub enter : Entering → V → V
  pub iterate : Scope → List ℕ → Guard → Code → ℕ → V → V
  pub fixed : Scope → List ℕ → ℕ → Guard → Code → V → V
  pub exit : Scope → List ℕ → ℕ → Guard → Code → V → V
  pub leap : Scope → List ℕ → ℕ → Guard → Code → ℕ → V → V

abbrev pub number : Code → ℕ
number Stop = 0
number (Simple n effect r) = n
number (If n guard t e r) = n
number (While n guard b r) = n
number (Call n call q r) = n
number (Break n r) = n

-- How many breaks leave the loop around a block.
abbrev pub breaks : Code → ℕ
breaks Stop = 0
breaks (Simple n effect r) = breaks r
breaks (If n guard t e r) = breaks t + (breaks e + breaks r)
breaks (While n guard b r) = breaks r
breaks (Call n call q r) = breaks r
breaks (Break n r) = suc (breaks r)

-- Their numbers, in text order, and where a number stands.
abbrev pub break_numbers : Code → List ℕ
break_numbers Stop = []
break_numbers (Simple n effect r) = break_numbers r
break_numbers (If n guard t e r) = break_numbers t ++ (break_numbers e ++ break_numbers r)
break_numbers (While n guard b r) = break_numbers r
break_numbers (Call n call q r) = break_numbers r
break_numbers (Break n r) = n ∷ break_numbers r

abbrev pub next_place : Option ℕ → Option ℕ
next_place None = None
next_place (Some i) = Some (suc i)

abbrev pub place_of : ℕ → List ℕ → Option ℕ
place_of k [] = None
place_of k (n ∷ ns) = if k == n then Some 0 else next_place (place_of k ns)

abbrev pub item : List ℕ → ℕ → ℕ
item [] i = 0
item (n ∷ ns) zero = n
item (n ∷ ns) (suc i) = item ns i

module _ (engine : LoopOptions) where
  -- From a mark to the one after its statement, by the ranks of the callees' bodies.
  abbrev pub round_span : ℕ → ℕ
  round_span s = s + 2

  abbrev pub loop_span : ℕ → ℕ → ℕ
  loop_span s b = engine.budget * (s + 2) + (b + 3)

  abbrev pub span : (ℕ → ℕ) → Code → ℕ
  span calls Stop = 0
  span calls (Simple n effect r) = 1 + span calls r
  span calls (If n guard t e r) = (span calls t + span calls e + 2) + span calls r
  span calls (While n guard b r) = loop_span (span calls b) (breaks b) + span calls r
  span calls (Call n call q r) = (calls q + 2) + span calls r
  span calls (Break n r) = 1 + span calls r

  abbrev pub cost : (ℕ → ℕ) → Code → ℕ
  cost calls Stop = 0
  cost calls (Simple n effect r) = 1
  cost calls (If n guard t e r) = span calls t + span calls e + 2
  cost calls (While n guard b r) = loop_span (span calls b) (breaks b)
  cost calls (Call n call q r) = calls q + 2
  cost calls (Break n r) = 1

  abbrev pub spans : List Routine → ℕ → ℕ
  spans [] q = 0
  spans (r ∷ earlier) q = if q == length earlier then span (spans earlier) r.code else spans earlier q

  abbrev pub body_span : Scope → ℕ → ℕ
  body_span scope q = spans scope.earlier q

  module _ {V : Type 0} (alg : Algebra V) where
    module _ (scope : Scope) (z : List ℕ) where
      abbrev pub behind_it : Code → Mark V → Mark V
      behind_it c x = mark (Post (number c)) (x.rank + cost (body_span scope) c) (alg.after scope z c x.value)

      abbrev pub branch_point : Bool → ℕ → Point
      branch_point true n = Then n
      branch_point false n = Else n

      abbrev pub inside : Bool → ℕ → Guard → Mark V → Mark V
      inside h n guard x = mark (branch_point h n) (suc x.rank) (alg.into h guard x.value)

      abbrev pub entry : Mark V → Code → ℕ × At V
      entry x c = (number c, record { before = x; code = c })

      -- The statements of a block that stand in no loop of it.
      abbrev pub level : Code → Mark V → List (ℕ × At V)
      level Stop x = []
      level (Simple n effect r) x = entry x (Simple n effect r) ∷ level r (behind_it (Simple n effect r) x)
      level (If n guard t e r) x =
          entry x (If n guard t e r) ∷ (level t (inside true n guard x) ++ (level e (inside false n guard x) ++ level r (behind_it (If n guard t e r) x)))
      level (While n guard b r) x = entry x (While n guard b r) ∷ level r (behind_it (While n guard b r) x)
      level (Call n call q r) x = entry x (Call n call q r) ∷ level r (behind_it (Call n call q r) x)
      level (Break n r) x = entry x (Break n r) ∷ level r (behind_it (Break n r) x)

      -- The mark at its end.
      abbrev pub last : Code → Mark V → Mark V
      last Stop x = x
      last (Simple n effect r) x = last r (behind_it (Simple n effect r) x)
      last (If n guard t e r) x = last r (behind_it (If n guard t e r) x)
      last (While n guard b r) x = last r (behind_it (While n guard b r) x)
      last (Call n call q r) x = last r (behind_it (Call n call q r) x)
      last (Break n r) x = last r (behind_it (Break n r) x)

      -- The marks before the breaks that leave the loop around it.
      abbrev pub leaves : Code → Mark V → List (Mark V)
      leaves Stop x = []
      leaves (Simple n effect r) x = leaves r (behind_it (Simple n effect r) x)
      leaves (If n guard t e r) x =
          leaves t (inside true n guard x) ++ (leaves e (inside false n guard x) ++ leaves r (behind_it (If n guard t e r) x))
      leaves (While n guard b r) x = leaves r (behind_it (While n guard b r) x)
      leaves (Call n call q r) x = leaves r (behind_it (Call n call q r) x)
      leaves (Break n r) x = x ∷ leaves r (behind_it (Break n r) x)

    -- The block that a path leads to.
    pub record PathBlock : Type 0 where
      pub scope : Scope
      pub sites : List ℕ
      pub code : Code
      pub first : Mark V

    abbrev pub level_of : PathBlock → List (ℕ × At V)
    level_of b = level b.scope b.sites b.code b.first

    abbrev pub scope_of : Routine → List Routine → Scope
    scope_of r earlier = record { thresholds = thresholds engine.widening r; earlier = earlier }

    abbrev pub start_of : List Routine → List ℕ → Mark V → Option PathBlock
    start_of [] z x = None
    start_of (r ∷ earlier) z x = Some (record { scope = scope_of r earlier; sites = z; code = r.code; first = x })

    abbrev pub in_call : PathBlock → ℕ → Mark V → Code → Option PathBlock
    in_call b n x (Call m call q r) = start_of (from b.scope.earlier q) (n ∷ b.sites) (mark Entry (suc x.rank) (alg.enter call.entering x.value))
    in_call b n x _ = None

    -- The mark of an iterate, the one before the loop for the first.
    abbrev pub iterate_point : ℕ → Point → ℕ → Point
    iterate_point n p zero = p
    iterate_point n p (suc k) = Iterate n (suc k)

    abbrev pub iterate_mark : PathBlock → ℕ → Guard → Code → ℕ → Mark V → Mark V
    iterate_mark b n guard body k x =
        mark (iterate_point n x.point k) (x.rank + k * (span (body_span b.scope) body + 2)) (alg.iterate b.scope b.sites guard body k x.value)

    abbrev pub round_place : PathBlock → ℕ → Guard → Code → ℕ → Mark V → PathBlock
    round_place b n guard body k x =
        let i = iterate_mark b n guard body k x in
        record { scope = b.scope; sites = b.sites; code = body; first = mark Body (suc i.rank) (alg.into true guard i.value) }

    abbrev pub in_loop : PathBlock → ℕ → ℕ → Mark V → Code → Option PathBlock
    in_loop b n k x (While m guard body r) = if nat_lt k engine.budget then Some (round_place b n guard body k x) else None
    in_loop b n k x _ = None

    -- The statement n of a block.
    abbrev pub statement : {A : Type 0} → Option PathBlock → ℕ → (PathBlock → Mark V → Code → Option A) → Option A
    statement o n f = if_some o (λ b. if_some (find n (level_of b)) (λ x. f b x.before x.code))

    module _ (program : List Routine) where
      abbrev pub follow : List NameFrame → Option PathBlock
      follow [] = start_of program [] (mark Entry 0 alg.start)
      follow (InCall n ∷ w) = statement (follow w) n (λ b. in_call b n)
      follow (InLoop n k ∷ w) = statement (follow w) n (λ b. in_loop b n k)

    abbrev pub when : {A : Type 0} → Bool → A → Option A
    when true a = Some a
    when false a = None

    abbrev pub branch_mark : Bool → PathBlock → Mark V → Code → Option (Mark V)
    branch_mark h b x (If n guard t e r) = Some (inside b.scope b.sites h n guard x)
    branch_mark h b x _ = None

    abbrev pub post_mark : PathBlock → Mark V → Code → Option (Mark V)
    post_mark b x c = Some (behind_it b.scope b.sites c x)

    -- A loop's own marks.
    abbrev pub next_mark : ℕ → PathBlock → Mark V → Code → Option (Mark V)
    next_mark k b x (While n guard body r) = when (nat_lt k engine.budget) (iterate_mark b n guard body (suc k) x)
    next_mark k b x _ = None

    abbrev pub fix_rank : PathBlock → Code → ℕ → ℕ
    fix_rank b body r = r + engine.budget * (span (body_span b.scope) body + 2) + 1

    abbrev pub fix_of : PathBlock → ℕ → Guard → Code → Mark V → Mark V
    fix_of b n guard body x = mark (Fix n) (fix_rank b body x.rank) (alg.fixed b.scope b.sites n guard body x.value)

    abbrev pub fix_mark : PathBlock → Mark V → Code → Option (Mark V)
    fix_mark b x (While n guard body r) = Some (fix_of b n guard body x)
    fix_mark b x _ = None

    abbrev pub exit_of : PathBlock → ℕ → Guard → Code → Mark V → Mark V
    exit_of b n guard body x = mark (Exit n) (suc (fix_rank b body x.rank)) (alg.exit b.scope b.sites n guard body x.value)

    abbrev pub exit_mark : PathBlock → Mark V → Code → Option (Mark V)
    exit_mark b x (While n guard body r) = when (nat_lt 0 (breaks body)) (exit_of b n guard body x)
    exit_mark b x _ = None

    abbrev pub leap_of : PathBlock → ℕ → Guard → Code → ℕ → ℕ → Mark V → Mark V
    leap_of b n guard body k i x = mark (Leap n k) (suc (suc (fix_rank b body x.rank + i))) (alg.leap b.scope b.sites n guard body i x.value)

    abbrev pub leap_mark : ℕ → PathBlock → Mark V → Code → Option (Mark V)
    leap_mark k b x (While n guard body r) = if_some (place_of k (break_numbers body)) (λ i. when (nat_lt (suc i) (breaks body)) (leap_of b n guard body k i x))
    leap_mark k b x _ = None

    abbrev pub is_entry : Point → Bool
    is_entry Entry = true
    is_entry _ = false

    -- The mark of a point in a block.
    abbrev pub mark_at : PathBlock → Point → Option (Mark V)
    mark_at b Entry = if is_entry b.first.point then Some b.first else None
    mark_at b Body = if is_entry b.first.point then None else Some b.first
    mark_at b (Then n) = statement (Some b) n (branch_mark true)
    mark_at b (Else n) = statement (Some b) n (branch_mark false)
    mark_at b (Post n) = statement (Some b) n post_mark
    mark_at b (Iterate n zero) = None
    mark_at b (Iterate n (suc k)) = statement (Some b) n (next_mark k)
    mark_at b (Fix n) = statement (Some b) n fix_mark
    mark_at b (Exit n) = statement (Some b) n exit_mark
    mark_at b (Leap n i) = statement (Some b) n (leap_mark i)

    abbrev pub mark_of : List Routine → CellName → Option (Mark V)
    mark_of program x = if_some (follow program x.path) (λ b. mark_at b x.point)

-- Each call is of a procedure below this number.
abbrev pub CallsBelow : ℕ → Code → Type 0
CallsBelow k Stop = Unit {0}
CallsBelow k (Simple n effect r) = CallsBelow k r
CallsBelow k (If n guard t e r) = CallsBelow k t × CallsBelow k e × CallsBelow k r
CallsBelow k (While n guard b r) = CallsBelow k b × CallsBelow k r
CallsBelow k (Call n call q r) = (q < k) × CallsBelow k r
CallsBelow k (Break n r) = CallsBelow k r

-- The numbers of the statements of a block that stand in no loop of it stand once each, and so in each loop of it.
abbrev pub own : Code → List ℕ
own Stop = []
own (Simple n effect r) = n ∷ own r
own (If n guard t e r) = n ∷ (own t ++ (own e ++ own r))
own (While n guard b r) = n ∷ own r
own (Call n call q r) = n ∷ own r
own (Break n r) = n ∷ own r

abbrev pub Nested : Code → Type 0
Nested Stop = Unit {0}
Nested (Simple n effect r) = Nested r
Nested (If n guard t e r) = Nested t × Nested e × Nested r
Nested (While n guard b r) = Distinct (own b) × Nested b × Nested r
Nested (Call n call q r) = Nested r
Nested (Break n r) = Nested r

-- And each call is of a procedure below k.
pub record IsFine (k : ℕ) (c : Code) : Type 0 where
  pub once : Distinct (own c)
  pub nested : Nested c
  pub calls : CallsBelow k c

abbrev pub AllFine : List Routine → Type 0
AllFine [] = Unit {0}
AllFine (r ∷ earlier) = IsFine (length earlier) r.code × AllFine earlier

-- Nothing is computed: the marks alone.
abbrev pub bare : Algebra (Unit {0})
bare = record { start = tt; after = λ e z c a. tt; into = λ h c a. tt; enter = λ i a. tt; iterate = λ e z c b k a. tt; fixed = λ e z n c b a. tt; exit = λ e z n c b a. tt; leap = λ e z n c b i a. tt }

-- Names are told apart.
pub record IsSame (same : CellName → CellName → Bool) : Type 0 where
  pub same_true : (x y : CellName) → same x y ≡ true → x ≡ y
  pub same_refl : (x : CellName) → same x x ≡ true
