-- Rows, ranks and which names there are do not depend on what is computed.
use Rattle.std.proofs.Common.{◌≡◌, ℕ, zero, suc, List, [], ◌∷◌, ◌++◌, map, Option, Some, None, Bool, true, false, if◌then◌else◌, refl, sym, ap, ◌∙◌, nat_lt, ◌==◌}
use Rattle.std.specs.Option.{option_map}
use Rattle.std.proofs.lemmas.List.{map-append}
use Rattle.std.proofs.lemmas.Iterator.Adapters.{option_map_id}
use Rattle.imp_slots.specs.Plain.{Guard, Invoke, Code, Stop, Simple, If, While, Call, Break, Routine}
use Rattle.batch_meaning.specs.Batch.{LoopOptions}
use Rattle.batch_meaning.specs.Places.{find, if_some, from, main_layout}
use Rattle.cell_names.specs.declared.frame.NameFrame.{NameFrame}
use Rattle.cell_names.specs.declared.frame.NameFrame.TheVariants.{InCall, InLoop}
use Rattle.cell_names.specs.declared.frame.Point.{Point}
use Rattle.cell_names.specs.declared.frame.Point.TheVariants.{Entry, Then, Else, Body, Post, Iterate, Fix, Exit, Leap}
use Rattle.cell_names.specs.Paths.{CellName}
use Rattle.cell_rows.specs.Names.{Scope, name, Mark, mark, At, Algebra, PathBlock, bare, breaks, break_numbers, place_of, leap_of, behind_it, inside, entry, level, level_of, start_of, in_call, in_loop, round_place, statement, follow, when, branch_mark, post_mark, next_mark, fix_mark, exit_mark, leap_mark, mark_at, mark_of, is_entry}
use Rattle.cell_rows.specs.Rows as R
use Rattle.cell_rows.specs.Rows.{Row, row_at, branch_row, post_row, next_row, fix_row, exit_row, leap_row, enter_row, turn_row, loop_row}

abbrev pub bare_mark : {V : Type 0} → Mark V → Mark (Unit {0})
bare_mark m = mark m.point m.rank tt

abbrev bare_at : {V : Type 0} → ℕ × At V → ℕ × At (Unit {0})
bare_at x = (x.0, record { before = bare_mark x.1.before; code = x.1.code })

map_three : {A B : Type 0} (f : A → B) (xs ys zs : List A) (us vs ws : List B) → us ≡ map f xs → vs ≡ map f ys → ws ≡ map f zs → us ++ (vs ++ ws) ≡ map f (xs ++ (ys ++ zs))
map_three f xs ys zs us vs ws a b c = rw (a, b, c, map-append f xs (ys ++ zs), map-append f ys zs) refl

module _ (engine : LoopOptions) {V : Type 0} (A : Algebra V) where
  abbrev P : Type 0
  P = PathBlock engine A

  abbrev Q : Type 0
  Q = PathBlock engine bare

  abbrev bare_place : P → Q
  bare_place b = record { scope = b.scope; sites = b.sites; code = b.code; first = bare_mark b.first }

  level_bare : (e : Scope) (z : List ℕ) (c : Code) (x : Mark V) → level engine bare e z c (bare_mark x) ≡ map bare_at (level engine A e z c x)
  level_bare e z Stop x = refl
  level_bare e z (Simple n effect r) x = ap (λ k. bare_at (entry engine A e z x (Simple n effect r)) ∷ k) (level_bare e z r (behind_it engine A e z (Simple n effect r) x))
  level_bare e z (If n guard t f r) x =
      let xt = inside engine A e z true n guard x in
      let xf = inside engine A e z false n guard x in
      let u = behind_it engine A e z (If n guard t f r) x in
      ap (λ k. bare_at (entry engine A e z x (If n guard t f r)) ∷ k)
      (map_three bare_at (level engine A e z t xt) (level engine A e z f xf) (level engine A e z r u) _ _ _ (level_bare e z t xt) (level_bare e z f xf) (level_bare e z r u))
  level_bare e z (While n guard b r) x = ap (λ k. bare_at (entry engine A e z x (While n guard b r)) ∷ k) (level_bare e z r (behind_it engine A e z (While n guard b r) x))
  level_bare e z (Call n call q r) x = ap (λ k. bare_at (entry engine A e z x (Call n call q r)) ∷ k) (level_bare e z r (behind_it engine A e z (Call n call q r) x))
  level_bare e z (Break n r) x = ap (λ k. bare_at (entry engine A e z x (Break n r)) ∷ k) (level_bare e z r (behind_it engine A e z (Break n r) x))

  abbrev found_at : At V → At (Unit {0})
  found_at x = record { before = bare_mark x.before; code = x.code }

  find_bare : (n : ℕ) (xs : List (ℕ × At V)) → find n (map bare_at xs) ≡ option_map found_at (find n xs)
  find_bare n [] = refl
  find_bare n (x ∷ xs) = go (find_bare n xs) (n == x.0)
    where
      go : find n (map bare_at xs) ≡ option_map found_at (find n xs) → (c : Bool) → (if c then Some (found_at x.1) else find n (map bare_at xs)) ≡ option_map found_at (if c then Some x.1 else find n xs)
      go e true = refl
      go e false = e

  -- What looks at points, ranks and code alone sees the same.
  statement_bare : {X Y : Type 0} (h : X → Y) (o : Option P) (n : ℕ) (g : P → Mark V → Code → Option X) (k : Q → Mark (Unit {0}) → Code → Option Y) → ((b : P) (y : Mark V) (d : Code) → k (bare_place b) (bare_mark y) d ≡ option_map h (g b y d)) → statement engine bare (option_map bare_place o) n k ≡ option_map h (statement engine A o n g)
  statement_bare h None n g k f = refl
  statement_bare {X} {Y} h (Some b) n g k f =
      ap (λ xs. if_some (find n xs) (λ x. k (bare_place b) x.before x.code)) (level_bare b.scope b.sites b.code b.first)
      ∙ ap (λ o. if_some o (λ x. k (bare_place b) x.before x.code)) (find_bare n (level_of engine A b))
      ∙ go (find n (level_of engine A b))
    where
      go : (o : Option (At V)) → if_some (option_map found_at o) (λ x. k (bare_place b) x.before x.code) ≡ option_map h (if_some o (λ x. g b x.before x.code))
      go None = refl
      go (Some x) = f b x.before x.code

  start_bare : (ps : List Routine) (z : List ℕ) (x : Mark V) → start_of engine bare ps z (bare_mark x) ≡ option_map bare_place (start_of engine A ps z x)
  start_bare [] z x = refl
  start_bare (c ∷ earlier) z x = refl

  call_bare : (n : ℕ) (b : P) (y : Mark V) (d : Code) → in_call engine bare (bare_place b) n (bare_mark y) d ≡ option_map bare_place (in_call engine A b n y d)
  call_bare n b y Stop = refl
  call_bare n b y (Simple m effect r) = refl
  call_bare n b y (If m guard t e r) = refl
  call_bare n b y (While m guard t r) = refl
  call_bare n b y (Call m call q r) = start_bare (from b.scope.earlier q) (n ∷ b.sites) (mark Entry (suc y.rank) (A.enter call.entering y.value))
  call_bare n b y (Break m r) = refl

  if_bare : {X Y : Type 0} (h : X → Y) (t : Bool) (x : X) → (if t then Some (h x) else None) ≡ option_map h (if t then Some x else None)
  if_bare h true x = refl
  if_bare h false x = refl

  loop_bare : (n k : ℕ) (b : P) (y : Mark V) (d : Code) → in_loop engine bare (bare_place b) n k (bare_mark y) d ≡ option_map bare_place (in_loop engine A b n k y d)
  loop_bare n k b y Stop = refl
  loop_bare n k b y (Simple m effect r) = refl
  loop_bare n k b y (If m guard t e r) = refl
  loop_bare n k b y (While m guard t r) = if_bare bare_place (nat_lt k engine.budget) (round_place engine A b n guard t k y)
  loop_bare n k b y (Call m call q r) = refl
  loop_bare n k b y (Break m r) = refl

  module _ (program : List Routine) where
    pub follow_bare : (w : List NameFrame) → follow engine bare program w ≡ option_map bare_place (follow engine A program w)
    follow_bare [] = start_bare program [] (mark Entry 0 A.start)
    follow_bare (InCall n ∷ w) =
        ap (λ o. statement engine bare o n (λ b. in_call engine bare b n)) (follow_bare w)
        ∙ statement_bare bare_place (follow engine A program w) n (λ b. in_call engine A b n) (λ b. in_call engine bare b n) (λ b y d. call_bare n b y d)
    follow_bare (InLoop n k ∷ w) =
        ap (λ o. statement engine bare o n (λ b. in_loop engine bare b n k)) (follow_bare w)
        ∙ statement_bare bare_place (follow engine A program w) n (λ b. in_loop engine A b n k) (λ b. in_loop engine bare b n k) (λ b y d. loop_bare n k b y d)

    same_row : (w : List NameFrame) (n : ℕ) (g : P → Mark V → Code → Option Row) (k : Q → Mark (Unit {0}) → Code → Option Row) → ((b : P) (y : Mark V) (d : Code) → k (bare_place b) (bare_mark y) d ≡ g b y d) → statement engine bare (follow engine bare program w) n k ≡ statement engine A (follow engine A program w) n g
    same_row w n g k f =
        ap (λ o. statement engine bare o n k) (follow_bare w)
        ∙ statement_bare (λ (r : Row). r) (follow engine A program w) n g k (λ b y d. f b y d ∙ sym (option_map_id (g b y d)))
        ∙ option_map_id (statement engine A (follow engine A program w) n g)

    const_row : (r : Row) (o : Option P) → if_some (option_map bare_place o) (λ d. Some r) ≡ if_some o (λ d. Some r)
    const_row r None = refl
    const_row r (Some b) = refl

    enter_same : (n : ℕ) (w : List NameFrame) (b : P) (y : Mark V) (d : Code) → enter_row engine bare w (bare_place b) n (bare_mark y) d ≡ enter_row engine A w b n y d
    enter_same n w b y Stop = refl
    enter_same n w b y (Simple m effect r) = refl
    enter_same n w b y (If m guard t e r) = refl
    enter_same n w b y (While m guard t r) = refl
    enter_same n w b y (Call m call q r) =
        ap (λ o. if_some o (λ d. Some (R.One (R.Enters call.entering) (name w y.point)))) (call_bare n b y (Call m call q r)) ∙ const_row _ (in_call engine A b n y (Call m call q r))
    enter_same n w b y (Break m r) = refl

    turn_same : (n k : ℕ) (w : List NameFrame) (b : P) (y : Mark V) (d : Code) → turn_row engine bare w (bare_place b) n k (bare_mark y) d ≡ turn_row engine A w b n k y d
    turn_same n k w b y Stop = refl
    turn_same n k w b y (Simple m effect r) = refl
    turn_same n k w b y (If m guard t e r) = refl
    turn_same n k w b y (While m guard t r) = refl
    turn_same n k w b y (Call m call q r) = refl
    turn_same n k w b y (Break m r) = refl

    branch_same : (h : Bool) (w : List NameFrame) (b : P) (y : Mark V) (d : Code) → branch_row engine bare w h (bare_place b) (bare_mark y) d ≡ branch_row engine A w h b y d
    branch_same h w b y Stop = refl
    branch_same h w b y (Simple m effect r) = refl
    branch_same h w b y (If m guard t e r) = refl
    branch_same h w b y (While m guard t r) = refl
    branch_same h w b y (Call m call q r) = refl
    branch_same h w b y (Break m r) = refl

    abbrev left_row : List NameFrame → ℕ → Invoke → Point → Code → Row
    left_row w n call p c = R.Two (R.Leaves call.returning) (name w p) (name (InCall n ∷ w) (R.last_point c Entry))

    code_row : (w : List NameFrame) (n : ℕ) (call : Invoke) (p : Point) (o : Option P) → if_some (option_map bare_place o) (λ d. Some (left_row w n call p d.code)) ≡ if_some o (λ d. Some (left_row w n call p d.code))
    code_row w n call p None = refl
    code_row w n call p (Some b) = refl

    loop_same : (w : List NameFrame) (n : ℕ) (guard : Guard) (body : Code) (k : ℕ) → loop_row engine bare w n guard body k ≡ loop_row engine A w n guard body k
    loop_same w n guard body zero = refl
    loop_same w n guard body (suc i) = refl

    post_same : (w : List NameFrame) (b : P) (y : Mark V) (d : Code) → post_row engine bare w (bare_place b) (bare_mark y) d ≡ post_row engine A w b y d
    post_same w b y Stop = refl
    post_same w b y (Simple m effect r) = refl
    post_same w b y (If m guard t e r) = refl
    post_same w b y (While m guard t r) = loop_same w m guard t (breaks t)
    post_same w b y (Call m call q r) =
        ap (λ o. if_some o (λ d. Some (left_row w m call y.point d.code))) (call_bare m b y (Call m call q r)) ∙ code_row w m call y.point (in_call engine A b m y (Call m call q r))
    post_same w b y (Break m r) = refl

    next_same : (k : ℕ) (w : List NameFrame) (b : P) (y : Mark V) (d : Code) → next_row engine bare w k (bare_place b) (bare_mark y) d ≡ next_row engine A w k b y d
    next_same k w b y Stop = refl
    next_same k w b y (Simple m effect r) = refl
    next_same k w b y (If m guard t e r) = refl
    next_same k w b y (While m guard t r) = refl
    next_same k w b y (Call m call q r) = refl
    next_same k w b y (Break m r) = refl

    fix_same : (w : List NameFrame) (b : P) (y : Mark V) (d : Code) → fix_row engine bare w (bare_place b) (bare_mark y) d ≡ fix_row engine A w b y d
    fix_same w b y Stop = refl
    fix_same w b y (Simple m effect r) = refl
    fix_same w b y (If m guard t e r) = refl
    fix_same w b y (While m guard t r) = refl
    fix_same w b y (Call m call q r) = refl
    fix_same w b y (Break m r) = refl

    exit_same : (w : List NameFrame) (b : P) (y : Mark V) (d : Code) → exit_row engine bare w (bare_place b) (bare_mark y) d ≡ exit_row engine A w b y d
    exit_same w b y Stop = refl
    exit_same w b y (Simple m effect r) = refl
    exit_same w b y (If m guard t e r) = refl
    exit_same w b y (While m guard t r) = refl
    exit_same w b y (Call m call q r) = refl
    exit_same w b y (Break m r) = refl

    leap_same : (i : ℕ) (w : List NameFrame) (b : P) (y : Mark V) (d : Code) → leap_row engine bare w i (bare_place b) (bare_mark y) d ≡ leap_row engine A w i b y d
    leap_same i w b y Stop = refl
    leap_same i w b y (Simple m effect r) = refl
    leap_same i w b y (If m guard t e r) = refl
    leap_same i w b y (While m guard t r) = refl
    leap_same i w b y (Call m call q r) = refl
    leap_same i w b y (Break m r) = refl

    -- A name's row, whatever is computed.
    pub row_bare : (w : List NameFrame) (p : Point) → row_at engine bare program w p ≡ row_at engine A program w p
    row_bare [] Entry = ap (λ o. if_some o (λ d. Some (R.Init (main_layout program)))) (follow_bare []) ∙ const_row (R.Init (main_layout program)) (follow engine A program [])
    row_bare (InCall n ∷ w) Entry = same_row w n (λ b. enter_row engine A w b n) (λ b. enter_row engine bare w b n) (λ b y d. enter_same n w b y d)
    row_bare (InLoop n k ∷ w) Entry = refl
    row_bare [] Body = refl
    row_bare (InCall n ∷ w) Body = refl
    row_bare (InLoop n k ∷ w) Body = same_row w n (λ b. turn_row engine A w b n k) (λ b. turn_row engine bare w b n k) (λ b y d. turn_same n k w b y d)
    row_bare w (Then n) = same_row w n (branch_row engine A w true) (branch_row engine bare w true) (λ b y d. branch_same true w b y d)
    row_bare w (Else n) = same_row w n (branch_row engine A w false) (branch_row engine bare w false) (λ b y d. branch_same false w b y d)
    row_bare w (Post n) = same_row w n (post_row engine A w) (post_row engine bare w) (λ b y d. post_same w b y d)
    row_bare w (Iterate n zero) = refl
    row_bare w (Iterate n (suc k)) = same_row w n (next_row engine A w k) (next_row engine bare w k) (λ b y d. next_same k w b y d)
    row_bare w (Fix n) = same_row w n (fix_row engine A w) (fix_row engine bare w) (λ b y d. fix_same w b y d)
    row_bare w (Exit n) = same_row w n (exit_row engine A w) (exit_row engine bare w) (λ b y d. exit_same w b y d)
    row_bare w (Leap n i) = same_row w n (leap_row engine A w i) (leap_row engine bare w i) (λ b y d. leap_same i w b y d)

  -- Marks.
  when_bare : (t : Bool) (m : Mark V) → when engine bare t (bare_mark m) ≡ option_map bare_mark (when engine A t m)
  when_bare true m = refl
  when_bare false m = refl

  branch_mark_bare : (h : Bool) (b : P) (y : Mark V) (d : Code) → branch_mark engine bare h (bare_place b) (bare_mark y) d ≡ option_map bare_mark (branch_mark engine A h b y d)
  branch_mark_bare h b y Stop = refl
  branch_mark_bare h b y (Simple m effect r) = refl
  branch_mark_bare h b y (If m guard t e r) = refl
  branch_mark_bare h b y (While m guard t r) = refl
  branch_mark_bare h b y (Call m call q r) = refl
  branch_mark_bare h b y (Break m r) = refl

  next_mark_bare : (k : ℕ) (b : P) (y : Mark V) (d : Code) → next_mark engine bare k (bare_place b) (bare_mark y) d ≡ option_map bare_mark (next_mark engine A k b y d)
  next_mark_bare k b y Stop = refl
  next_mark_bare k b y (Simple m effect r) = refl
  next_mark_bare k b y (If m guard t e r) = refl
  next_mark_bare k b y (While m guard t r) = when_bare (nat_lt k engine.budget) _
  next_mark_bare k b y (Call m call q r) = refl
  next_mark_bare k b y (Break m r) = refl

  fix_mark_bare : (b : P) (y : Mark V) (d : Code) → fix_mark engine bare (bare_place b) (bare_mark y) d ≡ option_map bare_mark (fix_mark engine A b y d)
  fix_mark_bare b y Stop = refl
  fix_mark_bare b y (Simple m effect r) = refl
  fix_mark_bare b y (If m guard t e r) = refl
  fix_mark_bare b y (While m guard t r) = refl
  fix_mark_bare b y (Call m call q r) = refl
  fix_mark_bare b y (Break m r) = refl

  exit_mark_bare : (b : P) (y : Mark V) (d : Code) → exit_mark engine bare (bare_place b) (bare_mark y) d ≡ option_map bare_mark (exit_mark engine A b y d)
  exit_mark_bare b y Stop = refl
  exit_mark_bare b y (Simple m effect r) = refl
  exit_mark_bare b y (If m guard t e r) = refl
  exit_mark_bare b y (While m guard t r) = when_bare (nat_lt 0 (breaks t)) _
  exit_mark_bare b y (Call m call q r) = refl
  exit_mark_bare b y (Break m r) = refl

  leap_mark_bare : (i : ℕ) (b : P) (y : Mark V) (d : Code) → leap_mark engine bare i (bare_place b) (bare_mark y) d ≡ option_map bare_mark (leap_mark engine A i b y d)
  leap_mark_bare i b y Stop = refl
  leap_mark_bare i b y (Simple m effect r) = refl
  leap_mark_bare i b y (If m guard t e r) = refl
  leap_mark_bare i b y (While m guard t r) = go (place_of i (break_numbers t))
    where
      go : (o : Option ℕ) → if_some o (λ j. when engine bare (nat_lt (suc j) (breaks t)) (leap_of engine bare (bare_place b) m guard t i j (bare_mark y))) ≡ option_map bare_mark (if_some o (λ j. when engine A (nat_lt (suc j) (breaks t)) (leap_of engine A b m guard t i j y)))
      go None = refl
      go (Some j) = when_bare (nat_lt (suc j) (breaks t)) _
  leap_mark_bare i b y (Call m call q r) = refl
  leap_mark_bare i b y (Break m r) = refl

  pub mark_at_bare : (b : P) (p : Point) → mark_at engine bare (bare_place b) p ≡ option_map bare_mark (mark_at engine A b p)
  mark_at_bare b Entry = if_bare bare_mark (is_entry engine A b.first.point) b.first
  mark_at_bare b Body = go (is_entry engine A b.first.point)
    where
      go : (t : Bool) → (if t then None else Some (bare_mark b.first)) ≡ option_map bare_mark (if t then None else Some b.first)
      go true = refl
      go false = refl
  mark_at_bare b (Then n) = statement_bare bare_mark (Some b) n (branch_mark engine A true) (branch_mark engine bare true) (λ b y d. branch_mark_bare true b y d)
  mark_at_bare b (Else n) = statement_bare bare_mark (Some b) n (branch_mark engine A false) (branch_mark engine bare false) (λ b y d. branch_mark_bare false b y d)
  mark_at_bare b (Post n) = statement_bare bare_mark (Some b) n (post_mark engine A) (post_mark engine bare) (λ b y d. refl)
  mark_at_bare b (Iterate n zero) = refl
  mark_at_bare b (Iterate n (suc k)) = statement_bare bare_mark (Some b) n (next_mark engine A k) (next_mark engine bare k) (λ b y d. next_mark_bare k b y d)
  mark_at_bare b (Fix n) = statement_bare bare_mark (Some b) n (fix_mark engine A) (fix_mark engine bare) (λ b y d. fix_mark_bare b y d)
  mark_at_bare b (Exit n) = statement_bare bare_mark (Some b) n (exit_mark engine A) (exit_mark engine bare) (λ b y d. exit_mark_bare b y d)
  mark_at_bare b (Leap n i) = statement_bare bare_mark (Some b) n (leap_mark engine A i) (leap_mark engine bare i) (λ b y d. leap_mark_bare i b y d)

  -- A name's mark, whatever is computed.
  pub mark_bare : (program : List Routine) (x : CellName) → mark_of engine bare program x ≡ option_map bare_mark (mark_of engine A program x)
  mark_bare program x = ap (λ o. if_some o (λ b. mark_at engine bare b x.point)) (follow_bare program x.path) ∙ go (follow engine A program x.path)
    where
      go : (o : Option P) → if_some (option_map bare_place o) (λ b. mark_at engine bare b x.point) ≡ option_map bare_mark (if_some o (λ b. mark_at engine A b x.point))
      go None = refl
      go (Some b) = mark_at_bare b x.point
