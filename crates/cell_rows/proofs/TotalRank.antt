-- The rank falls at each input, for each name.
use Rattle.std.proofs.Common.{◌≡◌, ℕ, zero, suc, ◌+◌, ◌*◌, ◌<◌, ◌≤◌, List, [], ◌∷◌, length, map, Option, Some, Bool, true, false, if◌then◌else◌, refl, sym, ap, ◌∙◌, arith, nat_lt, slice_get}
use Rattle.imp_slots.specs.Plain.{Guard, Code, Stop, Simple, If, While, Call, Break, Routine}
use Rattle.imp_slots.specs.Fits.{Distinct}
use Rattle.batch_meaning.specs.Batch.{LoopOptions}
use Rattle.batch_meaning.specs.Places.{if_some, from}
use Rattle.cell_names.specs.declared.frame.NameFrame.{NameFrame}
use Rattle.cell_names.specs.declared.frame.NameFrame.TheVariants.{InLoop}
use Rattle.cell_names.specs.declared.frame.Point.{Point}
use Rattle.cell_names.specs.declared.frame.Point.TheVariants.{Entry, Body, Post, Iterate, Fix, Exit, Leap}
use Rattle.base_values.proofs.Cases.{by_test, less_test}
use Rattle.base_values.proofs.Members.{Member, here, there, in_left, in_right, Each, each_more, each_both, none_there, keys}
use Rattle.batch_meaning.proofs.Places.{found}
use Rattle.cell_rows.specs.Names.{Scope, scope_of, Mark, mark, At, PathBlock, bare, number, breaks, break_numbers, place_of, span, cost, body_span, behind_it, inside, entry, last, leaves, branch_mark, post_mark, next_mark, fix_mark, exit_mark, leap_mark, iterate_point, when}
use Rattle.cell_rows.specs.Rows.{last_point, leave_points}
use Rattle.cell_rows.specs.Total.{Spread, spread_of, entries, spread, stand, by_number, or_zero, offset, turn_of, base}
use Rattle.cell_rows.proofs.Levels.{last_is, leaves_are, known_last, known_leaves, known_rank, point_of}
use Rattle.cell_rows.proofs.BatchTie.{got}

module _ (engine : LoopOptions) (program : List Routine) (once : Distinct (keys (spread engine program))) where
  abbrev N : ℕ
  N = engine.budget

  abbrev pub U : Type 0
  U = Mark (Unit {0})

  -- A mark's rank is its point's.
  abbrev pub IsOff : U → Type 0
  IsOff y = offset engine program y.point ≡ y.rank

  module _ (e : Scope) where
    abbrev pub E : U → Code → ℕ × At (Unit {0})
    E = entry engine bare e []

    abbrev pub after_it : Code → U → U
    after_it = behind_it engine bare e []

    abbrev pub into_it : Bool → ℕ → Guard → U → U
    into_it = inside engine bare e []

    -- These statements are the program's.
    abbrev pub Within : List (ℕ × At (Unit {0})) → Type 0
    Within xs = (p : ℕ × At (Unit {0})) → Member p xs → Member (spread_of e p) (spread engine program)

    pub by_it : {X : Type 0} (y : U) (d : Code) → Member (spread_of e (E y d)) (spread engine program) → (g : PathBlock engine bare → U → Code → Option X) → by_number engine program (number d) g ≡ g (stand engine program (record { scope = e; at = record { before = y; code = d } })) y d
    by_it y d m g = ap (λ o. if_some o (λ u. g (stand engine program u) u.at.before u.at.code)) (found (spread_of e (E y d)) (spread engine program) once m)

    pub after_off : (y : U) (d : Code) → Member (spread_of e (E y d)) (spread engine program) → IsOff (after_it d y)
    after_off y d m = ap (or_zero engine program) (by_it y d m (post_mark engine bare))

    pub into_off : (h : Bool) (n : ℕ) (guard : Guard) (t f r : Code) (y : U) → Member (spread_of e (E y (If n guard t f r))) (spread engine program) → IsOff (into_it h n guard y)
    into_off true n guard t f r y m = ap (or_zero engine program) (by_it y (If n guard t f r) m (branch_mark engine bare true))
    into_off false n guard t f r y m = ap (or_zero engine program) (by_it y (If n guard t f r) m (branch_mark engine bare false))

    pub last_off : (c : Code) (x : U) → IsOff x → Within (entries engine e c x) → IsOff (last engine bare e [] c x)
    last_off Stop x o k = o
    last_off (Simple n effect r) x o k = last_off r (after_it (Simple n effect r) x) (after_off x (Simple n effect r) (k _ here)) (λ p m. k p (there m))
    last_off (If n guard t f r) x o k = last_off r (after_it (If n guard t f r) x) (after_off x (If n guard t f r) (k _ here)) (λ p m. k p (there (in_right (entries engine e t (into_it true n guard x)) (in_right (entries engine e f (into_it false n guard x)) m))))
    last_off (While n guard b r) x o k = last_off r (after_it (While n guard b r) x) (after_off x (While n guard b r) (k _ here)) (λ p m. k p (there (in_right (entries engine e b (mark Body 0 tt)) m)))
    last_off (Call n call q r) x o k = last_off r (after_it (Call n call q r) x) (after_off x (Call n call q r) (k _ here)) (λ p m. k p (there m))
    last_off (Break n r) x o k = last_off r (after_it (Break n r) x) (after_off x (Break n r) (k _ here)) (λ p m. k p (there m))

    leaves_off : (c : Code) (x : U) → IsOff x → Within (entries engine e c x) → Each IsOff (leaves engine bare e [] c x)
    leaves_off Stop x o k = none_there IsOff
    leaves_off (Simple n effect r) x o k = leaves_off r (after_it (Simple n effect r) x) (after_off x (Simple n effect r) (k _ here)) (λ p m. k p (there m))
    leaves_off (If n guard t f r) x o k =
        let i = k _ here in
        each_both IsOff _ _ (leaves_off t (into_it true n guard x) (into_off true n guard t f r x i) (λ p m. k p (there (in_left _ m))))
        (each_both IsOff _ _ (leaves_off f (into_it false n guard x) (into_off false n guard t f r x i) (λ p m. k p (there (in_right (entries engine e t (into_it true n guard x)) (in_left _ m)))))
        (leaves_off r (after_it (If n guard t f r) x) (after_off x (If n guard t f r) i) (λ p m. k p (there (in_right (entries engine e t (into_it true n guard x)) (in_right (entries engine e f (into_it false n guard x)) m))))))
    leaves_off (While n guard b r) x o k = leaves_off r (after_it (While n guard b r) x) (after_off x (While n guard b r) (k _ here)) (λ p m. k p (there (in_right (entries engine e b (mark Body 0 tt)) m)))
    leaves_off (Call n call q r) x o k = leaves_off r (after_it (Call n call q r) x) (after_off x (Call n call q r) (k _ here)) (λ p m. k p (there m))
    leaves_off (Break n r) x o k = each_more IsOff _ _ o (leaves_off r (after_it (Break n r) x) (after_off x (Break n r) (k _ here)) (λ p m. k p (there m)))

    -- What the blocks of a statement have.
    pub record BlockOff (c : Code) (x : U) : Type 0 where
      pub end : IsOff (last engine bare e [] c x)
      pub outs : Each IsOff (leaves engine bare e [] c x)

    block_off : (c : Code) (x : U) → IsOff x → Within (entries engine e c x) → BlockOff c x
    block_off c x o k = record { end = last_off c x o k; outs = leaves_off c x o k }

    abbrev pub Parts : U → Code → Type 0
    Parts y Stop = Unit {0}
    Parts y (Simple n effect r) = Unit {0}
    Parts y (If n guard t f r) = BlockOff t (into_it true n guard y) × BlockOff f (into_it false n guard y)
    Parts y (While n guard b r) = BlockOff b (mark Body 0 tt)
    Parts y (Call n call q r) = Unit {0}
    Parts y (Break n r) = Unit {0}

    pub record Good (x : ℕ × At (Unit {0})) : Type 0 where
      pub among : Member (spread_of e (E x.1.before x.1.code)) (spread engine program)
      pub named : x.0 ≡ number x.1.code
      pub off : IsOff x.1.before
      pub parts : Parts x.1.before x.1.code

    good : (c : Code) (x : U) → IsOff x → Within (entries engine e c x) → Each Good (entries engine e c x)
    good Stop x o k = none_there Good
    good (Simple n effect r) x o k = each_more Good (E x (Simple n effect r)) _ (record { among = k _ here; named = refl; off = o; parts = tt }) (good r (after_it (Simple n effect r) x) (after_off x (Simple n effect r) (k _ here)) (λ p m. k p (there m)))
    good (If n guard t f r) x o k =
        let i = k _ here in
        let ot = into_off true n guard t f r x i in
        let of = into_off false n guard t f r x i in
        let kt = λ (p : ℕ × At (Unit {0})) (m : Member p (entries engine e t (into_it true n guard x))). k p (there (in_left _ m)) in
        let kf = λ (p : ℕ × At (Unit {0})) (m : Member p (entries engine e f (into_it false n guard x))). k p (there (in_right (entries engine e t (into_it true n guard x)) (in_left _ m))) in
        each_more Good (E x (If n guard t f r)) _ (record { among = k _ here; named = refl; off = o; parts = (block_off t (into_it true n guard x) ot kt, block_off f (into_it false n guard x) of kf) })
        (each_both Good _ _ (good t (into_it true n guard x) ot kt)
        (each_both Good _ _ (good f (into_it false n guard x) of kf)
        (good r (after_it (If n guard t f r) x) (after_off x (If n guard t f r) i) (λ p m. k p (there (in_right (entries engine e t (into_it true n guard x)) (in_right (entries engine e f (into_it false n guard x)) m)))))))
    good (While n guard b r) x o k =
        let kb = λ (p : ℕ × At (Unit {0})) (m : Member p (entries engine e b (mark Body 0 tt))). k p (there (in_left _ m)) in
        each_more Good (E x (While n guard b r)) _ (record { among = k _ here; named = refl; off = o; parts = block_off b (mark Body 0 tt) refl kb })
        (each_both Good _ _ (good b (mark Body 0 tt) refl kb)
        (good r (after_it (While n guard b r) x) (after_off x (While n guard b r) (k _ here)) (λ p m. k p (there (in_right (entries engine e b (mark Body 0 tt)) m)))))
    good (Call n call q r) x o k = each_more Good (E x (Call n call q r)) _ (record { among = k _ here; named = refl; off = o; parts = tt }) (good r (after_it (Call n call q r) x) (after_off x (Call n call q r) (k _ here)) (λ p m. k p (there m)))
    good (Break n r) x o k = each_more Good (E x (Break n r)) _ (record { among = k _ here; named = refl; off = o; parts = tt }) (good r (after_it (Break n r) x) (after_off x (Break n r) (k _ here)) (λ p m. k p (there m)))

  -- All statements of the program are good, and all those before their procedures are the program's.
  abbrev pub Whole : List Routine → Type 0
  Whole ps = (x : ℕ × Spread) → Member x (spread engine ps) → Member x (spread engine program)

  pub record Fair (x : ℕ × Spread) : Type 0 where
    pub good_there : Good x.1.scope (x.0, x.1.at)
    pub whole : Whole x.1.scope.earlier

  fair_map : (e : Scope) → Whole e.earlier → (xs : List (ℕ × At (Unit {0}))) → Each (Good e) xs → Each Fair (map (spread_of e) xs)
  fair_map e h [] g = none_there Fair
  fair_map e h (x ∷ xs) g = each_more Fair (spread_of e x) (map (spread_of e) xs) (record { good_there = g.at x here; whole = h }) (fair_map e h xs (record { at = λ y m. g.at y (there m) }))

  in_spread_of : (e : Scope) (q : ℕ × At (Unit {0})) (xs : List (ℕ × At (Unit {0}))) → Member q xs → Member (spread_of e q) (map (spread_of e) xs)
  in_spread_of e q [] m = elim m [ ]
  in_spread_of e q (y ∷ xs) here = here
  in_spread_of e q (y ∷ xs) (there m) = there (in_spread_of e q xs m)

  -- the scope of a procedure after these
  abbrev pub Sc : Routine → List Routine → Scope
  Sc = scope_of engine bare

  abbrev pub body_entries : Routine → List Routine → List (ℕ × At (Unit {0}))
  body_entries c e = entries engine (Sc c e) c.code (mark Entry 0 tt)

  pub within_body : (c : Routine) (e : List Routine) → Whole (c ∷ e) → Within (Sc c e) (body_entries c e)
  within_body c e h p m = h _ (in_left (spread engine e) (in_spread_of (Sc c e) p (body_entries c e) m))

  pub fair : (ps : List Routine) → Whole ps → Each Fair (spread engine ps)
  fair [] h = none_there Fair
  fair (c ∷ e) h =
      let k = λ (x : ℕ × Spread) (m : Member x (spread engine e)). h x (in_right (map (spread_of (Sc c e)) (body_entries c e)) m) in
      each_both Fair _ _ (fair_map (Sc c e) k (body_entries c e) (good (Sc c e) c.code (mark Entry 0 tt) refl (within_body c e h))) (fair e k)

  pub spread_from : (ps : List Routine) (q : ℕ) → Whole ps → Whole (from ps q)
  spread_from [] q h = h
  spread_from (b ∷ ps) q h = by_test q (length ps) (λ c. Whole (if c then b ∷ ps else from ps q)) (λ e. h) (λ e. spread_from ps q (λ x m. h x (in_right (map (spread_of (Sc b ps)) (body_entries b ps)) m)))

  -- Where a statement's rows' inputs stand.
  module _ (e : Scope) (y : U) (n : ℕ) (guard : Guard) (body r : Code) (g : Good e (number (While n guard body r), record { before = y; code = While n guard body r })) where
    abbrev t : ℕ
    t = span engine (body_span engine e) body + 2

    pub iterate_off : (i : ℕ) → i ≤ N → offset engine program (iterate_point engine bare n y.point i) ≡ y.rank + i * t
    iterate_off zero h = g.off ∙ omega arith
    iterate_off (suc i) h = ap (or_zero engine program) (by_it e y (While n guard body r) g.among (next_mark engine bare i) ∙ ap (λ q. when engine bare q (mark (Iterate n (suc i)) (y.rank + suc i * t) tt)) (less_test i N (omega arith)))

    pub round_base : (w : List NameFrame) (k : ℕ) → base engine program (InLoop n k ∷ w) ≡ base engine program w + suc (y.rank + k * t)
    round_base w k = ap (λ j. base engine program w + suc j) (ap (or_zero engine program) (by_it e y (While n guard body r) g.among (turn_of engine program k)))

    pub end_off : offset engine program (last_point body Body) ≤ span engine (body_span engine e) body
    end_off =
        let u : U = last engine bare e [] body (mark Body 0 tt) in
        let k : u.rank ≤ 0 + span engine (body_span engine e) body = known_rank engine bare e [] body (mark Body 0 tt) u (known_last engine bare e [] body (mark Body 0 tt)) in
        let i : offset engine program (last_point body Body) ≡ u.rank = ap (offset engine program) (sym (last_is engine bare e [] body (mark Body 0 tt))) ∙ g.parts.end in
        omega arith

    pub leave_off : (i : ℕ) (p : Point) → slice_get (leave_points body Body) i ≡ Some p → offset engine program p ≤ span engine (body_span engine e) body
    leave_off i p h =
        let u = got (point_of engine bare e []) (leaves engine bare e [] body (mark Body 0 tt)) i p (ap (λ xs. slice_get xs i) (leaves_are engine bare e [] body (mark Body 0 tt)) ∙ h) in
        let m : U = u.0 in
        let k : m.rank ≤ 0 + span engine (body_span engine e) body = known_rank engine bare e [] body (mark Body 0 tt) m ((known_leaves engine bare e [] body (mark Body 0 tt)).at m u.3) in
        let j : offset engine program m.point ≡ m.rank = g.parts.outs.at m u.3 in
        let s : offset engine program m.point ≡ offset engine program p = ap (offset engine program) u.2 in
        omega arith

    pub fix_off : offset engine program (Fix n) ≡ y.rank + N * t + 1
    fix_off = ap (or_zero engine program) (by_it e y (While n guard body r) g.among (fix_mark engine bare))

    pub exit_off : 0 < breaks body → offset engine program (Exit n) ≡ suc (y.rank + N * t + 1)
    exit_off h = ap (or_zero engine program) (by_it e y (While n guard body r) g.among (exit_mark engine bare) ∙ ap (λ q. when engine bare q (mark (Exit n) (suc (y.rank + N * t + 1)) tt)) (less_test 0 (breaks body) h))

    pub leap_off : (k i : ℕ) → place_of k (break_numbers body) ≡ Some i → suc i < breaks body → offset engine program (Leap n k) ≡ suc (suc (y.rank + N * t + 1 + i))
    leap_off k i o h =
        ap (or_zero engine program) (by_it e y (While n guard body r) g.among (leap_mark engine bare k)
        ∙ ap (λ o. if_some o (λ i. when engine bare (nat_lt (suc i) (breaks body)) (mark (Leap n k) (suc (suc (y.rank + N * t + 1 + i))) tt))) o
        ∙ ap (λ q. when engine bare q (mark (Leap n k) (suc (suc (y.rank + N * t + 1 + i))) tt)) (less_test (suc i) (breaks body) h))

    pub behind_off : offset engine program (Post n) ≡ y.rank + cost engine (body_span engine e) (While n guard body r)
    behind_off = after_off e y (While n guard body r) g.among
