-- In slots, a procedure more shifts the places of the callees after it.
use Rattle.std.proofs.lemmas.List.{length-append, take_at, drop_at}
use Rattle.std.proofs.Common.{◌≡◌, ◌≢◌, ◌<◌, ℕ, zero, suc, List, [], ◌∷◌, ◌++◌, length, map, take, drop, slice_get, Option, Some, Bool, true, false, cond, refl, sym, ap, ◌∙◌, subst, arith, append_assoc, append-nil}
use Rattle.std.specs.Str.{bytes_eq}
use Rattle.std.specs.Cmp.Lexicographic.{bytes_decides}
use Rattle.imp_syntax.specs.Plain.{Statement, Statements, Procedure}
use Rattle.imp_syntax.specs.Plain as tree
use Rattle.imp_slots.specs.Plain.{Layout, Invoke, Code, Simple, If, While, Call, Break, Routine}
use Rattle.imp_slots.specs.Fits.{Absent, Distinct, FitsCall, FitsCode, FitInTurn, IsChecked}
use Rattle.imp_check.specs.Names.{place_named}
use Rattle.imp_check.specs.Slots.{Resolver, layout_in, guard_in, effect_in, invoke_of, invoke_in, callee_in, statement_in, code_in, routine_of, routines_from, routines_of}
use Rattle.imp_flow.specs.Shifts.{shift, shift_code, shift_routine, put_in}
use Rattle.imp_flow.proofs.ShiftCode.{by_less}
use Rattle.call_contexts.proofs.Few.{as_many}
use Rattle.imp_slots.proofs.Distinct.{absent_end}

-- the names of procedures
abbrev names : List Procedure → List (List ℕ)
names ps = map (λ (p : Procedure). p.name) ps

names_last : (xs : List Procedure) (p : Procedure) → names (xs ++ p ∷ []) ≡ names xs ++ p.name ∷ []
names_last [] p = refl
names_last (x ∷ xs) p = ap (λ ns. x.name ∷ ns) (names_last xs p)

-- What is called stands among the procedures before.
called : (xs : List Routine) (q : ℕ) (l : Layout) (i : Invoke) → FitsCall l i (slice_get xs q) → q < length xs
called [] q l i f = absurd f
called (x ∷ xs) zero l i f = omega arith
called (x ∷ xs) (suc q) l i f = omega (arith, called xs q l i f)

-- A name that stands among others is not the one of p.
other_name : (p : Procedure) (xs : List Procedure) (g : List ℕ) → Absent p.name (names xs) → place_named xs g < length xs → bytes_eq p.name g ≡ false
other_name p [] g a l = absurd (omega arith)
other_name p (x ∷ xs) g a l = go (bytes_eq x.name g) (bytes_eq p.name g) refl refl l (other_name p xs g a.1)
  where
    go : (c d : Bool) → bytes_eq x.name g ≡ c → bytes_eq p.name g ≡ d → cond c 0 (suc (place_named xs g)) < suc (length xs) → (place_named xs g < length xs → bytes_eq p.name g ≡ false) → d ≡ false
    go c false e f l h = refl
    go true true e f l h = absurd (a.0 ((bytes_decides p.name g).0 f ∙ sym ((bytes_decides x.name g).0 e)))
    go false true e f l h = sym f ∙ h (omega arith)

-- With p after ps, a name of another is found one place further if it stands after ps.
place_shift : (ps : List Procedure) (p : Procedure) (done : List Procedure) (g : List ℕ) → bytes_eq p.name g ≡ false → place_named (ps ++ p ∷ done) g ≡ shift (length ps) (place_named (ps ++ done) g)
place_shift [] p done g h = ap (λ c. cond c 0 (suc (place_named done g))) h ∙ by_less 0 (place_named done g) (λ s. suc (place_named done g) ≡ s) (λ l. absurd (omega arith)) (λ l. refl)
place_shift (x ∷ ps) p done g h = go (bytes_eq x.name g) (place_shift ps p done g h)
  where
    more : (k q : ℕ) → suc (shift k q) ≡ shift (suc k) (suc q)
    more k q = by_less k q (λ s. suc s ≡ shift (suc k) (suc q)) (λ l. by_less (suc k) (suc q) (λ s. suc q ≡ s) (λ m. refl) (λ m. absurd (omega arith))) (λ l. by_less (suc k) (suc q) (λ s. suc (suc q) ≡ s) (λ m. absurd (omega arith)) (λ m. refl))

    go : (c : Bool) → place_named (ps ++ p ∷ done) g ≡ shift (length ps) (place_named (ps ++ done) g) → cond c 0 (suc (place_named (ps ++ p ∷ done) g)) ≡ shift (suc (length ps)) (cond c 0 (suc (place_named (ps ++ done) g)))
    go true e = by_less (suc (length ps)) 0 (λ s. 0 ≡ s) (λ l. refl) (λ l. absurd (omega arith))
    go false e = ap suc e ∙ more (length ps) (place_named (ps ++ done) g)

-- and the procedure there is the same
procedure_shift : (ps : List Procedure) (p : Procedure) (done : List Procedure) (q : ℕ) → slice_get (ps ++ p ∷ done) (shift (length ps) q) ≡ slice_get (ps ++ done) q
procedure_shift [] p done q = by_less 0 q (λ s. slice_get (p ∷ done) s ≡ slice_get done q) (λ l. absurd (omega arith)) (λ l. refl)
procedure_shift (x ∷ ps) p done zero = by_less (suc (length ps)) 0 (λ s. slice_get (x ∷ (ps ++ p ∷ done)) s ≡ Some x) (λ l. refl) (λ l. absurd (omega arith))
procedure_shift (x ∷ ps) p done (suc q) =
    by_less (suc (length ps)) (suc q) (λ s. slice_get (x ∷ (ps ++ p ∷ done)) s ≡ slice_get (ps ++ done) q)
    (λ l. by_less (length ps) q (λ s. slice_get (ps ++ p ∷ done) s ≡ slice_get (ps ++ done) q → slice_get (ps ++ p ∷ done) q ≡ slice_get (ps ++ done) q) (λ m e. e) (λ m e. absurd (omega arith)) (procedure_shift ps p done q))
    (λ l. by_less (length ps) q (λ s. slice_get (ps ++ p ∷ done) s ≡ slice_get (ps ++ done) q → slice_get (ps ++ p ∷ done) (suc q) ≡ slice_get (ps ++ done) q) (λ m e. absurd (omega arith)) (λ m e. e) (procedure_shift ps p done q))

-- The blocks of a procedure after p, where `done` stand between.
module _ (ps : List Procedure) (p : Procedure) (done : List Procedure) (away : Absent p.name (names (ps ++ done))) (before : List Routine) (as_long : length before ≡ length (ps ++ done)) (l : Layout) where
  abbrev K : ℕ
  K = length ps

  abbrev old : Resolver
  old = record { layout = l; earlier = ps ++ done }

  abbrev new : Resolver
  new = record { layout = l; earlier = ps ++ p ∷ done }

  callee_shift : (i : Invoke) (g : List ℕ) → FitsCall l i (slice_get before (callee_in old g)) → callee_in new g ≡ shift K (callee_in old g)
  callee_shift i g f = let h : place_named (ps ++ done) g < length before = called before (callee_in old g) l i f in place_shift ps p done g (other_name p (ps ++ done) g away (omega arith))

  mutual
    statement_shift : (s : Statement) (r t : Code) → FitsCode before l (statement_in old s r) → (FitsCode before l r → t ≡ shift_code K r) → statement_in new s t ≡ shift_code K (statement_in old s r)
    statement_shift (tree.Simple n a) r t f e = ap (λ (c : Code). Simple n (effect_in l a) c) (e f.1)
    statement_shift (tree.Break n) r t f e = ap (λ (c : Code). Break n c) (e f)
    statement_shift (tree.Call n x g es) r t f e =
        let q = callee_shift (invoke_in old x g es) g f.0 in
        ap (λ (j : ℕ). Call n (invoke_of l x es (slice_get (ps ++ p ∷ done) j)) j t) q
        ∙ ap (λ (o : Option Procedure). Call n (invoke_of l x es o) (shift K (callee_in old g)) t) (procedure_shift ps p done (callee_in old g))
        ∙ ap (λ (c : Code). Call n (invoke_in old x g es) (shift K (callee_in old g)) c) (e f.1)
    statement_shift (tree.If n c a b) r t f e =
        ap (λ (k : Code). If n (guard_in l c) k (code_in new b) t) (block_shift a f.1)
        ∙ ap (λ (k : Code). If n (guard_in l c) (shift_code K (code_in old a)) k t) (block_shift b f.2)
        ∙ ap (λ (k : Code). If n (guard_in l c) (shift_code K (code_in old a)) (shift_code K (code_in old b)) k) (e f.3)
    statement_shift (tree.While n c b) r t f e = ap (λ (k : Code). While n (guard_in l c) k t) (block_shift b f.1) ∙ ap (λ (k : Code). While n (guard_in l c) (shift_code K (code_in old b)) k) (e f.2)

    pub block_shift : (ss : Statements) → FitsCode before l (code_in old ss) → code_in new ss ≡ shift_code K (code_in old ss)
    block_shift tree.Ends f = refl
    block_shift (tree.Starts s ss) f = statement_shift s (code_in old ss) (code_in new ss) f (λ g. block_shift ss g)

routine_shift : (ps : List Procedure) (p : Procedure) (done : List Procedure) → Absent p.name (names (ps ++ done)) → (before : List Routine) → length before ≡ length (ps ++ done) → (q : Procedure) → FitsCode before (layout_in q) (routine_of (ps ++ done) q).code → routine_of (ps ++ p ∷ done) q ≡ shift_routine (length ps) (routine_of (ps ++ done) q)
routine_shift ps p done away before as_long q f = ap (λ (c : Code). record { name = q.name; layout = layout_in q; code = c }) (block_shift ps p done away before as_long (layout_in q) q.body f)

-- All procedures after p.
routines_shift : (ps : List Procedure) (p : Procedure) (done qs : List Procedure) → Absent p.name (names (ps ++ done)) → Absent p.name (names qs) → (before : List Routine) → length before ≡ length (ps ++ done) → FitInTurn before (routines_from (ps ++ done) qs) → routines_from (ps ++ p ∷ done) qs ≡ map (shift_routine (length ps)) (routines_from (ps ++ done) qs)
routines_shift ps p done [] away absent before as_long f = refl
routines_shift ps p done (q ∷ qs) away absent before as_long f =
    let s : (ps ++ done) ++ q ∷ [] ≡ ps ++ (done ++ q ∷ []) = append_assoc ps done (q ∷ []) in
    let t : (ps ++ p ∷ done) ++ q ∷ [] ≡ ps ++ p ∷ (done ++ q ∷ []) = append_assoc ps (p ∷ done) (q ∷ []) in
    let c : Routine = routine_of (ps ++ done) q in
    let n : length (before ++ c ∷ []) ≡ length (ps ++ (done ++ q ∷ [])) = omega (arith, length-append before (c ∷ []), length-append (ps ++ done) (q ∷ []), ap length s) in
    let a : Absent p.name (names (ps ++ (done ++ q ∷ []))) = subst (λ (xs : List Procedure). Absent p.name (names xs)) s (subst (Absent p.name) (sym (names_last (ps ++ done) q)) (absent_end p.name q.name (names (ps ++ done)) away absent.0)) in
    let rest = routines_shift ps p (done ++ q ∷ []) qs a absent.1 (before ++ c ∷ []) n (subst (λ (xs : List Procedure). FitInTurn (before ++ c ∷ []) (routines_from xs qs)) s f.1) in
    ap (λ (x : Routine). x ∷ routines_from ((ps ++ p ∷ done) ++ q ∷ []) qs) (routine_shift ps p done away before as_long q f.0.code)
    ∙ ap (λ (xs : List Routine). shift_routine (length ps) c ∷ xs)
    (ap (λ (xs : List Procedure). routines_from xs qs) t ∙ rest ∙ ap (λ (xs : List Procedure). map (shift_routine (length ps)) (routines_from xs qs)) (sym s))

-- A program's procedures are those of its first part and those of the rest.
routines_split : (earlier xs ys : List Procedure) → routines_from earlier (xs ++ ys) ≡ routines_from earlier xs ++ routines_from (earlier ++ xs) ys
routines_split earlier [] ys = ap (λ (z : List Procedure). routines_from z ys) (sym (append-nil earlier))
routines_split earlier (x ∷ xs) ys =
    ap (λ (z : List Routine). routine_of earlier x ∷ z)
    (routines_split (earlier ++ x ∷ []) xs ys ∙ ap (λ (z : List Procedure). routines_from (earlier ++ x ∷ []) xs ++ routines_from z ys) (append_assoc earlier (x ∷ []) xs))

fit_rest : (before xs ys : List Routine) → FitInTurn before (xs ++ ys) → FitInTurn (before ++ xs) ys
fit_rest before [] ys f = subst (λ (z : List Routine). FitInTurn z ys) (sym (append-nil before)) f
fit_rest before (x ∷ xs) ys f = subst (λ (z : List Routine). FitInTurn z ys) (append_assoc before (x ∷ []) xs) (fit_rest (before ++ x ∷ []) xs ys f.1)

routine_names : (earlier ps : List Procedure) → map (λ (r : Routine). r.name) (routines_from earlier ps) ≡ names ps
routine_names earlier [] = refl
routine_names earlier (p ∷ ps) = ap (λ (z : List (List ℕ)). p.name ∷ z) (routine_names (earlier ++ p ∷ []) ps)

-- A name that stands once is none of those around it.
record IsAlone (ps qs : List Procedure) (p : Procedure) : Type 0 where
  front : Absent p.name (names ps)
  behind : Absent p.name (names qs)

absent_at : (ps : List Procedure) (p : Procedure) (qs : List Procedure) (x : List ℕ) → Absent x (names (ps ++ p ∷ qs)) → p.name ≢ x
absent_at [] p qs x a e = a.0 (sym e)
absent_at (y ∷ ps) p qs x a e = absent_at ps p qs x a.1 e

alone : (ps : List Procedure) (p : Procedure) (qs : List Procedure) → Distinct (names (ps ++ p ∷ qs)) → IsAlone ps qs p
alone [] p qs d = record { front = tt; behind = d.0 }
alone (x ∷ ps) p qs d =
    let h = alone ps p qs d.1 in
    record { front = (absent_at ps p qs x.name d.0, h.front); behind = h.behind }

pub places_shift : (ps qs : List Procedure) (p : Procedure) → IsChecked (routines_of (ps ++ qs)) → IsChecked (routines_of (ps ++ p ∷ qs)) → routines_of (ps ++ p ∷ qs) ≡ put_in (length ps) (routine_of ps p) (routines_of (ps ++ qs))
places_shift ps qs p old new =
    let first = routines_from [] ps in
    let rest = routines_from ps qs in
    let count : length first ≡ length ps = as_many [] ps in
    let split : routines_of (ps ++ qs) ≡ first ++ rest = routines_split [] ps qs in
    let own : IsAlone ps qs p = alone ps p qs (subst Distinct (routine_names [] (ps ++ p ∷ qs)) new.names_once) in
    let nil : ps ++ [] ≡ ps = append-nil ps in
    let fit : FitInTurn first rest = fit_rest [] first rest (subst (λ (z : List Routine). FitInTurn [] z) split old.fit) in
    let shifted : routines_from (ps ++ p ∷ []) qs ≡ map (shift_routine (length ps)) rest =
    routines_shift ps p [] qs (subst (λ (z : List Procedure). Absent p.name (names z)) (sym nil) own.front) own.behind first (count ∙ ap length (sym nil)) (subst (λ (z : List Procedure). FitInTurn first (routines_from z qs)) (sym nil) fit)
    ∙ ap (λ (z : List Procedure). map (shift_routine (length ps)) (routines_from z qs)) nil in
    routines_split [] ps (p ∷ qs)
    ∙ ap (λ (z : List Routine). first ++ routine_of ps p ∷ z) shifted
    ∙ ap (λ (z : List Routine). z ++ routine_of ps p ∷ map (shift_routine (length ps)) rest) (sym (ap (take (length ps)) split ∙ take_at first rest (length ps) count))
    ∙ ap (λ (z : List Routine). take (length ps) (routines_of (ps ++ qs)) ++ routine_of ps p ∷ map (shift_routine (length ps)) z) (sym (ap (drop (length ps)) split ∙ drop_at first rest (length ps) count))
