-- Programs without faults fit.
use Rattle.std.proofs.Common.{ℕ, ◌≡◌, ◌≢◌, ◌<◌, true, false, not, List, [], ◌∷◌, ◌++◌, length, map, None, refl, sym, ap, ◌∙◌, subst, arith, append_assoc, append-nil}
use Rattle.std.specs.Str.{bytes_eq}
use Rattle.std.specs.Cmp.Lexicographic.{bytes_decides}
use Rattle.std.proofs.lemmas.Bool.{and_parts, false≢true, not-true, or_from, or_parts}
use Rattle.imp_syntax.specs.Plain.{Procedure, numbers, program_numbers}
use Rattle.imp_slots.specs.Fits.{FitsRoutine, FitInTurn, IsChecked, Absent, Distinct, routine_numbers}
use Rattle.imp_slots.specs.Plain.{Routine}
use Rattle.imp_check.specs.declared.fault.Fault.TheVariants.{Redeclared}
use Rattle.imp_check.specs.Faults.{unless, first, at, in_procedure}
use Rattle.imp_check.specs.Names.{is_named, variables}
use Rattle.imp_check.specs.Statements.{block_fault}
use Rattle.imp_check.specs.Programs.{variables_fault, procedure_fault, procedures_fault, size_fault, ending_fault, check_fault, name_of, last_of, AreNumbered}
use Rattle.imp_check.specs.Slots.{layout_in, routine_of, routines_from, routines_of}
use Rattle.imp_check.specs.Small.{small_block, small_program}
use Rattle.imp_check.proofs.FewLemmas.{first_none, unless_none, at_none, in_none}
use Rattle.imp_check.proofs.Lookup.{Apart, apart}
use Rattle.imp_check.proofs.FitsBlocks.{EachApart, block_fits, block_keeps, block_numbers}

record Sound (earlier others : List Procedure) (p : Procedure) : Type 0 where
  new : is_named earlier p.name ≡ false
  vars : Apart (variables p)
  body : block_fault (record { earlier = earlier; others = others; variables = variables p }) false p.body ≡ None

procedure_sound : (earlier others : List Procedure) (p : Procedure) → procedure_fault earlier others p ≡ None → Sound earlier others p
procedure_sound earlier others p h =
    let block = block_fault (record { earlier = earlier; others = others; variables = variables p }) false p.body in
    let a = first_none (at 0 (unless (not (is_named earlier p.name)) Redeclared)) (first (at 0 (variables_fault [] (variables p))) block) h in
    let b = first_none (at 0 (variables_fault [] (variables p))) block a.1 in
    record {
      new = not-true (is_named earlier p.name) (unless_none (not (is_named earlier p.name)) Redeclared (at_none 0 (unless (not (is_named earlier p.name)) Redeclared) a.0));
      vars = apart [] (variables p) (at_none 0 (variables_fault [] (variables p)) b.0);
      body = b.1;
    }

more_routines : (earlier xs : List Procedure) (p : Procedure) → routines_from earlier (xs ++ p ∷ []) ≡ routines_from earlier xs ++ routine_of (earlier ++ xs) p ∷ []
more_routines earlier [] p = ap (λ (z : List Procedure). routine_of z p ∷ []) (sym (append-nil earlier))
more_routines earlier (x ∷ xs) p =
    ap (λ (z : List Routine). routine_of earlier x ∷ z)
    (more_routines (earlier ++ x ∷ []) xs p ∙ ap (λ (z : List Procedure). routines_from (earlier ++ x ∷ []) xs ++ routine_of z p ∷ []) (append_assoc earlier (x ∷ []) xs))

more_apart : (xs : List Procedure) (p : Procedure) → EachApart xs → Apart (variables p) → EachApart (xs ++ p ∷ [])
more_apart [] p a b = (b, tt)
more_apart (x ∷ xs) p a b = (a.0, more_apart xs p a.1 b)

routine_fits : (earlier others : List Procedure) (p : Procedure) → EachApart earlier → Sound earlier others p → small_block p.body ≡ true → FitsRoutine (routines_of earlier) (routine_of earlier p)
routine_fits earlier others p each so s = record {
  code = block_fits earlier others (variables p) each so.vars false p.body s so.body;
  no_break = block_keeps (record { earlier = earlier; others = others; variables = variables p }) (record { layout = layout_in p; earlier = earlier }) p.body so.body;
}

fit_in_turn : (earlier ps : List Procedure) → EachApart earlier → small_program ps ≡ true → procedures_fault earlier ps ≡ None → FitInTurn (routines_of earlier) (routines_from earlier ps)
fit_in_turn earlier [] each s h = tt
fit_in_turn earlier (p ∷ ps) each s h =
    let q = first_none (in_procedure p.name (procedure_fault earlier (p ∷ ps) p)) (procedures_fault (earlier ++ p ∷ []) ps) h in
    let so = procedure_sound earlier (p ∷ ps) p (in_none p.name (procedure_fault earlier (p ∷ ps) p) q.0) in
    let t = and_parts (small_block p.body) (small_program ps) s in
    let next = fit_in_turn (earlier ++ p ∷ []) ps (more_apart earlier p each so.vars) t.1 q.1 in
    (routine_fits earlier (p ∷ ps) p each so t.0, subst (λ (z : List Routine). FitInTurn z (routines_from (earlier ++ p ∷ []) ps)) (more_routines [] earlier p) next)

pub all_numbers : (earlier ps : List Procedure) → routine_numbers (routines_from earlier ps) ≡ program_numbers ps
all_numbers earlier [] = refl
all_numbers earlier (p ∷ ps) =
    ap (λ (z : List ℕ). z ++ routine_numbers (routines_from (earlier ++ p ∷ []) ps)) (block_numbers (record { layout = layout_in p; earlier = earlier }) p.body) ∙ ap (λ (z : List ℕ). numbers p.body ++ z) (all_numbers (earlier ++ p ∷ []) ps)

routine_names : (earlier ps : List Procedure) → map (λ (r : Routine). r.name) (routines_from earlier ps) ≡ map (λ (p : Procedure). p.name) ps
routine_names earlier [] = refl
routine_names earlier (p ∷ ps) = ap (λ (z : List (List ℕ)). p.name ∷ z) (routine_names (earlier ++ p ∷ []) ps)

other_name : (x y : List ℕ) → bytes_eq x y ≡ false → x ≢ y
other_name x y h e = false≢true (sym h ∙ (bytes_decides x y).1 e)

still_named : (xs : List Procedure) (p : Procedure) (x : List ℕ) → is_named (xs ++ p ∷ []) x ≡ false → (is_named xs x ≡ false) × (bytes_eq p.name x ≡ false)
still_named [] p x h = (refl, (or_parts (bytes_eq p.name x) false h).0)
still_named (y ∷ xs) p x h =
    let a = or_parts (bytes_eq y.name x) (is_named (xs ++ p ∷ []) x) h in
    let b = still_named xs p x a.1 in
    (or_from (bytes_eq y.name x) (is_named xs x) a.0 b.0, b.1)

-- a name that an earlier procedure has is none of the later ones
names_absent : (earlier ps : List Procedure) (x : List ℕ) → procedures_fault earlier ps ≡ None → ((y : List ℕ) → is_named earlier y ≡ false → x ≢ y) → Absent x (map (λ (p : Procedure). p.name) ps)
names_absent earlier [] x h f = tt
names_absent earlier (p ∷ ps) x h f =
    let q = first_none (in_procedure p.name (procedure_fault earlier (p ∷ ps) p)) (procedures_fault (earlier ++ p ∷ []) ps) h in
    let so = procedure_sound earlier (p ∷ ps) p (in_none p.name (procedure_fault earlier (p ∷ ps) p) q.0) in
    (f p.name so.new, names_absent (earlier ++ p ∷ []) ps x q.1 (λ y n. f y (still_named earlier p y n).0))

names_once : (earlier ps : List Procedure) → procedures_fault earlier ps ≡ None → Distinct (map (λ (p : Procedure). p.name) ps)
names_once earlier [] h = tt
names_once earlier (p ∷ ps) h =
    let q = first_none (in_procedure p.name (procedure_fault earlier (p ∷ ps) p)) (procedures_fault (earlier ++ p ∷ []) ps) h in
    (names_absent (earlier ++ p ∷ []) ps p.name q.1 (λ y n. other_name p.name y (still_named earlier p y n).1), names_once (earlier ++ p ∷ []) ps q.1)

no_main : ending_fault [] ≡ None → ⊥
no_main h = cc

some_procedure : (ps : List Procedure) → ending_fault ps ≡ None → 0 < length (routines_of ps)
some_procedure [] h = absurd (no_main h)
some_procedure (p ∷ ps) h = omega arith

pub programs_fit : (ps : List Procedure) → small_program ps ≡ true → check_fault ps ≡ None → AreNumbered ps → IsChecked (routines_of ps)
programs_fit ps s h k =
    let rest = first (procedures_fault [] ps) (in_procedure (name_of (last_of ps)) (at 0 (ending_fault ps))) in
    let a = (first_none (in_procedure (name_of (last_of ps)) (at 0 (size_fault ps))) rest h).1 in
    let b = first_none (procedures_fault [] ps) (in_procedure (name_of (last_of ps)) (at 0 (ending_fault ps))) a in
    let ends = at_none 0 (ending_fault ps) (in_none (name_of (last_of ps)) (at 0 (ending_fault ps)) b.1) in
    record {
      some = some_procedure ps ends;
      fit = fit_in_turn [] ps tt s b.0;
      numbers_once = subst (λ (z : List ℕ). Distinct z) (sym (all_numbers [] ps)) k.once;
      no_zero = subst (λ (z : List ℕ). Absent 0 z) (sym (all_numbers [] ps)) k.no_zero;
      names_once = subst (λ (z : List (List ℕ)). Distinct z) (sym (routine_names [] ps)) (names_once [] ps b.0);
    }
