-- Blocks without faults fit the layouts.
use Rattle.std.proofs.Common.{ℕ, zero, suc, ◌≡◌, Bool, true, false, ◌&&◌, ◌||◌, cond, List, [], ◌∷◌, ◌++◌, slice_get, Option, Some, None, refl, sym, ap, ◌∙◌, subst, append_assoc}
use Rattle.std.specs.Prelude.{MatchOption}
use Rattle.std.specs.Str.{bytes_eq}
use Rattle.std.proofs.lemmas.Bool.{and_parts, false≢true, or_from}
use Rattle.imp_syntax.specs.Plain.{Operand, Condition, Action, Statement, Simple, Break, Call, If, While, Statements, Ends, Starts, Procedure, numbers_in, numbers}
use Rattle.imp_syntax.specs.declared.words.Declaration.{Declaration}
use Rattle.imp_slots.specs.Fits.{FitsCode, FitsCall, breaks, fits_invoke}
use Rattle.imp_slots.specs.Plain.{Code, Routine, code_numbers}
use Rattle.imp_check.specs.declared.fault.Fault.TheVariants.{UnknownName, CallsLater, WrongArguments, WrongKind}
use Rattle.imp_check.specs.Faults.{unless, first, at}
use Rattle.imp_check.specs.Names.{procedure_named, place_named, is_named, variables}
use Rattle.imp_check.specs.Kinds.{knows_action, knows_condition, knows_operands, fits_action, fits_condition}
use Rattle.imp_check.specs.Statements.{Scope, action_fault, condition_fault, callee_fault, knows_target, same_length, gives_result, fit_parameters, fits_result, arguments_fault, call_fault, statement_fault, block_fault}
use Rattle.imp_check.specs.Slots.{Resolver, layout_of, layout_in, invoke_of, invoke_in, statement_in, code_in, routine_of, routines_from, routines_of}
use Rattle.imp_check.specs.Small.{small_operands, small_condition, small_statement, small_block}
use Rattle.imp_check.proofs.FewLemmas.{first_none, unless_none, at_none}
use Rattle.imp_check.proofs.Lookup.{Apart}
use Rattle.imp_check.proofs.FitsTerms.{condition_fits}
use Rattle.imp_check.proofs.FitsActions.{action_fits, invoke_fits}

-- the variables of each have different names
abbrev pub EachApart : List Procedure → Type 0
EachApart [] = Unit {0}
EachApart (p ∷ ps) = Apart (variables p) × EachApart ps

apart_at : (ps : List Procedure) (i : ℕ) (q : Procedure) → EachApart ps → slice_get ps i ≡ Some q → Apart (variables q)
apart_at [] i q a h = cc
apart_at (p ∷ ps) zero q a h = let e : p ≡ q = cc in subst (λ (z : Procedure). Apart (variables z)) e a.0
apart_at (p ∷ ps) (suc i) q a h = apart_at ps i q a.1 h

-- the first procedure of a name is the one at its place
named_by : (b : Bool) (p : Procedure) (ps : List Procedure) (g : List ℕ) → procedure_named ps g ≡ slice_get ps (place_named ps g) → cond b (Some p) (procedure_named ps g) ≡ slice_get (p ∷ ps) (cond b 0 (suc (place_named ps g)))
named_by true p ps g h = refl
named_by false p ps g h = h

named_at : (ps : List Procedure) (g : List ℕ) → procedure_named ps g ≡ slice_get ps (place_named ps g)
named_at [] g = refl
named_at (p ∷ ps) g = named_by (bytes_eq p.name g) p ps g (named_at ps g)

there_by : (b : Bool) (p : Procedure) (ps : List Procedure) (g : List ℕ) → (is_named ps g ≡ true → (q : Procedure) × (procedure_named ps g ≡ Some q)) → (b || is_named ps g) ≡ true → (q : Procedure) × (cond b (Some p) (procedure_named ps g) ≡ Some q)
there_by true p ps g ih h = (p, refl)
there_by false p ps g ih h = ih h

is_named_there : (ps : List Procedure) (g : List ℕ) → is_named ps g ≡ true → (q : Procedure) × (procedure_named ps g ≡ Some q)
is_named_there [] g h = absurd (false≢true h)
is_named_there (p ∷ ps) g h = there_by (bytes_eq p.name g) p ps g (is_named_there ps g) h

-- the routine of a procedure has its layout
routine_there : (earlier ps : List Procedure) (i : ℕ) (q : Procedure) (P : Routine → Type 0) → ((r : Routine) → r.layout ≡ layout_in q → P r) → slice_get ps i ≡ Some q → MatchOption (slice_get (routines_from earlier ps) i) ⊥ P
routine_there earlier [] i q P f h = cc
routine_there earlier (p ∷ ps) zero q P f h = let e : p ≡ q = cc in f (routine_of earlier p) (ap layout_in e)
routine_there earlier (p ∷ ps) (suc i) q P f h = routine_there (earlier ++ p ∷ []) ps i q P f h

pub action_none : (vs : List Declaration) (a : Action) → action_fault vs a ≡ None → fits_action vs a ≡ true
action_none vs a h = unless_none (fits_action vs a) WrongKind (first_none (unless (knows_action vs a) UnknownName) (unless (fits_action vs a) WrongKind) h).1

pub condition_none : (vs : List Declaration) (c : Condition) → condition_fault vs c ≡ None → fits_condition vs c ≡ true
condition_none vs c h = unless_none (fits_condition vs c) WrongKind (first_none (unless (knows_condition vs c) UnknownName) (unless (fits_condition vs c) WrongKind) h).1

call_at : (vs : List Declaration) (earlier : List Procedure) (x : Option (List ℕ)) (es : List Operand) (i : ℕ) (q : Procedure) → slice_get earlier i ≡ Some q → fits_invoke (layout_of vs) (invoke_of (layout_of vs) x es (Some q)) ≡ true → FitsCall (layout_of vs) (invoke_of (layout_of vs) x es (slice_get earlier i)) (slice_get (routines_of earlier) i)
call_at vs earlier x es i q place fit =
    subst (λ (z : Option Procedure). FitsCall (layout_of vs) (invoke_of (layout_of vs) x es z) (slice_get (routines_of earlier) i)) (sym place)
    (routine_there [] earlier i q (λ (r : Routine). (r.layout ≡ layout_in q) × (fits_invoke (layout_of vs) (invoke_of (layout_of vs) x es (Some q)) ≡ true)) (λ r e. (e, fit)) place)

call_fits : (earlier others : List Procedure) (vs : List Declaration) → EachApart earlier → Apart vs → (x : Option (List ℕ)) (g : List ℕ) (es : List Operand) → small_operands es ≡ true → call_fault (record { earlier = earlier; others = others; variables = vs }) x g es ≡ None → FitsCall (layout_of vs) (invoke_in (record { layout = layout_of vs; earlier = earlier }) x g es) (slice_get (routines_of earlier) (place_named earlier g))
call_fits earlier others vs each p x g es s h =
    let sc : Scope = record { earlier = earlier; others = others; variables = vs } in
    let rest = arguments_fault vs x es (procedure_named earlier g) in
    let two = first (unless (knows_operands vs es) UnknownName) rest in
    let a = (first_none (unless (knows_target vs x) UnknownName) (first (callee_fault sc g) two) h).1 in
    let b = first_none (callee_fault sc g) two a in
    let c = (first_none (unless (knows_operands vs es) UnknownName) rest b.1).1 in
    let named = unless_none (is_named earlier g) CallsLater (first_none (unless (is_named earlier g || is_named (sc.others) g) UnknownName) (unless (is_named earlier g) CallsLater) b.0).1 in
    let there = is_named_there earlier g named in
    let q = there.0 in
    let d : arguments_fault vs x es (Some q) ≡ None = ap (arguments_fault vs x es) (sym there.1) ∙ c in
    let k = first_none (unless (same_length es q.parameters && gives_result x q.outcome) WrongArguments) (unless (fit_parameters vs es q.parameters && fits_result vs x q.outcome) WrongKind) d in
    let m = and_parts (same_length es q.parameters) (gives_result x q.outcome) (unless_none (same_length es q.parameters && gives_result x q.outcome) WrongArguments k.0) in
    let n = and_parts (fit_parameters vs es q.parameters) (fits_result vs x q.outcome) (unless_none (fit_parameters vs es q.parameters && fits_result vs x q.outcome) WrongKind k.1) in
    let place : slice_get earlier (place_named earlier g) ≡ Some q = sym (named_at earlier g) ∙ there.1 in
    let fit = invoke_fits vs p q (apart_at earlier (place_named earlier g) q each place) x es s m.0 n.0 n.1 in
    call_at vs earlier x es (place_named earlier g) q place fit

mutual
  statement_fits : (earlier others : List Procedure) (vs : List Declaration) → EachApart earlier → Apart vs → (inside : Bool) (st : Statement) (r : Code) → small_statement st ≡ true → statement_fault (record { earlier = earlier; others = others; variables = vs }) inside st ≡ None → FitsCode (routines_of earlier) (layout_of vs) r → FitsCode (routines_of earlier) (layout_of vs) (statement_in (record { layout = layout_of vs; earlier = earlier }) st r)
  statement_fits earlier others vs each p inside (Simple n a) r s h k = (action_fits vs p a s (action_none vs a (at_none n (action_fault vs a) h)), k)
  statement_fits earlier others vs each p inside (Break n) r s h k = k
  statement_fits earlier others vs each p inside (Call n x g es) r s h k = (call_fits earlier others vs each p x g es s (at_none n (call_fault (record { earlier = earlier; others = others; variables = vs }) x g es) h), k)
  statement_fits earlier others vs each p inside (If n c t e) r s h k =
      let sc : Scope = record { earlier = earlier; others = others; variables = vs } in
      let u = and_parts (small_condition c) (small_block t && small_block e) s in
      let w = and_parts (small_block t) (small_block e) u.1 in
      let a = first_none (at n (condition_fault vs c)) (first (block_fault sc inside t) (block_fault sc inside e)) h in
      let b = first_none (block_fault sc inside t) (block_fault sc inside e) a.1 in
      (condition_fits vs p c u.0 (condition_none vs c (at_none n (condition_fault vs c) a.0)), block_fits earlier others vs each p inside t w.0 b.0, block_fits earlier others vs each p inside e w.1 b.1, k)
  statement_fits earlier others vs each p inside (While n c t) r s h k =
      let sc : Scope = record { earlier = earlier; others = others; variables = vs } in
      let u = and_parts (small_condition c) (small_block t) s in
      let a = first_none (at n (condition_fault vs c)) (block_fault sc true t) h in
      (condition_fits vs p c u.0 (condition_none vs c (at_none n (condition_fault vs c) a.0)), block_fits earlier others vs each p true t u.1 a.1, k)

  pub block_fits : (earlier others : List Procedure) (vs : List Declaration) → EachApart earlier → Apart vs → (inside : Bool) (b : Statements) → small_block b ≡ true → block_fault (record { earlier = earlier; others = others; variables = vs }) inside b ≡ None → FitsCode (routines_of earlier) (layout_of vs) (code_in (record { layout = layout_of vs; earlier = earlier }) b)
  block_fits earlier others vs each p inside Ends s h = tt
  block_fits earlier others vs each p inside (Starts st ss) s h =
      let sc : Scope = record { earlier = earlier; others = others; variables = vs } in
      let f : Resolver = record { layout = layout_of vs; earlier = earlier } in
      let u = and_parts (small_statement st) (small_block ss) s in
      let a = first_none (statement_fault sc inside st) (block_fault sc inside ss) h in
      statement_fits earlier others vs each p inside st (code_in f ss) u.0 a.0 (block_fits earlier others vs each p inside ss u.1 a.1)

mutual
  statement_keeps : (sc : Scope) (f : Resolver) (st : Statement) (r : Code) → statement_fault sc false st ≡ None → breaks r ≡ false → breaks (statement_in f st r) ≡ false
  statement_keeps sc f (Simple n a) r h k = k
  statement_keeps sc f (Break n) r h k = cc
  statement_keeps sc f (Call n x g es) r h k = k
  statement_keeps sc f (If n c t e) r h k =
      let a = first_none (at n (condition_fault sc.variables c)) (first (block_fault sc false t) (block_fault sc false e)) h in
      let b = first_none (block_fault sc false t) (block_fault sc false e) a.1 in
      or_from (breaks (code_in f t)) (breaks (code_in f e) || breaks r) (block_keeps sc f t b.0) (or_from (breaks (code_in f e)) (breaks r) (block_keeps sc f e b.1) k)
  statement_keeps sc f (While n c t) r h k = k

  pub block_keeps : (sc : Scope) (f : Resolver) (b : Statements) → block_fault sc false b ≡ None → breaks (code_in f b) ≡ false
  block_keeps sc f Ends h = refl
  block_keeps sc f (Starts st ss) h =
      let a = first_none (statement_fault sc false st) (block_fault sc false ss) h in
      statement_keeps sc f st (code_in f ss) a.0 (block_keeps sc f ss a.1)

mutual
  statement_numbers : (f : Resolver) (st : Statement) (r : Code) → code_numbers (statement_in f st r) ≡ numbers_in st ++ code_numbers r
  statement_numbers f (Simple n a) r = refl
  statement_numbers f (Break n) r = refl
  statement_numbers f (Call n x g es) r = refl
  statement_numbers f (If n c t e) r =
      ap (λ (z : List ℕ). n ∷ z)
      (ap (λ (z : List ℕ). z ++ (code_numbers (code_in f e) ++ code_numbers r)) (block_numbers f t) ∙ ap (λ (z : List ℕ). numbers t ++ (z ++ code_numbers r)) (block_numbers f e) ∙ sym (append_assoc (numbers t) (numbers e) (code_numbers r)))
  statement_numbers f (While n c t) r = ap (λ (z : List ℕ). n ∷ (z ++ code_numbers r)) (block_numbers f t)

  pub block_numbers : (f : Resolver) (b : Statements) → code_numbers (code_in f b) ≡ numbers b
  block_numbers f Ends = refl
  block_numbers f (Starts st ss) = statement_numbers f st (code_in f ss) ∙ ap (λ (z : List ℕ). numbers_in st ++ z) (block_numbers f ss)
