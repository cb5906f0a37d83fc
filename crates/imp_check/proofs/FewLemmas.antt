-- A program without faults has few procedures and variables.
use Rattle.std.proofs.Common.{ℕ, zero, suc, ◌+◌, ◌-◌, ◌^◌, ◌<◌, ◌≡◌, min, Bool, true, false, not, List, [], ◌∷◌, ◌++◌, length, take, drop, get_or, map, append_assoc, append-nil, Option, Some, None, refl, ap, sym, ◌∙◌, subst, arith, nat_lt, add-one, drop-cons}
use Rattle.std.proofs.Math.Nat.{min-eq_left}
use Rattle.std.proofs.Math.Seq.{take-suc}
use Rattle.std.proofs.lemmas.Bool.{ltb-true}
use Rattle.imp_syntax.specs.Plain.{Procedure}
use Rattle.imp_syntax.specs.declared.words.Declaration.{Declaration}
use Rattle.imp_check.specs.declared.fault.Fault.{Fault}
use Rattle.imp_check.specs.declared.fault.Spot.{Spot}
use Rattle.imp_check.specs.Faults.{unless, first, at, in_procedure}
use Rattle.imp_check.specs.declared.fault.Fault.TheVariants.{Procedures, Statements as TooMany, Nesting, Redeclared, Ints, Lists}
use Rattle.imp_check.specs.Names.{variables, is_known, kind_of, is_named}
use Rattle.imp_check.specs.Statements.{block_fault}
use Rattle.imp_check.specs.Slots.{layout_in, routine_of, routines_from}
use Rattle.imp_slots.specs.Plain.{Layout}
use Rattle.imp_check.specs.Programs.{program_count, deepest, ending_fault, count_numeric, count_links, one_numeric, one_link, variable_fault, variables_fault, procedure_fault, procedures_fault, size_fault, check_fault, name_of, last_of}
use Rattle.imp_check.specs.Few.{HasFew, EachHasFew, AreFew}

pub first_none : {A : Type 0} (a b : Option A) → first a b ≡ None → (a ≡ None) × (b ≡ None)
first_none None b h = (refl, h)
first_none (Some x) b h = cc

pub first_alone : {A : Type 0} (a : Option A) → first a None ≡ a
first_alone None = refl
first_alone (Some x) = refl

pub first_left : {A : Type 0} (a b : Option A) → first a b ≡ None → a ≡ None
first_left a b h = (first_none a b h).0

pub first_right : {A : Type 0} (a b : Option A) → first a b ≡ None → b ≡ None
first_right a b h = (first_none a b h).1

pub unless_none : (b : Bool) (f : Fault) → unless b f ≡ None → b ≡ true
unless_none true f h = refl
unless_none false f h = cc

pub at_none : (n : ℕ) (f : Option Fault) → at n f ≡ None → f ≡ None
at_none n None h = refl
at_none n (Some f) h = cc

pub in_none : (p : List ℕ) (s : Option Spot) → in_procedure p s ≡ None → s ≡ None
in_none p None h = refl
in_none p (Some s) h = cc

numeric_more : (xs : List Declaration) (d : Declaration) → count_numeric (xs ++ d ∷ []) ≡ count_numeric xs + one_numeric d.kind
numeric_more [] d = omega arith
numeric_more (x ∷ xs) d = omega (arith, numeric_more xs d)

links_more : (xs : List Declaration) (d : Declaration) → count_links (xs ++ d ∷ []) ≡ count_links xs + one_link d.kind
links_more [] d = omega arith
links_more (x ∷ xs) d = omega (arith, links_more xs d)

pub unless_lt : (a b : ℕ) (f : Fault) → unless (nat_lt a b) f ≡ None → a < b
unless_lt a b f h = ltb-true a b (unless_none (nat_lt a b) f h)

variable_few : (seen : List Declaration) (d : Declaration) → variable_fault seen d ≡ None → (count_numeric (seen ++ d ∷ []) < 17) × (count_links (seen ++ d ∷ []) < 9)
variable_few seen d h =
    let r = (first_none (unless (not (is_known (kind_of seen d.name))) Redeclared) (first (unless (nat_lt (count_numeric seen + one_numeric d.kind) 17) Ints) (unless (nat_lt (count_links seen + one_link d.kind) 9) Lists)) h).1 in
    let p = first_none (unless (nat_lt (count_numeric seen + one_numeric d.kind) 17) Ints) (unless (nat_lt (count_links seen + one_link d.kind) 9) Lists) r in
    let a = unless_lt (count_numeric seen + one_numeric d.kind) 17 Ints p.0 in
    let b = unless_lt (count_links seen + one_link d.kind) 9 Lists p.1 in
    (omega (arith, a, numeric_more seen d), omega (arith, b, links_more seen d))

variables_few : (seen ds : List Declaration) → variables_fault seen ds ≡ None → (count_numeric seen < 17) × (count_links seen < 9) → (count_numeric (seen ++ ds) < 17) × (count_links (seen ++ ds) < 9)
variables_few seen [] h k = rw (append-nil seen) k
variables_few seen (d ∷ ds) h k =
    let p = first_none (variable_fault seen d) (variables_fault (seen ++ d ∷ []) ds) h in
    let r = variables_few (seen ++ d ∷ []) ds p.1 (variable_few seen d p.0) in
    rw (append_assoc seen (d ∷ []) ds) at r

pub few_of : (p : Procedure) → variables_fault [] (variables p) ≡ None → HasFew p
few_of p v = let few = variables_few [] (variables p) v (omega arith, omega arith) in record { numbers = few.0; links = few.1 }

procedure_few : (earlier others : List Procedure) (p : Procedure) → procedure_fault earlier others p ≡ None → HasFew p
procedure_few earlier others p h =
    let block = block_fault (record { earlier = earlier; others = others; variables = variables p }) false p.body in
    let r = (first_none (at 0 (unless (not (is_named earlier p.name)) Redeclared)) (first (at 0 (variables_fault [] (variables p))) block) h).1 in
    few_of p (at_none 0 (variables_fault [] (variables p)) (first_none (at 0 (variables_fault [] (variables p))) block r).0)

procedures_few : (earlier ps : List Procedure) → procedures_fault earlier ps ≡ None → EachHasFew ps
procedures_few earlier [] h = tt
procedures_few earlier (p ∷ ps) h =
    let q = first_none (in_procedure p.name (procedure_fault earlier (p ∷ ps) p)) (procedures_fault (earlier ++ p ∷ []) ps) h in
    (procedure_few earlier (p ∷ ps) p (in_none p.name (procedure_fault earlier (p ∷ ps) p) q.0), procedures_few (earlier ++ p ∷ []) ps q.1)

pub few_checked : (ps : List Procedure) → check_fault ps ≡ None → AreFew ps
few_checked ps h =
    let rest = first (procedures_fault [] ps) (in_procedure (name_of (last_of ps)) (at 0 (ending_fault ps))) in
    let p = first_none (in_procedure (name_of (last_of ps)) (at 0 (size_fault ps))) rest h in
    let size = at_none 0 (size_fault ps) (in_none (name_of (last_of ps)) (at 0 (size_fault ps)) p.0) in
    let others = first (unless (nat_lt (program_count ps) 10001) TooMany) (unless (nat_lt (deepest ps) 33) Nesting) in
    let few = unless_lt (length ps) 65 Procedures (first_none (unless (nat_lt (length ps) 65) Procedures) others size).0 in
    let each = procedures_few [] ps (first_none (procedures_fault [] ps) (in_procedure (name_of (last_of ps)) (at 0 (ending_fault ps))) p.1).0 in
    record { procedures = few; variables_of_each = each }

pub few_at : (ps : List Procedure) (i : ℕ) (p : Procedure) → EachHasFew ps → i < length ps → p ≡ get_or ps i p → HasFew p
few_at [] i p all h e = absurd (omega arith)
few_at (q ∷ ps) zero p all h e = subst HasFew (sym e) all.0
few_at (q ∷ ps) (suc i) p all h e = few_at ps i p all.1 (omega arith) e

-- the routines so far, and those to come
pub routines_step : (ps : List Procedure) (i : ℕ) (p : Procedure) → i < length ps → p ≡ get_or ps i p → routines_from (take i ps) (drop i ps) ≡ routine_of (take i ps) p ∷ routines_from (take (i + 1) ps) (drop (i + 1) ps)
routines_step ps i p h e = rw (drop-cons ps i p, add-one, take-suc ps i p, ← e) refl

pub layouts_step : (ps : List Procedure) (i : ℕ) (p : Procedure) → i < length ps → p ≡ get_or ps i p → map layout_in (take (i + 1) ps) ≡ map layout_in (take i ps) ++ layout_in p ∷ []
layouts_step [] i p h e = absurd (omega arith)
layouts_step (q ∷ ps) zero p h e = rw (← e) refl
layouts_step (q ∷ ps) (suc i) p h e = let r = layouts_step ps i p (omega arith) e in rw add-one (ap (λ (z : List Layout). layout_in q ∷ z) (rw add-one at r))

-- few statements, in few blocks inside one another
pub few_statements : (ps : List Procedure) → check_fault ps ≡ None → (program_count ps < 10001) × (deepest ps < 33)
few_statements ps h =
    let rest = first (procedures_fault [] ps) (in_procedure (name_of (last_of ps)) (at 0 (ending_fault ps))) in
    let p = first_none (in_procedure (name_of (last_of ps)) (at 0 (size_fault ps))) rest h in
    let size = at_none 0 (size_fault ps) (in_none (name_of (last_of ps)) (at 0 (size_fault ps)) p.0) in
    let others = first (unless (nat_lt (program_count ps) 10001) TooMany) (unless (nat_lt (deepest ps) 33) Nesting) in
    let q = first_none (unless (nat_lt (program_count ps) 10001) TooMany) (unless (nat_lt (deepest ps) 33) Nesting) (first_none (unless (nat_lt (length ps) 65) Procedures) others size).1 in
    (unless_lt (program_count ps) 10001 TooMany q.0, unless_lt (deepest ps) 33 Nesting q.1)

pub count_is : (ps : List Procedure) (n : ℕ) → n ≡ min (program_count ps) (2 ^ 32 - 1) → program_count ps < 10001 → n ≡ program_count ps
count_is ps n e h = e ∙ min-eq_left (omega arith)
