-- A checked program has few procedures.
use Rattle.std.proofs.Common.{ℕ, ◌<◌, ◌^◌, ◌≡◌, List, [], ◌∷◌, ◌++◌, length, Option, Some, None, refl, arith, nat_lt, sym, ◌∙◌}
use Rattle.std.proofs.lemmas.Bool.{ltb-true}
use Rattle.imp_syntax.specs.Plain.{Procedure}
use Rattle.imp_check.specs.declared.fault.Fault.{Fault}
use Rattle.imp_check.specs.declared.fault.Fault.TheVariants.{Procedures, Statements as TooMany, Nesting}
use Rattle.imp_check.specs.Faults.{unless, first, at, in_procedure}
use Rattle.imp_check.specs.Programs.{program_count, deepest, ending_fault, procedures_fault, size_fault, check_fault, name_of, last_of}
use Rattle.imp_check.specs.Slots.{routines_from, routines_of}
use Rattle.imp_check.specs.Entries.{heads_of}
use Rattle.imp_check.proofs.TableLemmas.{heads_length}
use Rattle.imp_slots.specs.Fits.{IsChecked}
use Rattle.imp_check.proofs.FewLemmas.{unless_none, first_left}

at_none : (p : List ℕ) (n : ℕ) (f : Option Fault) → in_procedure p (at n f) ≡ None → f ≡ None
at_none p n None h = refl
at_none p n (Some f) h = cc

few : (ps : List Procedure) → check_fault ps ≡ None → length ps < 65
few ps h =
    let s = at_none (name_of (last_of ps)) 0 (size_fault ps) (first_left (in_procedure (name_of (last_of ps)) (at 0 (size_fault ps))) (first (procedures_fault [] ps) (in_procedure (name_of (last_of ps)) (at 0 (ending_fault ps)))) h) in
    ltb-true (length ps) 65 (unless_none (nat_lt (length ps) 65) Procedures (first_left (unless (nat_lt (length ps) 65) Procedures) (first (unless (nat_lt (program_count ps) 10001) TooMany) (unless (nat_lt (deepest ps) 33) Nesting)) s))

pub as_many : (earlier ps : List Procedure) → length (routines_from earlier ps) ≡ length ps
as_many earlier [] = refl
as_many earlier (p ∷ later) = omega (arith, as_many (earlier ++ p ∷ []) later)

pub few_routines : (ps : List Procedure) → check_fault ps ≡ None → length (routines_of ps) < 2 ^ 32
few_routines ps h = omega (arith, few ps h, as_many [] ps)

-- one procedure or more, and at most 64
pub as_many_heads : (ps : List Procedure) → length (heads_of ps) ≡ length (routines_of ps)
as_many_heads ps = heads_length ps ∙ sym (as_many [] ps)

pub some_heads : (ps : List Procedure) → IsChecked (routines_of ps) → 0 < length (heads_of ps)
some_heads ps c = let s = c.some in omega (arith, as_many_heads ps)

pub few_heads : (ps : List Procedure) → check_fault ps ≡ None → length (heads_of ps) < 65
few_heads ps h = omega (arith, few ps h, heads_length ps)
