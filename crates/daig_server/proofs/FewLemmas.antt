-- A program without faults is small.
use Rattle.std.proofs.Common.{◌≡◌, ◌<◌, nat_lt, true, List, [], ◌∷◌, length, None, length-append, refl, arith}
use Rattle.std.proofs.lemmas.Bool.Decides.{nat_tests}
use Rattle.imp_syntax.specs.Plain.{Procedure, program_numbers}
use Rattle.imp_check.specs.declared.fault.Fault.TheVariants.{Procedures, Statements as TooMany, Nesting}
use Rattle.imp_check.specs.Faults.{unless, first, at, in_procedure}
use Rattle.imp_check.specs.Programs.{program_count, deepest, size_fault, procedures_fault, ending_fault, check_fault, name_of, last_of}
use Rattle.imp_check.proofs.FewLemmas.{unless_none, at_none, first_left, first_right, in_none}
use Rattle.edit_entries.proofs.CallFree.{numbers_count}

size_holds : (ps : List Procedure) → check_fault ps ≡ None → size_fault ps ≡ None
size_holds ps is =
    at_none 0 (size_fault ps) (in_none (name_of (last_of ps)) (at 0 (size_fault ps))
    (first_left (in_procedure (name_of (last_of ps)) (at 0 (size_fault ps))) (first (procedures_fault [] ps) (in_procedure (name_of (last_of ps)) (at 0 (ending_fault ps)))) is))

few_statements : (ps : List Procedure) → check_fault ps ≡ None → program_count ps < 10001
few_statements ps is =
    let rest : first (unless (nat_lt (program_count ps) 10001) TooMany) (unless (nat_lt (deepest ps) 33) Nesting) ≡ None = first_right (unless (nat_lt (length ps) 65) Procedures) (first (unless (nat_lt (program_count ps) 10001) TooMany) (unless (nat_lt (deepest ps) 33) Nesting)) (size_holds ps is) in
    let test : nat_lt (program_count ps) 10001 ≡ true = unless_none (nat_lt (program_count ps) 10001) TooMany (first_left (unless (nat_lt (program_count ps) 10001) TooMany) (unless (nat_lt (deepest ps) 33) Nesting) rest) in
    grind (arith, nat_tests)

pub number_count : (ps : List Procedure) → length (program_numbers ps) ≡ program_count ps
number_count [] = refl
number_count (p ∷ ps) = simp length-append (omega (arith, numbers_count p.body, number_count ps))

pub few_numbers : (ps : List Procedure) → check_fault ps ≡ None → length (program_numbers ps) < 10001
few_numbers ps is = let few : program_count ps < 10001 = few_statements ps is in omega (arith, number_count ps)
