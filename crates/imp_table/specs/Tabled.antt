-- What a table is seen as.
use Rattle.std.specs.Prelude.{ℕ, List, refl}
use Rattle.std.specs.Coded.{Coded, code_by, coded×, coded_list, coded_ℕ}
use Rattle.imp_syntax.specs.Plain.{Procedure}
use Rattle.imp_syntax.specs.ProgramCode.{program_code}

-- a program, and how many places each page of its table has
pub record Tabled : Type 0 where
  pub program : List Procedure
  pub places : List ℕ

abbrev pub tabled_code : Coded Tabled
tabled_code = code_by (List Procedure × List ℕ) (coded× program_code (coded_list coded_ℕ)) (λ t. (t.program, t.places)) (λ p. record { program = p.0; places = p.1 }) (λ _. refl)
