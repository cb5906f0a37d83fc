-- The code of scopes.
use Rattle.std.specs.Prelude.{List, refl}
use Rattle.std.specs.Coded.{Coded, code_by, coded×, coded_list}
use Rattle.imp_syntax.specs.Plain.{Procedure}
use Rattle.imp_syntax.specs.ProgramCode.{program_code, declaration_code}
use Rattle.imp_syntax.specs.declared.words.Declaration.{Declaration}
use Rattle.imp_check.specs.Statements.{Scope}

abbrev pub scope_code : Coded Scope
scope_code =
    code_by (List Procedure × (List Procedure × List Declaration)) (coded× program_code (coded× program_code (coded_list declaration_code)))
    (λ s. (s.earlier, (s.others, s.variables)))
    (λ p. record { earlier = p.0; others = p.1.0; variables = p.1.1 })
    (λ _. refl)
