-- The texts of procedures and programs.
use Rattle.std.specs.Prelude.{ℕ, Bool, List, [], ◌∷◌, ◌++◌, Option, Some, None, codes}
use Rattle.imp_syntax.specs.Plain.{Procedure}
use Rattle.imp_syntax.specs.declared.words.VariableKind as kinds
use Rattle.imp_syntax.specs.declared.words.VariableKind.TheVariants as v
use Rattle.imp_syntax.specs.declared.words.Declaration.{Declaration}
use Rattle.imp_print.specs.Statements.{line, block_text}

abbrev pub kind_text : kinds.VariableKind → List ℕ
kind_text v.Int = codes "int"
kind_text v.Array = codes "array"
kind_text v.List = codes "list"

abbrev pub declaration_text : Declaration → List ℕ
declaration_text d = d.name ++ codes ": " ++ kind_text d.kind

-- declarations after the first
abbrev pub more_declarations_text : List Declaration → List ℕ
more_declarations_text [] = []
more_declarations_text (d ∷ ds) = codes ", " ++ declaration_text d ++ more_declarations_text ds

abbrev pub declarations_text : List Declaration → List ℕ
declarations_text [] = []
declarations_text (d ∷ ds) = declaration_text d ++ more_declarations_text ds

abbrev pub outcome_text : Option Declaration → List ℕ
outcome_text None = []
outcome_text (Some d) = codes " -> " ++ declaration_text d

-- a line for each local variable
abbrev pub locals_text : Bool → List ℕ → List Declaration → List ℕ
locals_text listing right [] = []
locals_text listing right (d ∷ ds) = line listing None right (codes "var " ++ declaration_text d ++ codes ";") ++ locals_text listing right ds

abbrev pub signature_text : Procedure → List ℕ
signature_text p = codes "proc " ++ p.name ++ codes "(" ++ declarations_text p.parameters ++ codes ")"

-- a procedure's first line
abbrev pub head_text : Procedure → List ℕ
head_text p = signature_text p ++ outcome_text p.outcome ++ codes " {"

unfoldable pub procedure_text : Bool → Procedure → List ℕ
procedure_text listing p =
    line listing None [] (head_text p)
    ++ locals_text listing (codes "  ") p.locals
    ++ block_text listing (codes "  ") p.body
    ++ line listing None [] (codes "}")

-- a program as text, or as a listing
abbrev pub program_text : Bool → List Procedure → List ℕ
program_text listing [] = []
program_text listing (p ∷ ps) = procedure_text listing p ++ program_text listing ps
