-- The codes of plain procedures and programs.
use Rattle.std.specs.Prelude.{ℕ, zero, suc, List, ◌≡◌, refl, Option, Some, None}
use Rattle.std.specs.Coded.{code_by}
use Rattle.base_values.specs.Equal.{list_to, text_to, text_from, text_from_to}
use Rattle.imp_syntax.specs.Plain.{Procedure}
use Rattle.imp_syntax.specs.Code.{left, right, list_from, list_back, number_from}
use Rattle.imp_syntax.specs.StmtCode.{block_to, block_from, block_back}
use Rattle.imp_syntax.specs.declared.words.Declaration.{Declaration}
use Rattle.imp_syntax.specs.declared.words.VariableKind.{VariableKind}
use Rattle.imp_syntax.specs.declared.words.VariableKind.TheVariants.{Int, Array, List as OfLinks}
use base.Stored.{Coded, Gv, gnil, gnum, gcons}
use denote.Struct.Codes.{itself}

abbrev pub kind_number : VariableKind → ℕ
kind_number Int = 0
kind_number Array = 1
kind_number OfLinks = 2

abbrev pub kind_at : ℕ → VariableKind
kind_at zero = Int
kind_at (suc zero) = Array
kind_at (suc (suc n)) = OfLinks

pub kind_back : (k : VariableKind) → kind_at (kind_number k) ≡ k
kind_back Int = refl
kind_back Array = refl
kind_back OfLinks = refl

abbrev pub declaration_to : Declaration → Gv
declaration_to d = gcons (text_to d.name) (gnum (kind_number d.kind))

abbrev pub declaration_from : Gv → Declaration
declaration_from p = record { name = text_from (left p); kind = kind_at (number_from (right p)) }

pub declaration_back : (d : Declaration) → declaration_from (declaration_to d) ≡ d
declaration_back d = λ i. record { name = text_from_to d.name i; kind = kind_back d.kind i }

abbrev pub declaration_code : Coded Declaration
declaration_code = code_by Gv itself declaration_to declaration_from declaration_back

abbrev pub outcome_to : Option Declaration → Gv
outcome_to None = gnil
outcome_to (Some d) = gcons gnil (declaration_to d)

abbrev pub outcome_from : Gv → Option Declaration
outcome_from gnil = None
outcome_from (gnum n) = None
outcome_from (gcons a d) = Some (declaration_from d)

pub outcome_back : (o : Option Declaration) → outcome_from (outcome_to o) ≡ o
outcome_back None = refl
outcome_back (Some d) = λ i. Some (declaration_back d i)

abbrev pub procedure_to : Procedure → Gv
procedure_to p = gcons (text_to p.name) (gcons (list_to declaration_to p.parameters) (gcons (outcome_to p.outcome) (gcons (list_to declaration_to p.locals) (block_to p.body))))

abbrev pub procedure_from : Gv → Procedure
procedure_from g = record {
  name = text_from (left g);
  parameters = list_from declaration_from (left (right g));
  outcome = outcome_from (left (right (right g)));
  locals = list_from declaration_from (left (right (right (right g))));
  body = block_from (right (right (right (right g))));
}

pub procedure_back : (p : Procedure) → procedure_from (procedure_to p) ≡ p
procedure_back p = λ i. record {
  name = text_from_to p.name i;
  parameters = list_back declaration_to declaration_from declaration_back p.parameters i;
  outcome = outcome_back p.outcome i;
  locals = list_back declaration_to declaration_from declaration_back p.locals i;
  body = block_back p.body i;
}

abbrev pub procedure_code : Coded Procedure
procedure_code = code_by Gv itself procedure_to procedure_from procedure_back

abbrev pub program_code : Coded (List Procedure)
program_code = code_by Gv itself (list_to procedure_to) (list_from procedure_from) (list_back procedure_to procedure_from procedure_back)
