-- The statements that an edit brings carry the numbers from the next one on.
use Rattle.std.proofs.Common.{◌≡◌, ℕ, ◌+◌, List, append-nil, ap, ◌∙◌, subst, arith}
use Rattle.imp_syntax.specs.Plain.{Statement, Statements, Procedure, numbers, numbers_in}
use Rattle.imp_syntax.specs.declared.edit.Edit.TheVariants as edit
use Rattle.imp_syntax.specs.declared.edit.Place.{Place}
use Rattle.imp_check.specs.Programs.{statement_count, block_count}
use Rattle.imp_edit.specs.Edited.{counting, Continues}
use Rattle.imp_parse.specs.Answer.{HasTree}
use Rattle.imp_parse.specs.Languages.{SimpleText, BodyText, ProcedureText}
use Rattle.imp_parse.specs.Limits.{inside, outside}
use Rattle.serve_answers.proofs.Numbered.{simple_counts, statements_counts, procedure_counts}

pub replace_continues : (next id : ℕ) (text : List ℕ) (s : Statement × ℕ) → HasTree (SimpleText next) inside text s → Continues (edit.Replace id s.0) next
replace_continues next id text s tree =
    append-nil (numbers_in s.0) ∙ (simple_counts tree.2.0.0).are
    ∙ ap (counting next) (let e : statement_count s.0 ≡ statement_count s.0 + 0 = omega arith in e)

pub insert_continues : (next : ℕ) (at : Place) (text : List ℕ) (b : Statements × ℕ) → HasTree (BodyText next) inside text b → Continues (edit.Insert at b.0) next
insert_continues next at text b tree =
    let body = tree.2.0 in
    let P : Statements → Type 0 = λ ss. numbers ss ≡ counting next (block_count ss) in
    subst P body.2 (statements_counts body.1).are

pub add_continues : (next : ℕ) (before text : List ℕ) (p : Procedure × ℕ) → HasTree (ProcedureText next) outside text p → Continues (edit.AddProc before p.0) next
add_continues next before text p tree = (procedure_counts tree.2.0).are
