-- What is read is printable, and is read back the same.
use Rattle.std.proofs.Common.{ℕ, List, [], ◌++◌, sym, subst}
use Rattle.std.proofs.lemmas.List.{append-nil}
use Rattle.imp_lex.specs.declared.token.TokenKind.{TokenKind}
use Rattle.std.specs.Prelude.{false}
use Rattle.imp_syntax.specs.Plain.{Procedure}
use Rattle.imp_parse.specs.Answer.{HasTree}
use Rattle.imp_parse.specs.Kinds.{kinds}
use Rattle.imp_parse.specs.Languages.{ProgramText}
use Rattle.imp_parse.specs.Limits.{outside}
use Rattle.imp_print.specs.Programs.{program_text}
use Rattle.imp_round_trip.specs.ReadBack.{ReadIsPrintable, ReadProcedureIsPrintable, ReadBodyIsPrintable, ReadSimpleIsPrintable, ReadConditionIsPrintable, ReadIsReadBack}
use Rattle.imp_round_trip.specs.Printable.{IsPrintableBlock}
use Rattle.imp_round_trip.proofs.Budgets.{Safe}
use Rattle.imp_round_trip.proofs.ReadWords.{condition_words}
use Rattle.imp_round_trip.proofs.GoodTokens.{lexed_good}
use Rattle.imp_round_trip.proofs.ReadPrograms.{simple_back, statements_back, procedure_back, program_back}
use Rattle.imp_round_trip.proofs.Numbered.{program_numbered}
use Rattle.imp_round_trip.proofs.ReadBack.{read_back}

pub printable : ReadIsPrintable
printable text ps h = program_back (kinds h.0) ps h.2.0 (lexed_good 0 text h.0 h.1) h.2.1

pub same_again : ReadIsReadBack
same_again text ps h = subst (λ (tree : List Procedure). HasTree ProgramText outside (program_text false ps) tree) (program_numbered (kinds h.0) ps h.2.0) (read_back ps (printable text ps h))

-- ---- pieces

before_nothing : (depth : ℕ) (ts : List TokenKind) → Safe depth 0 ts → Safe depth 0 (ts ++ [])
before_nothing depth ts h = subst (Safe depth 0) (sym (append-nil ts)) h

pub procedure_printable : ReadProcedureIsPrintable
procedure_printable n text p h = (procedure_back n (kinds h.0) p.0 p.1 [] h.2.0 (lexed_good 0 text h.0 h.1) (before_nothing 0 (kinds h.0) (record { none = h.2.1 }))).0

pub body_printable : ReadBodyIsPrintable
body_printable n text b h = subst (IsPrintableBlock 0) h.2.0.2 (statements_back n (kinds h.0) h.2.0.0 b.1 0 [] h.2.0.1 (lexed_good 0 text h.0 h.1) (before_nothing 1 (kinds h.0) (record { none = h.2.1 }))).0

pub simple_printable : ReadSimpleIsPrintable
simple_printable n text s h = (simple_back n (kinds h.0) s.0 1 0 [] h.2.0.0 (lexed_good 0 text h.0 h.1) (before_nothing 1 (kinds h.0) (record { none = h.2.1 }))).0

pub condition_printable : ReadConditionIsPrintable
condition_printable text c h = record { words = condition_words (kinds h.0) c h.2.0 (lexed_good 0 text h.0 h.1); tokens = kinds h.0; spelled = h.2.0; fits = h.2.1 }
