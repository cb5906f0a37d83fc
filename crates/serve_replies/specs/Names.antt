-- The names of faults and limits.
use Rattle.std.specs.Prelude.{ℕ, List, [], Bool, true, false, codes}
use Rattle.imp_lex.specs.declared.error.LexError.{LexError}
use Rattle.imp_lex.specs.declared.error.LexError.TheVariants as lex
use Rattle.imp_check.specs.declared.fault.Fault.{Fault}
use Rattle.imp_check.specs.declared.fault.Fault.TheVariants as f

-- the name of a lexical fault, and its byte; lack of memory is the fault of no text
abbrev pub lexical_name : LexError → List ℕ
lexical_name (lex.BadByte at) = codes "BadByte"
lexical_name (lex.NumberTooBig at) = codes "NumberTooBig"
lexical_name (lex.NameTooLong at) = codes "NameTooLong"
lexical_name lex.Memory = []

abbrev pub lexical_place : LexError → ℕ
lexical_place (lex.BadByte at) = at
lexical_place (lex.NumberTooBig at) = at
lexical_place (lex.NameTooLong at) = at
lexical_place lex.Memory = 0

-- the name of a program's fault
abbrev pub name_of_fault : Fault → List ℕ
name_of_fault f.Procedures = codes "Procedures"
name_of_fault f.Statements = codes "Statements"
name_of_fault f.Nesting = codes "Nesting"
name_of_fault f.Redeclared = codes "Redeclared"
name_of_fault f.Ints = codes "Ints"
name_of_fault f.Lists = codes "Lists"
name_of_fault f.UnknownName = codes "UnknownName"
name_of_fault f.CallsLater = codes "CallsLater"
name_of_fault f.WrongArguments = codes "WrongArguments"
name_of_fault f.WrongKind = codes "WrongKind"
name_of_fault f.BreakOutside = codes "BreakOutside"
name_of_fault f.NoMain = codes "NoMain"
name_of_fault f.MainHasParameters = codes "MainHasParameters"
name_of_fault f.Depth = codes "Depth"
name_of_fault f.Chains = codes "Chains"

-- the faults that are limits
abbrev pub is_limit : Fault → Bool
is_limit f.Procedures = true
is_limit f.Statements = true
is_limit f.Nesting = true
is_limit f.Redeclared = false
is_limit f.Ints = true
is_limit f.Lists = true
is_limit f.UnknownName = false
is_limit f.CallsLater = false
is_limit f.WrongArguments = false
is_limit f.WrongKind = false
is_limit f.BreakOutside = false
is_limit f.NoMain = false
is_limit f.MainHasParameters = false
is_limit f.Depth = true
is_limit f.Chains = true
