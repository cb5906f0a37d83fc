-- The refusals of lines, texts and programs, as those of replies.
use Rattle.std.specs.Prelude.{codes, [], if◌then◌else◌}
use Rattle.imp_words.specs.declared.refusal.QueryRefusal.TheVariants as why
use Rattle.imp_parse.specs.declared.error.ParseError.{ParseError}
use Rattle.imp_parse.specs.declared.error.ParseError.TheVariants as parse
use Rattle.imp_check.specs.declared.fault.LocatedFault.{LocatedFault}
use Rattle.request_json.specs.declared.error.ReadError.{ReadError}
use Rattle.request_json.specs.declared.error.ReadError.TheVariants as e
use Rattle.request_json.specs.declared.reply.Refusal.{Refusal}
use Rattle.request_json.specs.declared.reply.Refusal.TheVariants as refusal
use Rattle.request_json.specs.declared.reply.ProgramFault.{ProgramFault}
use Rattle.serve_replies.specs.Names.{lexical_name, lexical_place, name_of_fault, is_limit}

-- why a line is no request; lack of memory is the fault of no line
abbrev pub line_refusal : ReadError → Refusal
line_refusal e.NoJson = refusal.NoJson
line_refusal e.BadMember = refusal.BadMember
line_refusal e.NoRequest = refusal.NoRequest
line_refusal e.LongString = refusal.Query why.LongString
line_refusal e.Memory = refusal.NoRequest

-- the refusal of a text that is not read; lack of memory is the fault of no text
abbrev pub text_refusal : ParseError → Refusal
text_refusal (parse.Lex fault) = refusal.Unread (lexical_place fault) (lexical_name fault)
text_refusal (parse.Unexpected token) = refusal.Unread token (codes "Unexpected")
text_refusal (parse.TooDeep token) = refusal.Unread token (codes "TooDeep")
text_refusal parse.Memory = refusal.Unread 0 []

-- the refusal of a program with a fault
abbrev pub place_of : LocatedFault → ProgramFault
place_of found = record { at = found.at; name = name_of_fault found.fault; proc = found.proc }

abbrev pub fault_refusal : LocatedFault → Refusal
fault_refusal found = if is_limit found.fault then refusal.Limit (place_of found) else refusal.IllFormed (place_of found)
