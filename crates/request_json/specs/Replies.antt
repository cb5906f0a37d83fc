-- The line of a reply.
use Rattle.std.specs.Prelude.{ℕ, ◌==◌, List, [], ◌∷◌, ◌++◌, length, Option, Some, None, codes, if◌then◌else◌}
use Rattle.std.specs.Str.Lossy.{utf8_valid_len}
use Rattle.serde_json.specs.Data.{Data, Items, no_items, item, Members, no_members, put, object, array, string, number, unsigned}
use Rattle.serde_json.specs.Written.{compact_text}
use Rattle.request_json.specs.declared.reply.Reply.{Reply}
use Rattle.request_json.specs.declared.reply.Reply.TheVariants as r
use Rattle.fault_words.specs.declared.finding.FaultFinding.{FaultFinding}
use Rattle.fault_words.specs.declared.finding.FaultVerdict.{FaultVerdict}
use Rattle.fault_words.specs.declared.finding.FaultVerdict.TheVariants as of_fault
use Rattle.imp_words.specs.declared.findings.Finding.{Finding}
use Rattle.imp_words.specs.declared.findings.Check.{Check}
use Rattle.imp_words.specs.declared.findings.Check.TheVariants as check
use Rattle.imp_words.specs.declared.verdict.Verdict.{Verdict}
use Rattle.imp_words.specs.declared.verdict.Verdict.TheVariants as verdict
use Rattle.imp_words.specs.declared.fault.FaultKind.{FaultKind}
use Rattle.imp_words.specs.declared.fault.FaultKind.TheVariants as fault
use Rattle.imp_words.specs.declared.run_end.RunEnd.{RunEnd}
use Rattle.imp_words.specs.declared.run_end.RunEnd.TheVariants as end
use Rattle.imp_words.specs.declared.refusal.QueryRefusal as why
use Rattle.imp_words.specs.declared.refusal.QueryRefusal.TheVariants as query
use Rattle.request_json.specs.declared.reply.Refusal.{Refusal}
use Rattle.request_json.specs.declared.reply.Refusal.TheVariants as refusal
use Rattle.request_json.specs.declared.reply.ProgramFault.{ProgramFault}

-- the members of these keys and values, in the order of the keys
abbrev pub members_of : List (List ℕ × Data) → Members
members_of [] = no_members
members_of ((key, value) ∷ fields) = put key value (members_of fields)

abbrev pub object_of : List (List ℕ × Data) → Data
object_of fields = object (members_of fields)

-- a whole number
abbrev pub count : ℕ → Data
count n = number (unsigned n)

-- bytes as a text; bytes that are not UTF-8 are no text, and the empty one stands for them
abbrev pub text_of : List ℕ → Data
text_of bytes = string (if utf8_valid_len bytes == length bytes then bytes else [])

-- the list of what each item gives
abbrev pub items_of : {A : Type 0} → (A → Data) → List A → Items
items_of f [] = no_items
items_of f (x ∷ xs) = item (f x) (items_of f xs)

abbrev pub list_of : {A : Type 0} → (A → Data) → List A → Data
list_of f xs = array (items_of f xs)

-- the words
abbrev pub check_name : Check → List ℕ
check_name check.Bounds = codes "bounds"
check_name check.Null = codes "null"
check_name check.Assert = codes "assert"

abbrev pub verdict_name : Verdict → List ℕ
verdict_name verdict.Dead = codes "dead"
verdict_name verdict.Safe = codes "safe"
verdict_name verdict.May = codes "may"

abbrev pub fault_name : FaultKind → List ℕ
fault_name fault.Overflow = codes "overflow"
fault_name fault.Zero = codes "zero"
fault_name fault.Index = codes "index"
fault_name fault.Length = codes "length"
fault_name fault.Null = codes "null"
fault_name fault.Assert = codes "assert"

-- the check of a statement, and what is found of it
abbrev pub check_fields : Finding → List (List ℕ × Data)
check_fields found = (codes "check", string (check_name found.check)) ∷ (codes "id", count found.id) ∷ []

abbrev pub item_data : Finding → Data
item_data found = object_of (check_fields found ++ (codes "verdict", string (verdict_name found.verdict)) ∷ [])

-- what is found of a fault
abbrev pub fault_verdict_name : FaultVerdict → List ℕ
fault_verdict_name of_fault.Dead = codes "dead"
fault_verdict_name of_fault.Safe = codes "safe"
fault_verdict_name of_fault.May = codes "may"
fault_verdict_name of_fault.Fails = codes "fails"

abbrev pub fault_data : FaultFinding → Data
fault_data f = object_of ((codes "fault", string (fault_name f.fault)) ∷ (codes "id", count f.id) ∷ (codes "verdict", string (fault_verdict_name f.verdict)) ∷ [])

-- how a run ended, where and by which fault, and how often it stood at the location
abbrev pub end_name : RunEnd → List ℕ
end_name end.Ended = codes "ended"
end_name (end.Fault id fault) = codes "fault"
end_name (end.InputsUsedUp id) = codes "inputs"
end_name end.FuelUsedUp = codes "fuel"

abbrev pub end_fields : RunEnd → List (List ℕ × Data)
end_fields end.Ended = []
end_fields (end.Fault id fault) = (codes "fault", string (fault_name fault)) ∷ (codes "id", count id) ∷ []
end_fields (end.InputsUsedUp id) = (codes "id", count id) ∷ []
end_fields end.FuelUsedUp = []

abbrev pub reached_fields : Option ℕ → List (List ℕ × Data)
reached_fields None = []
reached_fields (Some n) = (codes "reached", count n) ∷ []

-- the number of why a query has no answer
abbrev pub query_number : why.QueryRefusal → ℕ
query_number query.NoStatement = 4
query_number query.NoProcedure = 5
query_number query.WrongStatement = 6
query_number query.NoChain = 10
query_number query.LongString = 11

-- the number of a refusal
unfoldable pub refusal_number : Refusal → ℕ
refusal_number refusal.NoJson = 1
refusal_number refusal.BadMember = 2
refusal_number refusal.NoRequest = 3
refusal_number (refusal.Query why) = query_number why
refusal_number (refusal.Unread at name) = 7
refusal_number (refusal.IllFormed fault) = 8
refusal_number (refusal.Limit fault) = 9
refusal_number refusal.StillCalled = 12
refusal_number refusal.NoTicket = 13
refusal_number refusal.ManyTickets = 14
refusal_number refusal.LongLine = 15
refusal_number refusal.Gone = 16
refusal_number refusal.NothingToUndo = 17
refusal_number refusal.NothingToRedo = 18

-- where a program's fault is
abbrev pub fault_fields : ProgramFault → List (List ℕ × Data)
fault_fields fault = (codes "at", count fault.at) ∷ (codes "name", text_of fault.name) ∷ (codes "proc", text_of fault.proc) ∷ []

-- where the cause of a refusal is: of a text, a well formed program and a limit
abbrev pub place_fields : Refusal → List (List ℕ × Data)
place_fields (refusal.Unread at name) = (codes "at", count at) ∷ (codes "name", text_of name) ∷ []
place_fields (refusal.IllFormed fault) = fault_fields fault
place_fields (refusal.Limit fault) = fault_fields fault
place_fields refusal.NoJson = []
place_fields refusal.BadMember = []
place_fields refusal.NoRequest = []
place_fields (refusal.Query why) = []
place_fields refusal.StillCalled = []
place_fields refusal.NoTicket = []
place_fields refusal.ManyTickets = []
place_fields refusal.LongLine = []
place_fields refusal.Gone = []
place_fields refusal.NothingToUndo = []
place_fields refusal.NothingToRedo = []

-- the keys of a reply, and their values
unfoldable pub reply_fields : Reply → List (List ℕ × Data)
reply_fields (r.State text) = (codes "state", text_of text) ∷ []
reply_fields (r.Over head chain) = (codes "chain", list_of count chain) ∷ (codes "over", count head) ∷ []
reply_fields (r.Report items) = (codes "report", list_of item_data items) ∷ []
reply_fields (r.Faults found) = (codes "faults", list_of fault_data found) ∷ []
reply_fields (r.Cost cost kept) = (codes "cost", count cost) ∷ (codes "kept", count kept) ∷ []
reply_fields (r.Program next text) = (codes "next", count next) ∷ (codes "program", text_of text) ∷ []
reply_fields (r.Listing text) = (codes "listing", text_of text) ∷ []
reply_fields (r.Run end reached) = end_fields end ++ reached_fields reached ++ (codes "run", string (end_name end)) ∷ []
reply_fields (r.Next next) = (codes "next", count next) ∷ []
reply_fields (r.Why ids) = (codes "why", list_of count ids) ∷ []
reply_fields (r.Ticket ticket) = (codes "ticket", count ticket) ∷ []
reply_fields (r.Pending filled) = (codes "pending", count filled) ∷ []
reply_fields (r.Cancelled ticket) = (codes "cancelled", count ticket) ∷ []
reply_fields (r.Refused refusal) = place_fields refusal ++ (codes "refused", count (refusal_number refusal)) ∷ []

-- the line: compact JSON, with the keys in order, and LF
unfoldable pub reply_text : Reply → List ℕ
reply_text reply = compact_text (object_of (reply_fields reply)) ++ 10 ∷ []
