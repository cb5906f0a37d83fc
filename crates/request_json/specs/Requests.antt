-- The request of a line.
use Rattle.std.specs.Prelude.{ℕ, nat_le, List, length, Option, Some, None, option_and_then, option_map, Result, Ok, Err, codes, if◌then◌else◌}
use Rattle.imp_lex.specs.Names.{is_name}
use Rattle.fault_words.specs.declared.finding.FaultVerdict.{FaultVerdict}
use Rattle.imp_syntax.specs.declared.words.VariableKind.{VariableKind}
use Rattle.imp_syntax.specs.declared.edit.Location.{Location}
use Rattle.imp_syntax.specs.declared.edit.Place.{Place}
use Rattle.serde_json.specs.Data.{Data}
use Rattle.serde_json.specs.Find.{get, as_str}
use Rattle.request_json.specs.declared.error.ReadError.{ReadError}
use Rattle.request_json.specs.declared.error.ReadError.TheVariants as e
use Rattle.request_json.specs.declared.names.Verb.{Verb}
use Rattle.request_json.specs.declared.names.Verb.TheVariants as v
use Rattle.request_json.specs.declared.request.Query.{Query}
use Rattle.request_json.specs.declared.request.Request.{Request}
use Rattle.request_json.specs.declared.request.Request.TheVariants as r
use Rattle.request_json.specs.declared.request.Task.{Task}
use Rattle.request_json.specs.declared.request.Task.TheVariants as task
use Rattle.request_json.specs.Members.{json_of, text_at, number_at, string_at, inputs_at, greatest_id, greatest_ticket, greatest_count}
use Rattle.request_json.specs.Names.{verb_of, verdict_of}
use Rattle.request_json.specs.Places.{location_of, place_of, kind_of}

-- the fields
abbrev pub location_at : Data → Option Location
location_at request = option_and_then location_of (text_at (codes "at") request)

-- where the field is a location or absent
abbrev pub location_if_there : Option Data → Option (Option Location)
location_if_there None = Some None
location_if_there (Some value) = option_map Some (option_and_then location_of (as_str value))

-- where the field is a verdict or absent
abbrev pub verdict_if_there : Option Data → Option (Option FaultVerdict)
verdict_if_there None = Some None
verdict_if_there (Some value) = option_map Some (option_and_then verdict_of (as_str value))

abbrev pub place_at : Data → Option Place
place_at request = option_and_then place_of (text_at (codes "place") request)

abbrev pub kind_at : Data → Option VariableKind
kind_at request = option_and_then kind_of (text_at (codes "kind") request)

abbrev pub if_name : List ℕ → Option (List ℕ)
if_name text = if is_name text then Some text else None

abbrev pub name_at : Data → Option (List ℕ)
name_at request = option_and_then if_name (text_at (codes "name") request)

abbrev pub id_at : Data → Option ℕ
id_at request = number_at greatest_id (codes "id") request

-- two fields, and three
abbrev pub both : {A B C : Type 0} → (A → B → C) → Option A → Option B → Option C
both f a b = option_and_then (λ x. option_map (f x) b) a

abbrev pub query_of : Location → List ℕ → Query
query_of at string = record { at = at; string = string }

abbrev pub query_at : Data → Option Query
query_at request = both query_of (location_at request) (string_at request)

-- a request, or a bad member
abbrev pub or_bad : Option Request → Result Request ReadError
or_bad None = Err e.BadMember
or_bad (Some request) = Ok request

-- a query whose call string is not too long
abbrev pub bounded_query : Option Query → Result Query ReadError
bounded_query None = Err e.BadMember
bounded_query (Some query) = if nat_le (length query.string) 2 then Ok query else Err e.LongString

-- what is made of a query, or of a task, that is there
abbrev pub made_of : {A B : Type 0} → (A → B) → Result A ReadError → Result B ReadError
made_of f (Err error) = Err error
made_of f (Ok a) = Ok (f a)

abbrev pub run_at : Data → Option Request
run_at request =
    option_and_then (λ inputs. both (r.Run inputs) (number_at greatest_count (codes "fuel") request) (location_if_there (get (codes "at") request)))
    (inputs_at request)

abbrev pub faults_at : Data → Option Request
faults_at request = option_map r.Faults (verdict_if_there (get (codes "only") request))

-- What a ticket is opened for: `what` names a request for a state, for what it depends on, or for a report, whose members stand
-- beside it.
abbrev pub faults_task : Option (Option FaultVerdict) → Result Task ReadError
faults_task None = Err e.BadMember
faults_task (Some only) = Ok (task.Faults only)

abbrev pub named_task : Data → Option Verb → Result Task ReadError
named_task request (Some v.State) = made_of task.State (bounded_query (query_at request))
named_task request (Some v.Why) = made_of task.Why (bounded_query (query_at request))
named_task request (Some v.Report) = Ok task.Report
named_task request (Some v.Faults) = faults_task (verdict_if_there (get (codes "only") request))
named_task request _ = Err e.BadMember

abbrev pub called_task : Data → Option (List ℕ) → Result Task ReadError
called_task request None = Err e.BadMember
called_task request (Some name) = named_task request (verb_of name)

abbrev pub task_at : Data → Result Task ReadError
task_at request = called_task request (text_at (codes "what") request)

abbrev pub declare_at : Data → Option Request
declare_at request = option_and_then (λ proc. both (r.Declare proc) (name_at request) (kind_at request)) (text_at (codes "proc") request)

abbrev pub replace_at : Data → Option Request
replace_at request = both r.Replace (id_at request) (text_at (codes "text") request)

abbrev pub insert_at : Data → Option Request
insert_at request = both r.Insert (place_at request) (text_at (codes "text") request)

abbrev pub delete_at : Data → Option Request
delete_at request = option_map r.Delete (id_at request)

abbrev pub guard_at : Data → Option Request
guard_at request = both r.Guard (id_at request) (text_at (codes "text") request)

abbrev pub add_at : Data → Option Request
add_at request = both r.Add (text_at (codes "before") request) (text_at (codes "text") request)

abbrev pub drop_at : Data → Option Request
drop_at request = option_map r.Drop (text_at (codes "proc") request)

abbrev pub step_at : Data → Option Request
step_at request = both r.Step (number_at greatest_ticket (codes "ticket") request) (number_at greatest_count (codes "n") request)

abbrev pub cancel_at : Data → Option Request
cancel_at request = option_map r.Cancel (number_at greatest_ticket (codes "ticket") request)

-- the request that a verb asks of the members
unfoldable pub verb_request : Verb → Data → Result Request ReadError
verb_request v.State request = made_of r.State (bounded_query (query_at request))
verb_request v.Report request = Ok r.Report
verb_request v.Cost request = Ok r.Cost
verb_request v.Program request = Ok r.Program
verb_request v.Listing request = Ok r.Listing
verb_request v.Run request = or_bad (run_at request)
verb_request v.Replace request = or_bad (replace_at request)
verb_request v.Insert request = or_bad (insert_at request)
verb_request v.Delete request = or_bad (delete_at request)
verb_request v.Guard request = or_bad (guard_at request)
verb_request v.Declare request = or_bad (declare_at request)
verb_request v.Add request = or_bad (add_at request)
verb_request v.Drop request = or_bad (drop_at request)
verb_request v.Why request = made_of r.Why (bounded_query (query_at request))
verb_request v.Undo request = Ok r.Undo
verb_request v.Redo request = Ok r.Redo
verb_request v.Ask request = made_of (λ query. r.Begin (task.State query)) (bounded_query (query_at request))
verb_request v.Begin request = made_of r.Begin (task_at request)
verb_request v.Step request = or_bad (step_at request)
verb_request v.Cancel request = or_bad (cancel_at request)
verb_request v.Faults request = or_bad (faults_at request)

abbrev pub named_request : Data → Option Verb → Result Request ReadError
named_request request None = Err e.NoRequest
named_request request (Some verb) = verb_request verb request

abbrev pub called_request : Data → Option (List ℕ) → Result Request ReadError
called_request request None = Err e.BadMember
called_request request (Some name) = named_request request (verb_of name)

abbrev pub data_request : Option Data → Result Request ReadError
data_request None = Err e.NoJson
data_request (Some request) = called_request request (text_at (codes "do") request)

-- the request of a line, or why it is none
unfoldable pub request_of : List ℕ → Result Request ReadError
request_of line = data_request (json_of line)
