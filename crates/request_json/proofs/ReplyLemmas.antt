-- How replies are sent, and the text that they are then.
use Rattle.std.proofs.Common.{◌≡◌, ℕ, List, [], ◌∷◌, ◌++◌, length, false, Option, Some, None, codes, refl}
use Rattle.serde.specs.Event.{Log, Logs, map_begins, map_ends}
use Rattle.serde_json.specs.Data.{string}
use Rattle.serde_json.specs.Events.{SendsValue}
use Rattle.serde_json.specs.Written.{compact_text, has_float}
use Rattle.serde_json.specs.Sent.{IsTextOf}
use Rattle.serde_json.proofs.FreeTexts.{text_of_value}
use Rattle.serde_json.proofs.OnLiterals.{serde_json_on_literals}
use Rattle.request_json.specs.declared.reply.Reply.{Reply}
use Rattle.request_json.specs.declared.reply.Reply.TheVariants as r
use Rattle.request_json.specs.declared.reply.Refusal.{Refusal}
use Rattle.request_json.specs.declared.reply.Refusal.TheVariants as refusal
use Rattle.fault_words.specs.declared.finding.FaultFinding.{FaultFinding}
use Rattle.imp_words.specs.declared.findings.Finding.{Finding}
use Rattle.imp_words.specs.declared.run_end.RunEnd.{RunEnd}
use Rattle.imp_words.specs.declared.run_end.RunEnd.TheVariants as end
use Rattle.request_json.specs.Replies.{object_of, list_of, count, check_fields, item_data, fault_data, check_name, verdict_name, fault_name, fault_verdict_name, reply_fields}
use Rattle.request_json.specs.Sending.{SendsField, SendsFields}
use Rattle.request_json.proofs.SendingLemmas.{IsSorted, object_sent, AreWhole, object_whole, counts_whole}

-- ---- what is found of a statement

pub item_sent : (found : Finding) (old first a b last new : Log) → Logs old first (map_begins (Some 3)) → SendsField (codes "check") (string (check_name found.check)) first a → SendsField (codes "id") (count found.id) a b → SendsField (codes "verdict") (string (verdict_name found.verdict)) b last → Logs last new map_ends → SendsValue (item_data found) old new
unfolding serde_json_on_literals
item_sent found old first a b last new begun check id verdict ended =
    object_sent (check_fields found ++ (codes "verdict", string (verdict_name found.verdict)) ∷ []) (refl, (refl, tt)) old first last new begun (a, check, (b, id, (last, verdict, refl))) ended

pub fault_sent : (f : FaultFinding) (old first a b last new : Log) → Logs old first (map_begins (Some 3)) → SendsField (codes "fault") (string (fault_name f.fault)) first a → SendsField (codes "id") (count f.id) a b → SendsField (codes "verdict") (string (fault_verdict_name f.verdict)) b last → Logs last new map_ends → SendsValue (fault_data f) old new
unfolding serde_json_on_literals
fault_sent f old first a b last new begun fault id verdict ended =
    object_sent ((codes "fault", string (fault_name f.fault)) ∷ (codes "id", count f.id) ∷ (codes "verdict", string (fault_verdict_name f.verdict)) ∷ []) (refl, (refl, tt)) old first last new begun (a, fault, (b, id, (last, verdict, refl))) ended

-- ---- replies

run_sorted : (e : RunEnd) (reached : Option ℕ) → IsSorted (reply_fields (r.Run e reached))
unfolding serde_json_on_literals reply_fields
run_sorted end.Ended None = tt
run_sorted end.Ended (Some n) = (refl, tt)
run_sorted (end.Fault id fault) None = (refl, (refl, tt))
run_sorted (end.Fault id fault) (Some n) = (refl, (refl, (refl, tt)))
run_sorted (end.InputsUsedUp id) None = (refl, tt)
run_sorted (end.InputsUsedUp id) (Some n) = (refl, (refl, tt))
run_sorted end.FuelUsedUp None = tt
run_sorted end.FuelUsedUp (Some n) = (refl, tt)

refusal_sorted : (why : Refusal) → IsSorted (reply_fields (r.Refused why))
unfolding serde_json_on_literals reply_fields
refusal_sorted (refusal.Unread at name) = (refl, (refl, tt))
refusal_sorted (refusal.IllFormed fault) = (refl, (refl, (refl, tt)))
refusal_sorted (refusal.Limit fault) = (refl, (refl, (refl, tt)))
refusal_sorted refusal.NoJson = tt
refusal_sorted refusal.BadMember = tt
refusal_sorted refusal.NoRequest = tt
refusal_sorted (refusal.Query why) = tt
refusal_sorted refusal.StillCalled = tt
refusal_sorted refusal.NoTicket = tt
refusal_sorted refusal.ManyTickets = tt
refusal_sorted refusal.LongLine = tt
refusal_sorted refusal.Gone = tt
refusal_sorted refusal.NothingToUndo = tt
refusal_sorted refusal.NothingToRedo = tt

replies_sorted : (reply : Reply) → IsSorted (reply_fields reply)
unfolding serde_json_on_literals reply_fields
replies_sorted (r.State text) = tt
replies_sorted (r.Over head chain) = (refl, tt)
replies_sorted (r.Report items) = tt
replies_sorted (r.Faults found) = tt
replies_sorted (r.Cost cost kept) = (refl, tt)
replies_sorted (r.Program next text) = (refl, tt)
replies_sorted (r.Listing text) = tt
replies_sorted (r.Run e reached) = run_sorted e reached
replies_sorted (r.Next next) = tt
replies_sorted (r.Why ids) = tt
replies_sorted (r.Ticket ticket) = tt
replies_sorted (r.Pending filled) = tt
replies_sorted (r.Cancelled ticket) = tt
replies_sorted (r.Refused why) = refusal_sorted why

pub reply_sent : (reply : Reply) (old first last new : Log) → Logs old first (map_begins (Some (length (reply_fields reply)))) → SendsFields (reply_fields reply) first last → Logs last new map_ends → SendsValue (object_of (reply_fields reply)) old new
reply_sent reply old first last new begun sent ended = object_sent (reply_fields reply) (replies_sorted reply) old first last new begun sent ended

-- ---- no reply has a float

items_whole : (items : List Finding) → has_float (list_of item_data items) ≡ false
unfolding serde_json_on_literals
items_whole [] = refl
items_whole (i ∷ items) = items_whole items

faults_whole : (found : List FaultFinding) → has_float (list_of fault_data found) ≡ false
unfolding serde_json_on_literals
faults_whole [] = refl
faults_whole (f ∷ found) = faults_whole found

run_whole : (e : RunEnd) (reached : Option ℕ) → AreWhole (reply_fields (r.Run e reached))
unfolding reply_fields
run_whole end.Ended None = (refl, tt)
run_whole end.Ended (Some n) = (refl, (refl, tt))
run_whole (end.Fault id fault) None = (refl, (refl, (refl, tt)))
run_whole (end.Fault id fault) (Some n) = (refl, (refl, (refl, (refl, tt))))
run_whole (end.InputsUsedUp id) None = (refl, (refl, tt))
run_whole (end.InputsUsedUp id) (Some n) = (refl, (refl, (refl, tt)))
run_whole end.FuelUsedUp None = (refl, tt)
run_whole end.FuelUsedUp (Some n) = (refl, (refl, tt))

refusal_whole : (why : Refusal) → AreWhole (reply_fields (r.Refused why))
unfolding reply_fields
refusal_whole (refusal.Unread at name) = (refl, (refl, (refl, tt)))
refusal_whole (refusal.IllFormed fault) = (refl, (refl, (refl, (refl, tt))))
refusal_whole (refusal.Limit fault) = (refl, (refl, (refl, (refl, tt))))
refusal_whole refusal.NoJson = (refl, tt)
refusal_whole refusal.BadMember = (refl, tt)
refusal_whole refusal.NoRequest = (refl, tt)
refusal_whole (refusal.Query why) = (refl, tt)
refusal_whole refusal.StillCalled = (refl, tt)
refusal_whole refusal.NoTicket = (refl, tt)
refusal_whole refusal.ManyTickets = (refl, tt)
refusal_whole refusal.LongLine = (refl, tt)
refusal_whole refusal.Gone = (refl, tt)
refusal_whole refusal.NothingToUndo = (refl, tt)
refusal_whole refusal.NothingToRedo = (refl, tt)

replies_whole : (reply : Reply) → AreWhole (reply_fields reply)
unfolding reply_fields
replies_whole (r.State text) = (refl, tt)
replies_whole (r.Over head chain) = (counts_whole chain, (refl, tt))
replies_whole (r.Report items) = (items_whole items, tt)
replies_whole (r.Faults found) = (faults_whole found, tt)
replies_whole (r.Cost cost kept) = (refl, (refl, tt))
replies_whole (r.Program next text) = (refl, (refl, tt))
replies_whole (r.Listing text) = (refl, tt)
replies_whole (r.Run e reached) = run_whole e reached
replies_whole (r.Next next) = (refl, tt)
replies_whole (r.Why ids) = (counts_whole ids, tt)
replies_whole (r.Ticket ticket) = (refl, tt)
replies_whole (r.Pending filled) = (refl, tt)
replies_whole (r.Cancelled ticket) = (refl, tt)
replies_whole (r.Refused why) = refusal_whole why

pub text_of_reply : (reply : Reply) (log : Log) (bytes : List ℕ) → SendsValue (object_of (reply_fields reply)) (Some []) log → IsTextOf log bytes → bytes ≡ compact_text (object_of (reply_fields reply))
text_of_reply reply log bytes sent is = text_of_value (object_of (reply_fields reply)) log bytes sent is (object_whole (reply_fields reply) (replies_sorted reply) (replies_whole reply))
