-- That a reply's line tells its kind.
use Rattle.std.proofs.Common.{◌≡◌, ◌∙◌, ap, refl, ℕ, List}
use Rattle.json.specs.Print.{escape_byte}
use Rattle.request_json.specs.declared.reply.Reply.{Reply}
use Rattle.request_json.specs.declared.reply.Reply.TheVariants as r
use Rattle.request_json.specs.declared.reply.Refusal.{Refusal}
use Rattle.request_json.specs.declared.reply.Refusal.TheVariants as refusal
use Rattle.imp_words.specs.declared.run_end.RunEnd.{RunEnd}
use Rattle.imp_words.specs.declared.run_end.RunEnd.TheVariants as end
use Rattle.request_json.specs.Replies.{reply_fields, reply_text}
use Rattle.std.specs.Prelude.{Some, None, Option}
use Rattle.gen_summary.specs.Summary.{kind_in, kind_of}
use Rattle.gen_summary.specs.declared.kind.ReplyKind.TheVariants.{Other, Refused}

refusal_told : (why : Refusal) → kind_in (reply_text (r.Refused why)) ≡ Refused
unfolding kind_in reply_text reply_fields escape_byte
refusal_told (refusal.Unread at name) = refl
refusal_told (refusal.IllFormed fault) = refl
refusal_told (refusal.Limit fault) = refl
refusal_told refusal.NoJson = refl
refusal_told refusal.BadMember = refl
refusal_told refusal.NoRequest = refl
refusal_told (refusal.Query why) = refl
refusal_told refusal.StillCalled = refl
refusal_told refusal.NoTicket = refl
refusal_told refusal.ManyTickets = refl
refusal_told refusal.LongLine = refl
refusal_told refusal.Gone = refl
refusal_told refusal.NothingToUndo = refl
refusal_told refusal.NothingToRedo = refl

run_told : (e : RunEnd) (reached : Option ℕ) → kind_in (reply_text (r.Run e reached)) ≡ Other
unfolding kind_in reply_text reply_fields escape_byte
run_told end.Ended None = refl
run_told end.Ended (Some n) = refl
run_told (end.Fault id fault) None = refl
run_told (end.Fault id fault) (Some n) = refl
run_told (end.InputsUsedUp id) None = refl
run_told (end.InputsUsedUp id) (Some n) = refl
run_told end.FuelUsedUp None = refl
run_told end.FuelUsedUp (Some n) = refl

kind_is : (reply : Reply) → kind_in (reply_text reply) ≡ kind_of reply
unfolding kind_in reply_text reply_fields escape_byte
kind_is (r.State text) = refl
kind_is (r.Over head chain) = refl
kind_is (r.Report items) = refl
kind_is (r.Faults found) = refl
kind_is (r.Cost cost kept) = refl
kind_is (r.Program next text) = refl
kind_is (r.Listing text) = refl
kind_is (r.Run e reached) = run_told e reached
kind_is (r.Next next) = refl
kind_is (r.Why ids) = refl
kind_is (r.Ticket ticket) = refl
kind_is (r.Pending filled) = refl
kind_is (r.Cancelled ticket) = refl
kind_is (r.Refused why) = refusal_told why

pub kind_told : (line : List ℕ) (reply : Reply) → line ≡ reply_text reply → kind_in line ≡ kind_of reply
kind_told line reply is = ap kind_in is ∙ kind_is reply
