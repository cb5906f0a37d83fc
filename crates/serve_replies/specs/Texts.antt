-- Programs as texts.
use Rattle.std.specs.Prelude.{ℕ, List, true, false}
use Rattle.imp_syntax.specs.Plain.{Procedure}
use Rattle.imp_print.specs.Programs.{program_text}
use Rattle.request_json.specs.declared.reply.Reply.{Reply}
use Rattle.request_json.specs.declared.reply.Reply.TheVariants as r
use Rattle.request_json.specs.declared.reply.Refusal.TheVariants as refusal
use Rattle.request_json.specs.Replies.{reply_text}

-- the program's text with the numbers of its statements
unfoldable pub listing : List Procedure → List ℕ
listing program = program_text true program

-- the next statement number, and the program's text
unfoldable pub program_reply : (next : ℕ) → List Procedure → Reply
program_reply next program = r.Program next (program_text false program)

-- the reply to a line that is too long
unfoldable pub long_reply : List ℕ
long_reply = reply_text (r.Refused refusal.LongLine)
