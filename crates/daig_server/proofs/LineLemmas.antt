-- Whole lines.
use Rattle.std.proofs.Common.{ℕ, ◌++◌, inl, inr, List, [], ◌∷◌, Option, Some, None, append_assoc, append-nil, refl, sym, ap, ◌∙◌}
use Rattle.domain_laws.specs.Operations.{Operations}
use Rattle.serve_script.specs.Lines.{kept}
use Rattle.serve_script.specs.Replies.{reply_to, next_to, replies, machine_after, WroteLines}
use Rattle.request_json.specs.declared.reply.Reply.{Reply}
use Rattle.request_json.specs.declared.reply.Reply.TheVariants.{Refused}
use Rattle.request_json.specs.declared.reply.Refusal.TheVariants.{LongLine}
use Rattle.serde_json.specs.Written.{compact_text}
use Rattle.request_json.specs.Replies.{object_of, reply_fields, reply_text}
use Rattle.serve_replies.specs.Texts.{long_reply}
use Rattle.serve_answers.specs.Lines.{Served, line_turn, server}
use Rattle.serve_output.specs.Ends.{IsWholeLines, WroteWholeLines}
use Rattle.serve_script.proofs.LineLemmas.{replies-append}

reply_whole : (reply : Reply) → IsWholeLines (reply_text reply)
unfolding reply_text
reply_whole reply = inr (compact_text (object_of (reply_fields reply)), refl)

long_whole : IsWholeLines long_reply
unfolding long_reply
long_whole = reply_whole (Refused LongLine)

append_whole : (xs ys : List ℕ) → IsWholeLines xs → IsWholeLines ys → IsWholeLines (xs ++ ys)
append_whole xs ys first (inl none) = rw (none, append-nil xs) first
append_whole xs ys first (inr ends) = inr (xs ++ ends.0, ap (λ zs. xs ++ zs) ends.1 ∙ sym (append_assoc xs ends.0 (10 ∷ [])))

kept_whole : {S : Type 0} (dom : Operations S) (s : Served) (line : Option (List ℕ)) → IsWholeLines (reply_to (server dom) s line)
kept_whole dom s None = long_whole
kept_whole dom s (Some line) = reply_whole (line_turn s.readings dom line s.machine).reply

replies_whole : {S : Type 0} (dom : Operations S) (s : Served) (lines : List (List ℕ)) → IsWholeLines (replies (server dom) s lines)
replies_whole dom s [] = inl refl
replies_whole dom s (line ∷ lines) =
    append_whole (reply_to (server dom) s (kept line)) (replies (server dom) (next_to (server dom) s (kept line)) lines)
    (kept_whole dom s (kept line)) (replies_whole dom (next_to (server dom) s (kept line)) lines)

-- whole replies are whole lines
pub wrote_whole : {S : Type 0} (dom : Operations S) (s : Served) (lines : List (List ℕ)) (taken : List ℕ) (written : Option (List ℕ)) →
    WroteLines (server dom) s lines taken written → WroteWholeLines (replies (server dom) s lines) taken written
wrote_whole dom s lines taken written wrote = record {
  sent = replies (server dom) s wrote.answered;
  unsent = replies (server dom) (machine_after (server dom) s wrote.answered) wrote.unanswered;
  split = ap (replies (server dom) s) wrote.split ∙ replies-append (server dom) s wrote.answered wrote.unanswered;
  written = wrote.written;
  whole = replies_whole dom s wrote.answered;
}
