-- Bytes that are one line.
use Rattle.std.specs.Prelude.{◌≡◌, ◌==◌, ◌&&◌, ◌++◌, ℕ, not, List, [], ◌∷◌, Bool, true}
use Rattle.request_json.specs.declared.reply.Reply.{Reply}
use Rattle.request_json.specs.Replies.{reply_text}

-- no byte is LF
abbrev pub has_no_end : List ℕ → Bool
has_no_end [] = true
has_no_end (byte ∷ bytes) = not (byte == 10) && has_no_end bytes

-- bytes of which none is LF, and LF after them
pub record IsOneLine (bytes : List ℕ) : Type 0 where
  pub text : List ℕ
  pub is : bytes ≡ text ++ 10 ∷ []
  pub whole : has_no_end text ≡ true

-- So is the text of each reply.
abbrev pub RepliesAreLines : Type 0
RepliesAreLines = (reply : Reply) → IsOneLine (reply_text reply)
