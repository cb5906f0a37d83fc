-- As many lines as were answered.
use Rattle.std.specs.Prelude.{◌≡◌, ◌++◌, ℕ, List, [], length}
use Rattle.domain_laws.specs.Operations.{Operations}
use Rattle.serve_script.specs.Lines.{last_part, whole_lines}
use Rattle.serve_script.specs.Replies.{replies}
use Rattle.serve_answers.specs.Lines.{Served, server}

-- The bytes are so many lines, each with its end.
pub record AreLines (count : ℕ) (bytes : List ℕ) : Type 0 where
  pub many : length (whole_lines [] bytes) ≡ count
  pub ended : last_part [] bytes ≡ []

-- The replies to some lines are as many lines.
abbrev pub OneForEach : {S : Type 0} → Operations S → Type 0
OneForEach dom = (s : Served) (lines : List (List ℕ)) → AreLines (length lines) (replies (server dom) s lines)

-- So bytes that begin with the replies to some lines tell them: where two machines reply the same to all lines, they reply the
-- same to the first ones.
abbrev pub RepliesAreTold : {S T : Type 0} → Operations S → Operations T → Type 0
RepliesAreTold one other =
    (s t : Served) (lines more : List (List ℕ)) → replies (server one) s (lines ++ more) ≡ replies (server other) t (lines ++ more) →
    replies (server one) s lines ≡ replies (server other) t lines
