-- What a step of answering does: to what answers, to what came of a line, and to what is written.
-- It begins at each state that the answerer stands for, and nothing is said where the script or the sink is not told.
-- A prime marks what is told after the step.
use Rattle.std.specs.Prelude.{◌≡◌, ℕ, suc, ◌+◌, ◌++◌, List, Option, Some}
use Rattle.serve_script.specs.Lasts.{LastsFor}
use Rattle.serve_script.specs.Lines.{whole_lines, last_part, all_lines, kept}
use Rattle.serve_script.specs.Replies.{LineMachine, reply_to, next_to, replies, machine_after, AnsweredRead, WrotePrefix, WroteLines}

-- One line is used up of those that can be answered, or so many lines.
abbrev pub UsesLine : {A : Type 0} → (lasts : A → ℕ → Type 0) → (old new : A) → Type 0
UsesLine lasts old new = (n : ℕ) → LastsFor (lasts old) (suc n) → LastsFor (lasts new) n

abbrev pub UsesLines : {A : Type 0} → (lasts : A → ℕ → Type 0) → (lines : ℕ) → (old new : A) → Type 0
UsesLines lasts lines old new = (n : ℕ) → LastsFor (lasts old) (lines + n) → LastsFor (lasts new) n

-- What is kept of a line goes on with a text: what stands after the text's last LF is kept.
abbrev pub KeepsRest : (text : List ℕ) → (pending pending' : Option (List ℕ)) → Type 0
KeepsRest text pending pending' = (part : List ℕ) → pending ≡ kept part → pending' ≡ kept (last_part part text)

-- The bytes are written, or a prefix of them.
abbrev pub Writes : (bytes : List ℕ) → (sink sink' : Option (List ℕ)) → Type 0
Writes bytes sink sink' = (taken : List ℕ) → sink ≡ Some taken → sink' ≡ Some (taken ++ bytes)

abbrev pub WritesPrefix : (bytes : List ℕ) → (sink sink' : Option (List ℕ)) → Type 0
WritesPrefix bytes sink sink' = (taken : List ℕ) → sink ≡ Some taken → WrotePrefix bytes taken sink'

module _ {A M : Type 0} (machine : LineMachine M) (stands : A → M → Type 0) where
  -- From each state that it stood for it goes on to the state after the line.
  abbrev pub GoesOn : (line : Option (List ℕ)) → (old new : A) → Type 0
  GoesOn line old new = (m : M) → stands old m → stands new (next_to machine m line)

  -- It goes on to the state after the whole lines of a text, the first of which goes on with what was kept.
  abbrev pub GoesOnBy : (pending : Option (List ℕ)) → (text : List ℕ) → (old new : A) → Type 0
  GoesOnBy pending text old new = (m : M) → stands old m → (part : List ℕ) → pending ≡ kept part →
      stands new (machine_after machine m (whole_lines part text))

module _ {M : Type 0} (machine : LineMachine M) (stands : M → Type 0) where
  -- The bytes are the reply to the line.
  abbrev pub IsReply : (line : Option (List ℕ)) → (bytes : List ℕ) → Type 0
  IsReply line bytes = (m : M) → stands m → bytes ≡ reply_to machine m line

  -- The reply to the line is written, or a prefix of it.
  abbrev pub WritesReply : (line sink sink' : Option (List ℕ)) → Type 0
  WritesReply line sink sink' = (m : M) → stands m → Writes (reply_to machine m line) sink sink'

  abbrev pub WritesPrefixOfReply : (line sink sink' : Option (List ℕ)) → Type 0
  WritesPrefixOfReply line sink sink' = (m : M) → stands m → WritesPrefix (reply_to machine m line) sink sink'

  -- The lines follow from what was kept of the first. The replies to them are written, or a prefix of the replies, or the
  -- whole replies to the first of them.
  module _ (pending : Option (List ℕ)) (lines : List ℕ → List (List ℕ)) (sink sink' : Option (List ℕ)) where
    abbrev pub WritesReplies : Type 0
    WritesReplies = (m : M) → stands m → (part taken : List ℕ) → pending ≡ kept part → sink ≡ Some taken →
        sink' ≡ Some (taken ++ replies machine m (lines part))

    abbrev pub WritesPrefixOfReplies : Type 0
    WritesPrefixOfReplies = (m : M) → stands m → (part taken : List ℕ) → pending ≡ kept part → sink ≡ Some taken →
        WrotePrefix (replies machine m (lines part)) taken sink'

    abbrev pub WritesWholeReplies : Type 0
    WritesWholeReplies = (m : M) → stands m → (part taken : List ℕ) → pending ≡ kept part → sink ≡ Some taken →
        WroteLines machine m (lines part) taken sink'

  -- All lines of the script are answered; or a prefix of the replies is written; or the whole replies to the first lines.
  module _ (script sink sink' : Option (List ℕ)) where
    abbrev pub AnswersAll : Type 0
    AnswersAll = (m : M) → stands m → (text taken : List ℕ) → script ≡ Some text → sink ≡ Some taken →
        sink' ≡ Some (taken ++ replies machine m (all_lines text))

    abbrev pub AnswersPrefix : Type 0
    AnswersPrefix = (m : M) → stands m → (text taken : List ℕ) → script ≡ Some text → sink ≡ Some taken →
        WrotePrefix (replies machine m (all_lines text)) taken sink'

    abbrev pub AnswersFirst : Type 0
    AnswersFirst = (m : M) → stands m → (text taken : List ℕ) → script ≡ Some text → sink ≡ Some taken →
        WroteLines machine m (all_lines text) taken sink'

  -- The lines are answered whose LF was read.
  abbrev pub AnswersRead : (script script' sink sink' : Option (List ℕ)) → Type 0
  AnswersRead script script' sink sink' = (m : M) → stands m → (text taken : List ℕ) → script ≡ Some text → sink ≡ Some taken →
      AnsweredRead machine m text taken script' sink'
