-- What a machine that answers line by line writes for a script.
use Rattle.std.specs.Prelude.{◌≡◌, ℕ, ◌^◌, ◌<◌, List, [], ◌∷◌, ◌++◌, length, Option, Some, None}
use Rattle.serve_script.specs.Lines.{whole_lines, kept}

-- A machine: its reply to a line, the machine after it, and its reply to a line that is too long, which leaves it as it is.
pub record LineMachine (M : Type 0) : Type 0 where
  pub reply : M → List ℕ → List ℕ
  pub next : M → List ℕ → M
  pub long : List ℕ

-- the reply to what is kept of a line, and the machine after it
abbrev pub reply_to : {M : Type 0} → LineMachine M → M → Option (List ℕ) → List ℕ
reply_to machine m None = machine.long
reply_to machine m (Some line) = machine.reply m line

abbrev pub next_to : {M : Type 0} → LineMachine M → M → Option (List ℕ) → M
next_to machine m None = m
next_to machine m (Some line) = machine.next m line

-- the replies to the lines, in turn
abbrev pub replies : {M : Type 0} → LineMachine M → M → List (List ℕ) → List ℕ
replies machine m [] = []
replies machine m (line ∷ lines) = reply_to machine m (kept line) ++ replies machine (next_to machine m (kept line)) lines

-- the machine after the lines
abbrev pub machine_after : {M : Type 0} → LineMachine M → M → List (List ℕ) → M
machine_after machine m [] = m
machine_after machine m (line ∷ lines) = machine_after machine (next_to machine m (kept line)) lines

-- The script was read to its end.
pub record ReadToEnd (script : List ℕ) (rest : Option (List ℕ)) : Type 0 where
  pub short : length script < 2 ^ 40
  pub ended : rest ≡ Some []

-- Some bytes of the script were read, and the replies to the lines whose LF is among them were written.
pub record AnsweredRead {M : Type 0} (machine : LineMachine M) (m : M) (script taken : List ℕ) (rest output : Option (List ℕ)) : Type 0 where
  pub read : List ℕ
  pub left : List ℕ
  pub split : script ≡ read ++ left
  pub stands : rest ≡ Some left
  pub written : output ≡ Some (taken ++ replies machine m (whole_lines [] read))

-- So many bytes of the script were read.
pub record ReadBytes (count : ℕ) (script : List ℕ) (rest : Option (List ℕ)) : Type 0 where
  pub read : List ℕ
  pub left : List ℕ
  pub split : script ≡ read ++ left
  pub stands : rest ≡ Some left
  pub many : length read ≡ count

-- The script, where it is told, was read to its end, or so many bytes of it were read. A prime marks what is told after that.
abbrev pub ReadsToEnd : (script script' : Option (List ℕ)) → Type 0
ReadsToEnd script script' = (text : List ℕ) → script ≡ Some text → ReadToEnd text script'

abbrev pub ReadsBytes : (count : ℕ) → (script script' : Option (List ℕ)) → Type 0
ReadsBytes count script script' = (text : List ℕ) → script ≡ Some text → ReadBytes count text script'

-- A prefix of the bytes was written.
pub record WrotePrefix (bytes taken : List ℕ) (output : Option (List ℕ)) : Type 0 where
  pub sent : List ℕ
  pub unsent : List ℕ
  pub split : bytes ≡ sent ++ unsent
  pub written : output ≡ Some (taken ++ sent)

-- The replies to the first lines were written, each whole.
pub record WroteLines {M : Type 0} (machine : LineMachine M) (m : M) (lines : List (List ℕ)) (taken : List ℕ) (output : Option (List ℕ)) : Type 0 where
  pub answered : List (List ℕ)
  pub unanswered : List (List ℕ)
  pub split : lines ≡ answered ++ unanswered
  pub written : output ≡ Some (taken ++ replies machine m answered)
