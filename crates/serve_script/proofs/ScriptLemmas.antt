-- Where the reading of a script stands.
use Rattle.std.proofs.Common.{◌≡◌, ℕ, ◌+◌, ◌<◌, ◌≤◌, ◌^◌, ◌++◌, List, [], length, take, drop, Option, Some, IfSome, append_assoc, append-nil, sym, ◌∙◌, ap, arith}
use Rattle.std.proofs.Math.Seq.{take-add}
use Rattle.std.proofs.lemmas.List.{take-append-drop, drop-drop, length-drop, length-take-le}
use Rattle.serve_script.specs.Lines.{whole_lines, last_part, last_line, all_lines}
use Rattle.serve_script.specs.Replies.{LineMachine, replies, machine_after, ReadToEnd, AnsweredRead, ReadBytes, WrotePrefix, WroteLines}
use Rattle.serve_script.proofs.LineLemmas.{whole_lines-append, last_part-append, prefix_behind, lines_behind, replies_behind, holds_behind}

-- So many bytes of the script are read.
pub record Stands (text : List ℕ) (total : ℕ) (rest : Option (List ℕ)) : Type 0 where
  pub within : total ≤ length text
  pub left : rest ≡ Some (drop total text)

-- the lines whose LF is read, and what came of the next one
abbrev pub lines_read : List ℕ → ℕ → List (List ℕ)
lines_read text total = whole_lines [] (take total text)

abbrev pub part_read : List ℕ → ℕ → List ℕ
part_read text total = last_part [] (take total text)

-- what a read handed out, where the script is told
pub record Handed (text : List ℕ) (total : ℕ) (rest : Option (List ℕ)) (n : ℕ) (bytes : List ℕ) : Type 0 where
  pub within : total + n ≤ length text
  pub more : take (total + n) text ≡ take total text ++ bytes
  pub left : rest ≡ Some (drop (total + n) text)

pub handed_out : (text : List ℕ) (total : ℕ) (rest rest' : Option (List ℕ)) (n : ℕ) (block bytes : List ℕ) →
    Stands text total rest →
    IfSome rest (λ left. (n ≤ length left) × (take n block ≡ take n left) × (rest' ≡ Some (drop n left))) →
    bytes ≡ take n block → Handed text total rest' n bytes
handed_out text total rest rest' n block bytes stands hands is =
    let facts : (n ≤ length (drop total text)) × (take n block ≡ take n (drop total text)) × (rest' ≡ Some (drop n (drop total text))) = rw stands.left at hands in
    record {
      within = let few : n ≤ length (drop total text) = facts.0 in omega (arith, length-drop total text, stands.within);
      more = take-add total n text ∙ ap (λ xs. take total text ++ xs) (sym (is ∙ facts.1));
      left = facts.2 ∙ ap Some (drop-drop n total text);
    }

-- the block is read
pub stands_more : (text : List ℕ) (total : ℕ) (rest' : Option (List ℕ)) (n : ℕ) (bytes : List ℕ) → Handed text total rest' n bytes → Stands text (total + n) rest'
stands_more text total rest' n bytes handed = record { within = handed.within; left = handed.left }

-- the lines that are read, with the bytes of a block
pub lines_on : (text : List ℕ) (total : ℕ) (rest' : Option (List ℕ)) (n : ℕ) (bytes : List ℕ) → Handed text total rest' n bytes →
    lines_read text total ++ whole_lines (part_read text total) bytes ≡ lines_read text (total + n)
lines_on text total rest' n bytes handed = sym (whole_lines-append [] (take total text) bytes) ∙ ap (whole_lines []) (sym handed.more)

-- the part of a line after the last LF, with the bytes of a block
pub part_on : (text : List ℕ) (total : ℕ) (rest' : Option (List ℕ)) (n : ℕ) (bytes : List ℕ) → Handed text total rest' n bytes →
    part_read text (total + n) ≡ last_part (part_read text total) bytes
part_on text total rest' n bytes handed = ap (last_part []) handed.more ∙ last_part-append [] (take total text) bytes

-- what holds of the machine after the lines of the block
pub holds_more : {M : Type 0} (machine : LineMachine M) (holds : M → Type 0) (m : M) (text : List ℕ) (total : ℕ) (rest' : Option (List ℕ)) (n : ℕ) (bytes : List ℕ) →
    Handed text total rest' n bytes →
    holds (machine_after machine (machine_after machine m (lines_read text total)) (whole_lines (part_read text total) bytes)) →
    holds (machine_after machine m (lines_read text (total + n)))
holds_more machine holds m text total rest' n bytes handed here =
    holds_behind machine holds m (lines_read text total) (whole_lines (part_read text total) bytes) (lines_read text (total + n)) (lines_on text total rest' n bytes handed) here

-- what was written, with the replies to the lines of the block
pub written_more : {M : Type 0} (machine : LineMachine M) (m : M) (text taken : List ℕ) (total : ℕ) (rest' output : Option (List ℕ)) (n : ℕ) (bytes : List ℕ) →
    Handed text total rest' n bytes →
    output ≡ Some ((taken ++ replies machine m (lines_read text total)) ++ replies machine (machine_after machine m (lines_read text total)) (whole_lines (part_read text total) bytes)) →
    output ≡ Some (taken ++ replies machine m (lines_read text (total + n)))
written_more machine m text taken total rest' output n bytes handed is =
    is ∙ ap Some (replies_behind machine m (lines_read text total) (whole_lines (part_read text total) bytes) taken
    ∙ ap (λ ls. taken ++ replies machine m ls) (lines_on text total rest' n bytes handed))

-- the lines that come after a block
pub lines_past : List ℕ → ℕ → List (List ℕ)
lines_past text count = whole_lines (part_read text count) (drop count text) ++ last_line (last_part [] text)

-- all lines: those of the front, and those after it
pub lines_of_front : (text : List ℕ) (count : ℕ) → all_lines text ≡ lines_read text count ++ lines_past text count
unfolding lines_past
lines_of_front text count =
    ap (λ t. whole_lines [] t ++ last_line (last_part [] text)) (sym (take-append-drop count text))
    ∙ ap (λ ls. ls ++ last_line (last_part [] text)) (whole_lines-append [] (take count text) (drop count text))
    ∙ append_assoc (lines_read text count) (whole_lines (part_read text count) (drop count text)) (last_line (last_part [] text))

-- all lines: those before the block, those of the block, and those after it
pub lines_of_block : (text : List ℕ) (total : ℕ) (rest' : Option (List ℕ)) (n : ℕ) (bytes : List ℕ) → Handed text total rest' n bytes →
    all_lines text ≡ (lines_read text total ++ whole_lines (part_read text total) bytes) ++ lines_past text (total + n)
lines_of_block text total rest' n bytes handed =
    lines_of_front text (total + n) ∙ ap (λ ls. ls ++ lines_past text (total + n)) (sym (lines_on text total rest' n bytes handed))

-- a prefix of the replies to the lines of a block
pub block_prefix : {M : Type 0} (machine : LineMachine M) (m : M) (text taken : List ℕ) (total : ℕ) (rest' output : Option (List ℕ)) (n : ℕ) (bytes : List ℕ) →
    Handed text total rest' n bytes →
    WrotePrefix (replies machine (machine_after machine m (lines_read text total)) (whole_lines (part_read text total) bytes)) (taken ++ replies machine m (lines_read text total)) output →
    WrotePrefix (replies machine m (all_lines text)) taken output
block_prefix machine m text taken total rest' output n bytes handed wrote =
    prefix_behind machine m (lines_read text total) (whole_lines (part_read text total) bytes) (lines_past text (total + n)) (all_lines text) taken output
    (lines_of_block text total rest' n bytes handed) wrote

-- whole replies to lines of a block
pub block_lines : {M : Type 0} (machine : LineMachine M) (m : M) (text taken : List ℕ) (total : ℕ) (rest' output : Option (List ℕ)) (n : ℕ) (bytes : List ℕ) →
    Handed text total rest' n bytes →
    WroteLines machine (machine_after machine m (lines_read text total)) (whole_lines (part_read text total) bytes) (taken ++ replies machine m (lines_read text total)) output →
    WroteLines machine m (all_lines text) taken output
block_lines machine m text taken total rest' output n bytes handed wrote =
    lines_behind machine m (lines_read text total) (whole_lines (part_read text total) bytes) (lines_past text (total + n)) (all_lines text) taken output
    (lines_of_block text total rest' n bytes handed) wrote

-- at the end the script is read whole
pub whole_read : (text : List ℕ) (total : ℕ) (rest : Option (List ℕ)) → Stands text total rest → IfSome rest (λ left. left ≡ []) → take total text ≡ text
whole_read text total rest stands ends =
    let none : drop total text ≡ [] = rw stands.left at ends in
    sym (append-nil (take total text)) ∙ ap (λ xs. take total text ++ xs) (sym none) ∙ take-append-drop total text

-- all lines: those before the last one, and that
pub lines_of_end : (text : List ℕ) (total : ℕ) (rest : Option (List ℕ)) → Stands text total rest → IfSome rest (λ left. left ≡ []) →
    all_lines text ≡ lines_read text total ++ last_line (part_read text total)
lines_of_end text total rest stands ends = ap (λ t. whole_lines [] t ++ last_line (last_part [] t)) (sym (whole_read text total rest stands ends))

-- the script is read to its end
pub read_to_end : (text : List ℕ) (total : ℕ) (rest rest' : Option (List ℕ)) (n : ℕ) (block : List ℕ) →
    Stands text total rest → IfSome rest (λ left. left ≡ []) →
    IfSome rest (λ left. (n ≤ length left) × (take n block ≡ take n left) × (rest' ≡ Some (drop n left))) → n ≡ 0 →
    total < 2 ^ 40 → ReadToEnd text rest'
read_to_end text total rest rest' n block stands ends hands none few =
    let facts : (n ≤ length (drop total text)) × (take n block ≡ take n (drop total text)) × (rest' ≡ Some (drop n (drop total text))) = rw stands.left at hands in
    let nothing : drop total text ≡ [] = rw stands.left at ends in
    let past : length (drop total text) ≡ 0 = ap length nothing in
    record {
      short = omega (arith, length-drop total text, stands.within, past);
      ended = facts.2 ∙ ap (λ k. Some (drop k (drop total text))) none ∙ ap Some nothing;
    }

-- all is answered
pub all_answered : {M : Type 0} (machine : LineMachine M) (m : M) (text taken : List ℕ) (total : ℕ) (rest output : Option (List ℕ)) →
    Stands text total rest → IfSome rest (λ left. left ≡ []) →
    output ≡ Some ((taken ++ replies machine m (lines_read text total)) ++ replies machine (machine_after machine m (lines_read text total)) (last_line (part_read text total))) →
    output ≡ Some (taken ++ replies machine m (all_lines text))
all_answered machine m text taken total rest output stands ends is =
    is ∙ ap Some (replies_behind machine m (lines_read text total) (last_line (part_read text total)) taken
    ∙ ap (λ ls. taken ++ replies machine m ls) (sym (lines_of_end text total rest stands ends)))

-- a prefix of the replies with the last one's
pub end_prefix : {M : Type 0} (machine : LineMachine M) (m : M) (text taken : List ℕ) (total : ℕ) (rest output : Option (List ℕ)) →
    Stands text total rest → IfSome rest (λ left. left ≡ []) →
    WrotePrefix (replies machine (machine_after machine m (lines_read text total)) (last_line (part_read text total))) (taken ++ replies machine m (lines_read text total)) output →
    WrotePrefix (replies machine m (all_lines text)) taken output
end_prefix machine m text taken total rest output stands ends wrote =
    prefix_behind machine m (lines_read text total) (last_line (part_read text total)) [] (all_lines text) taken output
    (lines_of_end text total rest stands ends ∙ sym (append-nil (lines_read text total ++ last_line (part_read text total)))) wrote

-- whole replies, the last line's not among them
pub end_lines : {M : Type 0} (machine : LineMachine M) (m : M) (text taken : List ℕ) (total : ℕ) (rest output : Option (List ℕ)) →
    Stands text total rest → IfSome rest (λ left. left ≡ []) →
    WroteLines machine (machine_after machine m (lines_read text total)) (last_line (part_read text total)) (taken ++ replies machine m (lines_read text total)) output →
    WroteLines machine m (all_lines text) taken output
end_lines machine m text taken total rest output stands ends wrote =
    lines_behind machine m (lines_read text total) (last_line (part_read text total)) [] (all_lines text) taken output
    (lines_of_end text total rest stands ends ∙ sym (append-nil (lines_read text total ++ last_line (part_read text total)))) wrote

-- what is read and answered so far
pub read_so_far : {M : Type 0} (machine : LineMachine M) (m : M) (text taken : List ℕ) (total : ℕ) (rest rest' output : Option (List ℕ)) →
    Stands text total rest → rest' ≡ rest →
    output ≡ Some (taken ++ replies machine m (lines_read text total)) →
    AnsweredRead machine m text taken rest' output
read_so_far machine m text taken total rest rest' output stands same is = record {
  read = take total text;
  left = drop total text;
  split = sym (take-append-drop total text);
  stands = same ∙ stands.left;
  written = is;
}

-- how much is read so far
pub read_bytes : (text : List ℕ) (total : ℕ) (rest : Option (List ℕ)) → Stands text total rest → ReadBytes total text rest
read_bytes text total rest stands = record {
  read = take total text;
  left = drop total text;
  split = sym (take-append-drop total text);
  stands = stands.left;
  many = length-take-le total text stands.within;
}

-- nothing is read yet
pub stands_first : (text : List ℕ) (rest : Option (List ℕ)) → rest ≡ Some text → Stands text 0 rest
stands_first text rest is = record { within = omega arith; left = is }
