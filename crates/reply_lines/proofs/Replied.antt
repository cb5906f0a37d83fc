-- The replies to some lines are as many lines.
use Rattle.std.proofs.Common.{◌≡◌, ◌∙◌, ℕ, suc, Bool, true, false, List, [], ◌∷◌, ◌++◌, length, Option, Some, None, if◌then◌else◌, refl, sym, ap, subst, arith, length-append, append_assoc, append-nil, take}
use Rattle.std.proofs.Math.Seq.{take-append_seam}
use Rattle.std.specs.Prelude.{◌==◌, not}
use Rattle.std.proofs.lemmas.Bool.{and_parts, eqb-true}
use Rattle.domain_laws.specs.Operations.{Operations}
use Rattle.serve_script.specs.Lines.{kept, last_part, whole_lines}
use Rattle.serve_script.specs.Replies.{machine_after, next_to, replies, reply_to}
use Rattle.serve_script.proofs.LineLemmas.{last_part-append, replies-append, whole_lines-append}
use Rattle.request_json.specs.declared.reply.Refusal.TheVariants as refusal
use Rattle.request_json.specs.declared.reply.Reply.TheVariants as r
use Rattle.serve_replies.specs.Texts.{long_reply}
use Rattle.serve_answers.specs.Lines.{Served, line_turn, server}
use Rattle.reply_lines.specs.OneLine.{has_no_end, IsOneLine}
use Rattle.reply_lines.specs.Replied.{AreLines, OneForEach, RepliesAreTold}
use Rattle.reply_lines.proofs.OneLine.{replies_are_lines}

-- bytes without LF end no line
no_line : (part text : List ℕ) → has_no_end text ≡ true → whole_lines part text ≡ []
no_line part [] whole = refl
no_line part (byte ∷ text) whole = go (no_line (part ++ byte ∷ []) text) (byte == 10) refl (and_parts (not (byte == 10)) (has_no_end text) whole)
  where
    go : (has_no_end text ≡ true → whole_lines (part ++ byte ∷ []) text ≡ []) → (b : Bool) → byte == 10 ≡ b → (not (byte == 10) ≡ true) × (has_no_end text ≡ true) →
        (if b then part ∷ whole_lines [] text else whole_lines (part ++ byte ∷ []) text) ≡ []
    go rest true e parts = absurd (let no = parts.0 in cc)
    go rest false e parts = rest parts.1

-- a line that ends is one
one_line : (bytes : List ℕ) → IsOneLine bytes → AreLines 1 bytes
one_line bytes line =
    let split = whole_lines-append [] line.text (10 ∷ []) in
    let rest : AreLines 1 (line.text ++ 10 ∷ []) = record {
      many = ap length split ∙ ap (λ (ls : List (List ℕ)). length (ls ++ whole_lines (last_part [] line.text) (10 ∷ []))) (no_line [] line.text line.whole);
      ended = last_part-append [] line.text (10 ∷ []);
    } in
    subst (AreLines 1) (sym line.is) rest

-- lines after lines
more_lines : (first others : List ℕ) (n : ℕ) → AreLines 1 first → AreLines n others → AreLines (suc n) (first ++ others)
more_lines first others n one many =
    let split : whole_lines [] (first ++ others) ≡ whole_lines [] first ++ whole_lines [] others =
    whole_lines-append [] first others ∙ ap (λ (part : List ℕ). whole_lines [] first ++ whole_lines part others) one.ended in
    let count = length-append (whole_lines [] first) (whole_lines [] others) in
    let here = one.many in
    let there = many.many in
    let all : length (whole_lines [] first ++ whole_lines [] others) ≡ suc n = omega arith in
    record {
      many = ap length split ∙ all;
      ended = last_part-append [] first others ∙ ap (λ (part : List ℕ). last_part part others) one.ended ∙ many.ended;
    }

module _ {S : Type 0} (dom : Operations S) where
  long_line : IsOneLine long_reply
  unfolding long_reply
  long_line = replies_are_lines (r.Refused refusal.LongLine)

  reply_line : (s : Served) (read : Option (List ℕ)) → IsOneLine (reply_to (server dom) s read)
  reply_line s None = long_line
  reply_line s (Some text) = replies_are_lines (line_turn s.readings dom text s.machine).reply

  pub one_for_each : OneForEach dom
  one_for_each s [] = record { many = refl; ended = refl }
  one_for_each s (line ∷ lines) =
      let next = next_to (server dom) s (kept line) in
      more_lines (reply_to (server dom) s (kept line)) (replies (server dom) next lines) (length lines) (one_line _ (reply_line s (kept line))) (one_for_each next lines)

-- ---- lines tell their bytes

-- the lines, each with LF after it
abbrev joined : List (List ℕ) → List ℕ
joined [] = []
joined (line ∷ lines) = (line ++ 10 ∷ []) ++ joined lines

joined_again : (part bytes : List ℕ) → last_part part bytes ≡ [] → part ++ bytes ≡ joined (whole_lines part bytes)
joined_again part [] ended = append-nil part ∙ ended
joined_again part (byte ∷ bytes) ended = go (joined_again [] bytes) (joined_again (part ++ byte ∷ []) bytes) (byte == 10) refl ended
  where
    go : (last_part [] bytes ≡ [] → bytes ≡ joined (whole_lines [] bytes)) → (last_part (part ++ byte ∷ []) bytes ≡ [] → (part ++ byte ∷ []) ++ bytes ≡ joined (whole_lines (part ++ byte ∷ []) bytes)) →
        (b : Bool) → byte == 10 ≡ b → (if b then last_part [] bytes else last_part (part ++ byte ∷ []) bytes) ≡ [] →
        part ++ byte ∷ bytes ≡ joined (if b then part ∷ whole_lines [] bytes else whole_lines (part ++ byte ∷ []) bytes)
    go behind within true is last =
        sym (append_assoc part (byte ∷ []) bytes) ∙ ap (λ (b : ℕ). (part ++ b ∷ []) ++ bytes) (eqb-true byte 10 is) ∙ ap (λ (rest : List ℕ). (part ++ 10 ∷ []) ++ rest) (behind last)
    go behind within false is last = sym (append_assoc part (byte ∷ []) bytes) ∙ within last

same_front : (xs ys us vs : List (List ℕ)) → length xs ≡ length ys → xs ++ us ≡ ys ++ vs → xs ≡ ys
same_front xs ys us vs long same = sym (take-append_seam xs us) ∙ ap (λ (n : ℕ). take n (xs ++ us)) long ∙ ap (take (length ys)) same ∙ take-append_seam ys vs

-- so bytes that begin with as many lines begin with the same ones
same_lines : (xs ys us vs : List ℕ) (n : ℕ) → AreLines n xs → AreLines n ys → xs ++ us ≡ ys ++ vs → xs ≡ ys
same_lines xs ys us vs n first second same =
    let split_first : whole_lines [] (xs ++ us) ≡ whole_lines [] xs ++ whole_lines [] us =
    whole_lines-append [] xs us ∙ ap (λ (part : List ℕ). whole_lines [] xs ++ whole_lines part us) first.ended in
    let split_second : whole_lines [] (ys ++ vs) ≡ whole_lines [] ys ++ whole_lines [] vs =
    whole_lines-append [] ys vs ∙ ap (λ (part : List ℕ). whole_lines [] ys ++ whole_lines part vs) second.ended in
    let lines : whole_lines [] xs ≡ whole_lines [] ys =
    same_front (whole_lines [] xs) (whole_lines [] ys) (whole_lines [] us) (whole_lines [] vs) (first.many ∙ sym second.many) (sym split_first ∙ ap (whole_lines []) same ∙ split_second) in
    joined_again [] xs first.ended ∙ ap joined lines ∙ sym (joined_again [] ys second.ended)

pub replies_are_told : {S T : Type 0} (one : Operations S) (other : Operations T) → RepliesAreTold one other
replies_are_told one other s t lines more same =
    same_lines (replies (server one) s lines) (replies (server other) t lines) (replies (server one) (machine_after (server one) s lines) more) (replies (server other) (machine_after (server other) t lines) more)
    (length lines) (one_for_each one s lines) (one_for_each other t lines)
    (sym (replies-append (server one) s lines more) ∙ same ∙ replies-append (server other) t lines more)
