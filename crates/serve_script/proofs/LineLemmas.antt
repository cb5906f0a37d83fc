-- Lines and replies of texts that are put together.
use Rattle.std.proofs.Common.{◌≡◌, ℕ, ◌==◌, ◌+◌, ◌<◌, ◌++◌, List, [], ◌∷◌, length, take, drop, slice_index_or, Option, Some, Result, Ok, Err, OnOk, true, false, if◌then◌else◌, append_assoc, add-one, sym, ◌∙◌, ap, subst, refl}
use Rattle.std.proofs.Math.Seq.{take-suc}
use Rattle.std.proofs.lemmas.List.{take-append-drop}
use Rattle.serve_script.specs.Lines.{whole_lines, last_part, kept}
use Rattle.serve_script.specs.Replies.{LineMachine, reply_to, next_to, replies, machine_after, WrotePrefix, WroteLines}

pub last_part-append : (part xs ys : List ℕ) → last_part part (xs ++ ys) ≡ last_part (last_part part xs) ys
last_part-append part [] ys = refl
last_part-append part (x ∷ xs) ys =
    elim (x == 10) as (λ b. (if b then last_part [] (xs ++ ys) else last_part (part ++ x ∷ []) (xs ++ ys))
    ≡ last_part (if b then last_part [] xs else last_part (part ++ x ∷ []) xs) ys)
    [ true ↦ last_part-append [] xs ys | false ↦ last_part-append (part ++ x ∷ []) xs ys ]

pub whole_lines-append : (part xs ys : List ℕ) → whole_lines part (xs ++ ys) ≡ whole_lines part xs ++ whole_lines (last_part part xs) ys
whole_lines-append part [] ys = refl
whole_lines-append part (x ∷ xs) ys =
    elim (x == 10) as (λ b. (if b then part ∷ whole_lines [] (xs ++ ys) else whole_lines (part ++ x ∷ []) (xs ++ ys))
    ≡ (if b then part ∷ whole_lines [] xs else whole_lines (part ++ x ∷ []) xs) ++ whole_lines (if b then last_part [] xs else last_part (part ++ x ∷ []) xs) ys)
    [ true ↦ ap (λ ls. part ∷ ls) (whole_lines-append [] xs ys) | false ↦ whole_lines-append (part ++ x ∷ []) xs ys ]

pub after-append : {M : Type 0} (machine : LineMachine M) (m : M) (xs ys : List (List ℕ)) → machine_after machine m (xs ++ ys) ≡ machine_after machine (machine_after machine m xs) ys
after-append machine m [] ys = refl
after-append machine m (x ∷ xs) ys = after-append machine (next_to machine m (kept x)) xs ys

pub replies-append : {M : Type 0} (machine : LineMachine M) (m : M) (xs ys : List (List ℕ)) →
    replies machine m (xs ++ ys) ≡ replies machine m xs ++ replies machine (machine_after machine m xs) ys
replies-append machine m [] ys = refl
replies-append machine m (x ∷ xs) ys =
    ap (λ rest. reply_to machine m (kept x) ++ rest) (replies-append machine (next_to machine m (kept x)) xs ys)
    ∙ sym (append_assoc (reply_to machine m (kept x)) (replies machine (next_to machine m (kept x)) xs) (replies machine (machine_after machine (next_to machine m (kept x)) xs) ys))

-- one byte more of a block
pub one_more : (block : List ℕ) (i b : ℕ) → i < length block → b ≡ slice_index_or block i 0 → take (i + 1) block ≡ take i block ++ b ∷ []
one_more block i b within is = rw (add-one, take-suc block i 0 within, ← is) refl

-- the part after one byte more
pub part_more : (part pending block : List ℕ) (i b : ℕ) → i < length block → b ≡ slice_index_or block i 0 → pending ≡ last_part part (take i block) →
    last_part pending (b ∷ []) ≡ last_part part (take (i + 1) block)
part_more part pending block i b within is from =
    ap (λ p. last_part p (b ∷ [])) from ∙ sym (last_part-append part (take i block) (b ∷ [])) ∙ ap (last_part part) (sym (one_more block i b within is))

-- the lines with one byte more
pub lines_more : (part pending block : List ℕ) (i b : ℕ) → i < length block → b ≡ slice_index_or block i 0 → pending ≡ last_part part (take i block) →
    whole_lines part (take i block) ++ whole_lines pending (b ∷ []) ≡ whole_lines part (take (i + 1) block)
lines_more part pending block i b within is from =
    ap (λ p. whole_lines part (take i block) ++ whole_lines p (b ∷ [])) from ∙ sym (whole_lines-append part (take i block) (b ∷ [])) ∙ ap (whole_lines part) (sym (one_more block i b within is))

-- the block up to a byte, the byte, and the rest
pub around : (block : List ℕ) (i b : ℕ) → i < length block → b ≡ slice_index_or block i 0 → block ≡ (take i block ++ b ∷ []) ++ drop (i + 1) block
around block i b within is = sym (take-append-drop (i + 1) block) ∙ ap (λ xs. xs ++ drop (i + 1) block) (one_more block i b within is)

-- the lines of a block, where the lines of its front and of the byte after it are known
pub lines_around : (part pending block : List ℕ) (i b : ℕ) → i < length block → b ≡ slice_index_or block i 0 →
    pending ≡ last_part part (take i block) →
    whole_lines part block ≡ (whole_lines part (take i block) ++ whole_lines pending (b ∷ [])) ++ whole_lines (last_part pending (b ∷ [])) (drop (i + 1) block)
lines_around part pending block i b within is from =
    ap (whole_lines part) (around block i b within is)
    ∙ whole_lines-append part (take i block ++ b ∷ []) (drop (i + 1) block)
    ∙ ap (λ ls. ls ++ whole_lines (last_part part (take i block ++ b ∷ [])) (drop (i + 1) block)) (whole_lines-append part (take i block) (b ∷ []))
    ∙ ap (λ p. (whole_lines part (take i block) ++ whole_lines (last_part part (take i block)) (b ∷ [])) ++ whole_lines p (drop (i + 1) block)) (last_part-append part (take i block) (b ∷ []))
    ∙ ap (λ p. (whole_lines part (take i block) ++ whole_lines p (b ∷ [])) ++ whole_lines (last_part p (b ∷ [])) (drop (i + 1) block)) (sym from)

regroup : {X : Type 0} (a b c d : List X) → (a ++ (b ++ c)) ++ d ≡ (a ++ b) ++ (c ++ d)
regroup a b c d = simp append_assoc

-- a prefix of the replies to some lines, after the replies to those before
pub prefix_behind : {M : Type 0} (machine : LineMachine M) (m : M) (before lines rest all : List (List ℕ)) (taken : List ℕ) (output : Option (List ℕ)) →
    all ≡ (before ++ lines) ++ rest →
    WrotePrefix (replies machine (machine_after machine m before) lines) (taken ++ replies machine m before) output →
    WrotePrefix (replies machine m all) taken output
prefix_behind machine m before lines rest all taken output split wrote = record {
  sent = replies machine m before ++ wrote.sent;
  unsent = wrote.unsent ++ replies machine (machine_after machine m (before ++ lines)) rest;
  split =
      ap (replies machine m) split
      ∙ replies-append machine m (before ++ lines) rest
      ∙ ap (λ xs. xs ++ replies machine (machine_after machine m (before ++ lines)) rest)
      (replies-append machine m before lines ∙ ap (λ xs. replies machine m before ++ xs) wrote.split)
      ∙ regroup (replies machine m before) wrote.sent wrote.unsent (replies machine (machine_after machine m (before ++ lines)) rest);
  written = wrote.written ∙ ap Some (append_assoc taken (replies machine m before) wrote.sent);
}

-- all replies to some lines, after the replies to those before
pub replies_behind : {M : Type 0} (machine : LineMachine M) (m : M) (before lines : List (List ℕ)) (taken : List ℕ) →
    (taken ++ replies machine m before) ++ replies machine (machine_after machine m before) lines ≡ taken ++ replies machine m (before ++ lines)
replies_behind machine m before lines taken =
    append_assoc taken (replies machine m before) (replies machine (machine_after machine m before) lines)
    ∙ ap (λ xs. taken ++ xs) (sym (replies-append machine m before lines))

-- whole replies to some lines, after the replies to those before
pub lines_behind : {M : Type 0} (machine : LineMachine M) (m : M) (before lines rest all : List (List ℕ)) (taken : List ℕ) (output : Option (List ℕ)) →
    all ≡ (before ++ lines) ++ rest →
    WroteLines machine (machine_after machine m before) lines (taken ++ replies machine m before) output →
    WroteLines machine m all taken output
lines_behind machine m before lines rest all taken output split wrote = record {
  answered = before ++ wrote.answered;
  unanswered = wrote.unanswered ++ rest;
  split = split ∙ ap (λ ls. (before ++ ls) ++ rest) wrote.split ∙ regroup before wrote.answered wrote.unanswered rest;
  written = wrote.written ∙ ap Some (replies_behind machine m before wrote.answered taken);
}

-- what holds of the machine after some lines, and then those after them
pub holds_behind : {M : Type 0} (machine : LineMachine M) (holds : M → Type 0) (m : M) (before lines all : List (List ℕ)) → before ++ lines ≡ all →
    holds (machine_after machine (machine_after machine m before) lines) → holds (machine_after machine m all)
holds_behind machine holds m before lines all is here = subst holds (sym (after-append machine m before lines) ∙ ap (machine_after machine m) is) here

-- what follows from a fact that holds on success
pub on_ok : {T E P Q : Type 0} (r : Result T E) → OnOk r Q → (Q → P) → OnOk r P
on_ok (Ok x) holds goes = goes holds
on_ok (Err e) holds goes = tt
