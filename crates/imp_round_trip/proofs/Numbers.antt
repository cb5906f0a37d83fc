-- Numbering anew counts from 1, and keeps all else.
use Rattle.std.proofs.Common.{◌≡◌, ℕ, zero, suc, ◌+◌, List, [], ◌∷◌, ◌++◌, refl, ap, ◌∙◌, arith}
use Rattle.std.specs.Prelude.{false}
use Rattle.imp_syntax.specs.Plain.{Statement, Simple, Break, Call, If, While, Statements, Ends, Starts, Procedure, numbers_in, numbers, program_numbers}
use Rattle.imp_print.specs.Statements.{deeper, is_empty, statement_text, block_text}
use Rattle.imp_print.specs.Programs.{procedure_text, program_text}
use Rattle.imp_round_trip.specs.Renumbered.{count_in, count, statement_from, block_from, procedures_from, counting, program_count, bare_statement, bare_block, bare}
use Rattle.imp_round_trip.specs.ReadBack.{RenumberingKeepsTrees, RenumberingCounts, RenumberingKeepsTexts}

-- ---- the numbers

counting_both : (n i j : ℕ) → counting n i ++ counting (n + i) j ≡ counting n (i + j)
counting_both n zero j = let a : n + 0 ≡ n = omega arith in let b : j ≡ 0 + j = omega arith in ap (λ (m : ℕ). counting m j) a ∙ ap (counting n) b
counting_both n (suc i) j =
    let a : n + suc i ≡ (n + 1) + i = omega arith in
    let b : suc (i + j) ≡ suc i + j = omega arith in
    ap (λ (m : ℕ). n ∷ (counting (n + 1) i ++ counting m j)) a ∙ ap (λ (q : List ℕ). n ∷ q) (counting_both (n + 1) i j) ∙ ap (counting n) b

mutual
  statement_numbers : (n : ℕ) (s : Statement) → numbers_in (statement_from n s) ≡ counting n (count_in s)
  statement_numbers n (Simple i a) = refl
  statement_numbers n (Break i) = refl
  statement_numbers n (Call i x f es) = refl
  statement_numbers n (If i c t e) =
      let both = counting_both (n + 1) (count t) (count e) in
      let all : suc (count t + count e) ≡ 1 + count t + count e = omega arith in
      rw (block_numbers (n + 1) t, block_numbers (n + 1 + count t) e, both) (ap (counting n) all)
  statement_numbers n (While i c b) =
      let all : suc (count b) ≡ 1 + count b = omega arith in
      rw (block_numbers (n + 1) b) (ap (counting n) all)

  block_numbers : (n : ℕ) (ss : Statements) → numbers (block_from n ss) ≡ counting n (count ss)
  block_numbers n Ends = refl
  block_numbers n (Starts s ss) = rw (statement_numbers n s, block_numbers (n + count_in s) ss) (counting_both n (count_in s) (count ss))

procedures_numbers : (n : ℕ) (ps : List Procedure) → program_numbers (procedures_from n ps) ≡ counting n (program_count ps)
procedures_numbers n [] = refl
procedures_numbers n (p ∷ ps) = rw (block_numbers n p.body, procedures_numbers (n + count p.body) ps) (counting_both n (count p.body) (program_count ps))

pub counts : RenumberingCounts
counts ps = procedures_numbers 1 ps

-- ---- the trees

mutual
  statement_kept : (n : ℕ) (s : Statement) → bare_statement (statement_from n s) ≡ bare_statement s
  statement_kept n (Simple i a) = refl
  statement_kept n (Break i) = refl
  statement_kept n (Call i x f es) = refl
  statement_kept n (If i c t e) = rw (block_kept (n + 1) t, block_kept (n + 1 + count t) e) refl
  statement_kept n (While i c b) = rw (block_kept (n + 1) b) refl

  block_kept : (n : ℕ) (ss : Statements) → bare_block (block_from n ss) ≡ bare_block ss
  block_kept n Ends = refl
  block_kept n (Starts s ss) = rw (statement_kept n s, block_kept (n + count_in s) ss) refl

procedures_kept : (n : ℕ) (ps : List Procedure) → bare (procedures_from n ps) ≡ bare ps
procedures_kept n [] = refl
procedures_kept n (p ∷ ps) = rw (block_kept n p.body, procedures_kept (n + count p.body) ps) refl

pub trees_kept : RenumberingKeepsTrees
trees_kept ps = procedures_kept 1 ps

-- ---- the text

empty_kept : (n : ℕ) (ss : Statements) → is_empty (block_from n ss) ≡ is_empty ss
empty_kept n Ends = refl
empty_kept n (Starts s ss) = refl

mutual
  statement_same : (n : ℕ) (right : List ℕ) (s : Statement) → statement_text false right (statement_from n s) ≡ statement_text false right s
  statement_same n right (Simple i a) = refl
  statement_same n right (Break i) = refl
  statement_same n right (Call i x f es) = refl
  statement_same n right (If i c t e) = rw (block_same (n + 1) (deeper right) t, block_same (n + 1 + count t) (deeper right) e, empty_kept (n + 1 + count t) e) refl
  statement_same n right (While i c b) = rw (block_same (n + 1) (deeper right) b) refl

  block_same : (n : ℕ) (right : List ℕ) (ss : Statements) → block_text false right (block_from n ss) ≡ block_text false right ss
  block_same n right Ends = refl
  block_same n right (Starts s ss) = rw (statement_same n right s, block_same (n + count_in s) right ss) refl

procedure_same : (n : ℕ) (p : Procedure) → procedure_text false (record p { body = block_from n p.body }) ≡ procedure_text false p
unfolding procedure_text
procedure_same n p = rw (block_same n (32 ∷ 32 ∷ []) p.body) refl

procedures_same : (n : ℕ) (ps : List Procedure) → program_text false (procedures_from n ps) ≡ program_text false ps
procedures_same n [] = refl
procedures_same n (p ∷ ps) = rw (procedure_same n p, procedures_same (n + count p.body) ps) refl

pub texts_kept : RenumberingKeepsTexts
texts_kept ps = procedures_same 1 ps
