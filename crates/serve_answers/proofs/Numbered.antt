-- The statements of a text are numbered one after the other.
use Rattle.std.proofs.Common.{◌≡◌, ℕ, zero, suc, ◌+◌, List, [], ◌∷◌, ◌++◌, refl, sym, ap, ◌∙◌, arith}
use Rattle.imp_lex.specs.declared.token.TokenKind.{TokenKind}
use Rattle.imp_syntax.specs.Plain.{Statement, Statements, Procedure, numbers_in, numbers, program_numbers, block_of}
use Rattle.imp_check.specs.Programs.{statement_count, block_count, program_count}
use Rattle.imp_edit.specs.Edited.{counting}
use Rattle.imp_parse.specs.Statements.{IsAssigned, input, array, null, new, outcome, next, item, element, value, IsSimple, skip, break, assert, call, assign, write_element, write_next, write_item, IsStatement, simple, if_, if_else, while, IsBlock, block, IsStatements, none, onward}
use Rattle.imp_parse.specs.Programs.{IsProcedure, procedure, IsProcedures, procedures_end, procedures_more, IsProgram, program}

-- these are so many numbers from n on, and this is the next one
pub record Counts (n : ℕ) (xs : List ℕ) (count j : ℕ) : Type 0 where
  pub are : xs ≡ counting n count
  pub ends : j ≡ n + count

counting_on : (n a b : ℕ) → counting n (a + b) ≡ counting n a ++ counting (n + a) b
counting_on n zero b =
    ap (counting n) (let e : 0 + b ≡ b = omega arith in e)
    ∙ ap (λ k. counting k b) (let e : n ≡ n + 0 = omega arith in e)
counting_on n (suc a) b =
    ap (counting n) (let e : suc a + b ≡ suc (a + b) = omega arith in e)
    ∙ ap (λ ks. n ∷ ks) (counting_on (suc n) a b ∙ ap (λ k. counting (suc n) a ++ counting k b) (let e : suc n + a ≡ n + suc a = omega arith in e))

-- none, one more before, and more after
no_more : (n : ℕ) → Counts n [] 0 n
no_more n = record { are = refl; ends = omega arith }

headed : (n : ℕ) (xs : List ℕ) (count j : ℕ) → Counts (n + 1) xs count j → Counts n (n ∷ xs) (count + 1) j
headed n xs count j c = record {
  are =
      ap (λ ks. n ∷ ks) c.are
      ∙ ap (λ k. n ∷ counting k count) (let e : n + 1 ≡ suc n = omega arith in e)
      ∙ ap (counting n) (let e : suc count ≡ count + 1 = omega arith in e);
  ends = omega (arith, c.ends);
}

joined : (n : ℕ) (xs : List ℕ) (a i : ℕ) (ys : List ℕ) (b j : ℕ) → Counts n xs a i → Counts i ys b j → Counts n (xs ++ ys) (a + b) j
joined n xs a i ys b j c d = record {
  are =
      ap (λ zs. zs ++ ys) c.are
      ∙ ap (λ zs. counting n a ++ zs) (d.are ∙ ap (λ k. counting k b) c.ends)
      ∙ sym (counting_on n a b);
  ends = omega (arith, c.ends, d.ends);
}

one : (n : ℕ) → Counts n (n ∷ []) 1 (n + 1)
one n = record { are = refl; ends = refl }

assigned_counts : {n : ℕ} {x : List ℕ} {w : List TokenKind} {s : Statement} → IsAssigned n x w s → Counts n (numbers_in s) (statement_count s) (n + 1)
assigned_counts {n} input = one n
assigned_counts {n} (array e) = one n
assigned_counts {n} null = one n
assigned_counts {n} new = one n
assigned_counts {n} (outcome i) = one n
assigned_counts {n} next = one n
assigned_counts {n} item = one n
assigned_counts {n} (element e) = one n
assigned_counts {n} (value e) = one n

pub simple_counts : {n : ℕ} {w : List TokenKind} {s : Statement} → IsSimple n w s → Counts n (numbers_in s) (statement_count s) (n + 1)
simple_counts {n} skip = one n
simple_counts {n} break = one n
simple_counts {n} (assert c) = one n
simple_counts {n} (call i) = one n
simple_counts {n} (assign a) = assigned_counts a
simple_counts {n} (write_element e f) = one n
simple_counts {n} write_next = one n
simple_counts {n} (write_item e) = one n

mutual
  statement_counts : {n j : ℕ} {w : List TokenKind} {s : Statement} → IsStatement n w s j → Counts n (numbers_in s) (statement_count s) j
  statement_counts (simple h) = simple_counts h
  statement_counts {n} {j} (if_ {t = t} c b) = headed n (numbers t ++ []) (block_count t + 0) j (joined (n + 1) (numbers t) (block_count t) j [] 0 j (block_counts b) (no_more j))
  statement_counts {n} {j} (if_else {i = i} {t = t} {e = e} c b d) =
      headed n (numbers t ++ numbers e) (block_count t + block_count e) j (joined (n + 1) (numbers t) (block_count t) i (numbers e) (block_count e) j (block_counts b) (block_counts d))
  statement_counts {n} {j} (while {b = b} c h) = headed n (numbers b) (block_count b) j (block_counts h)

  block_counts : {n j : ℕ} {w : List TokenKind} {ss : Statements} → IsBlock n w ss j → Counts n (numbers ss) (block_count ss) j
  block_counts (block h) = statements_counts h

  pub statements_counts : {n j : ℕ} {w : List TokenKind} {ss : List Statement} → IsStatements n w ss j → Counts n (numbers (block_of ss)) (block_count (block_of ss)) j
  statements_counts {n} none = no_more n
  statements_counts {n} {j} (onward {i = i} {s = s} {ss = ss} h rest) =
      joined n (numbers_in s) (statement_count s) i (numbers (block_of ss)) (block_count (block_of ss)) j (statement_counts h) (statements_counts rest)

pub procedure_counts : {n j : ℕ} {w : List TokenKind} {p : Procedure} → IsProcedure n w p j → Counts n (numbers p.body) (block_count p.body) j
procedure_counts (procedure ps o ls h) = statements_counts h

procedures_counts : {n j : ℕ} {w : List TokenKind} {ps : List Procedure} → IsProcedures n w ps j → Counts n (program_numbers ps) (program_count ps) j
procedures_counts {n} procedures_end = no_more n
procedures_counts {n} {j} (procedures_more {i = i} {p = p} {ps = ps} h rest) =
    joined n (numbers p.body) (block_count p.body) i (program_numbers ps) (program_count ps) j (procedure_counts h) (procedures_counts rest)

-- those of a program from 1 on
pub program_counts : (w : List TokenKind) (ps : List Procedure) → IsProgram w ps → program_numbers ps ≡ counting 1 (program_count ps)
program_counts w ps (program {i = i} {j = j} {p = p} {ps = rest} h more) =
    (joined 1 (numbers p.body) (block_count p.body) i (program_numbers rest) (program_count rest) j (procedure_counts h) (procedures_counts more)).are
