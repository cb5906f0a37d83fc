-- How often a number stands among the numbers of a program before and after an edit.
use Rattle.std.proofs.Common.{ℕ, zero, suc, ◌≡◌, ◌+◌, ◌*◌, ◌≤◌, ◌==◌, cond, Bool, true, false, List, [], ◌∷◌, ◌++◌, refl, ap, arith}
use Rattle.std.specs.Str.{bytes_eq}
use Rattle.imp_syntax.specs.Plain.{Statement, Simple, Break, Call, If, While, Statements, Ends, Starts, Procedure, number_of, numbers_in, numbers, program_numbers}
use Rattle.edit_entries.specs.Holes.{append}
use Rattle.imp_edit.specs.Changes.{in_statement, in_block, in_program, at_named}

abbrev pub one : Bool → ℕ
one true = 1
one false = 0

abbrev pub often : ℕ → List ℕ → ℕ
often m [] = 0
often m (x ∷ xs) = one (x == m) + often m xs

pub often_both : (m : ℕ) (xs ys : List ℕ) → often m (xs ++ ys) ≡ often m xs + often m ys
often_both m [] ys = omega arith
often_both m (x ∷ xs) ys = omega (arith, often_both m xs ys)

pub numbers_append : (m : ℕ) (xs ys : Statements) → often m (numbers (append xs ys)) ≡ often m (numbers xs) + often m (numbers ys)
numbers_append m Ends ys = omega arith
numbers_append m (Starts s xs) ys =
    let a = often_both m (numbers_in s) (numbers (append xs ys)) in
    let b = often_both m (numbers_in s) (numbers xs) in
    omega (arith, a, b, numbers_append m xs ys)

-- a statement's own number is among its numbers
head : (n : ℕ) (s : Statement) → (number_of s == n) ≡ true → 1 ≤ often n (numbers_in s)
head n (Simple k a) e = let i : one (k == n) ≡ 1 = ap one e in omega (arith, i)
head n (Break k) e = let i : one (k == n) ≡ 1 = ap one e in omega (arith, i)
head n (Call k x g es) e = let i : one (k == n) ≡ 1 = ap one e in omega (arith, i)
head n (If k c t u) e = let i : one (k == n) ≡ 1 = ap one e in omega (arith, i)
head n (While k c b) e = let i : one (k == n) ≡ 1 = ap one e in omega (arith, i)

times : (k c : ℕ) → 1 ≤ k → c ≤ k * c
times zero c h = absurd (omega arith)
times (suc k) c h = omega arith

-- A change at the statement n that brings at most `more` of m to a statement.
module _ (n m : ℕ) (made : Statement → Statements) (more : ℕ) (few : (s : Statement) → often m (numbers (made s)) ≤ often m (numbers_in s) + more) where
  mutual
    statement_often : (s : Statement) → often m (numbers_in (in_statement n made s)) ≤ often m (numbers_in s) + often n (numbers_in s) * more
    statement_often (Simple k a) = omega arith
    statement_often (Break k) = omega arith
    statement_often (Call k x g es) = omega arith
    statement_often (If k c t e) =
        let a = often_both m (numbers (in_block n made t)) (numbers (in_block n made e)) in
        let b = often_both m (numbers t) (numbers e) in
        let d = ap (λ z. z * more) (often_both n (numbers t) (numbers e)) in
        omega (arith, a, b, d, block_often t, block_often e)
    statement_often (While k c b) = omega (arith, block_often b)

    pub block_often : (b : Statements) → often m (numbers (in_block n made b)) ≤ often m (numbers b) + often n (numbers b) * more
    block_often Ends = omega arith
    block_often (Starts s ss) = go (statement_often s) (block_often ss) (number_of s == n) refl
      where
        go : often m (numbers_in (in_statement n made s)) ≤ often m (numbers_in s) + often n (numbers_in s) * more → often m (numbers (in_block n made ss)) ≤ often m (numbers ss) + often n (numbers ss) * more → (t : Bool) → (number_of s == n) ≡ t → often m (numbers (cond t (append (made s) ss) (Starts (in_statement n made s) (in_block n made ss)))) ≤ often m (numbers_in s ++ numbers ss) + often n (numbers_in s ++ numbers ss) * more
        go i j true e =
            let a = numbers_append m (made s) ss in
            let b = often_both m (numbers_in s) (numbers ss) in
            let d = ap (λ z. z * more) (often_both n (numbers_in s) (numbers ss)) in
            let t = times (often n (numbers_in s)) more (head n s e) in
            omega (arith, a, b, d, t, few s)
        go i j false e =
            let a = often_both m (numbers_in (in_statement n made s)) (numbers (in_block n made ss)) in
            let b = often_both m (numbers_in s) (numbers ss) in
            let d = ap (λ z. z * more) (often_both n (numbers_in s) (numbers ss)) in
            omega (arith, a, b, d, i, j)

  pub program_often : (ps : List Procedure) → often m (program_numbers (in_program n made ps)) ≤ often m (program_numbers ps) + often n (program_numbers ps) * more
  program_often [] = omega arith
  program_often (p ∷ ps) =
      let a = often_both m (numbers (in_block n made p.body)) (program_numbers (in_program n made ps)) in
      let b = often_both m (numbers p.body) (program_numbers ps) in
      let d = ap (λ z. z * more) (often_both n (numbers p.body) (program_numbers ps)) in
      omega (arith, a, b, d, block_often p.body, program_often ps)

-- Lists of procedures one after the other.
pub programs_both : (m : ℕ) (ps qs : List Procedure) → often m (program_numbers (ps ++ qs)) ≡ often m (program_numbers ps) + often m (program_numbers qs)
programs_both m [] qs = omega arith
programs_both m (p ∷ ps) qs =
    let a = often_both m (numbers p.body) (program_numbers (ps ++ qs)) in
    let b = often_both m (numbers p.body) (program_numbers ps) in
    omega (arith, a, b, programs_both m ps qs)

-- A change at the first procedure of a name that brings at most `more` of m to it.
pub named_often : (x : List ℕ) (m : ℕ) (made : Procedure → List Procedure) (more : ℕ) → ((p : Procedure) → often m (program_numbers (made p)) ≤ often m (numbers p.body) + more) → (ps : List Procedure) → often m (program_numbers (at_named x made ps)) ≤ often m (program_numbers ps) + more
named_often x m made more few [] = omega arith
named_often x m made more few (p ∷ ps) = go (named_often x m made more few ps) (bytes_eq p.name x)
  where
    go : often m (program_numbers (at_named x made ps)) ≤ often m (program_numbers ps) + more → (t : Bool) → often m (program_numbers (cond t (made p ++ ps) (p ∷ at_named x made ps))) ≤ often m (numbers p.body ++ program_numbers ps) + more
    go i true =
        let a = programs_both m (made p) ps in
        let b = often_both m (numbers p.body) (program_numbers ps) in
        omega (arith, a, b, few p)
    go i false =
        let a = often_both m (numbers p.body) (program_numbers (at_named x made ps)) in
        let b = often_both m (numbers p.body) (program_numbers ps) in
        omega (arith, a, b, i)
