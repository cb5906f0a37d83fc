-- What is read is numbered 1, 2, .. in the order of the text already.
use Rattle.std.proofs.Common.{◌≡◌, ℕ, ◌+◌, List, ◌∷◌, ◌++◌, refl, sym, ap, ◌∙◌, arith}
use Rattle.imp_lex.specs.declared.token.TokenKind.{TokenKind}
use Rattle.imp_syntax.specs.Plain.{Statement, If, While, Statements, Ends, Starts, Procedure, block_of}
use Rattle.imp_parse.specs.Statements as g
use Rattle.imp_parse.specs.Statements.{IsAssigned, IsSimple, IsStatement, IsBlock, IsStatements}
use Rattle.imp_parse.specs.Programs as q
use Rattle.imp_parse.specs.Programs.{IsProcedure, IsProcedures, IsProgram}
use Rattle.imp_round_trip.specs.Renumbered.{count_in, count, statement_from, block_from, procedures_from, renumbered}

-- numbered from n already, and the next number stands after
record IsNumbered (n j : ℕ) (s : Statement) : Type 0 where
  pub same : statement_from n s ≡ s
  pub next : j ≡ n + count_in s

record AreNumbered (n j : ℕ) (b : Statements) : Type 0 where
  pub same : block_from n b ≡ b
  pub next : j ≡ n + count b

assigned_numbered : (n : ℕ) (x : List ℕ) (ts : List TokenKind) (s : Statement) → IsAssigned n x ts s → IsNumbered n (n + 1) s
assigned_numbered n x ts s g.input = record { same = refl; next = refl }
assigned_numbered n x ts s (g.array h) = record { same = refl; next = refl }
assigned_numbered n x ts s g.null = record { same = refl; next = refl }
assigned_numbered n x ts s g.new = record { same = refl; next = refl }
assigned_numbered n x ts s (g.outcome h) = record { same = refl; next = refl }
assigned_numbered n x ts s g.next = record { same = refl; next = refl }
assigned_numbered n x ts s g.item = record { same = refl; next = refl }
assigned_numbered n x ts s (g.element h) = record { same = refl; next = refl }
assigned_numbered n x ts s (g.value h) = record { same = refl; next = refl }

simple_numbered : (n : ℕ) (ts : List TokenKind) (s : Statement) → IsSimple n ts s → IsNumbered n (n + 1) s
simple_numbered n ts s g.skip = record { same = refl; next = refl }
simple_numbered n ts s g.break = record { same = refl; next = refl }
simple_numbered n ts s (g.assert h) = record { same = refl; next = refl }
simple_numbered n ts s (g.call h) = record { same = refl; next = refl }
simple_numbered n ts s (g.assign {x = x} {w = u} {s = t} h) = assigned_numbered n x u t h
simple_numbered n ts s (g.write_element h i) = record { same = refl; next = refl }
simple_numbered n ts s g.write_next = record { same = refl; next = refl }
simple_numbered n ts s (g.write_item h) = record { same = refl; next = refl }

mutual
  statement_numbered : (n : ℕ) (ts : List TokenKind) (s : Statement) (j : ℕ) → IsStatement n ts s j → IsNumbered n j s
  statement_numbered n ts s j (g.simple h) = simple_numbered n ts s h
  statement_numbered n ts s j (g.if_ {v = v} {c = c} {t = t} h i) =
      let then = block_numbered (n + 1) v t j i in
      record { same = ap (λ (b : Statements). If n c b Ends) then.same; next = omega (arith, then.next) }
  statement_numbered n ts s j (g.if_else {i = mid} {v = v} {w = w} {c = c} {t = t} {e = e} h i l) =
      let then = block_numbered (n + 1) v t mid i in
      let otherwise = block_numbered mid w e j l in
      let at : block_from (n + 1 + count t) e ≡ e = ap (λ (m : ℕ). block_from m e) (sym then.next) ∙ otherwise.same in
      record { same = ap (λ (b : Statements). If n c b (block_from (n + 1 + count t) e)) then.same ∙ ap (λ (b : Statements). If n c t b) at; next = omega (arith, then.next, otherwise.next) }
  statement_numbered n ts s j (g.while {v = v} {c = c} {b = b} h i) =
      let body = block_numbered (n + 1) v b j i in
      record { same = ap (λ (x : Statements). While n c x) body.same; next = omega (arith, body.next) }

  block_numbered : (n : ℕ) (ts : List TokenKind) (b : Statements) (j : ℕ) → IsBlock n ts b j → AreNumbered n j b
  block_numbered n ts b j (g.block {w = w} {ss = ss} h) = statements_numbered n w ss j h

  statements_numbered : (n : ℕ) (ts : List TokenKind) (ss : List Statement) (j : ℕ) → IsStatements n ts ss j → AreNumbered n j (block_of ss)
  statements_numbered n ts ss j g.none = record { same = refl; next = omega arith }
  statements_numbered n ts ss j (g.onward {i = mid} {v = v} {w = w} {s = s} {ss = rest} h i) =
      let first = statement_numbered n v s mid h in
      let others = statements_numbered mid w rest j i in
      let at : block_from (n + count_in s) (block_of rest) ≡ block_of rest = ap (λ (m : ℕ). block_from m (block_of rest)) (sym first.next) ∙ others.same in
      record { same = ap (λ (x : Statement). Starts x (block_from (n + count_in s) (block_of rest))) first.same ∙ ap (Starts s) at; next = omega (arith, first.next, others.next) }

procedure_numbered : (n : ℕ) (ts : List TokenKind) (p : Procedure) (j : ℕ) → IsProcedure n ts p j → AreNumbered n j p.body
procedure_numbered n ts p j (q.procedure {y = y} {ss = ss} h i l b) = statements_numbered n y ss j b

procedures_numbered : (n : ℕ) (ts : List TokenKind) (ps : List Procedure) (j : ℕ) → IsProcedures n ts ps j → procedures_from n ps ≡ ps
procedures_numbered n ts ps j q.procedures_end = refl
procedures_numbered n ts ps j (q.procedures_more {i = mid} {v = v} {w = w} {p = p} {ps = rest} h i) =
    let first = procedure_numbered n v p mid h in
    let at : procedures_from (n + count p.body) rest ≡ rest = ap (λ (m : ℕ). procedures_from m rest) (sym first.next) ∙ procedures_numbered mid w rest j i in
    ap (λ (b : Statements). record p { body = b } ∷ procedures_from (n + count p.body) rest) first.same ∙ ap (λ (x : List Procedure). p ∷ x) at

pub program_numbered : (ts : List TokenKind) (ps : List Procedure) → IsProgram ts ps → renumbered ps ≡ ps
program_numbered ts ps (q.program {i = mid} {j = j} {v = v} {w = w} {p = p} {ps = rest} h i) = procedures_numbered 1 (v ++ w) (p ∷ rest) j (q.procedures_more h i)
