-- Blocks from a table, statement by statement.
use Rattle.std.proofs.Common.{◌≡◌, ℕ, zero, suc, ◌-◌, ◌<◌, List, [], ◌∷◌, Option, Some, None, refl, ap, ◌∙◌, sym, arith}
use Rattle.imp_syntax.specs.Plain.{Statement, Statements, statements_of, block_of}
use Rattle.imp_syntax.specs.Blocks.{block_again}
use Rattle.imp_check.specs.Rebuilt.{statement_with, next_in, from_entry, block_from}
use Rattle.imp_check.specs.declared.entry.Entry.{Entry}

pub step_some : (at : ℕ → Option Entry) (left : ℕ) (o : Option ℕ) (e : Entry) → next_in at left o ≡ Some e → 0 < left
step_some at zero o e h = cc
step_some at (suc left) o e h = omega arith

pub step_is : (at : ℕ → Option Entry) (left : ℕ) (o : Option ℕ) (e : Entry) → next_in at left o ≡ Some e → statements_of (block_from at left o) ≡ statement_with e.part (block_from at (left - 1) e.inner.first) (block_from at (left - 1) e.other.first) ∷ statements_of (block_from at (left - 1) e.next)
step_is at zero o e h = cc
step_is at (suc left) None e h = cc
step_is at (suc left) (Some n) e h =
    let p : suc left - 1 ≡ left = omega arith in
    ap (λ x. statements_of (from_entry (block_from at left) x)) h
    ∙ ap (λ k. statement_with e.part (block_from at k e.inner.first) (block_from at k e.other.first) ∷ statements_of (block_from at k e.next)) (sym p)

pub step_none : (at : ℕ → Option Entry) (left : ℕ) (o : Option ℕ) → next_in at left o ≡ None → statements_of (block_from at left o) ≡ []
step_none at zero o h = refl
step_none at (suc left) None h = refl
step_none at (suc left) (Some n) h = ap (λ x. statements_of (from_entry (block_from at left) x)) h

-- a block whose statements are these
pub block_is_of : (ss : List Statement) (b : Statements) → ss ≡ statements_of b → block_of ss ≡ b
block_is_of ss b e = ap block_of e ∙ block_again b
