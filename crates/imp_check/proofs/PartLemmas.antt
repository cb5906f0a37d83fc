-- The ends of blocks, and how deep their statements are.
use Rattle.std.proofs.Common.{◌≡◌, ℕ, zero, suc, ◌-◌, ◌<◌, ◌≤◌, List, [], ◌∷◌, length, drop, slice_get, slice_index_or, Option, Some, None, option_map, refl, ap, ◌∙◌, sym, arith}
use Rattle.imp_syntax.specs.Plain.{Statement, Statements, block_of, number_of, Procedure}
use Rattle.imp_check.specs.Programs.{statement_nesting, nesting, deepest}
use Rattle.imp_check.specs.Parts.{first_or, last_or, ends_of}
pub use Rattle.std.proofs.Math.Nat.{le-max_left as below_max_left, le-max_right as below_max_right}

-- the number of a statement of a list, if there is one
abbrev pub number_at : List Statement → ℕ → Option ℕ
number_at ss k = option_map number_of (slice_get ss k)

pub next_is : (ss : List Statement) (k : ℕ) → first_or (block_of (drop k ss)) None ≡ number_at ss k
next_is [] zero = refl
next_is [] (suc k) = refl
next_is (s ∷ ss) zero = refl
next_is (s ∷ ss) (suc k) = next_is ss k

last_is : (s : Statement) (ss : List Statement) (o : Option ℕ) → last_or (block_of (s ∷ ss)) o ≡ number_at (s ∷ ss) (length ss)
last_is s [] o = refl
last_is s (t ∷ ss) o = last_is t ss (Some (number_of s))

last_at : (ss : List Statement) → last_or (block_of ss) None ≡ number_at ss (length ss - 1)
last_at [] = refl
last_at (s ∷ ss) = let e : length (s ∷ ss) - 1 ≡ length ss = omega arith in last_is s ss None ∙ ap (number_at (s ∷ ss)) (sym e)

pub ends_are : (ss : List Statement) (b : Statements) → block_of ss ≡ b → ends_of b ≡ record { first = number_at ss 0; last = number_at ss (length ss - 1) }
ends_are ss b e = ap ends_of (sym e) ∙ (λ i. record { first = next_is ss 0 i; last = last_at ss i })

pub member_nesting : (ss : List Statement) (i : ℕ) (s : Statement) → i < length ss → s ≡ slice_index_or ss i s → statement_nesting s ≤ nesting (block_of ss)
member_nesting [] i s h e = absurd (omega arith)
member_nesting (x ∷ ss) zero s h e = let same : statement_nesting s ≡ statement_nesting x = ap statement_nesting e in omega (arith, same, below_max_left (statement_nesting x) (nesting (block_of ss)))
member_nesting (x ∷ ss) (suc i) s h e = omega (arith, member_nesting ss i s (omega arith) e, below_max_right (statement_nesting x) (nesting (block_of ss)))

pub body_nesting : (ps : List Procedure) (i : ℕ) (p : Procedure) → i < length ps → p ≡ slice_index_or ps i p → nesting p.body ≤ deepest ps
body_nesting [] i p h e = absurd (omega arith)
body_nesting (x ∷ ps) zero p h e = let same : nesting p.body ≡ nesting x.body = ap (λ (q : Procedure). nesting q.body) e in omega (arith, same, below_max_left (nesting x.body) (deepest ps))
body_nesting (x ∷ ps) (suc i) p h e = omega (arith, body_nesting ps i p (omega arith) e, below_max_right (nesting x.body) (deepest ps))
