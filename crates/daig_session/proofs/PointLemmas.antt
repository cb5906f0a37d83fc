-- The statements that have fault points, by what is known of each statement.
use Rattle.std.proofs.Common.{◌≡◌, ℕ, Bool, true, false, List, [], ◌∷◌, ◌++◌, length, Option, Some, None, refl, sym, ap, ◌∙◌, inl, inr, append_assoc}
use Rattle.imp_syntax.specs.Plain.{Statement, Statements, Ends, Starts, Procedure, number_of, program_numbers}
use Rattle.imp_syntax.specs.Plain as tree
use Rattle.imp_slots.specs.Plain.{Code, Effect}
use Rattle.imp_check.specs.Entries.{block_entries, entries_from, entries_of, entry_at, entry_of, resolver_at, context_at, inside, inside_loop, procedure_entries, statement_entries}
use Rattle.imp_check.specs.Parts.{first_or}
use Rattle.imp_check.specs.Programs.{AreNumbered}
use Rattle.imp_check.specs.Slots.{Resolver, code_in, effect_in, guard_in, routines_from, routines_of, statement_in}
use Rattle.imp_check.specs.declared.entry.Context.{Context}
use Rattle.imp_check.specs.declared.entry.Entry.{Entry}
use Rattle.imp_check.specs.declared.entry.Which.TheVariants as which
use Rattle.imp_check.proofs.RebuildLemmas.{Known, all_numbers, entry_numbers}
use Rattle.imp_check.proofs.WalkLemmas.{all_known}
use Rattle.call_contexts.proofs.LiteralLemmas.{effect_again}
use Rattle.fault_points.specs.Points.{effect_points, guard_points}
use Rattle.fault_verdicts.specs.declared.statement.Evaluated.{Evaluated}
use Rattle.fault_verdicts.specs.Statements.{evaluated, evaluated_in, evaluated_statements, has_points, with_points}
use Rattle.daig_session.specs.Faults.{entry_evaluates, pointed_among, pointed_entry}

-- those of some entries
abbrev evaluated_entries : List Entry → List Evaluated
evaluated_entries [] = []
evaluated_entries (e ∷ es) = entry_evaluates e ∷ evaluated_entries es

evaluated_both : (xs ys : List Entry) → evaluated_entries (xs ++ ys) ≡ evaluated_entries xs ++ evaluated_entries ys
evaluated_both [] ys = refl
evaluated_both (x ∷ xs) ys = ap (λ es. entry_evaluates x ∷ es) (evaluated_both xs ys)

-- a statement by its entries, and a block by those of its statements
module _ (f : Resolver) where
  mutual
    statement_evaluates : (c : Context) (a p : Option ℕ) (s : Statement) (r : Code) → evaluated_in (statement_in f s r) ≡ evaluated_entries (statement_entries f c a p s) ++ evaluated_in r
    statement_evaluates c a p (tree.Simple n x) r = ap (λ (e : Effect). evaluated n false (effect_points e) ∷ evaluated_in r) (sym (effect_again (effect_in f.layout x)))
    statement_evaluates c a p (tree.Break n) r = refl
    statement_evaluates c a p (tree.Call n x g es) r = refl
    statement_evaluates c a p (tree.If n d t e) r =
        let T = block_entries f (inside c n which.Then) None None t in
        let E = block_entries f (inside c n which.Else) None None e in
        let first = evaluated n false (guard_points (guard_in f.layout d)) in
        ap (λ xs. first ∷ xs) (
        ap (λ xs. xs ++ (evaluated_in (code_in f e) ++ evaluated_in r)) (block_evaluates (inside c n which.Then) None None t)
        ∙ ap (λ xs. evaluated_entries T ++ (xs ++ evaluated_in r)) (block_evaluates (inside c n which.Else) None None e)
        ∙ sym (append_assoc (evaluated_entries T) (evaluated_entries E) (evaluated_in r))
        ∙ ap (λ xs. xs ++ evaluated_in r) (sym (evaluated_both T E)))
    statement_evaluates c a p (tree.While n d b) r =
        let first = evaluated n true (guard_points (guard_in f.layout d)) in
        ap (λ xs. first ∷ (xs ++ evaluated_in r)) (block_evaluates (inside_loop c n) None None b)

    block_evaluates : (c : Context) (a p : Option ℕ) (b : Statements) → evaluated_in (code_in f b) ≡ evaluated_entries (block_entries f c a p b)
    block_evaluates c a p Ends = refl
    block_evaluates c a p (Starts s ss) =
        statement_evaluates c a (first_or ss p) s (code_in f ss)
        ∙ ap (λ xs. evaluated_entries (statement_entries f c a (first_or ss p) s) ++ xs) (block_evaluates c (Some (number_of s)) p ss)
        ∙ sym (evaluated_both (statement_entries f c a (first_or ss p) s) (block_entries f c (Some (number_of s)) p ss))

from_evaluates : (es ps : List Procedure) → evaluated_statements (routines_from es ps) ≡ evaluated_entries (entries_from es ps)
from_evaluates es [] = refl
from_evaluates es (p ∷ ps) =
    ap (λ xs. xs ++ evaluated_statements (routines_from (es ++ p ∷ []) ps)) (block_evaluates (resolver_at es p) (context_at (length es)) None None p.body)
    ∙ ap (λ xs. evaluated_entries (procedure_entries es p) ++ xs) (from_evaluates (es ++ p ∷ []) ps)
    ∙ sym (evaluated_both (procedure_entries es p) (entries_from (es ++ p ∷ []) ps))

-- one statement more
pointed_more : (x : Evaluated) (xs : List Evaluated) → with_points (x ∷ []) ++ with_points xs ≡ with_points (x ∷ xs)
pointed_more x xs = go (has_points x) refl
  where
    go : (b : Bool) → has_points x ≡ b → with_points (x ∷ []) ++ with_points xs ≡ with_points (x ∷ xs)
    go true e = rw e
    go false e = rw e

-- entries that are found by their numbers
module _ (ps : List Procedure) where
  found_pointed : (xs : List Entry) → Known (entry_of (entries_of ps)) xs → pointed_among ps (entry_numbers xs) ≡ with_points (evaluated_entries xs)
  found_pointed [] k = refl
  found_pointed (x ∷ xs) k =
      ap (λ o. pointed_entry o ++ pointed_among ps (entry_numbers xs)) (k x (inl refl))
      ∙ ap (λ ys. with_points (entry_evaluates x ∷ []) ++ ys) (found_pointed xs (λ y i. k y (inr i)))
      ∙ pointed_more (entry_evaluates x) (evaluated_entries xs)

-- The statements of a program that have fault points are those among all its statements.
pub all_pointed : (ps : List Procedure) → AreNumbered ps → pointed_among ps (program_numbers ps) ≡ with_points (evaluated_statements (routines_of ps))
all_pointed ps n =
    ap (pointed_among ps) (sym (all_numbers ps))
    ∙ found_pointed ps (entries_of ps) (all_known ps n)
    ∙ ap with_points (sym (from_evaluates [] ps))
