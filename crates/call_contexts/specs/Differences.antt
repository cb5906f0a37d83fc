-- The numbers that a change takes from a procedure and brings to it, by statements.
use Rattle.std.specs.Prelude.{◌≡◌, ℕ, ◌+◌, ◌≤◌, List, [], ◌∷◌, ◌++◌, Option, Some, None, ◌==◌, if◌then◌else◌}
use Rattle.imp_check.specs.declared.entry.Entry.{Entry}
use Rattle.imp_table.specs.declared.change.Put.{Put}
use Rattle.imp_chains.specs.Chains.{has}
use Rattle.call_contexts.specs.Literals.{form_literals, literals_in}
use Rattle.call_contexts.specs.Tallies.{one_if, times}

-- the numbers of what is a statement of the procedure at a place
abbrev pub lists_in : (place : ℕ) → Option Entry → List (List ℕ)
lists_in k None = []
lists_in k (Some e) = if e.context.proc == k then form_literals e.form ∷ [] else []

-- those of the statements that a change takes away, and of those that it brings
abbrev pub lost : (place : ℕ) → (at : ℕ → Option Entry) → List Put → List (List ℕ)
lost k at [] = []
lost k at (p ∷ ps) = lists_in k (at p.number) ++ lost k at ps

abbrev pub gained : (place : ℕ) → List Put → List (List ℕ)
gained k [] = []
gained k (p ∷ ps) = lists_in k p.entry ++ gained k ps

-- those of these statements, in their order
abbrev pub lists_by : (at : ℕ → Option Entry) → List ℕ → List (List ℕ)
lists_by at [] = []
lists_by at (n ∷ ns) = literals_in (at n) ∷ lists_by at ns

-- the numbers of what is a statement of the procedure at a place, none where it is not
abbrev pub numbers_in : (place : ℕ) → Option Entry → List ℕ
numbers_in k None = []
numbers_in k (Some e) = if e.context.proc == k then form_literals e.form else []

-- Of what is lost and gained some is left out that is both: of each number as many lists that have it.
pub record AreDifferent (lost gained less more : List (List ℕ)) : Type 0 where
  pub balanced : (n : ℕ) → times n less + times n gained ≡ times n more + times n lost
  pub within : (n : ℕ) → times n less ≤ times n lost

-- The same where one list more is lost, and one more gained.
pub record AreMore (less more : List (List ℕ)) (goes comes : List ℕ) (less_now more_now : List (List ℕ)) : Type 0 where
  pub balanced : (n : ℕ) → times n less_now + (times n more + one_if (has n comes)) ≡ times n more_now + (times n less + one_if (has n goes))
  pub within : (n : ℕ) → times n less_now ≤ times n less + one_if (has n goes)
