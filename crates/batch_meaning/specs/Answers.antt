-- The answer at a location under a call string.
use Rattle.std.specs.Prelude.{ℕ, nat_lt, List, [], ◌∷◌, length, map, Option, Some, None, Bool, true, false, if◌then◌else◌}
use Rattle.imp_syntax.specs.declared.edit.Location.{Location}
use Rattle.imp_syntax.specs.declared.edit.Location.TheVariants.{Before, After, Head, End}
use Rattle.imp_slots.specs.Plain.{Routine}
use Rattle.imp_chains.specs.Chains.{selected, holder, named, is_while}
use Rattle.domain_laws.specs.Operations.{Operations}
use Rattle.batch_meaning.specs.Values.{Value, lift}
use Rattle.batch_meaning.specs.Batch.{LoopOptions, joined}
use Rattle.batch_meaning.specs.Places.{if_some, value_at}
use Rattle.imp_words.specs.declared.refusal.QueryRefusal.{QueryRefusal}
use Rattle.imp_words.specs.declared.refusal.QueryRefusal.TheVariants.{LongString, NoProcedure, NoStatement, WrongStatement, NoChain}

pub data Answer (S : Type 0) : Type 0 where
  Refuses : QueryRefusal → Answer S
  Answers : Value S → Answer S

-- The procedure of a location, or why the program has no such location.
pub data Found : Type 0 where
  In : (p : ℕ) → Found
  Misses : QueryRefusal → Found

abbrev pub found_or : QueryRefusal → Option ℕ → Found
found_or r None = Misses r
found_or r (Some p) = In p

abbrev pub found_loop : (is_loop : Bool) → Found → Found
found_loop is_loop (Misses r) = Misses r
found_loop true (In p) = In p
found_loop false (In p) = Misses WrongStatement

abbrev pub procedure_of : List Routine → Location → Found
procedure_of program (Before n) = found_or NoStatement (holder n program)
procedure_of program (After n) = found_or NoStatement (holder n program)
procedure_of program (Head n) = found_loop (is_while n program) (found_or NoStatement (holder n program))
procedure_of program (End x) = found_or NoProcedure (named x program)

module _ {S : Type 0} (dom : Operations S) (engine : LoopOptions) where
  -- the values of these chains, where each has one
  abbrev pub all_values : (List ℕ → Option (Value S)) → List (List ℕ) → Option (List (Value S))
  all_values f [] = Some []
  all_values f (z ∷ zs) = if_some (f z) (λ v. if_some (all_values f zs) (λ vs. Some (v ∷ vs)))

  -- Their join from left to right, each shed: the first Over where there is one.
  abbrev pub summed : List (Value S) → Answer S
  summed [] = Refuses NoChain
  summed (v ∷ vs) = Answers (joined dom engine (lift dom.shed v) (map (lift dom.shed) vs))

  abbrev pub sum_of : Option (List (Value S)) → Answer S
  sum_of None = Refuses NoStatement
  sum_of (Some vs) = summed vs

  abbrev pub answer_in : List Routine → Location → (string : List ℕ) → Found → Answer S
  answer_in program l string (Misses r) = Refuses r
  answer_in program l string (In p) = sum_of (all_values (value_at dom engine program l) (selected program p string))

  -- The answer of a program at a location under a call string, which has the outermost call first. Refusals are tested
  -- in this order: a string of more than two calls, no such procedure or statement, no such loop, no chain.
  abbrev pub answer : List Routine → Location → (string : List ℕ) → Answer S
  answer program l string = if nat_lt 2 (length string) then Refuses LongString else answer_in program l string (procedure_of program l)
