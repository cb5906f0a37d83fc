-- Questions that have an answer, and those that have none.
use Rattle.std.proofs.Common.{◌≡◌, ℕ, Bool, true, false, List, [], ◌∷◌, length, Option, Some, None, if◌then◌else◌, sym, ap, ◌∙◌}
use Rattle.std.specs.Prelude.{nat_lt}
use Rattle.imp_syntax.specs.declared.edit.Location.{Location}
use Rattle.imp_syntax.specs.declared.edit.Location.TheVariants.{Before, After, Head, End}
use Rattle.imp_slots.specs.Plain.{Routine}
use Rattle.imp_words.specs.declared.refusal.QueryRefusal.{QueryRefusal}
use Rattle.imp_words.specs.declared.refusal.QueryRefusal.TheVariants.{LongString, NoProcedure, NoStatement}
use Rattle.imp_chains.specs.Chains.{selected, holder, named, is_while}
use Rattle.domain_laws.specs.Operations.{Operations}
use Rattle.batch_meaning.specs.Values as plain
use Rattle.batch_meaning.specs.Batch.{LoopOptions}
use Rattle.batch_meaning.specs.Places.{value_at}
use Rattle.batch_meaning.specs.Answers.{Answer, Refuses, Found, In, Misses, all_values, answer, answer_in, found_loop, found_or, procedure_of, sum_of}
use Rattle.daig_graph.specs.declared.value.Value.{Value}
use Rattle.daig_graph.specs.declared.value.Value.TheVariants as cell
use Rattle.daig_query.specs.Answered.{Says}
use Rattle.daig_session.specs.Going.{IsAnswered}

-- ---- no program refuses a call string as too long but where it is

or_not_long : (why : QueryRefusal) (o : Option ℕ) → (why ≡ LongString → ⊥) → found_or why o ≡ Misses LongString → ⊥
or_not_long why None differs is = differs cc
or_not_long why (Some p) differs is = cc

loop_not_long : (b : Bool) (f : Found) → (f ≡ Misses LongString → ⊥) → found_loop b f ≡ Misses LongString → ⊥
loop_not_long b (Misses why) differs is = differs is
loop_not_long true (In p) differs is = cc
loop_not_long false (In p) differs is = cc

place_not_long : (program : List Routine) (l : Location) → procedure_of program l ≡ Misses LongString → ⊥
place_not_long program (Before n) is = or_not_long NoStatement (holder n program) (λ (e : NoStatement ≡ LongString). cc) is
place_not_long program (After n) is = or_not_long NoStatement (holder n program) (λ (e : NoStatement ≡ LongString). cc) is
place_not_long program (Head n) is =
    loop_not_long (is_while n program) (found_or NoStatement (holder n program)) (or_not_long NoStatement (holder n program) (λ (e : NoStatement ≡ LongString). cc)) is
place_not_long program (End x) is = or_not_long NoProcedure (named x program) (λ (e : NoProcedure ≡ LongString). cc) is

module _ {S : Type 0} (dom : Operations S) (engine : LoopOptions) where
  sum_not_long : (o : Option (List (plain.Value S))) → sum_of dom engine o ≡ Refuses LongString → ⊥
  sum_not_long None is = cc
  sum_not_long (Some []) is = cc
  sum_not_long (Some (v ∷ vs)) is = cc

  in_not_long : (program : List Routine) (l : Location) (string : List ℕ) (f : Found) → (f ≡ Misses LongString → ⊥) → answer_in dom engine program l string f ≡ Refuses LongString → ⊥
  in_not_long program l string (Misses why) differs is = differs cc
  in_not_long program l string (In p) differs is = sum_not_long (all_values dom engine (value_at dom engine program l) (selected program p string)) is

  pub short_not_long : (program : List Routine) (l : Location) (string : List ℕ) → nat_lt 2 (length string) ≡ false → answer dom engine program l string ≡ Refuses LongString → ⊥
  short_not_long program l string short is =
      let e : answer dom engine program l string ≡ answer_in dom engine program l string (procedure_of program l) =
      ap (λ (b : Bool). if b then Refuses LongString else answer_in dom engine program l string (procedure_of program l)) short in
      in_not_long program l string (procedure_of program l) (place_not_long program l) (sym e ∙ is)

-- what is said of a question that is answered
pub says_answered : {S : Type 0} (a : Answer S) (v : Value S) → Says a (Some v) → IsAnswered a
says_answered a (cell.State s) is = (plain.State s, is)
says_answered a (cell.Over n chain) is = (plain.Over n _, is)
