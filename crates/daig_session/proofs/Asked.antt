-- Questions and their answers.
use Rattle.std.proofs.Common.{◌≡◌, ℕ, Bool, true, false, List, [], ◌∷◌, map, length, Some, if◌then◌else◌, refl, sym, ap, subst, ◌∙◌}
use Rattle.std.specs.Prelude.{nat_lt}
use Rattle.imp_syntax.specs.declared.edit.Location.{Location}
use Rattle.imp_slots.specs.Fits.{IsChecked}
use Rattle.imp_slots.specs.Plain.{Routine}
use Rattle.imp_words.specs.declared.refusal.QueryRefusal.{QueryRefusal}
use Rattle.imp_words.specs.declared.refusal.QueryRefusal.TheVariants.{LongString, NoChain}
use Rattle.domain_laws.specs.Operations.{Operations}
use Rattle.batch_meaning.specs.Values as plain
use Rattle.batch_meaning.specs.Values.{lift}
use Rattle.batch_meaning.specs.Batch.{LoopOptions, joined}
use Rattle.batch_meaning.specs.Answers.{Answer, Answers, Refuses, In, answer, answer_in, procedure_of, summed}
use Rattle.cell_rows.specs.Cells.{Cell}
use Rattle.cell_rows.specs.Targets.{Target, targets, value_of_target}
use Rattle.cell_names.specs.Paths.{CellName}
use Rattle.daig_demands.specs.Claims.{found_by}
use Rattle.daig_demands.proofs.Demanded.{answer_at}
use Rattle.cell_graph.specs.Same.{same_name}
use Rattle.cell_graph.proofs.Same.{same_is}
use Rattle.imp_check.specs.Slots.{routines_of}
use Rattle.daig_machine.specs.Machine.{Machine}
use Rattle.daig_machine.specs.Turns as turns
use Rattle.daig_session.specs.Going.{IsAnswered, IsAsked}

module _ {S : Type 0} (dom : Operations S) (engine : LoopOptions) (program : List Routine) (l : Location) (string : List ℕ) where
  short_is : nat_lt 2 (length string) ≡ false → answer dom engine program l string ≡ answer_in dom engine program l string (procedure_of program l)
  short_is h = ap (λ (b : Bool). if b then Refuses LongString else answer_in dom engine program l string (procedure_of program l)) h

  pub too_long : nat_lt 2 (length string) ≡ true → answer dom engine program l string ≡ Refuses LongString
  too_long h = ap (λ (b : Bool). if b then Refuses LongString else answer_in dom engine program l string (procedure_of program l)) h

  -- with these targets
  with_targets : (p : ℕ) (ts : List Target) → IsChecked program → nat_lt 2 (length string) ≡ false → procedure_of program l ≡ In p → targets program p l string ≡ Some ts →
      answer dom engine program l string ≡ summed dom engine (map (value_of_target (found_by dom engine program same_name)) ts)
  with_targets p ts checked h e t = short_is h ∙ (ap (answer_in dom engine program l string) e ∙ answer_at dom engine program same_name same_is checked l string p ts t)

  pub no_chain : (p : ℕ) (ts : List Target) → IsChecked program → nat_lt 2 (length string) ≡ false → procedure_of program l ≡ In p → targets program p l string ≡ Some ts → ts ≡ [] → answer dom engine program l string ≡ Refuses NoChain
  no_chain p ts checked h e t n = with_targets p ts checked h e t ∙ ap (λ us. summed dom engine (map (value_of_target (found_by dom engine program same_name)) us)) n

  summed_some : (vs : List (plain.Value S)) → (vs ≡ [] → ⊥) → IsAnswered (summed dom engine vs)
  summed_some [] h = absurd (h refl)
  summed_some (v ∷ vs) h = (joined dom engine (lift dom.shed v) (map (lift dom.shed) vs), refl)

  some_map : (f : CellName → Cell S) (ts : List Target) → (ts ≡ [] → ⊥) → map (value_of_target f) ts ≡ [] → ⊥
  some_map f [] h e = h refl
  some_map f (t ∷ ts) h e = cc

  -- a question with targets has an answer
  pub asked_answered : (ts : List Target) → IsChecked program → IsAsked program l string ts → IsAnswered (answer dom engine program l string)
  asked_answered ts checked a = subst IsAnswered (sym (with_targets a.place ts checked a.short a.there a.are)) (summed_some (map (value_of_target (found_by dom engine program same_name)) ts) (some_map (found_by dom engine program same_name) ts a.some))

  -- which is that at its place
  pub asked_is : (ts : List Target) → (a : IsAsked program l string ts) → answer dom engine program l string ≡ answer_in dom engine program l string (In a.place)
  asked_is ts a = short_is a.short ∙ ap (answer_in dom engine program l string) a.there

  answered_not : (a : Answer S) (r : QueryRefusal) → IsAnswered a → a ≡ Refuses r → ⊥
  answered_not a r i e = let q : Answers i.0 ≡ Refuses r = sym i.1 ∙ e in cc

  pub not_refused : (ts : List Target) (r : QueryRefusal) → IsChecked program → (a : IsAsked program l string ts) → answer_in dom engine program l string (In a.place) ≡ Refuses r → ⊥
  not_refused ts r checked a e = answered_not (answer dom engine program l string) r (asked_answered ts checked a) (asked_is ts a ∙ e)

-- the machine has the targets of the question
pub targets_are : (m : Machine) (l : Location) (string : List ℕ) (ts : List Target) → IsAsked (routines_of m.program) l string ts → turns.targets_of m l string ≡ ts
targets_are m l string ts a = ap (turns.targets_in m l string) a.there ∙ ap turns.or_none a.are
