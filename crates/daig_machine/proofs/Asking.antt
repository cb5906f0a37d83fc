-- What questions and reports fill are cells of the program.
use Rattle.std.proofs.Common.{◌≡◌, ℕ, true, List, [], ◌∷◌, ◌++◌, map, take, Option, Some, None, refl, sym, subst, ◌∙◌, inl, inr}
use Rattle.imp_syntax.specs.declared.edit.Location.{Location}
use Rattle.imp_syntax.specs.declared.edit.Location.TheVariants.{Before}
use Rattle.imp_slots.specs.Fits.{IsChecked}
use Rattle.imp_slots.specs.Plain.{Routine}
use Rattle.domain_laws.specs.Operations.{Operations}
use Rattle.batch_meaning.specs.Answers.{Found, In, Misses, procedure_of}
use Rattle.batch_meaning.specs.Batch.{LoopOptions}
use Rattle.batch_meaning.specs.Report.{CheckedStatement, checked_statements}
use Rattle.cell_names.specs.Paths.{CellName}
use Rattle.cell_rows.specs.Claims.{HasName, InputsAreNames}
use Rattle.cell_rows.specs.Targets.{Target, demanded, targets}
use Rattle.daig_order.specs.Order.{member, fill_all}
use Rattle.daig_order.specs.OrderLaws.{Needed, input, under}
use Rattle.daig_order.specs.InTurn.{all_demanded, missing_in_turn}
use Rattle.daig_order.proofs.AskingProofs.{system-acyclic}
use Rattle.daig_order.proofs.InTurnLemmas.{turns-one}
use Rattle.daig_order.proofs.OrderLemmas.{member-append}
use Rattle.daig_demands.specs.Claims.{found_by, names_of, report_fills, report_names}
use Rattle.daig_demands.specs.Reports.{check_targets, report_demands, targets_in, or_none}
use Rattle.daig_demands.proofs.Demanded.{demanded_named, needed_named}
use Rattle.daig_demands.proofs.Machine.{rows, law}
use Rattle.cell_graph.specs.Same.{same_name}
use Rattle.cell_graph.proofs.Same.{same_is}
use Rattle.daig_machine.specs.Claims.{AreKept}
use Rattle.daig_machine.proofs.Filling.{fill_keeps}
use Rattle.std.proofs.lemmas.Bool.{or_cases}

-- a member of all demands is one of some demand
member_all : {A : Type 0} (g : A → List CellName) (cs : List A) (y : CellName) → member same_name (all_demanded (map g cs)) y ≡ true → (c : A) × (member same_name (g c) y ≡ true)
member_all g [] y m = absurd cc
member_all g (c ∷ cs) y m =
    elim (or_cases (member same_name (g c) y) (member same_name (all_demanded (map g cs)) y) (sym (member-append same_name (g c) (all_demanded (map g cs)) y) ∙ m)) [
      | inl h ↦ (c, h)
      | inr h ↦ member_all g cs y h
    ]

module _ {S : Type 0} (dom : Operations S) (engine : LoopOptions) (program : List Routine) (checked : IsChecked program) (kept : List CellName) (are : AreKept dom engine program kept) (names : InputsAreNames dom) where
  pub question_keeps : (l : Location) (string : List ℕ) (place : ℕ) (ts : List Target) → targets program place l string ≡ Some ts → (n : ℕ) →
      AreKept dom engine program (kept ++ take n (fill_all (names_of dom engine program same_name) (member same_name kept) [] (demanded (found_by dom engine program same_name) ts)))
  question_keeps l string place ts e n =
      fill_keeps dom engine program checked kept are (demanded (found_by dom engine program same_name) ts) (λ x d. needed_named dom engine program same_name same_is checked names l string place ts x e d) n

  in_place : (l : Location) (y : CellName) (o : Found) → member same_name (demanded (found_by dom engine program same_name) (targets_in program l o)) y ≡ true → HasName engine program y
  in_place l y (Misses r) m = absurd cc
  in_place l y (In p) m = go (targets program p l []) refl m
    where
      go : (o : Option (List Target)) → targets program p l [] ≡ o → member same_name (demanded (found_by dom engine program same_name) (or_none o)) y ≡ true → HasName engine program y
      go None e k = absurd cc
      go (Some ts) e k = demanded_named dom engine program same_name same_is checked l [] p ts y e k

  -- what is demanded at a location
  abbrev place_demand : Location → List CellName
  place_demand l = demanded (found_by dom engine program same_name) (targets_in program l (procedure_of program l))

  in_report : (x : CellName) → Needed (names_of dom engine program same_name) (report_names dom engine program same_name) x → HasName engine program x
  in_report x (input _ m) =
      let p = member_all (λ (c : CheckedStatement). demanded (found_by dom engine program same_name) (check_targets program c)) (checked_statements program) x m in
      in_place (Before p.0.number) x (procedure_of program (Before p.0.number)) p.1
  in_report x (under y _ n m) = names engine program same_name y x same_is checked (in_report y n) m

  in_places : (ls : List Location) (x : CellName) → Needed (names_of dom engine program same_name) (all_demanded (map place_demand ls)) x → HasName engine program x
  in_places ls x (input _ m) = let p = member_all place_demand ls x m in in_place p.0 x (procedure_of program p.0) p.1
  in_places ls x (under y _ n m) = names engine program same_name y x same_is checked (in_places ls y n) m

  pub places_keep : (ls : List Location) (n : ℕ) → AreKept dom engine program (kept ++ take n (missing_in_turn (names_of dom engine program same_name) (member same_name kept) (map place_demand ls)))
  places_keep ls n =
      let one = turns-one (names_of dom engine program same_name) (system-acyclic (rows dom engine program same_name same_is checked) (law dom engine program same_name same_is checked)) (member same_name kept) (map place_demand ls) in
      subst (λ xs. AreKept dom engine program (kept ++ take n xs)) (sym one) (fill_keeps dom engine program checked kept are (all_demanded (map place_demand ls)) (in_places ls) n)

  pub report_keeps : (n : ℕ) → AreKept dom engine program (kept ++ take n (report_fills dom engine program same_name (member same_name kept)))
  report_keeps n =
      let one = turns-one (names_of dom engine program same_name) (system-acyclic (rows dom engine program same_name same_is checked) (law dom engine program same_name same_is checked)) (member same_name kept) (report_demands (found_by dom engine program same_name) program) in
      subst (λ xs. AreKept dom engine program (kept ++ take n xs)) (sym one) (fill_keeps dom engine program checked kept are (report_names dom engine program same_name) in_report n)
