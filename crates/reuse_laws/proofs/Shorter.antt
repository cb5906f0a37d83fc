-- A machine that keeps more misses the rest of what the other misses.
use Rattle.std.proofs.Common.{◌≡◌, ℕ, Bool, true, List, [], map, sym, subst}
use Rattle.imp_syntax.specs.Plain.{Procedure}
use Rattle.imp_syntax.specs.declared.edit.Location.{Location}
use Rattle.imp_slots.specs.Fits.{IsChecked}
use Rattle.imp_check.specs.Slots.{routines_of}
use Rattle.domain_laws.specs.Operations.{Operations}
use Rattle.batch_meaning.specs.Answers.{Found, In, Misses, procedure_of}
use Rattle.batch_meaning.specs.Batch.{LoopOptions}
use Rattle.cell_names.specs.Paths.{CellName}
use Rattle.cell_rows.specs.Targets.{demanded, targets}
use Rattle.daig_order.specs.Order.{System, IsAcyclic, fill_all}
use Rattle.daig_order.specs.InTurn.{all_demanded, missing_in_turn}
use Rattle.daig_order.proofs.AskingProofs.{system-acyclic}
use Rattle.daig_order.proofs.InTurnLemmas.{turns-one}
use Rattle.daig_demands.specs.Claims.{found_by, names_of}
use Rattle.daig_demands.specs.Reports.{report_demands}
use Rattle.daig_demands.proofs.Machine.{rows, law}
use Rattle.fault_verdicts.specs.Statements.{fault_places}
use Rattle.cell_graph.specs.Same.{same_name}
use Rattle.cell_graph.proofs.Same.{same_is}
use Rattle.daig_machine.specs.Claims.{AreKept, KeepsCells}
use Rattle.daig_machine.specs.Machine.{Machine}
use Rattle.daig_machine.specs.Turns.{is_kept, missing_names, missing_for_faults, missing_for_report, or_none, place_targets, targets_in}
use Rattle.reuse_laws.specs.Rest.{IsRest}
use Rattle.reuse_laws.specs.Shorter.{IsShorter, MoreIsShorter}
use Rattle.reuse_laws.proofs.Rest.{misses_rest}

module _ {S : Type 0} (dom : Operations S) (m n : Machine) (checked : IsChecked (routines_of m.program)) where
  abbrev names : System CellName
  names = names_of dom m.engine (routines_of m.program) same_name

  acyclic : IsAcyclic (names_of dom m.engine (routines_of m.program) same_name)
  acyclic = system-acyclic (rows dom m.engine (routines_of m.program) same_name same_is checked) (law dom m.engine (routines_of m.program) same_name same_is checked)

  -- what the second keeps, with the program of the first
  abbrev beside : Machine
  beside = record n { program = m.program; engine = m.engine }

  module _ (few : KeepsCells dom m) (many : AreKept dom m.engine (routines_of m.program) n.kept) (more : (x : CellName) → is_kept m x ≡ true → is_kept n x ≡ true) where
    rest_of_demand : (xs : List CellName) → IsRest (is_kept n) (fill_all names (is_kept n) [] xs) (fill_all names (is_kept m) [] xs)
    rest_of_demand xs = misses_rest names acyclic (is_kept m) (is_kept n) few.cells.closed many.cells.closed more xs

    rest_of_question : (l : Location) (string : List ℕ) (found : Found) → IsRest (is_kept n) (missing_names dom (targets_in beside l string found) beside) (missing_names dom (targets_in m l string found) m)
    rest_of_question l string (Misses why) = rest_of_demand (demanded (found_by dom m.engine (routines_of m.program) same_name) [])
    rest_of_question l string (In p) = rest_of_demand (demanded (found_by dom m.engine (routines_of m.program) same_name) (or_none (targets (routines_of m.program) p l string)))

    -- demands in turn are one demand for all their names
    rest_in_turn : (demands : List (List CellName)) → IsRest (is_kept n) (missing_in_turn names (is_kept n) demands) (missing_in_turn names (is_kept m) demands)
    rest_in_turn demands =
        subst (λ (left : List CellName). IsRest (is_kept n) left (missing_in_turn names (is_kept m) demands)) (sym (turns-one names acyclic (is_kept n) demands)) (
        subst (λ (all : List CellName). IsRest (is_kept n) (fill_all names (is_kept n) [] (all_demanded demands)) all) (sym (turns-one names acyclic (is_kept m) demands)) (
        rest_of_demand (all_demanded demands)))

    rest_of_report : IsRest (is_kept n) (missing_for_report dom beside) (missing_for_report dom m)
    rest_of_report = rest_in_turn (report_demands (found_by dom m.engine (routines_of m.program) same_name) (routines_of m.program))

    -- what a location demands, over all chains to it
    abbrev place_demand : Location → List CellName
    place_demand l = demanded (found_by dom m.engine (routines_of m.program) same_name) (place_targets m l)

    rest_of_faults : IsRest (is_kept n) (missing_for_faults dom beside) (missing_for_faults dom m)
    rest_of_faults = rest_in_turn (map place_demand (fault_places (routines_of m.program)))

    beside_shorter : IsShorter dom m beside
    beside_shorter = record {
      question = λ l string. rest_of_question l string (procedure_of (routines_of m.program) l);
      report = rest_of_report;
      faults = rest_of_faults;
    }

pub more_is_shorter : {S : Type 0} (dom : Operations S) → MoreIsShorter dom
more_is_shorter dom m n checked few many more =
    let here : AreKept dom m.engine (routines_of m.program) n.kept =
    subst (λ (e : LoopOptions). AreKept dom e (routines_of m.program) n.kept) (sym more.holds.engine) (
    subst (λ (p : List Procedure). AreKept dom n.engine (routines_of p) n.kept) (sym more.holds.program) many) in
    subst (λ (p : List Procedure). IsShorter dom m (record n { program = p; engine = n.engine })) more.holds.program (
    subst (λ (e : LoopOptions). IsShorter dom m (record n { program = m.program; engine = e })) more.holds.engine (beside_shorter dom m n checked few here more.more))
