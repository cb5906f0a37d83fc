-- Machines whose programs have no fault, from turn to turn.
use Rattle.std.proofs.Common.{◌≡◌, ℕ, suc, ◌<◌, ◌≤◌, List, [], ◌∷◌, Option, Some, None, refl, arith}
use Rattle.std.specs.List.{All}
use Rattle.std.specs.Option.{option_map}
use Rattle.std.specs.Prelude.{true}
use Rattle.std.proofs.lemmas.List.Elements.{All-cons, All-nil, All-take}
use Rattle.imp_syntax.specs.Plain.{Procedure}
use Rattle.imp_syntax.specs.declared.edit.Edit.{Edit}
use Rattle.imp_check.specs.Faults.{first}
use Rattle.imp_check.specs.Fine.{IsFine}
use Rattle.imp_check.specs.Programs.{AreNumbered, check_fault}
use Rattle.imp_check.specs.Small.{small_program}
use Rattle.imp_check.specs.declared.fault.LocatedFault.{LocatedFault}
use Rattle.imp_check.proofs.FewLemmas.{first_none}
use Rattle.imp_check.proofs.FitsPrograms.{programs_fit}
use Rattle.domain_laws.specs.Operations.{Operations}
use Rattle.cell_names.specs.Paths.{CellName}
use Rattle.imp_edit.specs.Edited.{edited, next_after, uses}
use Rattle.imp_edit.specs.Refusals.{edit_refusal, numbers_refusal, site_refusal}
use Rattle.imp_edit.specs.declared.error.EditError.TheVariants.{Fault}
use Rattle.imp_edit.proofs.Numbered.{numbered_again, below_again}
use Rattle.daig_machine.specs.Machine.{Machine, Ticket, keeping, with_tickets}
use Rattle.daig_machine.specs.Turns.{back_to, after_edit, on_to}
use Rattle.serve_answers.specs.Fine.{IsFineBelow, HasFinePrograms}
use Rattle.serve_answers.proofs.Carried.{IsNext}
use Rattle.serve_answers.proofs.SmallEdits.{edited_small}

-- ---- programs

pub fine_of : (program : List Procedure) → small_program program ≡ true → check_fault program ≡ None → AreNumbered program → IsFine program
fine_of program small faultless numbered = record { faultless = faultless; numbered = numbered; fit = programs_fit program small faultless numbered }

no_error : (found : Option LocatedFault) → option_map Fault found ≡ None → found ≡ None
no_error None none = refl
no_error (Some found) none = cc

-- an edit that has no refusal makes a program without faults
accepted_faultless : (e : Edit) (ps : List Procedure) (next : ℕ) → edit_refusal e ps next ≡ None → check_fault (edited e ps) ≡ None
accepted_faultless e ps next none =
    let fault = option_map Fault (check_fault (edited e ps)) in
    let behind = (first_none (site_refusal e ps) (first (numbers_refusal (uses e) next) fault) none).1 in
    no_error (check_fault (edited e ps)) (first_none (numbers_refusal (uses e) next) fault behind).1

edited_fine : (e : Edit) (ps : List Procedure) (next : ℕ) → 0 < next → IsNext next e → IsFineBelow next ps → edit_refusal e ps next ≡ None → IsFineBelow (next_after e next) (edited e ps)
edited_fine e ps next some is h none =
    let small = edited_small e ps is.small h.small in
    record {
      fine = fine_of (edited e ps) small (accepted_faultless e ps next none) (numbered_again e ps next h.fine.numbered h.below some is.continues);
      small = small;
      below = below_again e ps next h.fine.numbered h.below is.continues;
    }

-- the numbers are below one that is no lower
raised : (low high : ℕ) (ps : List Procedure) → low ≤ high → IsFineBelow low ps → IsFineBelow high ps
raised low high ps rises h = record { fine = h.fine; small = h.small; below = λ k d within. let below = h.below k d within in omega arith }

all_raised : (low high : ℕ) (pss : List (List Procedure)) → low ≤ high → All (IsFineBelow low) pss → All (IsFineBelow high) pss
all_raised low high pss rises all = λ k d within. raised low high _ rises (all k d within)

-- the first of some programs, and the others
first_fine : (next : ℕ) (p : List Procedure) (ps : List (List Procedure)) → All (IsFineBelow next) (p ∷ ps) → IsFineBelow next p
first_fine next p ps all = all 0 p (omega arith)

others_fine : (next : ℕ) (p : List Procedure) (ps : List (List Procedure)) → All (IsFineBelow next) (p ∷ ps) → All (IsFineBelow next) ps
others_fine next p ps all = λ k d within. all (suc k) d (omega arith)

-- ---- machines

-- with other kept names, and with other tickets
pub keeping_fine : (kept : List CellName) (cost : ℕ) (m : Machine) → HasFinePrograms m → HasFinePrograms (keeping kept cost m)
keeping_fine kept cost m h = record { some = h.some; present = h.present; past = h.past; future = h.future }

pub ticketed_fine : (tickets : List Ticket) (next_ticket : ℕ) (m : Machine) → HasFinePrograms m → HasFinePrograms (with_tickets tickets next_ticket m)
ticketed_fine tickets next_ticket m h = record { some = h.some; present = h.present; past = h.past; future = h.future }

-- after an edit
pub committed_fine : {S : Type 0} (dom : Operations S) (e : Edit) (m : Machine) → IsNext m.next e → edit_refusal e m.program m.next ≡ None → HasFinePrograms m → HasFinePrograms (after_edit dom e m)
committed_fine dom e m is none h =
    let rises : m.next ≤ next_after e m.next = omega arith in
    record {
      some = let some = h.some in omega arith;
      present = edited_fine e m.program m.next h.some is h.present none;
      past =
          All-take (IsFineBelow (next_after e m.next)) 64 (m.program ∷ m.past)
          (all_raised m.next (next_after e m.next) (m.program ∷ m.past) rises (All-cons (IsFineBelow m.next) m.program m.past h.present h.past));
      future = All-nil (IsFineBelow (next_after e m.next));
    }

-- back to a program before, and on to one after it
pub back_fine : {S : Type 0} (dom : Operations S) (side : List (List Procedure)) (m : Machine) → All (IsFineBelow m.next) side → HasFinePrograms m → HasFinePrograms (back_to dom side m)
back_fine dom [] m all h = h
back_fine dom (p ∷ ps) m all h = record {
  some = h.some;
  present = first_fine m.next p ps all;
  past = others_fine m.next p ps all;
  future = All-cons (IsFineBelow m.next) m.program m.future h.present h.future;
}

pub on_fine : {S : Type 0} (dom : Operations S) (side : List (List Procedure)) (m : Machine) → All (IsFineBelow m.next) side → HasFinePrograms m → HasFinePrograms (on_to dom side m)
on_fine dom [] m all h = h
on_fine dom (p ∷ ps) m all h = record {
  some = h.some;
  present = first_fine m.next p ps all;
  past = All-cons (IsFineBelow m.next) m.program m.past h.present h.past;
  future = others_fine m.next p ps all;
}
