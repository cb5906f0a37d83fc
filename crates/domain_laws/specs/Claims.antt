-- What is claimed of checks and of negation.
use Rattle.std.specs.Prelude.{◌≡◌, Bool, true, false, not, Option, Some, None, All, length}
use Rattle.imp_slots.specs.Plain.{Guard, Effect}
use Rattle.concrete_sem.specs.Values.{Variables, Heap, Gives, Faults}
use Rattle.concrete_sem.specs.Evaluation.{truth_of}
use Rattle.concrete_sem.specs.Effects.{effect_of}
use Rattle.concrete_sem.specs.Proper.{IsLink}
use Rattle.domain_laws.specs.Checks.{Check, check_of, checked_guard, fault_of, positive}

-- the check, where there is one, has this truth value
abbrev pub ChecksTo : Variables → Bool → Option Check → Type 0
ChecksTo v b None = Unit {0}
ChecksTo v b (Some c) = truth_of v (checked_guard c) ≡ Gives b

-- the fault of a statement's check comes, where there is a check
abbrev pub FailsCheck : Heap → Variables → Effect → Option Check → Type 0
FailsCheck h v e None = ⊥
FailsCheck h v e (Some c) = effect_of e h v ≡ Faults (fault_of c)

-- a guard with a truth value, as a guard that holds: it holds exactly where the guard has that truth value
abbrev pub same_truth : Bool → Bool → Bool
same_truth true c = c
same_truth false c = not c

-- a statement that goes on finds its check true
abbrev pub PassesFindChecksTrue : Type 0
PassesFindChecksTrue = (e : Effect) (h : Heap) (v : Variables) (x : Heap × Variables) → effect_of e h v ≡ Gives x → ChecksTo v true (check_of e)

-- a statement that fails with the fault of its check finds it false, where links are of cells that are there
abbrev pub FailuresFindChecksFalse : Type 0
FailuresFindChecksFalse = (e : Effect) (h : Heap) (v : Variables) → All (IsLink (length h.cells)) v.links → FailsCheck h v e (check_of e) → ChecksTo v false (check_of e)

-- a guard with a truth value, as a guard without a negation, holds exactly where the guard has that truth value
abbrev pub NegationIsExact : Type 0
NegationIsExact = (v : Variables) (g : Guard) (b c : Bool) → truth_of v g ≡ Gives c → truth_of v (positive b g) ≡ Gives (same_truth b c)
