-- What is picked of findings is among them, and is all of them where all are asked for.
use Rattle.std.specs.Prelude.{◌≡◌, ℕ, List, [], ◌∷◌, Bool, true, false, Option, Some, None, Ok, if◌then◌else◌, Contains}
use Rattle.std.proofs.Common.{inl, inr, refl, sym, ap, subst}
use Rattle.base_values.proofs.Members.{Member, here, there, contains_of, member_of}
use Rattle.fault_words.specs.declared.finding.FaultFinding.{FaultFinding}
use Rattle.fault_words.specs.declared.finding.FaultVerdict.{FaultVerdict}
use Rattle.fault_words.specs.Picking.{of_verdict, same_verdict, with_verdict}
use Rattle.daig_machine.specs.Machine.{Machine, Ticket, ticket_of}
use Rattle.daig_machine.specs.declared.question.Question.TheVariants as what
use Rattle.serve_answers.specs.Sound.{IsAsked}

one_picked : (b : Bool) (g f : FaultFinding) (picked fs : List FaultFinding) → (Member f picked → Member f fs) → Member f (if b then g ∷ picked else picked) → Member f (g ∷ fs)
one_picked true g f picked fs rest here = here
one_picked true g f picked fs rest (there among) = there (rest among)
one_picked false g f picked fs rest among = there (rest among)

of_one : (v : FaultVerdict) (f : FaultFinding) (fs : List FaultFinding) → Member f (of_verdict v fs) → Member f fs
of_one v f [] among = among
of_one v f (g ∷ fs) among = one_picked (same_verdict g.verdict v) g f (of_verdict v fs) fs (of_one v f fs) among

pub picked_of : (only : Option FaultVerdict) (fs : List FaultFinding) (f : FaultFinding) → Contains (with_verdict only fs) f → Contains fs f
picked_of None fs f within = within
picked_of (Some v) fs f within = contains_of f fs (of_one v f fs (member_of f (of_verdict v fs) within))

-- a line asks one question
some_asked : (m : Machine) (line : List ℕ) (v : FaultVerdict) → IsAsked m line (what.Faults (Some v)) → IsAsked m line (what.Faults None) → ⊥
some_asked m line v (inl one) (inl other) = cc
some_asked m line v (inl one) (inr other) = let reads = other.reads in cc
some_asked m line v (inr one) (inl other) = let reads = one.reads in cc
some_asked m line v (inr one) (inr other) =
    let first = one.reads in
    let second = other.reads in
    let ticket : one.ticket ≡ other.ticket = cc in
    let there = one.open_one in
    let here = subst (λ (n : ℕ). ticket_of n m.tickets ≡ Some other.asked) (sym ticket) other.open_one in
    let same : one.asked ≡ other.asked = cc in
    let question = ap (λ (t : Ticket). t.question) same in
    let this = one.asks in
    let that = other.asks in
    cc

pub all_asked : (m : Machine) (line : List ℕ) (only : Option FaultVerdict) (fs : List FaultFinding) → IsAsked m line (what.Faults only) → IsAsked m line (what.Faults None) → fs ≡ with_verdict only fs
all_asked m line None fs asked all = refl
all_asked m line (Some v) fs asked all = absurd (some_asked m line v asked all)
