-- Reports of faults, a statement at a time.
use Rattle.std.proofs.Common.{◌≡◌, ℕ, suc, ◌+◌, List, [], ◌∷◌, ◌++◌, map, take, drop, length, ◌≤◌, Some, Result, Ok, Err, slice_get, refl, sym, ap, ◌∙◌, arith, append_assoc, append-nil}
use Rattle.std.specs.Prelude.{OnOk}
use Rattle.std.proofs.lemmas.List.{map-append, take-append-drop, take_all}
use Rattle.base_values.proofs.Lists.{take_next}
use Rattle.imp_syntax.specs.Plain.{Procedure}
use Rattle.imp_syntax.specs.declared.edit.Location.{Location}
use Rattle.imp_check.specs.Slots.{routines_of}
use Rattle.domain_laws.specs.Operations.{Operations}
use Rattle.batch_meaning.specs.Answers.{answer}
use Rattle.fault_words.specs.declared.finding.FaultFinding.{FaultFinding}
use Rattle.fault_verdicts.specs.declared.statement.Evaluated.{Evaluated}
use Rattle.fault_verdicts.specs.Statements.{evaluated_statements, place_of, with_points}
use Rattle.fault_verdicts.specs.Report.{findings_by, findings_of}
use Rattle.daig_query.specs.declared.store.Store.{Store}
use Rattle.daig_machine.specs.Machine.{Machine}
use Rattle.daig_machine.specs.Turns.{answer_at}
use Rattle.daig_session.specs.declared.book.Book.{Book}
use Rattle.daig_session.specs.Holds.{Holds}

-- One more of some statements.
module _ (xs : List Evaluated) (i : ℕ) (x : Evaluated) (there : slice_get xs i ≡ Some x) where
  one_more : take (i + 1) xs ≡ take i xs ++ x ∷ []
  one_more = let k : i + 1 ≡ suc i = omega arith in ap (λ j. take j xs) k ∙ take_next xs i x there

  pub next_places : map place_of (take (i + 1) xs) ≡ map place_of (take i xs) ++ place_of x ∷ []
  next_places = ap (map place_of) one_more ∙ map-append place_of (take i xs) (x ∷ [])

  pub rest_places : map place_of xs ≡ map place_of (take (i + 1) xs) ++ map place_of (drop (i + 1) xs)
  rest_places = ap (map place_of) (sym (take-append-drop (i + 1) xs)) ∙ map-append place_of (take (i + 1) xs) (drop (i + 1) xs)

  module _ {S : Type 0} (dom : Operations S) (m : Machine) where
    abbrev found : List Evaluated → List FaultFinding
    found ys = findings_of dom m.engine (routines_of m.program) ys

    found_both : (ys zs : List Evaluated) → found (ys ++ zs) ≡ found ys ++ found zs
    found_both [] zs = refl
    found_both (y ∷ ys) zs =
        let here = findings_by dom (answer dom m.engine (routines_of m.program) (place_of y) []) y in
        ap (λ fs. here ++ fs) (found_both ys zs) ∙ sym (append_assoc here (found ys) (found zs))

    pub next_faults : (before mid after : List FaultFinding) → mid ≡ before ++ found (take i xs) → after ≡ mid ++ found (x ∷ []) → after ≡ before ++ found (take (i + 1) xs)
    next_faults before mid after e k =
        k ∙ (ap (λ fs. fs ++ found (x ∷ [])) e
        ∙ (append_assoc before (found (take i xs)) (found (x ∷ []))
        ∙ ap (λ fs. before ++ fs) (sym (ap found one_more ∙ found_both (take i xs) (x ∷ [])))))

pub all_taken : (xs : List Evaluated) (i : ℕ) → length xs ≤ i → take i xs ≡ xs
all_taken xs i h = take_all i xs h

pub one_fault : {S : Type 0} (dom : Operations S) (m : Machine) (x : Evaluated) (before after : List FaultFinding) → after ≡ before ++ findings_by dom (answer_at dom (place_of x) [] m) x → after ≡ before ++ findings_of dom m.engine (routines_of m.program) (x ∷ [])
one_fault dom m x before after e = e ∙ ap (λ fs. before ++ fs) (sym (append-nil (findings_by dom (answer_at dom (place_of x) [] m) x)))

-- so it is from each machine
pub each_fault : {S V E : Type 0} (dom : Operations S) (store : Store S) (book : Book) (r : Result V E) (x : Evaluated) (before after : List FaultFinding) →
    ((m : Machine) → Holds dom store book m → OnOk r (after ≡ before ++ findings_by dom (answer_at dom (place_of x) [] m) x)) →
    OnOk r ((m : Machine) → Holds dom store book m → after ≡ before ++ findings_of dom m.engine (routines_of m.program) (x ∷ []))
each_fault dom store book (Ok v) x before after f = λ m h. one_fault dom m x before after (f m h)
each_fault dom store book (Err e) x before after f = tt

-- the machine's program is the session's
pub pointed_here : {S : Type 0} (dom : Operations S) (store : Store S) (book : Book) (m : Machine) (xs : List Evaluated) → Holds dom store book m → xs ≡ with_points (evaluated_statements (routines_of book.history.now)) → xs ≡ with_points (evaluated_statements (routines_of m.program))
pointed_here dom store book m xs h e = e ∙ ap (λ (z : Machine). with_points (evaluated_statements (routines_of z.program))) h.is
