-- What is listed for a question is the machine's.
use Rattle.std.proofs.Common.{◌≡◌, ℕ, List, Some, sym, ap, subst, ◌∙◌}
use Rattle.imp_syntax.specs.declared.edit.Location.{Location}
use Rattle.imp_slots.specs.Fits.{IsChecked}
use Rattle.domain_laws.specs.Operations.{Operations}
use Rattle.batch_meaning.specs.Answers.{In, procedure_of}
use Rattle.cell_rows.specs.Targets.{Target, targets}
use Rattle.imp_flow.specs.Plans.{Plan}
use Rattle.cell_graph.specs.Same.{same_name}
use Rattle.daig_query.specs.declared.store.Store.{Store}
use Rattle.daig_query.specs.declared.walk.Walk.{Walk}
use Rattle.daig_query.specs.Answered.{AreFilled}
use Rattle.why_slice.specs.Upstream.{upstream}
use Rattle.daig_machine.specs.Machine.{Machine}
use Rattle.daig_machine.specs.Turns.{answer_at, or_none, upstream_at, upstream_in}
use Rattle.daig_session.specs.declared.book.Book.{Book}
use Rattle.daig_session.specs.Books.{flow_in, machine_of}
use Rattle.daig_session.specs.Going.{IsAnswered, IsAsked}
use Rattle.daig_session.specs.Holds.{Holds}
use Rattle.daig_session.proofs.Answering.{answer_here}
use Rattle.daig_session.proofs.Asked.{asked_answered}

-- what is told of a list of statements
abbrev pub IsListed : {S : Type 0} → Operations S → Store S → Walk → Plan → Location → (string stmts : List ℕ) → Type 0
IsListed dom store walk plan l string stmts =
    (p : ℕ) (ts : List Target) → procedure_of plan.program l ≡ In p → targets plan.program p l string ≡ Some ts → AreFilled dom store walk plan ts → stmts ≡ upstream dom plan.engine plan.program same_name l string p ts

-- it is the list of what the answer depends on
pub listed_is : {S : Type 0} (new dom : Operations S) (store : Store S) (walk : Walk) (flow plan : Plan) (l : Location) (string stmts : List ℕ) (ts : List Target) → new ≡ dom → flow ≡ plan → IsListed new store walk flow l string stmts →
    (a : IsAsked plan.program l string ts) → AreFilled dom store walk plan ts → stmts ≡ upstream dom plan.engine plan.program same_name l string a.place ts
listed_is {S} new dom store walk flow plan l string stmts ts is same listed a filled =
    subst (λ (d : Operations S). IsListed d store walk plan l string stmts) is (subst (λ (p : Plan). IsListed new store walk p l string stmts) same listed) a.place ts a.there a.are filled

module _ {S : Type 0} (dom : Operations S) (book : Book) (store : Store S) where
  -- a question that is asked has an answer
  pub answered_here : (m : Machine) (l : Location) (string : List ℕ) (ts : List Target) → IsChecked (flow_in book).program → Holds dom store book m → IsAsked (flow_in book).program l string ts → IsAnswered (answer_at dom l string m)
  answered_here m l string ts checked h a = subst IsAnswered (answer_here dom book store m l string h) (asked_answered dom (flow_in book).engine (flow_in book).program l string ts checked a)

  -- the list of the flow is that of the machine
  pub upstream_of : (m : Machine) → machine_of book m.kept ≡ m → (l : Location) (string : List ℕ) (ts : List Target) (stmts : List ℕ) → (a : IsAsked (flow_in book).program l string ts) →
      stmts ≡ upstream dom (flow_in book).engine (flow_in book).program same_name l string a.place ts → stmts ≡ upstream_at dom l string m
  upstream_of m is l string ts stmts a e =
      let z = machine_of book m.kept in
      e ∙ sym (ap (λ o. upstream dom (flow_in book).engine (flow_in book).program same_name l string a.place (or_none o)) a.are)
      ∙ sym (ap (upstream_in dom z l string) a.there)
      ∙ ap (upstream_at dom l string) is

  pub upstream_here : (m : Machine) (l : Location) (string : List ℕ) (ts : List Target) (stmts : List ℕ) → Holds dom store book m → (a : IsAsked (flow_in book).program l string ts) →
      stmts ≡ upstream dom (flow_in book).engine (flow_in book).program same_name l string a.place ts → stmts ≡ upstream_at dom l string m
  upstream_here m l string ts stmts h a e = upstream_of m h.is l string ts stmts a e
