-- What a question answers is the machine's.
use Rattle.std.proofs.Common.{◌≡◌, ℕ, suc, ◌+◌, ◌*◌, ◌≤◌, List, length, Some, refl, sym, ap, subst, ◌∙◌, arith, append-nil}
use Rattle.imp_syntax.specs.declared.edit.Location.{Location}
use Rattle.imp_slots.specs.Fits.{IsChecked}
use Rattle.domain_laws.specs.Operations.{Operations}
use Rattle.batch_meaning.specs.Answers.{answer}
use Rattle.cell_names.specs.Paths.{CellName}
use Rattle.cell_rows.specs.Targets.{Target}
use Rattle.daig_graph.specs.declared.value.Value.{Value}
use Rattle.daig_query.specs.declared.store.Store.{Store}
use Rattle.daig_query.specs.Answered.{Says}
use Rattle.daig_query.specs.Filled.{Fills}
use Rattle.daig_machine.specs.Machine.{Machine, keeping}
use Rattle.daig_machine.specs.Turns.{IsBetween, answer_at, missing_at, targets_of}
use Rattle.daig_machine.specs.Claims.{FillingKeeps}
use Rattle.daig_session.specs.declared.book.Book.{Book}
use Rattle.daig_session.specs.declared.error.QueryError.{QueryError}
use Rattle.daig_session.specs.declared.error.QueryError.TheVariants.{Refused, Memory}
use Rattle.daig_session.specs.Books.{flow_in}
use Rattle.daig_session.specs.Going.{IsAsked, IsRefused}
use Rattle.daig_session.specs.Holds.{Holds}
use Rattle.daig_session.specs.Places.{IsUnticked}
use Rattle.daig_session.specs.Turns.{Fails}
use Rattle.daig_session.proofs.Filled.{added_holds, as_many}

-- nothing was filled
pub between_none : (xs : List CellName) (m : Machine) (stands : Machine → Type 0) → stands m → IsBetween xs m stands
between_none xs m stands h = record { count = 0; some = subst stands (ap (λ ks. keeping ks m.cost m) (sym (append-nil m.kept))) h }

-- a refusal takes no steps
pub no_steps : (n : ℕ) (e : QueryError) → IsUnticked n n e
no_steps n (Refused r) = refl
no_steps n Memory = tt

-- bounds of work
pub work_both : (s t u each n k : ℕ) → t ≤ s + each * n → u ≤ t + each * k → u ≤ s + each * (n + k)
work_both s t u each n k h g = omega arith

-- one operation more
pub work_first : (s u each n k : ℕ) → u ≤ s + each * suc n → u ≤ s + each * suc (n + k)
work_first s u each n k h = omega arith

pub work_most : (s t u each n k : ℕ) → t ≤ s + each * n → u ≤ t + each * k → u ≤ s + each * suc (n + k)
work_most s t u each n k h g = omega arith

module _ {S : Type 0} (dom : Operations S) (book : Book) (store : Store S) where
  -- the answer of the flow is that of the machine
  pub answer_here : (m : Machine) (l : Location) (string : List ℕ) → Holds dom store book m → answer dom (flow_in book).engine (flow_in book).program l string ≡ answer_at dom l string m
  answer_here m l string h = ap (λ (z : Machine). answer_at dom l string z) h.is

  pub fails_refused : (m : Machine) (l : Location) (string : List ℕ) (e : QueryError) → Holds dom store book m → IsRefused (answer dom (flow_in book).engine (flow_in book).program l string) e → Fails dom m (Holds dom store book) l string e
  fails_refused m l string (Refused r) h is = (sym (answer_here m l string h) ∙ is, h)
  fails_refused m l string Memory h is = between_none (missing_at dom l string m) m (Holds dom store book) h

  pub says_here : (m : Machine) (l : Location) (string : List ℕ) (v : Value S) → Holds dom store book m → Says (answer dom (flow_in book).engine (flow_in book).program l string) (Some v) → Says (answer_at dom l string m) (Some v)
  says_here m l string v h s = subst (λ a. Says a (Some v)) (answer_here m l string h) s

  module _ (new : Store S) (l : Location) (string : List ℕ) (ts : List Target) (count : ℕ) (checked : IsChecked (flow_in book).program) (a : IsAsked (flow_in book).program l string ts) (f : Fills dom (flow_in book) ts store new count) (law : FillingKeeps dom) where
    -- when memory runs out some was filled
    pub between_some : (m : Machine) → Holds dom store book m → IsBetween (missing_at dom l string m) m (Holds dom new book)
    between_some m h = record { count = count; some = added_holds dom book store new l string ts count checked a f law m h }

  pub work_here : (m : Machine) (l : Location) (string : List ℕ) (ts : List Target) (s u each n : ℕ) → Holds dom store book m → IsAsked (flow_in book).program l string ts → n ≡ length (missing_at dom l string m) → u ≤ s + each * (n + 2 * length ts) → u ≤ s + each * (length (missing_at dom l string m) + 2 * length (targets_of m l string))
  work_here m l string ts s u each n h a e w =
      subst (λ k. u ≤ s + each * (length (missing_at dom l string m) + 2 * k)) (as_many dom book store store m l string ts h a) (subst (λ k. u ≤ s + each * (k + 2 * length ts)) e w)

  pub most_here : (m : Machine) (l : Location) (string : List ℕ) (ts : List Target) (s t u each n k : ℕ) → Holds dom store book m → IsAsked (flow_in book).program l string ts → n ≡ k → t ≤ s + each * n → u ≤ t + each * (2 * length ts) → u ≤ s + each * suc (k + 2 * length (targets_of m l string))
  most_here m l string ts s t u each n k h a e fill read =
      subst (λ j. u ≤ s + each * suc (k + 2 * j)) (as_many dom book store store m l string ts h a) (work_most s t u each k (2 * length ts) (subst (λ j. t ≤ s + each * j) e fill) read)
