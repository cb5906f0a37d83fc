-- What the turn of a request is, case by case.
use Rattle.std.proofs.Common.{◌≡◌, ℕ, ℤ, List, Option, Result, Ok, IfErr, refl, sym, subst}
use Rattle.imp_syntax.specs.declared.edit.Location.{Location}
use Rattle.fault_words.specs.declared.finding.FaultVerdict.{FaultVerdict}
use Rattle.domain_laws.specs.Operations.{Operations}
use Rattle.daig_machine.specs.Machine.{Machine}
use Rattle.request_json.specs.declared.request.Query.{Query}
use Rattle.request_json.specs.declared.request.Task.{Task}
use Rattle.request_json.specs.declared.request.Request.{Request}
use Rattle.request_json.specs.declared.request.Request.TheVariants as asks
use Rattle.serve_answers.specs.Readings.{Readings}
use Rattle.serve_answers.specs.Turns.{Outcome, run_turn}
use Rattle.serve_answers.specs.Lines.{request_turn}
use Rattle.serve_session.specs.Followed.{missing_of, Edits, Fills, IsHalted}
use Rattle.serve_session.proofs.Replied.{IsFollowed, Writes, follows}

module _ {V E S : Type 0} (r : Result V E) (items : V → List ℕ) (dom : Operations S) (m : Machine) (stands : Machine → Type 0) where
  -- a request has the turn of what it is
  pub turned : (readings : Readings) (p q : Request) → p ≡ q → IsFollowed r items (request_turn readings dom q m) stands → IsFollowed r items (request_turn readings dom p m) stands
  turned readings p q is h = subst (λ (request : Request). IsFollowed r items (request_turn readings dom request m) stands) (sym is) h

  pub halted : (readings : Readings) (p q : Request) → p ≡ q → IfErr r (λ _. IsHalted (missing_of dom (Ok q) m) (request_turn readings dom q m) m stands) → IfErr r (λ _. IsHalted (missing_of dom (Ok p) m) (request_turn readings dom p m) m stands)
  halted readings p q is h = subst (λ (request : Request). IfErr r (λ _. IsHalted (missing_of dom (Ok request) m) (request_turn readings dom request m) m stands)) (sym is) h

module _ {V E : Type 0} (r : Result V E) (items : V → List ℕ) (m : Machine) (stands : Machine → Type 0) where
  -- what is told of the machine, which stays
  pub told : (turn : Outcome) → turn.machine ≡ m → stands m → Writes r items turn.reply → IsFollowed r items turn stands
  told turn stays h line = follows r items turn stands turn.reply (record { is = refl; after = subst stands (sym stays) h }) line

  -- a run of these inputs, counted at this place
  pub ran : (inputs given : List ℤ) (fuel : ℕ) (at place : Option Location) → given ≡ inputs → place ≡ at → stands m → Writes r items (run_turn given fuel place m).reply → IsFollowed r items (run_turn inputs fuel at m) stands
  ran inputs given fuel at place is there h line =
      told (run_turn inputs fuel at m) refl h
      (subst (λ (o : Option Location). Writes r items (run_turn inputs fuel o m).reply) there
      (subst (λ (xs : List ℤ). Writes r items (run_turn xs fuel place m).reply) is line))

-- whether a request fills names is told by what it is
pub filled_not : {A : Type 0} (p q : Request) → p ≡ q → Fills (Ok q) → (Fills (Ok p) → ⊥) → A
filled_not p q is fills other = absurd (other (subst (λ (request : Request). Fills (Ok request)) (sym is) fills))

pub not_filled : {A : Type 0} (p q : Request) → p ≡ q → (Fills (Ok q) → ⊥) → Fills (Ok p) → A
not_filled p q is none fills = absurd (none (subst (λ (request : Request). Fills (Ok request)) is fills))

-- a request that is none of these is for an edit, ..
pub only_edits : (p : Request) → ((query : Query) → p ≡ asks.State query → ⊥) → (p ≡ asks.Report → ⊥) → ((only : Option FaultVerdict) → p ≡ asks.Faults only → ⊥) → (p ≡ asks.Cost → ⊥) → (p ≡ asks.Program → ⊥) → (p ≡ asks.Listing → ⊥) → ((inputs : List ℤ) (fuel : ℕ) (at : Option Location) → p ≡ asks.Run inputs fuel at → ⊥) →
    ((query : Query) → p ≡ asks.Why query → ⊥) → (p ≡ asks.Undo → ⊥) → (p ≡ asks.Redo → ⊥) → ((task : Task) → p ≡ asks.Begin task → ⊥) → ((ticket n : ℕ) → p ≡ asks.Step ticket n → ⊥) → ((ticket : ℕ) → p ≡ asks.Cancel ticket → ⊥) → Edits p
only_edits (asks.State query) state report faults cost program listing run why undo redo begin step cancel = absurd (state query refl)
only_edits asks.Report state report faults cost program listing run why undo redo begin step cancel = absurd (report refl)
only_edits (asks.Faults only) state report faults cost program listing run why undo redo begin step cancel = absurd (faults only refl)
only_edits asks.Cost state report faults cost program listing run why undo redo begin step cancel = absurd (cost refl)
only_edits asks.Program state report faults cost program listing run why undo redo begin step cancel = absurd (program refl)
only_edits asks.Listing state report faults cost program listing run why undo redo begin step cancel = absurd (listing refl)
only_edits (asks.Run inputs fuel at) state report faults cost program listing run why undo redo begin step cancel = absurd (run inputs fuel at refl)
only_edits (asks.Replace id text) state report faults cost program listing run why undo redo begin step cancel = tt
only_edits (asks.Insert place text) state report faults cost program listing run why undo redo begin step cancel = tt
only_edits (asks.Delete id) state report faults cost program listing run why undo redo begin step cancel = tt
only_edits (asks.Guard id text) state report faults cost program listing run why undo redo begin step cancel = tt
only_edits (asks.Declare proc name kind) state report faults cost program listing run why undo redo begin step cancel = tt
only_edits (asks.Add before text) state report faults cost program listing run why undo redo begin step cancel = tt
only_edits (asks.Drop proc) state report faults cost program listing run why undo redo begin step cancel = tt
only_edits (asks.Why query) state report faults cost program listing run why undo redo begin step cancel = absurd (why query refl)
only_edits asks.Undo state report faults cost program listing run why undo redo begin step cancel = absurd (undo refl)
only_edits asks.Redo state report faults cost program listing run why undo redo begin step cancel = absurd (redo refl)
only_edits (asks.Begin task) state report faults cost program listing run why undo redo begin step cancel = absurd (begin task refl)
only_edits (asks.Step ticket n) state report faults cost program listing run why undo redo begin step cancel = absurd (step ticket n refl)
only_edits (asks.Cancel ticket) state report faults cost program listing run why undo redo begin step cancel = absurd (cancel ticket refl)

-- .. and fills no names
pub edits_not_filled : (p : Request) → Edits p → Fills (Ok p) → ⊥
edits_not_filled (asks.State query) edits fills = absurd edits
edits_not_filled asks.Report edits fills = absurd edits
edits_not_filled (asks.Faults only) edits fills = absurd edits
edits_not_filled asks.Cost edits fills = absurd edits
edits_not_filled asks.Program edits fills = absurd edits
edits_not_filled asks.Listing edits fills = absurd edits
edits_not_filled (asks.Run inputs fuel at) edits fills = absurd edits
edits_not_filled (asks.Replace id text) edits fills = fills
edits_not_filled (asks.Insert place text) edits fills = fills
edits_not_filled (asks.Delete id) edits fills = fills
edits_not_filled (asks.Guard id text) edits fills = fills
edits_not_filled (asks.Declare proc name kind) edits fills = fills
edits_not_filled (asks.Add before text) edits fills = fills
edits_not_filled (asks.Drop proc) edits fills = fills
edits_not_filled (asks.Why query) edits fills = absurd edits
edits_not_filled asks.Undo edits fills = absurd edits
edits_not_filled asks.Redo edits fills = absurd edits
edits_not_filled (asks.Begin task) edits fills = absurd edits
edits_not_filled (asks.Step ticket n) edits fills = absurd edits
edits_not_filled (asks.Cancel ticket) edits fills = absurd edits
