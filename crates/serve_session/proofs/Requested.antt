-- Requests for edits.
use Rattle.std.proofs.Common.{◌≡◌, ℕ, List, Result, Ok, Err, refl, sym, ap, subst, ◌∙◌}
use Rattle.imp_syntax.specs.declared.edit.Edit.{Edit}
use Rattle.domain_laws.specs.Operations.{Operations}
use Rattle.daig_machine.specs.Machine.{Machine}
use Rattle.request_json.specs.declared.reply.Reply.TheVariants as r
use Rattle.request_json.specs.declared.reply.Refusal.{Refusal}
use Rattle.request_json.specs.declared.request.Request.{Request}
use Rattle.request_json.specs.declared.request.Request.TheVariants as q
use Rattle.serve_answers.specs.declared.edits.TextError.{TextError}
use Rattle.serve_answers.specs.Lines.{request_turn}
use Rattle.serve_answers.specs.Readings.{Readings}
use Rattle.serve_answers.specs.Turns.{Outcome, edit_turn, refused}
use Rattle.serve_session.specs.Followed.{edit_asked, Edits, Makes}
use Rattle.serve_session.proofs.Replied.{IsFollowed, Writes, follows}

-- what is made for a request is what is made for that which it is
pub as_asked : (readings : Readings) (next : ℕ) (made : Result Edit TextError) (request is : Request) → request ≡ is → Makes (edit_asked readings next is) made → Makes (edit_asked readings next request) made
as_asked readings next made request is e h = subst (λ (x : Request). Makes (edit_asked readings next x) made) (sym e) h

module _ {S : Type 0} (dom : Operations S) (readings : Readings) (m : Machine) where
  -- The turn of a request for an edit is that of the edit, where the numbers begin at the machine's next one.
  asked_turn : (request : Request) → Edits request → request_turn readings dom request m ≡ edit_turn dom (edit_asked readings m.next request) m
  unfolding request_turn
  asked_turn (q.Replace id text) edits = refl
  asked_turn (q.Insert place text) edits = refl
  asked_turn (q.Delete id) edits = refl
  asked_turn (q.Guard id text) edits = refl
  asked_turn (q.Declare proc name kind) edits = refl
  asked_turn (q.Add before text) edits = refl
  asked_turn (q.Drop proc) edits = refl
  asked_turn (q.State query) edits = absurd edits
  asked_turn q.Report edits = absurd edits
  asked_turn (q.Faults only) edits = absurd edits
  asked_turn q.Cost edits = absurd edits
  asked_turn q.Program edits = absurd edits
  asked_turn q.Listing edits = absurd edits
  asked_turn (q.Run inputs fuel at) edits = absurd edits
  asked_turn (q.Why query) edits = absurd edits
  asked_turn q.Undo edits = absurd edits
  asked_turn q.Redo edits = absurd edits
  asked_turn (q.Begin task) edits = absurd edits
  asked_turn (q.Step ticket n) edits = absurd edits
  asked_turn (q.Cancel ticket) edits = absurd edits

  module _ {V E : Type 0} (result : Result V E) (items : V → List ℕ) (stands : Machine → Type 0) (request : Request) (edits : Edits request) (n : ℕ) (number : n ≡ m.next) where
    -- the line of what is made is that of the request
    pub made_follows : (made : Result Edit Refusal) → edit_asked readings n request ≡ made → IsFollowed result items (edit_turn dom made m) stands → IsFollowed result items (request_turn readings dom request m) stands
    made_follows made is h =
        let e : request_turn readings dom request m ≡ edit_turn dom made m =
        asked_turn request edits ∙ (ap (λ (k : ℕ). edit_turn dom (edit_asked readings k request) m) (sym number) ∙ ap (λ (x : Result Edit Refusal). edit_turn dom x m) is) in
        subst (λ (turn : Outcome). IsFollowed result items turn stands) (sym e) h

    pub unmade_follows : (why : Refusal) → edit_asked readings n request ≡ Err why → stands m → Writes result items (r.Refused why) → IsFollowed result items (request_turn readings dom request m) stands
    unmade_follows why is h line = made_follows (Err why) is (follows result items (refused why m) stands (r.Refused why) (record { is = refl; after = h }) line)
