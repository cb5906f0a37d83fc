-- Replies that are written, and what stands then.
use Rattle.std.proofs.Common.{◌≡◌, inl, inr, ℕ, List, Result, Ok, Err, IfOk, IfErr, sym, ap, ◌∙◌}
use Rattle.cell_names.specs.Paths.{CellName}
use Rattle.daig_machine.specs.Machine.{Machine}
use Rattle.request_json.specs.declared.reply.Reply.{Reply}
use Rattle.request_json.specs.Replies.{reply_text}
use Rattle.serve_answers.specs.Turns.{Outcome}
use Rattle.daig_session.proofs.Answering.{between_none}
use Rattle.serve_session.specs.Followed.{Follows, IsHalted}

-- This is the reply of a turn, and its machine stands.
pub record IsReplied (turn : Outcome) (stands : Machine → Type 0) (reply : Reply) : Type 0 where
  pub is : turn.reply ≡ reply
  pub after : stands turn.machine

module _ {V E : Type 0} (r : Result V E) (items : V → List ℕ) where
  -- the line of a reply is written, if there is memory
  abbrev pub Writes : Reply → Type 0
  Writes reply = IfOk r (λ v. items v ≡ reply_text reply)

  abbrev pub IsFollowed : Outcome → (Machine → Type 0) → Type 0
  IsFollowed turn stands = IfOk r (λ v. Follows turn stands (items v))

-- .. as a line
pub line_follows : (turn : Outcome) (stands : Machine → Type 0) (reply : Reply) (line : List ℕ) → IsReplied turn stands reply → line ≡ reply_text reply → Follows turn stands line
line_follows turn stands reply line h is = record { reply = is ∙ ap reply_text (sym h.is); machine = h.after }

pub follows : {V E : Type 0} (r : Result V E) (items : V → List ℕ) (turn : Outcome) (stands : Machine → Type 0) (reply : Reply) → IsReplied turn stands reply → Writes r items reply → IsFollowed r items turn stands
follows (Ok v) items turn stands reply h is = line_follows turn stands reply (items v) h is
follows (Err e) items turn stands reply h is = tt

-- .. where what is replied is known only if there is memory
pub follows_where : {V E : Type 0} (r : Result V E) (items : V → List ℕ) (turn : Outcome) (stands : Machine → Type 0) (reply : Reply) (A : Type 0) → IfOk r (λ v. A) → (A → IsReplied turn stands reply) → Writes r items reply → IsFollowed r items turn stands
follows_where (Ok v) items turn stands reply A here h is = line_follows turn stands reply (items v) (h here) is
follows_where (Err e) items turn stands reply A here h is = tt

-- what holds in any case holds when memory runs out
pub on_error : {V E : Type 0} (r : Result V E) (A : Type 0) → A → IfErr r (λ _. A)
on_error (Ok v) A h = tt
on_error (Err e) A h = h

-- nor is there a line where there is none
pub never_ok : {V E : Type 0} (r : Result V E) (P : V → Type 0) → IfOk r (λ v. ⊥) → IfOk r P
never_ok (Ok v) P h = absurd h
never_ok (Err e) P h = tt

-- nothing is filled, or the reply alone is not written
pub halted_before : (xs : List CellName) (turn : Outcome) (m : Machine) (stands : Machine → Type 0) → stands m → IsHalted xs turn m stands
halted_before xs turn m stands h = inl (between_none xs m stands h)

pub halted_after : {V E : Type 0} (r : Result V E) (xs : List CellName) (turn : Outcome) (m : Machine) (stands : Machine → Type 0) (reply : Reply) → IsReplied turn stands reply → IfErr r (λ _. IsHalted xs turn m stands)
halted_after (Ok v) xs turn m stands reply h = tt
halted_after (Err e) xs turn m stands reply h = inr h.after
