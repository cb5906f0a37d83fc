-- Following a block of a procedure at a place.
use Rattle.std.specs.Prelude.{◌≡◌, ℕ, List, [], ◌∷◌, reverse, Bool, true, false}
use Rattle.imp_slots.specs.Plain.{Guard, Code, Routine}
use Rattle.domain_laws.specs.Operations.{Operations}
use Rattle.batch_interp.specs.Frames.{earlier}
use Rattle.cert_meaning.specs.Followed as plain
use Rattle.cert_reading.specs.Table.{state_at}
use Rattle.cert_check.specs.declared.followed.Why.{Why}
use Rattle.cert_check.specs.declared.followed.Why.TheVariants as why
use Rattle.cert_check.specs.declared.followed.Followed.{Followed}
use Rattle.cert_check.specs.declared.followed.Followed.TheVariants.{Behind, Fails}

abbrev pub why_of : Why → plain.Why
why_of why.Missing = plain.Missing
why_of why.Entry = plain.Entry
why_of why.Step = plain.Step

-- A block ends so, with these states before breaks.
abbrev pub ended : {S : Type 0} → (leaving : List S) → Followed S → plain.Followed S
ended leaving (Behind s) = plain.Passes s leaving
ended leaving (Fails n chain w) = plain.Fails n (reverse chain) (why_of w)

-- A body ends so; what leaves it is not looked at.
abbrev pub EndsSo : {S : Type 0} → plain.Followed S → Followed S → Type 0
EndsSo {S} p r = (leaving : List S) × (p ≡ ended leaving r)

-- what comes of this with what is after a block
abbrev pub behind_by : {S : Type 0} → (S → S) → Followed S → Followed S
behind_by f (Behind s) = Behind (f s)
behind_by f (Fails n chain w) = Fails n chain w

-- what a round of loop n under the call sites z comes to, from its head x, by how its body ends
abbrev pub turned : {S : Type 0} → Operations S → (S → S → Bool) → (z : List ℕ) → (n : ℕ) → Guard → (x : S) → plain.Followed S → plain.Followed S
turned dom leq z n g x p = plain.passing p (λ y ys. plain.unless (leq y x) (plain.Fails n z plain.Step) (plain.Passes (plain.joined dom (dom.assume g false x) ys) []))

-- a round, and what is after the loop
abbrev pub round : {S : Type 0} → Operations S → (S → S → Bool) → (z : List ℕ) → (n : ℕ) → Guard → (body : S → plain.Followed S) → (x : S) → plain.Followed S
round dom leq z n g body x = turned dom leq z n g x (body (dom.assume g true x))

module _ {S : Type 0} (dom : Operations S) (leq : S → S → Bool) (table : List (List ℕ × S)) (program : List Routine) (place : ℕ) (z : List ℕ) where
  -- what calls come to in the procedure at a place, under the call sites z
  abbrev pub calls_in : (n q : ℕ) → S → plain.Followed S
  calls_in n q s = plain.followed_procedure dom leq (state_at table) (earlier program place) (n ∷ z) q s

  -- a block there
  abbrev pub followed_in : Code → S → plain.Followed S
  followed_in = plain.followed dom leq (state_at table) z calls_in
