-- Open tickets, as those of a machine.
use Rattle.std.specs.Prelude.{◌≡◌, ◌≢◌, ℕ, ◌<◌, ◌≤◌, List, [], ◌∷◌, map, length, Option, Some, None, slice_get}
use Rattle.imp_slots.specs.Fits.{Distinct}
use Rattle.daig_machine.specs.Machine.{Ticket}
use Rattle.daig_tickets.specs.declared.tickets.OpenTicket.{OpenTicket}
use Rattle.daig_tickets.specs.declared.tickets.Tickets.{Tickets}

module _ {G : Type 0} where
  abbrev pub number : OpenTicket G → ℕ
  number o = o.number

  abbrev pub ticket : OpenTicket G → Ticket
  ticket o = record { number = o.number; question = o.question }

  abbrev pub tickets : Tickets G → List Ticket
  tickets t = map ticket t.open_ones.items

  -- the ticket with nothing done for it
  abbrev pub anew : OpenTicket G → OpenTicket G
  anew o = record { number = o.number; question = o.question; going = None }

  -- the numbers are below this one
  abbrev pub AreBelow : ℕ → List (OpenTicket G) → Type 0
  AreBelow n [] = Unit {0}
  AreBelow n (o ∷ os) = (o.number < n) × AreBelow n os

  -- At most sixteen are open, each under a number of its own, below the next one.
  pub record AreOpen (t : Tickets G) : Type 0 where
    pub few : length t.open_ones.items ≤ 16
    pub once : Distinct (map number t.open_ones.items)
    pub below : AreBelow t.next t.open_ones.items

  -- the ticket of this number stands at a place
  pub record IsAt (t : Tickets G) (n place : ℕ) : Type 0 where
    pub one : OpenTicket G
    pub there : slice_get t.open_ones.items place ≡ Some one
    pub same : one.number ≡ n

-- no ticket has this number; or this is the place of one that has it, and none before it has
abbrev pub IsPlaced : {G : Type 0} → (n : ℕ) → List (OpenTicket G) → Option ℕ → Type 0
IsPlaced {G} n os None = (i : ℕ) (o : OpenTicket G) → slice_get os i ≡ Some o → o.number ≢ n
IsPlaced {G} n os (Some place) = (o : OpenTicket G) × (slice_get os place ≡ Some o) × (o.number ≡ n)
